use Rattle.std.proofs.Common.{arith}
use Rattle.object_tree.proofs.EndLemmas.{between}
use Rattle.object_tree.proofs.ends.all_at.Goals as goal

pub returns-then-start-end : goal.returns-then-start-end
returns-then-start-end c = λ serial h.
    (between c.args.pairs.now c.start_of-start.result c.end_of-end.result c.args.at serial c.start_of-start.ensures.point c.end_of-end.ensures.point c.end_of-end.ensures.within h).1

pub returns-else-start-end : goal.returns-else-start-end
returns-else-start-end c = λ serial h.
    let part = between c.args.pairs.now c.start_of-start.result c.end_of-end.result c.args.at serial c.start_of-start.ensures.point c.end_of-end.ensures.point c.end_of-end.ensures.within h in
    absurd (omega (arith, part.0))
