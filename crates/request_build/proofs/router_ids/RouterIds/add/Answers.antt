use Rattle.std.proofs.Common.{◌+◌, Some, ap, ◌∙◌}
use Rattle.request_build.specs.Counts.{key_of}
use Rattle.request_build.proofs.CountLemmas.{key-more}
use Rattle.request_build.proofs.router_ids.RouterIds.add.Goals as goal

pub returns-clause-ok : goal.returns-clause-ok
returns-clause-ok c = λ other other_id.
    key-more (key_of c.args.router c.args.id) c.args.self.now.counts c.insert.new.self (Some c.in-Some.times) c.in_ok-insert.ensures.updates
    (c.in-Some.ensures.1 ∙ ap (λ n. n + 1) c.times.ensures) (key_of other other_id)
