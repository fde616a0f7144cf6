use Rattle.std.proofs.Common.{◌≡◌, ◌∙◌, rules}
use Rattle.std.specs.BTreeMap.{values}
use Rattle.pending_calls.specs.Pending.{is_under}
use Rattle.pending_calls.proofs.UnderLemmas.{found-all, without-passed}
use Rattle.pending_calls.proofs.under.requests_under.Goals as goal

pub returns-clause-taken : goal.returns-clause-taken
returns-clause-taken c =
    let all : c.in_ok-taken.taken.items ≡ values c.in_ok-found.found = search rules in
    all ∙ found-all (is_under c.args.objects.now) c.in_ok-found.found c.args.waiting.now c.args.last c.requires.by_id c.values.ensures.ordered c.in_ok-found.ensures

pub returns-clause-rest : goal.returns-clause-rest
returns-clause-rest c =
    let all : c.in_ok-taken.taken.items ≡ values c.in_ok-found.found = search rules in
    without-passed (is_under c.args.objects.now) c.in_ok-taken.taken.items c.args.waiting.now.entries c.args.last c.requires.by_id
    (all ∙ found-all (is_under c.args.objects.now) c.in_ok-found.found c.args.waiting.now c.args.last c.requires.by_id c.values.ensures.ordered c.in_ok-found.ensures)
