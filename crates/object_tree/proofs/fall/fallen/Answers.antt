use Rattle.std.proofs.Common.{◌≡◌, map, ◌∙◌}
use Rattle.std.proofs.lemmas.Result.{IfOk-weaker}
use Rattle.std.specs.Map.{values_of}
use Rattle.object_tree.specs.Falls.{falls, falls_with}
use Rattle.object_tree.proofs.EntryLemmas.{as_serial}
use Rattle.object_tree.proofs.ReachLemmas.{keys-fallen}
use Rattle.object_tree.proofs.fall.fallen.Goals as goal

pub returns : goal.returns
returns c =
    let xs = values_of c.args.objects.now.entries in
    IfOk-weaker c.ascending.result (λ list. list.items ≡ map (λ n. as_serial n) c.in_ok-fall.fall.serials.keys) (λ list. list.items ≡ falls xs c.args.roots.now)
    (λ list e. e ∙ keys-fallen xs (falls_with xs c.args.roots.now) c.in_ok-fall.fall c.requires.in_order c.in_ok-fall.ensures c.ascending.ensures.ordered)
    c.ascending.ensures.items
