use Rattle.std.proofs.Common.{sym, ◌∙◌}
use Rattle.std.proofs.lemmas.Result.{on_ok_weaker}
use Rattle.object_tree.specs.Falls.{leads}
use Rattle.object_tree.specs.Objects.{is_open}
use Rattle.object_tree.specs.Spread.{at, leads_from}
use Rattle.object_tree.proofs.EntryLemmas.{lookup-numbered}
use Rattle.object_tree.proofs.FallLemmas.{grows-same, led-none, led-same}
use Rattle.object_tree.proofs.fall.spread_one.Goals as goal

pub returns-in-Some : goal.returns-in-Some
returns-in-Some c =
    let find = at c.args.objects.now in
    let there = sym (lookup-numbered c.args.serial c.args.objects.now.entries c.requires.keyed) ∙ sym c.in-Some.ensures.value in
    on_ok_weaker c.spread_from.result
    (λ h.
    grows-same find is_open (leads c.in-Some.object.now) (leads_from (find c.args.serial)) c.args.fall.now c.spread_from.new.fall
    (led-same (find c.args.serial) c.in-Some.object.now there) h)
    c.spread_from.ensures

pub returns-in-None : goal.returns-in-None
returns-in-None c =
    let find = at c.args.objects.now in
    let none = sym (lookup-numbered c.args.serial c.args.objects.now.entries c.requires.keyed) ∙ sym c.in-None.ensures.value in
    led-none find (find c.args.serial) c.args.fall.now none
