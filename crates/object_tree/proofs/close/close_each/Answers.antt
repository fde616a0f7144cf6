use Rattle.std.proofs.Common.{ℕ, ◌∙◌, List, get_or, map, ap}
use Rattle.std.proofs.lemmas.List.{get_or_default}
use Rattle.std.specs.Map.{values_of}
use Rattle.ms_base.specs.declared.keys.Serial.{Serial}
use Rattle.object_tree.specs.declared.object.Object.{Object}
use Rattle.object_tree.specs.Falls.{reason_of}
use Rattle.object_tree.specs.Tables.{change_at, close_open}
use Rattle.object_tree.proofs.ChangeLemmas.{close-none, closed-more, in-order-closed}
use Rattle.object_tree.proofs.EntryLemmas.{as_serial}
use Rattle.object_tree.proofs.close.close_each.Goals as goal

pub loop-serial-init : goal.loop-serial-init
loop-serial-init c =
    let xs = values_of c.args.objects.now.entries in
    record { keyed = c.requires.keyed; values = close-none (reason_of xs c.args.serials.now c.args.roots.now c.args.reason) xs }

pub close_one-requires-clause-in_order : goal.close_one-requires-clause-in_order
close_one-requires-clause-in_order c =
    let i : ℕ = c.loop-serial.serial-index in
    let serials = c.args.serials.now in
    let serial : Serial = get_or serials i (as_serial 0) in
    in-order-closed serials c.args.roots.now c.args.reason (values_of c.args.objects.now.entries) (values_of c.loop-serial.objects.entries) i c.loop-serial-test.true serial
    (get_or_default serials i (as_serial 0) serial c.loop-serial-test.true) c.loop-serial.invariant.values c.requires.in_order

pub loop-serial-preserved : goal.loop-serial-preserved
loop-serial-preserved c =
    let i : ℕ = c.loop-serial.serial-index in
    let serials = c.args.serials.now in
    let serial : Serial = get_or serials i (as_serial 0) in
    let ys = values_of c.loop-serial.objects.entries in
    let closes : List Serial → List Serial → List Object = λ fallen roots. map (change_at (close_open (reason_of ys fallen roots c.args.reason)) serial) ys in
    record {
      keyed = c.close_one.ensures.keyed;
      values =
          c.close_one.ensures.values
          ∙ (ap (λ fallen. closes fallen c.new-roots.result) c.new-fallen.ensures
          ∙ (ap (λ roots. closes serials roots) c.new-roots.ensures
          ∙ closed-more serials c.args.roots.now c.args.reason (values_of c.args.objects.now.entries) ys i c.loop-serial-test.true serial
          (get_or_default serials i (as_serial 0) serial c.loop-serial-test.true) c.loop-serial.invariant.values));
    }
