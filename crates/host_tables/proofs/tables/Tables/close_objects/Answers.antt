use Rattle.std.proofs.Common.{◌<◌, ℕ, List, get_or, take, take_all, refl, sym, ap, ◌∙◌, subst, arith}
use Rattle.std.proofs.lemmas.List.{take_more}
use Rattle.ms_base.specs.declared.keys.Serial.{Serial}
use Rattle.object_tree.specs.Objects.{AreInOrder}
use Rattle.host_model.specs.Falls.{closed_notes}
use Rattle.host_model.specs.State.{as_serial}
use Rattle.host_tables.specs.Kept.{Hears}
use Rattle.host_tables.specs.declared.tables.Tables.{Tables}
use Rattle.host_tables.specs.LookUps.{SlotsView}
use Rattle.host_tables.proofs.Parts.{hears-none, shown-same}
use Rattle.host_tables.proofs.ShownLemmas.{shown-kept, shown-then}
use Rattle.host_tables.proofs.Closing.{closed-moves, closes-next, forgotten}
use Rattle.host_tables.proofs.tables.Tables.close_objects.Goals as goal

pub loop-serial-init : goal.loop-serial-init
loop-serial-init c = record { told = hears-none _; in_order = λ (h : 0 < 0). absurd (omega (arith, h)); shown = shown-same c.args.self.now _ refl (ap (λ (v : SlotsView). v.shown) c.end.ensures) }

pub loop-serial-preserved : goal.loop-serial-preserved
loop-serial-preserved c =
    let i : ℕ = c.loop-serial.serial-index in
    let fallen : List Serial = c.args.fallen.now in
    let first : Tables = record c.args.self.now { tree = c.close_all.new.self; slots = c.end.new.self } in
    let before : Tables = c.loop-serial.self in
    let now : Tables = c.note_close.new.self in
    let told = closes-next first before now (take i fallen) (get_or fallen i (as_serial 0)) c.forget.new.self c.loop-serial.invariant.told c.forget.ensures c.in_ok-note_close.ensures.told in
    record {
      told =
          subst (λ (front : List Serial). Hears (closed_notes first.tree front) (record first { kept = forgotten front first.kept }) now) (sym (take_more fallen i (as_serial 0) c.loop-serial-test.true)) told;
      in_order = λ _. subst AreInOrder (ap (λ (t : Tables). t.tree) c.loop-serial.invariant.told.others) c.note_close.ensures.in_order;
      shown = shown-then c.args.self.now before now c.loop-serial.invariant.shown (shown-kept before now c.forget.new.self c.note_close.ensures.shown);
    }

pub returns-in_err-note_close-clause-shown : goal.returns-in_err-note_close-clause-shown
returns-in_err-note_close-clause-shown c =
    let before : Tables = c.loop-serial.self in
    let now : Tables = c.note_close.new.self in
    shown-then c.args.self.now before now c.loop-serial.invariant.shown (shown-kept before now c.forget.new.self c.note_close.ensures.shown)

pub returns-clause-tree : goal.returns-clause-tree
returns-clause-tree c = ap (λ (t : Tables). t.tree) c.loop-serial.invariant.told.others ∙ c.close_all.ensures

pub returns-clause-ok : goal.returns-clause-ok
returns-clause-ok c =
    let i : ℕ = c.loop-serial.serial-index in
    let fallen : List Serial = c.args.fallen.now in
    let first : Tables = record c.args.self.now { tree = c.close_all.new.self; slots = c.end.new.self } in
    closed-moves c.args.self.now c.loop-serial.self fallen c.args.roots.now c.args.reason c.close_all.new.self c.end.new.self c.close_all.ensures c.end.ensures
    (λ h. c.loop-serial.invariant.in_order (omega (arith, h, c.loop-serial-test.false)))
    (subst (λ (front : List Serial). Hears (closed_notes first.tree front) (record first { kept = forgotten front first.kept }) c.loop-serial.self) (take_all i fallen c.loop-serial-test.false) c.loop-serial.invariant.told)
