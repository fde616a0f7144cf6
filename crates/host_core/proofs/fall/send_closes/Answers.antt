use Rattle.std.proofs.Common.{◌≡◌, ◌+◌, ◌++◌, ◌∷◌, [], ℕ, List, take, take_all, get_or, sym, subst}
use Rattle.std.proofs.lemmas.List.{take_more}
use Rattle.ms_base.specs.declared.keys.Serial.{Serial}
use Rattle.host_model.specs.Falls.{close_sent, closes_sent}
use Rattle.host_model.specs.State.{as_serial}
use Rattle.host_tables.specs.Kept.{Moves}
use Rattle.host_core.proofs.FallLemmas.{sent-next}
use Rattle.host_core.proofs.ShownLemmas.{shown-itself, shown-then}
use Rattle.host_core.proofs.fall.send_closes.Goals as goal

pub loop-serial-init : goal.loop-serial-init
loop-serial-init c = record { sent = λ s k. k; shown = shown-itself c.args.tables.now }

pub loop-serial-preserved : goal.loop-serial-preserved
loop-serial-preserved c =
    let i : ℕ = c.loop-serial.serial-index in
    let fallen : List Serial = c.args.fallen.now in
    let serial : Serial = get_or fallen i (as_serial 0) in
    let roots : List Serial = c.args.root ∷ [] in
    let front : take i fallen ++ serial ∷ [] ≡ take (i + 1) fallen = sym (take_more fallen i (as_serial 0) c.loop-serial-test.true) in
    record {
      sent =
          subst (λ (l : List Serial). Moves (closes_sent fallen roots c.args.reason l) c.args.tables.now c.send_close.new.tables) front
          (sent-next fallen roots c.args.reason (take i fallen) serial c.args.tables.now c.loop-serial.tables c.send_close.new.tables c.loop-serial.invariant.sent
          (subst (λ (l : List Serial). Moves (close_sent l roots c.args.reason serial) c.loop-serial.tables c.send_close.new.tables) c.new-among.ensures c.in_ok-send_close.ensures.ok));
      shown = shown-then c.args.tables.now c.loop-serial.tables c.send_close.new.tables c.loop-serial.invariant.shown c.send_close.ensures.shown;
    }

pub returns-clause-ok : goal.returns-clause-ok
returns-clause-ok c =
    subst (λ (l : List Serial). Moves (closes_sent c.args.fallen.now (c.args.root ∷ []) c.args.reason l) c.args.tables.now c.loop-serial.tables)
    (take_all c.loop-serial.serial-index c.args.fallen.now c.loop-serial-test.false) c.loop-serial.invariant.sent
