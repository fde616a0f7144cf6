use Rattle.host_notes.proofs.NotesLemmas.{is_place-none, is_place-insert, is_place-again}
use Rattle.host_notes.proofs.notes.keep_place.Goals as goal

pub returns-in_default : goal.returns-in_default
returns-in_default c = record { ok = is_place-none c.args.notes.now c.args.next.now c.args.places.now c.in_default.not-Settled c.requires; err = tt }

pub returns-in_ok-insert-clause-ok : goal.returns-in_ok-insert-clause-ok
returns-in_ok-insert-clause-ok c =
    is_place-insert c.args.notes.now c.args.next.now c.in-Settled.call c.in-Settled.outcome c.verdict_at.result c.args.places.now c.insert.new.self
    c.in-Settled.is c.verdict_at.ensures c.if-is_none.ensures c.in_ok-insert.ensures.updates c.requires

pub returns-else-is_none-clause-ok : goal.returns-else-is_none-clause-ok
returns-else-is_none-clause-ok c =
    is_place-again c.args.notes.now c.args.next.now c.in-Settled.call c.in-Settled.outcome c.verdict_at.result c.args.places.now
    c.in-Settled.is c.verdict_at.ensures c.if-is_none.ensures c.requires
