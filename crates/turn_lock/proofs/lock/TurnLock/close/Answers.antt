use Rattle.std.proofs.Common.{sym, ap, ◌∙◌}
use Rattle.turn_lock.proofs.Keeps.{closes, took, took_none}
use Rattle.turn_lock.proofs.lock.TurnLock.close.Goals as goal

pub unreachable-requires : goal.unreachable-requires
unreachable-requires g c =
    let last = closes g.V.Book.journal g.V.Book.start _ _ _ _ _ c.close_with-closed.ensures.values.2 c.requires.parts c.requires.idle.0 in
    took_none _ _ last.0 last.1 c.take-value.ensures.value c.in_default.is

pub returns-clause-start : goal.returns-clause-start
returns-clause-start g c =
    let last = closes g.V.Book.journal g.V.Book.start _ _ _ _ _ c.close_with-closed.ensures.values.2 c.requires.parts c.requires.idle.0 in
    ap g.V.Book.start (sym (took _ _ last.0 _ last.1 c.take-value.ensures.value c.in-Some.is)) ∙ last.3

pub returns-clause-seen : goal.returns-clause-seen
returns-clause-seen g c =
    let last = closes g.V.Book.journal g.V.Book.start _ _ _ _ _ c.close_with-closed.ensures.values.2 c.requires.parts c.requires.idle.0 in
    ap g.V.Book.journal (sym (took _ _ last.0 _ last.1 c.take-value.ensures.value c.in-Some.is)) ∙ last.2

pub returns-clause-own : goal.returns-clause-own
returns-clause-own g c =
    let last = closes g.V.Book.journal g.V.Book.start _ _ _ _ _ c.close_with-closed.ensures.values.2 c.requires.parts c.requires.idle.0 in last.4
