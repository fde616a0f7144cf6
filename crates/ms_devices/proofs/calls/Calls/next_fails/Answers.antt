use Rattle.std.proofs.Common.{sym, ◌∙◌, arith}
use Rattle.ms_devices.proofs.CallLemmas.{count_never_falls, count_rose, count_stands, same_answer}
use Rattle.ms_devices.proofs.calls.Calls.next_fails.Goals as goal

pub returns-clause-never_falls : goal.returns-clause-never_falls
returns-clause-never_falls c =
    rw (← c.self.view_is, c.saturating_add-self-inside.ensures) (count_never_falls _ _ (omega arith))

pub returns-clause-rose : goal.returns-clause-rose
returns-clause-rose c =
    λ found.
    let far = rw c.as_slice.ensures.value at c.has_number.ensures.far in
    let value = rw (c.as_slice.ensures.value, c.saturating_add-self-inside.ensures) at c.has_number.ensures.value in
    rw (← c.self.view_is, c.saturating_add-self-inside.ensures)
    (count_rose _ _ far (sym (same_answer _ _ far) ∙ sym value ∙ found))

pub returns-clause-still : goal.returns-clause-still
returns-clause-still c =
    λ none.
    let far = rw c.as_slice.ensures.value at c.has_number.ensures.far in
    let value = rw (c.as_slice.ensures.value, c.saturating_add-self-inside.ensures) at c.has_number.ensures.value in
    rw (← c.self.view_is, c.saturating_add-self-inside.ensures)
    (count_stands _ _ (omega arith) (sym (same_answer _ _ far) ∙ sym value ∙ none))
