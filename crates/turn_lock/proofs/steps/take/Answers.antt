use Rattle.std.proofs.Common.{Some}
use Rattle.std.proofs.Common.{◌∷◌, sym, ap, ◌∙◌}
use Rattle.atomic_table.specs.Table.{rest}
use Rattle.turn_lock.proofs.steps.take.Goals as goal

pub exchange-in_hand-requires : goal.exchange-in_hand-requires
exchange-in_hand-requires g c = let hand = c.requires.hand in (
  c.requires.table,
  (Some hand.0, hand.1 ∙ ap (λ l. (0, Some hand.0) ∷ l) (sym (ap rest hand.1))),
)
