use Rattle.std.proofs.Common.{rules}
use Rattle.turn_lock.proofs.Keeps.{count_allowed}
use Rattle.turn_lock.proofs.steps.count.Goals as goal

pub fetch_add-requires : goal.fetch_add-requires
fetch_add-requires g c = let hand = c.requires.hand in let turn = c.requires.turn in (
  search rules,
  search rules,
  count_allowed g.V.Book.journal g.V.Book.start _ _ _ _ turn.0 _ hand.0 turn.1 hand.1 (hand.2.0, hand.2.1) hand.3 hand.4,
)
