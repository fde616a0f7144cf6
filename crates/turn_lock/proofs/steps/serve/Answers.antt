use Rattle.std.proofs.Common.{rules}
use Rattle.turn_lock.proofs.Keeps.{serve_allowed}
use Rattle.turn_lock.proofs.steps.serve.Goals as goal

pub fetch_add-served-requires : goal.fetch_add-served-requires
fetch_add-served-requires g c = let hand = c.requires.hand in let turn = c.requires.turn in (
  search rules,
  search rules,
  serve_allowed g.V.Book.journal g.V.Book.start _ _ _ _ turn.0 hand.0 turn.1 hand.1 hand.2 hand.3,
)
