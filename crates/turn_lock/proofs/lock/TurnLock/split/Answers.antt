use Rattle.std.proofs.Common.{rules}
use Rattle.turn_lock.proofs.Keeps.{split_allowed}
use Rattle.turn_lock.proofs.lock.TurnLock.split.Goals as goal

pub split_seat-seat-requires : goal.split_seat-seat-requires
split_seat-seat-requires g c = (search rules, search rules, split_allowed g.V.Book.journal g.V.Book.start _ _ _ c.requires.idle.0 c.requires.parts)
