use Rattle.std.proofs.Common.{rules}
use Rattle.turn_lock.proofs.Keeps.{recall_allowed}
use Rattle.turn_lock.proofs.steps.recall.Goals as goal

pub load-requires : goal.load-requires
load-requires g c = (search rules, search rules, recall_allowed g.V.Book.journal g.V.Book.start _ _ _ _ c.requires.idle)
