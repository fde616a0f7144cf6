use Rattle.std.proofs.Common.{rules}
use Rattle.turn_lock.proofs.Keeps.{draw_allowed}
use Rattle.turn_lock.proofs.steps.draw.Goals as goal

pub fetch_add-requires : goal.fetch_add-requires
fetch_add-requires g c = (search rules, search rules, draw_allowed g.V.Book.journal g.V.Book.start _ _ _ _ c.requires.idle.0 (search rules))
