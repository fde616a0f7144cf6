use Rattle.std.proofs.Common.{rules, ap, ◌∙◌}
use Rattle.turn_lock.proofs.Keeps.{look_allowed}
use Rattle.turn_lock.proofs.steps.wait.Goals as goal

pub load-serving-requires : goal.load-serving-requires
load-serving-requires g c = let t = c.requires.ticket in let same = c.loop.invariant.2 in (
  search rules,
  search rules,
  look_allowed g.V.Book.journal g.V.Book.start _ _ _ _ t.0 (ap (λ m. m.0.stage) same ∙ t.2) (ap (λ m. m.1) same ∙ t.3),
)
