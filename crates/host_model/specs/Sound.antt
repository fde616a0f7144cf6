-- What holds of a host before and after each micro step: all that the code of a step needs. This project's own.
use Rattle.std.specs.Prelude.{ℕ}
use Rattle.host_model.specs.Fit.{HasDrawn, IsFit}
use Rattle.host_model.specs.Laws.{AreNumbered, EachStartsOnce}
use Rattle.host_model.specs.State.{State}

pub record IsSound (seed : ℕ) (s : State) : Type 0 where
  pub fits : IsFit s
  pub drawn : HasDrawn seed s
  -- the ids of a channel are 1, 2, 3 and so on
  pub numbered : AreNumbered s.requests
  -- a Worker that was drawn has one call that waits for its start, at most
  pub starts : EachStartsOnce s.requests s.next
