-- What each micro step keeps holds after a whole journal.
use Rattle.std.proofs.Common.{List, [], ◌∷◌}
use Rattle.ms_base.specs.declared.entry.Entry.{Entry}
use Rattle.host_model.specs.Run.{after, after_all, micros}
use Rattle.host_model.specs.State.{State}
use Rattle.host_model.specs.Step.{Micro, step, steps}

module _ (P : State → Type 0) (each : (s : State) (m : Micro) → P s → P (step s m)) where
  pub along_steps : (s : State) (ms : List Micro) → P s → P (steps s ms)
  along_steps s [] h = h
  along_steps s (m ∷ ms) h = along_steps (step s m) ms (each s m h)

  pub along : (s : State) (es : List Entry) → P s → P (after_all s es)
  along s [] h = h
  along s (e ∷ es) h = along (after s e) es (along_steps s (micros s e) h)
