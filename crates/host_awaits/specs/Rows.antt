-- Worked rows of awaits.
use Rattle.std.specs.Prelude.{◌≡◌, ℕ, List, [], ◌∷◌, true, false, map, codes, refl}
use Rattle.ms_base.specs.declared.keys.CallKey.{CallKey}
use Rattle.ms_base.specs.declared.keys.Event.TheVariants as event
use Rattle.ms_base.specs.declared.keys.Kind.TheVariants as kind
use Rattle.ms_base.specs.declared.keys.Reason.TheVariants as reason
use Rattle.ms_base.specs.declared.outcome.Outcome.TheVariants as outcome
use Rattle.transcript.specs.declared.note.Note.{Note}
use Rattle.transcript.specs.declared.note.Note.TheVariants as note
use Rattle.host_awaits.specs.Awaits.{settled_by, times_noted, waiting_by}
use Rattle.host_awaits.specs.declared.entered.Await.{Await}

abbrev pub opened : ℕ → List ℕ → Note
opened serial name = note.Open (record { 0 = serial }) kind.Router name (record { 0 = [] })

-- two objects of the name `r`, one after the other
abbrev pub notes : List Note
notes = opened 2 (codes "r") ∷ note.Closed (record { 0 = 2 }) (codes "r") reason.Close ∷ opened 3 (codes "s") ∷ opened 4 (codes "r") ∷ note.Paused (codes "r") ∷ []

pub of_all_objects : map (times_noted notes (codes "r")) (event.Opened ∷ event.Closed ∷ event.Rtp ∷ []) ≡ 2 ∷ 1 ∷ 0 ∷ []
of_all_objects = refl

abbrev pub key : ℕ → CallKey
key place = record { lane = 1; place = place }

abbrev pub opened_times : ℕ → ℕ → Await
opened_times place count = record { key = key place; name = codes "r"; event = event.Opened; count = count }

abbrev pub awaits : List Await
awaits = opened_times 1 2 ∷ opened_times 2 3 ∷ opened_times 3 0 ∷ []

pub done_in_order : settled_by (times_noted notes) (λ name. false) awaits ≡ (key 1, outcome.Done) ∷ (key 3, outcome.Done) ∷ []
done_in_order = refl

pub the_others_wait : waiting_by (times_noted notes) (λ name. false) awaits ≡ opened_times 2 3 ∷ []
the_others_wait = refl

pub missed_where_hopeless : settled_by (times_noted notes) (λ name. true) awaits ≡ (key 1, outcome.Done) ∷ (key 2, outcome.Missed) ∷ (key 3, outcome.Done) ∷ []
missed_where_hopeless = refl
