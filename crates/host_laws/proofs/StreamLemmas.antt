-- Bytes that come are the one thing that changes the streams.
use Rattle.std.proofs.Common.{◌≡◌, [], ◌∷◌, ◌++◌, Bool, true, false, cond, refl}
use Rattle.ms_base.specs.declared.keys.CallKey.{CallKey}
use Rattle.ms_base.specs.declared.keys.Reason.TheVariants as reason
use Rattle.ms_base.specs.declared.keys.Serial.{Serial}
use Rattle.ms_base.specs.declared.op.Op.{Op}
use Rattle.object_tree.specs.Objects.{is_open}
use Rattle.host_laws.specs.Streams.{streams_behind}
use Rattle.host_model.specs.Answer.{Answer, Refuses, AddsWorker, Issues, Closes, Tells, Sends, answer}
use Rattle.host_model.specs.Falls.{fallen}
use Rattle.host_model.specs.State.{State, next_call}
use Rattle.host_model.specs.Step.{Micro, Calls, Awaits, Starting, Comes, Says, Breaks, answered, step}
use Rattle.host_laws.proofs.ApartLemmas.{fallen-apart, says-apart, streams-stay}

closed-streams : (b : Bool) (serial : Serial) (s : State) → (cond b (fallen (serial ∷ []) reason.Close s) s).streams ≡ s.streams
closed-streams true serial s = streams-stay (fallen (serial ∷ []) reason.Close) s (fallen-apart ⊥ (serial ∷ []) reason.Close s (λ none. absurd none))
closed-streams false serial s = refl

answered-streams : (call : CallKey) (op : Op) (a : Answer) (s : State) → (answered call op a s).streams ≡ s.streams
answered-streams call op (Refuses outcome) s = refl
answered-streams call op (AddsWorker name budget) s = refl
answered-streams call op (Issues r channel payload) s = refl
answered-streams call op (Closes object) s = closed-streams (is_open object) object.serial s
answered-streams call op (Tells told) s = refl
answered-streams call op (Sends channel producer packet) s = refl

pub streams-stand : (s : State) (m : Micro) → (step s m).streams ≡ streams_behind m s.streams
streams-stand s (Calls lane op) =
    let call = next_call s.calls lane in answered-streams call op (answer s op) (record s { calls = s.calls ++ call ∷ [] })
streams-stand s (Awaits lane name event count) = refl
streams-stand s (Starting worker) = refl
streams-stand s (Comes worker bytes) = refl
streams-stand s (Says worker said) = streams-stay (λ t. step t (Says worker said)) s (says-apart s worker said)
streams-stand s (Breaks worker) = refl
