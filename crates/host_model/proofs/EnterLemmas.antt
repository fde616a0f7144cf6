-- The calls and awaits of a journal are entered, each under the key of its lane and place, and nothing else is.
use Rattle.std.proofs.Common.{◌≡◌, ℕ, List, [], ◌∷◌, ◌++◌, map, Bool, true, false, ◌&&◌, cond, refl, sym, ap, ◌∙◌}
use Rattle.std.specs.List.{AllByRecursion}
use Rattle.ms_base.specs.declared.entry.Entry.{Entry}
use Rattle.ms_base.specs.declared.entry.Entry.TheVariants as entry
use Rattle.ms_base.specs.declared.keys.CallKey.{CallKey}
use Rattle.ms_base.specs.declared.keys.WorkerKey.{WorkerKey}
use Rattle.ms_base.specs.declared.outcome.Outcome.{Outcome}
use Rattle.channel_frames.specs.Frames.{new_frames}
use Rattle.channel_msgs.specs.Read.{message_of}
use Rattle.pending_calls.specs.declared.waiting.Owner.{Owner}
use Rattle.pending_calls.specs.declared.waiting.Owner.TheVariants as owner
use Rattle.host_model.specs.State.{State, is_up, is_wanted, next_call, start, stream_of}
use Rattle.host_model.specs.Changes.{owner_settled}
use Rattle.host_model.specs.Laws.{keys_behind}
use Rattle.host_model.specs.Run.{Journal, after, after_all, break_behind, breaks_with, chunk_micros, state_of}
use Rattle.host_model.specs.Step.{Micro, Calls, Awaits, Starting, Says, Breaks, step, steps}
use Rattle.host_model.proofs.Changes.{Change, Entered, Going, IsQuiet, by_call, by_await, by_start, quietly, step-is, still, both, notes, slots, streams, settles_call, awaits, asks_by, wants, asks_to_close, takes, takes_none, opens, settles_taken, marks, falls_with, settles_awaits}
use Rattle.host_model.proofs.Counts.{all-append}

calls-owner : (s : State) (o : Owner) (outcome : Outcome) (names : List (List ℕ)) → (owner_settled o outcome names s).calls ≡ s.calls
calls-owner s (owner.Call call) outcome names = refl
calls-owner s (owner.Job call part) outcome names = refl
calls-owner s owner.Close outcome names = refl
calls-owner s owner.Follow outcome names = refl

calls-change : {g h : Going} → Change g h → h.state.calls ≡ g.state.calls
calls-change still = refl
calls-change (both x y) = calls-change y ∙ calls-change x
calls-change (notes ns plain) = refl
calls-change (slots worker) = refl
calls-change (streams xs) = refl
calls-change (settles_call call outcome names) = refl
calls-change (awaits a) = refl
calls-change (asks_by call op r channel payload is) = refl
calls-change (wants call name budget) = refl
calls-change (asks_to_close channel parent asked left) = refl
calls-change (takes key r e) = refl
calls-change (takes_none key e) = refl
calls-change (opens r object keeps o is same closed) = refl
calls-change (settles_taken {calls} {taken} {s} r outcome names) = calls-owner s r.owner outcome names
calls-change (marks serial m keeps) = refl
calls-change (falls_with roots why) = refl
calls-change settles_awaits = refl

-- the calls behind a micro step
abbrev keys_after : List CallKey → Micro → List CallKey
keys_after calls (Calls lane op) = calls ++ next_call calls lane ∷ []
keys_after calls (Awaits lane name event count) = calls ++ next_call calls lane ∷ []
keys_after calls other = calls

quiet-keys : (calls : List CallKey) (m : Micro) → IsQuiet m → calls ≡ keys_after calls m
quiet-keys calls (Calls lane op) q = absurd q
quiet-keys calls (Awaits lane name event count) q = absurd q
quiet-keys calls other q = refl

keys-entered : (s : State) (m : Micro) (g : Going) → Entered s m g → g.state.calls ≡ keys_after s.calls m
keys-entered s m g (by_call lane op) = refl
keys-entered s m g (by_await lane name event count) = refl
keys-entered s m g (by_start worker) = refl
keys-entered s m g (quietly n q) = quiet-keys s.calls n q

keys-step : (s : State) (m : Micro) → (step s m).calls ≡ keys_after s.calls m
keys-step s m = let st = step-is s m in calls-change st.change ∙ keys-entered s m st.start st.entered

quiet-steps : (s : State) (ms : List Micro) → AllByRecursion IsQuiet ms → (steps s ms).calls ≡ s.calls
quiet-steps s [] q = refl
quiet-steps s (m ∷ ms) q = quiet-steps (step s m) ms q.1 ∙ keys-step s m ∙ sym (quiet-keys s.calls m q.0)

-- ---- entries

module _ (s : State) (worker : WorkerKey) where
  started-keys : (b : Bool) → (steps s (cond b (Starting worker ∷ []) [])).calls ≡ s.calls
  started-keys true = keys-step s (Starting worker)
  started-keys false = refl

  breaks-quiet : (b : Bool) → AllByRecursion IsQuiet (cond b (Breaks worker ∷ []) [])
  breaks-quiet true = (tt, tt)
  breaks-quiet false = tt

  says-quiet : (payloads : List (List ℕ)) → AllByRecursion IsQuiet (map (λ payload. Says worker (message_of payload)) payloads)
  says-quiet [] = tt
  says-quiet (payload ∷ payloads) = (tt, says-quiet payloads)

  chunk-keys : (bytes : List ℕ) (b : Bool) → (steps s (cond b (chunk_micros worker (stream_of s.streams worker) bytes) [])).calls ≡ s.calls
  chunk-keys bytes true =
      let stream = stream_of s.streams worker in
      quiet-steps s (chunk_micros worker stream bytes) (
        tt,
        all-append IsQuiet (map (λ payload. Says worker (message_of payload)) (new_frames stream bytes)) (break_behind worker stream bytes)
            (says-quiet (new_frames stream bytes)) (breaks-quiet (breaks_with stream bytes)),
      )
  chunk-keys bytes false = refl

keys-all : (s : State) (es : List Entry) → (after_all s es).calls ≡ keys_behind s.calls es
keys-all s [] = refl
keys-all s (entry.Call lane op ∷ es) = keys-all (after s (entry.Call lane op)) es ∙ ap (λ calls. keys_behind calls es) (keys-step s (Calls lane op))
keys-all s (entry.Await lane name event count ∷ es) =
    keys-all (after s (entry.Await lane name event count)) es ∙ ap (λ calls. keys_behind calls es) (keys-step s (Awaits lane name event count))
keys-all s (entry.Spawned worker up ∷ es) =
    keys-all (after s (entry.Spawned worker up)) es ∙ ap (λ calls. keys_behind calls es) (started-keys s worker (up && is_wanted s.slots worker))
keys-all s (entry.Chunk worker bytes ∷ es) =
    keys-all (after s (entry.Chunk worker bytes)) es ∙ ap (λ calls. keys_behind calls es) (chunk-keys s worker bytes (is_up s.slots worker))
keys-all s (other ∷ es) = keys-all s es

pub calls-entered : (j : Journal) → (state_of j).calls ≡ keys_behind [] j.entries
calls-entered j = keys-all (start j.seed) j.entries
