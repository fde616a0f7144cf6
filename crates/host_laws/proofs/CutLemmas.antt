-- Where the bytes of a channel are cut has no part in what is known.
use Rattle.std.proofs.Common.{◌≡◌, ℕ, ◌+◌, List, [], ◌∷◌, ◌++◌, length, map, drop, flat_map, Bool, true, false, ◌&&◌, ◌==◌, cond, inl, inr, Option, Some, None, refl, sym, ap, ◌∙◌, subst, append_assoc, arith}
use Rattle.std.specs.List.{find}
use Rattle.std.proofs.Math.Seq.{drop-append_seam}
use Rattle.std.proofs.lemmas.Bool.{cases_Bool}
use Rattle.std.proofs.lemmas.List.{append-nil, map-append}
use Rattle.ms_base.specs.declared.entry.Entry.{Entry}
use Rattle.ms_base.specs.declared.entry.Entry.TheVariants as entry
use Rattle.ms_base.specs.declared.keys.CallKey.{CallKey}
use Rattle.ms_base.specs.declared.keys.Event.{Event}
use Rattle.ms_base.specs.declared.keys.WorkerKey.{WorkerKey}
use Rattle.ms_base.specs.declared.outcome.Outcome.{Outcome}
use Rattle.channel_frames.specs.Frames.{frames, rest_of, new_frames}
use Rattle.channel_msgs.specs.Read.{message_of}
use Rattle.transcript.specs.Lines.{note_line}
use Rattle.transcript.specs.declared.note.Note.{Note}
use Rattle.host_awaits.specs.Awaits.{counts, outcome_of, settled_before, settled_by, times_noted, waiting_before, waiting_by}
use Rattle.host_awaits.specs.declared.entered.Await.{Await}
use Rattle.host_notes.specs.Keys.{same_worker}
use Rattle.host_laws.specs.Cuts.{in_one, in_two}
use Rattle.host_model.specs.Run.{Journal, after, after_all, break_behind, breaks_with, chunk_micros, state_of, trace, transcript_of}
use Rattle.host_model.specs.State.{State, Slot, Stream, bytes_in, is_up, start, stream_of, with_stream}
use Rattle.host_model.specs.Step.{Micro, Breaks, Says, bytes_joined, hear, is_hopeless, settle_awaits, settled_note, step, steps}
use Rattle.host_model.specs.Workers.{HaveWorkers}
use Rattle.host_laws.proofs.ApartLemmas.{IsApart, hopeless-same, put_streams, says-apart, settle-apart, settle_with, streams-stay}
use Rattle.host_laws.proofs.StayLemmas.{same-itself}
use Rattle.host_laws.proofs.TraceLemmas.{after_all_append, along_steps, micros_in, state-trace, steps_append}

worker-itself : (a : WorkerKey) → same_worker a a ≡ true
worker-itself a = ap (λ b. b && (a.generation == a.generation)) (same-itself a.slot) ∙ same-itself a.generation

-- ---- the stream of a worker

abbrev is_of : WorkerKey → Stream → Bool
is_of worker x = same_worker x.worker worker

pub stream_of-with_stream : (xs : List Stream) (worker : WorkerKey) (bytes : List ℕ) → stream_of (with_stream xs worker bytes) worker ≡ bytes
stream_of-with_stream [] worker bytes = ap (λ b. bytes_in (cond b (Some (record { worker = worker; bytes = bytes })) None)) (worker-itself worker)
stream_of-with_stream (x ∷ xs) worker bytes = at (is_of worker x) refl (stream_of-with_stream xs worker bytes)
  where
    at : (b : Bool) → is_of worker x ≡ b → stream_of (with_stream xs worker bytes) worker ≡ bytes
        → stream_of (cond b (record x { bytes = bytes } ∷ xs) (x ∷ with_stream xs worker bytes)) worker ≡ bytes
    at true e h = ap (λ c. bytes_in (cond c (Some (record x { bytes = bytes })) (find (is_of worker) xs))) e
    at false e h = ap (λ c. bytes_in (cond c (Some x) (find (is_of worker) (with_stream xs worker bytes)))) e ∙ h

pub with_stream-again : (xs : List Stream) (worker : WorkerKey) (bytes others : List ℕ) → with_stream (with_stream xs worker bytes) worker others ≡ with_stream xs worker others
with_stream-again [] worker bytes others =
    ap (λ b. cond b (record { worker = worker; bytes = others } ∷ []) (record { worker = worker; bytes = bytes } ∷ record { worker = worker; bytes = others } ∷ [])) (worker-itself worker)
with_stream-again (x ∷ xs) worker bytes others = at (is_of worker x) refl (with_stream-again xs worker bytes others)
  where
    at : (b : Bool) → is_of worker x ≡ b → with_stream (with_stream xs worker bytes) worker others ≡ with_stream xs worker others
        → with_stream (cond b (record x { bytes = bytes } ∷ xs) (x ∷ with_stream xs worker bytes)) worker others
        ≡ cond b (record x { bytes = others } ∷ xs) (x ∷ with_stream xs worker others)
    at true e h = ap (λ c. cond c (record x { bytes = others } ∷ xs) (record x { bytes = bytes } ∷ with_stream xs worker others)) e
    at false e h =
        ap (λ c. cond c (record x { bytes = others } ∷ with_stream xs worker bytes) (x ∷ with_stream (with_stream xs worker bytes) worker others)) e
        ∙ ap (λ (ys : List Stream). x ∷ ys) h

-- bytes that come in two pieces come in one
pub joined-twice : (s : State) (worker : WorkerKey) (first later : List ℕ)
    → bytes_joined worker later (bytes_joined worker first s) ≡ bytes_joined worker (first ++ later) s
joined-twice s worker first later =
    let stream = stream_of s.streams worker in
    let put : List Stream → State = λ xs. record s { streams = xs } in
    ap put
    (with_stream-again s.streams worker (stream ++ first) (stream_of (with_stream s.streams worker (stream ++ first)) worker ++ later)
    ∙ ap (with_stream s.streams worker)
    (ap (λ (bytes : List ℕ). bytes ++ later) (stream_of-with_stream s.streams worker (stream ++ first)) ∙ append_assoc stream first later))

-- ---- awaits settle once

-- what the settlements of awaits say counts for no await
none-noted : (es : List (CallKey × Outcome)) (name : List ℕ) (event : Event) → times_noted (map settled_note es) name event ≡ 0
none-noted [] name event = refl
none-noted (e ∷ es) name event = let rest = none-noted es name event in omega (arith, rest)

times-more : (ns : List Note) (es : List (CallKey × Outcome)) (name : List ℕ) (event : Event) → times_noted (ns ++ map settled_note es) name event ≡ times_noted ns name event
times-more [] es name event = none-noted es name event
times-more (n ∷ ns) es name event = ap (λ k. cond (counts name event n) 1 0 + k) (times-more ns es name event)

module _ (times : List ℕ → Event → ℕ) (hopeless : List ℕ → Bool) where
  -- those that go on waiting have no outcome
  record WaitOn (waits : List Await) : Type 0 where
    none : settled_by times hopeless waits ≡ []
    all : waiting_by times hopeless waits ≡ waits

  wait-on : (waits : List Await) → WaitOn (waiting_by times hopeless waits)
  wait-on [] = record { none = refl; all = refl }
  wait-on (a ∷ waits) = at (outcome_of times hopeless a) refl (wait-on waits)
    where
      at : (o : Option Outcome) → outcome_of times hopeless a ≡ o → WaitOn (waiting_by times hopeless waits) → WaitOn (waiting_before a o (waiting_by times hopeless waits))
      at None e h =
          let rest = waiting_by times hopeless waits in
          record {
            none = ap (λ x. settled_before a.key x (settled_by times hopeless rest)) e ∙ h.none;
            all = ap (λ x. waiting_before a x (waiting_by times hopeless rest)) e ∙ ap (λ (l : List Await). a ∷ l) h.all;
          }
      at (Some o) e h = h

-- all that can settle have settled
abbrev pub IsRested : State → Type 0
IsRested s = settle_awaits s ≡ s

pub settle-twice : (s : State) → IsRested (settle_awaits s)
settle-twice s =
    let t = settle_awaits s in
    let hopeless = is_hopeless s in
    let es = settled_by (times_noted s.notes) hopeless s.awaits in
    let times : times_noted t.notes ≡ times_noted s.notes = λ i name event. (times-more s.notes es name event) i in
    let waits = wait-on (times_noted s.notes) hopeless s.awaits in
    let put : List (CallKey × Outcome) → List Await → State = λ done left. record t { notes = t.notes ++ map settled_note done; awaits = left } in
    ap (λ h. settle_with h t) (hopeless-same s t refl refl refl)
    ∙ ap (λ (count : List ℕ → Event → ℕ). put (settled_by count hopeless t.awaits) (waiting_by count hopeless t.awaits)) times
    ∙ ap (λ (done : List (CallKey × Outcome)). put done (waiting_by (times_noted s.notes) hopeless t.awaits)) waits.none
    ∙ ap (put []) waits.all
    ∙ ap (λ (ns : List Note). record t { notes = ns }) (append-nil t.notes)

step-rested : (s : State) (m : Micro) → IsRested (step s m)
step-rested s m = settle-twice (hear s m)

put-rested : (s : State) (xs : List Stream) → IsRested s → IsRested (put_streams xs s)
put-rested s xs rested = (settle-apart (HaveWorkers s) s).apart xs ∙ ap (put_streams xs) rested

-- ---- between two micro steps

-- What holds of a host then.
record Rests (s : State) : Type 0 where
  rested : IsRested s
  workers : HaveWorkers s

workers-put : (s : State) (xs : List Stream) → HaveWorkers s → HaveWorkers (put_streams xs s)
workers-put s xs h = record { whole = h.whole; workers = h.workers; alone = h.alone; due = h.due }

-- the messages of some payloads
abbrev sayings : WorkerKey → List (List ℕ) → List Micro
sayings worker payloads = map (λ (payload : List ℕ). Says worker (message_of payload)) payloads

abbrev say : WorkerKey → List (List ℕ) → State → State
say worker payloads s = steps s (sayings worker payloads)

-- each micro step keeps that
abbrev pub WorkersStay : Type 0
WorkersStay = (s : State) (m : Micro) → HaveWorkers s → HaveWorkers (step s m)

abbrev pub WorkersStart : Type 0
WorkersStart = (seed : ℕ) → HaveWorkers (start seed)

-- the frames of a stream are those that it had, and then the new ones
abbrev pub CutsFrames : Type 0
CutsFrames = (first later : List ℕ) → frames (first ++ later) ≡ frames first ++ new_frames first later

module _ (stay : WorkersStay) where
  rests-step : (s : State) (m : Micro) → Rests s → Rests (step s m)
  rests-step s m h = record { rested = step-rested s m; workers = stay s m h.workers }

  said-apart : (worker : WorkerKey) (payloads : List (List ℕ)) (s : State) → IsApart (HaveWorkers s) (say worker payloads) s
  said-apart worker [] s = record { apart = λ xs. refl; slots = λ h. refl }
  said-apart worker (p ∷ ps) s =
      let m = Says worker (message_of p) in
      let here = says-apart s worker (message_of p) in
      let later = said-apart worker ps (step s m) in
      record { apart = λ xs. ap (say worker ps) (here.apart xs) ∙ later.apart xs; slots = λ h. later.slots (stay s m h) ∙ here.slots h }

  -- so bytes may come before or after it
  joined-said : (worker : WorkerKey) (bytes : List ℕ) (payloads : List (List ℕ)) (s : State)
      → bytes_joined worker bytes (say worker payloads s) ≡ say worker payloads (bytes_joined worker bytes s)
  joined-said worker bytes payloads s =
      let said = said-apart worker payloads s in
      ap (λ (xs : List Stream). put_streams (with_stream xs worker (stream_of xs worker ++ bytes)) (say worker payloads s)) (streams-stay (say worker payloads) s said)
      ∙ sym (said.apart (with_stream s.streams worker (stream_of s.streams worker ++ bytes)))

  -- ---- what a chunk comes to

  module _ (worker : WorkerKey) where
    joined-rests : (s : State) (bytes : List ℕ) → Rests s → Rests (bytes_joined worker bytes s)
    joined-rests s bytes h =
        let xs = with_stream s.streams worker (stream_of s.streams worker ++ bytes) in
        record { rested = put-rested s xs h.rested; workers = workers-put s xs h.workers }

    said-rests : (payloads : List (List ℕ)) (s : State) → Rests s → Rests (say worker payloads s)
    said-rests payloads s h = along_steps Rests rests-step s (sayings worker payloads) h

    break-still : (b : Bool) (s : State) → Rests s → steps s (cond b (Breaks worker ∷ []) []) ≡ s
    break-still true s h = h.rested
    break-still false s h = refl

    chunk-up : (s : State) (bytes : List ℕ) → Rests s → is_up s.slots worker ≡ true
        → after s (entry.Chunk worker bytes) ≡ say worker (new_frames (stream_of s.streams worker) bytes) (bytes_joined worker bytes s)
    chunk-up s bytes h e =
        let stream = stream_of s.streams worker in
        let payloads = new_frames stream bytes in
        let joined = bytes_joined worker bytes s in
        let joined_rests = joined-rests s bytes h in
        ap (λ b. steps s (cond b (chunk_micros worker stream bytes) [])) e
        ∙ ap (λ (t : State). steps t (sayings worker payloads ++ break_behind worker stream bytes)) joined_rests.rested
        ∙ steps_append joined (sayings worker payloads) (break_behind worker stream bytes)
        ∙ break-still (breaks_with stream bytes) (say worker payloads joined) (said-rests payloads joined joined_rests)

    chunk-down : (s : State) (bytes : List ℕ) → is_up s.slots worker ≡ false → after s (entry.Chunk worker bytes) ≡ s
    chunk-down s bytes e = ap (λ b. steps s (cond b (chunk_micros worker (stream_of s.streams worker) bytes) [])) e

    module _ (cuts : CutsFrames) where
      new_frames-append : (stream first later : List ℕ) → new_frames stream (first ++ later) ≡ new_frames stream first ++ new_frames (stream ++ first) later
      new_frames-append stream first later =
          let one = new_frames stream first in
          let two = new_frames (stream ++ first) later in
          ap (drop (length (frames stream)))
          (ap frames (sym (append_assoc stream first later)) ∙ cuts (stream ++ first) later ∙ ap (λ (ps : List (List ℕ)). ps ++ two) (cuts stream first)
          ∙ append_assoc (frames stream) one two)
          ∙ drop-append_seam (frames stream) (one ++ two)

      cut-up : (s : State) (first later : List ℕ) → Rests s → is_up s.slots worker ≡ true
          → after s (entry.Chunk worker (first ++ later)) ≡ after (after s (entry.Chunk worker first)) (entry.Chunk worker later)
      cut-up s first later h e =
          let stream = stream_of s.streams worker in
          let one = new_frames stream first in
          let two = new_frames (stream ++ first) later in
          let joined = bytes_joined worker first s in
          let joined_rests = joined-rests s first h in
          let said = say worker one joined in
          let kept = said-apart worker one joined in
          let streamed : stream_of said.streams worker ≡ stream ++ first =
          ap (λ (xs : List Stream). stream_of xs worker) (streams-stay (say worker one) joined kept) ∙ stream_of-with_stream s.streams worker (stream ++ first) in
          let up : is_up said.slots worker ≡ true = ap (λ (xs : List Slot). is_up xs worker) (kept.slots joined_rests.workers) ∙ e in
          let at_once = bytes_joined worker (first ++ later) s in
          let whole : after s (entry.Chunk worker (first ++ later)) ≡ say worker two (say worker one at_once) =
          chunk-up s (first ++ later) h e
          ∙ ap (λ (ps : List (List ℕ)). say worker ps at_once) (new_frames-append stream first later)
          ∙ ap (steps at_once) (map-append (λ (payload : List ℕ). Says worker (message_of payload)) one two)
          ∙ steps_append at_once (sayings worker one) (sayings worker two) in
          let parts : after said (entry.Chunk worker later) ≡ say worker two (say worker one at_once) =
          chunk-up said later (said-rests one joined joined_rests) up
          ∙ ap (λ (bytes : List ℕ). say worker (new_frames bytes later) (bytes_joined worker later said)) streamed
          ∙ ap (say worker two) (joined-said worker later one joined ∙ ap (say worker one) (joined-twice s worker first later)) in
          whole ∙ sym parts ∙ ap (λ (t : State). after t (entry.Chunk worker later)) (sym (chunk-up s first h e))

      cut-down : (s : State) (first later : List ℕ) → is_up s.slots worker ≡ false
          → after s (entry.Chunk worker (first ++ later)) ≡ after (after s (entry.Chunk worker first)) (entry.Chunk worker later)
      cut-down s first later e =
          chunk-down s (first ++ later) e ∙ sym (chunk-down s later e)
          ∙ ap (λ (t : State). after t (entry.Chunk worker later)) (sym (chunk-down s first e))

      chunk-cut : (s : State) (first later : List ℕ) → Rests s
          → after s (entry.Chunk worker (first ++ later)) ≡ after (after s (entry.Chunk worker first)) (entry.Chunk worker later)
      chunk-cut s first later h =
          elim (cases_Bool (is_up s.slots worker)) [ inl e ↦ cut-up s first later h e | inr e ↦ cut-down s first later e ]

  -- ---- in a journal

  module _ (begin : WorkersStart) (cuts : CutsFrames) where
    rests : (j : Journal) → Rests (state_of j)
    rests j =
        subst Rests (sym (state-trace (start j.seed) j.entries))
        (along_steps Rests rests-step (start j.seed) (micros_in (trace j)) (record { rested = refl; workers = begin j.seed }))

    pub state-cut : (j : Journal) (worker : WorkerKey) (first later : List ℕ) (behind : List Entry)
        → state_of (in_one j worker first later behind) ≡ state_of (in_two j worker first later behind)
    state-cut j worker first later behind =
        after_all_append (start j.seed) j.entries (entry.Chunk worker (first ++ later) ∷ behind)
        ∙ ap (λ (s : State). after_all s behind) (chunk-cut worker cuts (state_of j) first later (rests j))
        ∙ sym (after_all_append (start j.seed) j.entries (entry.Chunk worker first ∷ entry.Chunk worker later ∷ behind))

    pub lines-cut : (j : Journal) (worker : WorkerKey) (first later : List ℕ) (behind : List Entry)
        → transcript_of (in_one j worker first later behind) ≡ transcript_of (in_two j worker first later behind)
    lines-cut j worker first later behind = ap (λ (s : State). flat_map note_line s.notes) (state-cut j worker first later behind)

-- what the law of frames tells
pub cuts-frames : ((first later : List ℕ) → frames (first ++ later) ≡ frames first ++ frames (rest_of first ++ later))
    → ((first later : List ℕ) → new_frames first later ≡ frames (rest_of first ++ later)) → CutsFrames
cuts-frames payloads fresh = λ first later. payloads first later ∙ ap (λ (ps : List (List ℕ)). frames first ++ ps) (sym (fresh first later))
