-- A host goes on with its journal, entry by entry.
use Rattle.std.proofs.Common.{◌≡◌, ℕ, zero, suc, List, [], ◌∷◌, ◌++◌, length, map, Bool, true, false, not, ◌&&◌, cond, Some, None, Result, Ok, Err, OnOk, refl, sym, ap, ◌∙◌, subst, append_assoc, inl, inr}
use Rattle.std.specs.List.{find}
use Rattle.std.proofs.lemmas.Bool.{cases_Bool}
use Rattle.std.proofs.lemmas.List.{append-nil, map-append}
use Rattle.ms_base.specs.declared.entry.Entry.TheVariants as entry
use Rattle.ms_base.specs.declared.keys.WorkerKey.{WorkerKey}
use Rattle.channel_frames.specs.Frames.{frames, frames_within, rest_of, rest_within, begins_with_frame, is_broken, new_frames}
use Rattle.channel_msgs.specs.Read.{message_of}
use Rattle.host_notes.specs.Keys.{same_worker}
use Rattle.host_model.specs.Run.{after, break_behind, chunk_micros, micros}
use Rattle.host_model.specs.Sound.{IsSound}
use Rattle.host_model.specs.State.{State, Slot, Stream, bytes_in, is_up, is_wanted, stream_of, with_stream}
use Rattle.host_model.specs.Step.{Micro, Breaks, Comes, Says, Starting, bytes_joined, settle_awaits, started, step, steps}
use Rattle.host_tables.specs.Kept.{IsKept, Moves, ShowsTheSame}
use Rattle.host_tables.specs.declared.tables.Tables.{Tables}
use Rattle.host_core.specs.LookUps.{unread_of}
use Rattle.host_core.specs.Tables.{Goes, IsHeld, IsRead}
use Rattle.host_core.specs.declared.readers.Readers.{Readers}
use Rattle.host_core.proofs.KeptLemmas.{kept-slots}
use Rattle.host_core.proofs.Keys.{worker-itself, worker-same}
use Rattle.host_core.proofs.ShownLemmas.{shown-then}

-- ---- what is sound stays so

abbrev pub StaysSound : Type 0
StaysSound = (seed : ℕ) (s : State) (m : Micro) → IsSound seed s → IsSound seed (step s m)

sound-steps : StaysSound → (seed : ℕ) (s : State) (ms : List Micro) → IsSound seed s → IsSound seed (steps s ms)
sound-steps stays seed s [] h = h
sound-steps stays seed s (m ∷ ms) h = sound-steps stays seed (step s m) ms (stays seed s m h)

-- ---- a call, an await and a start leave the streams as they are

read-still : (s t : State) (r : Readers) → t.streams ≡ s.streams → IsRead s r → IsRead t r
read-still s t r e h = λ w. h w ∙ ap (λ (xs : List Stream). rest_of (stream_of xs w)) (sym e)

pub held-step : StaysSound → (m : Micro) → ((s : State) → (step s m).streams ≡ s.streams) → (t t' : Tables) (r : Readers) → Goes (λ s. step s m) t t'
    → (seed : ℕ) (s : State) → IsHeld seed s t r → IsHeld seed (step s m) t' r
held-step stays m stand t t' r goes seed s h = record {
  sound = stays seed s m h.sound;
  kept = goes seed s h.sound h.kept;
  read = read-still s (step s m) r (stand s) h.read;
}

pub held-start : StaysSound → (worker : WorkerKey) (up : Bool) → ((s : State) → (step s (Starting worker)).streams ≡ s.streams) → (t t' : Tables) (r : Readers)
    → Goes (λ s. after s (entry.Spawned worker up)) t t' → (seed : ℕ) (s : State) → IsHeld seed s t r → IsHeld seed (after s (entry.Spawned worker up)) t' r
held-start stays worker up stand t t' r goes seed s h = record {
  sound = sound-steps stays seed s (micros s (entry.Spawned worker up)) h.sound;
  kept = goes seed s h.sound h.kept;
  read = read-still s (after s (entry.Spawned worker up)) r (at (up && is_wanted s.slots worker)) h.read;
}
  where
    at : (b : Bool) → (steps s (cond b (Starting worker ∷ []) [])).streams ≡ s.streams
    at true = stand s
    at false = refl

-- ---- a start is done where it is wanted

start-by : (worker : WorkerKey) (up b : Bool) (s : State) (t : Tables) → IsKept s t → (up && is_wanted t.slots.slots worker) ≡ b
    → after s (entry.Spawned worker up) ≡ steps s (cond b (Starting worker ∷ []) [])
start-by worker up b s t k e =
    ap (λ c. steps s (cond c (Starting worker ∷ []) [])) (ap (λ (xs : List Slot). up && is_wanted xs worker) (sym (kept-slots s t k)) ∙ e)

pub no_start-goes : (worker : WorkerKey) (up : Bool) (t : Tables) → (up && is_wanted t.slots.slots worker) ≡ false → Goes (λ s. after s (entry.Spawned worker up)) t t
no_start-goes worker up t e = λ seed s sound k. subst (λ (x : State). IsKept x t) (sym (start-by worker up false s t k e)) k

pub start-goes : (worker : WorkerKey) (up : Bool) (t a now : Tables) → (up && is_wanted t.slots.slots worker) ≡ true → Moves (started worker) t a → Moves settle_awaits a now
    → Goes (λ s. after s (entry.Spawned worker up)) t now
start-goes worker up t a now e starts settles = λ seed s sound k.
    subst (λ (x : State). IsKept x now) (sym (start-by worker up true s t k e)) (settles (started worker s) (starts s k))

-- ---- payload after payload

abbrev pub sayings : WorkerKey → List (List ℕ) → List Micro
sayings worker payloads = map (λ (payload : List ℕ). Says worker (message_of payload)) payloads

abbrev pub say : WorkerKey → List (List ℕ) → State → State
say worker payloads s = steps s (sayings worker payloads)

steps_append : (s : State) (ms ns : List Micro) → steps s (ms ++ ns) ≡ steps (steps s ms) ns
steps_append s [] ns = refl
steps_append s (m ∷ ms) ns = steps_append (step s m) ms ns

-- some payloads were heard, and the others are still unread
pub record Hearing (worker : WorkerKey) (before now : Tables) (first later : Readers) : Type 0 where
  pub heard : List (List ℕ)
  pub payloads : frames (unread_of first worker) ≡ heard ++ frames (unread_of later worker)
  pub rest : rest_of (unread_of later worker) ≡ rest_of (unread_of first worker)
  pub others : (w : WorkerKey) → same_worker worker w ≡ false → unread_of later w ≡ unread_of first w
  pub goes : Goes (say worker heard) before now
  pub shown : ShowsTheSame before now

said-more : (worker : WorkerKey) (payloads : List (List ℕ)) (payload : List ℕ) (s : State)
    → say worker (payloads ++ payload ∷ []) s ≡ step (say worker payloads s) (Says worker (message_of payload))
said-more worker payloads payload s =
    ap (steps s) (map-append (λ (p : List ℕ). Says worker (message_of p)) payloads (payload ∷ []))
    ∙ steps_append s (sayings worker payloads) (sayings worker (payload ∷ []))

pub hearing-more : StaysSound → (worker : WorkerKey) (t0 t t' : Tables) (r0 r r' : Readers) (payload : List ℕ) → Hearing worker t0 t r0 r
    → (frames (unread_of r worker) ≡ payload ∷ frames (unread_of r' worker)) × (rest_of (unread_of r' worker) ≡ rest_of (unread_of r worker))
    → ((w : WorkerKey) → same_worker worker w ≡ false → unread_of r' w ≡ unread_of r w)
    → Goes (λ s. step s (Says worker (message_of payload))) t t' → ShowsTheSame t t' → Hearing worker t0 t' r0 r'
hearing-more stays worker t0 t t' r0 r r' payload h found others goes shown = record {
  heard = h.heard ++ payload ∷ [];
  payloads = h.payloads ∙ ap (λ (l : List (List ℕ)). h.heard ++ l) found.0 ∙ sym (append_assoc h.heard (payload ∷ []) (frames (unread_of r' worker)));
  rest = found.1 ∙ h.rest;
  others = λ w e. others w e ∙ h.others w e;
  goes = λ seed s sound k.
      subst (λ (x : State). IsKept x t') (sym (said-more worker h.heard payload s))
      (goes seed (say worker h.heard s) (sound-steps stays seed s (sayings worker h.heard) sound) (h.goes seed s sound k));
  shown = shown-then t0 t t' h.shown shown;
}

-- where there is no frame, the rest is all
rest-whole : (n : ℕ) (stream : List ℕ) → frames_within n stream ≡ [] → rest_within n stream ≡ stream
unfolding frames_within rest_within
rest-whole zero stream e = refl
rest-whole (suc n) stream e = at _ _ _ (begins_with_frame stream) e
  where
    at : (first rest : List ℕ) (later : List (List ℕ)) (b : Bool) → cond b (first ∷ later) [] ≡ [] → cond b rest stream ≡ stream
    at first rest later true h = absurd cc
    at first rest later false h = refl

pub hearing-rest : (worker : WorkerKey) (t0 t : Tables) (r0 r r' : Readers) → Hearing worker t0 t r0 r → (frames (unread_of r worker) ≡ []) × (unread_of r' worker ≡ unread_of r worker)
    → unread_of r' worker ≡ rest_of (unread_of r0 worker)
hearing-rest worker t0 t r0 r r' h none =
    none.1 ∙ sym (rest-whole (length (unread_of r worker)) (unread_of r worker) none.0) ∙ h.rest

-- ---- streams with one as it is now

stream-itself : (xs : List Stream) (worker : WorkerKey) (bytes : List ℕ) → stream_of (with_stream xs worker bytes) worker ≡ bytes
stream-itself [] worker bytes = ap (λ b. bytes_in (cond b (Some (record { worker = worker; bytes = bytes })) None)) (worker-itself worker)
stream-itself (x ∷ xs) worker bytes = at (same_worker x.worker worker) refl (stream-itself xs worker bytes)
  where
    at : (b : Bool) → same_worker x.worker worker ≡ b → stream_of (with_stream xs worker bytes) worker ≡ bytes
        → stream_of (cond b (record x { bytes = bytes } ∷ xs) (x ∷ with_stream xs worker bytes)) worker ≡ bytes
    at true e h = ap (λ c. bytes_in (cond c (Some (record x { bytes = bytes })) (find (λ (y : Stream). same_worker y.worker worker) xs))) e
    at false e h = ap (λ c. bytes_in (cond c (Some x) (find (λ (y : Stream). same_worker y.worker worker) (with_stream xs worker bytes)))) e ∙ h

stream-other : (xs : List Stream) (worker w : WorkerKey) (bytes : List ℕ) → same_worker worker w ≡ false → stream_of (with_stream xs worker bytes) w ≡ stream_of xs w
stream-other [] worker w bytes e = ap (λ b. bytes_in (cond b (Some (record { worker = worker; bytes = bytes })) None)) e
stream-other (x ∷ xs) worker w bytes e = at (same_worker x.worker worker) refl (stream-other xs worker w bytes e)
  where
    later : (b : Bool) → stream_of (with_stream xs worker bytes) w ≡ stream_of xs w
        → bytes_in (cond b (Some x) (find (λ (y : Stream). same_worker y.worker w) (with_stream xs worker bytes)))
        ≡ bytes_in (cond b (Some x) (find (λ (y : Stream). same_worker y.worker w) xs))
    later true h = refl
    later false h = h

    at : (b : Bool) → same_worker x.worker worker ≡ b → stream_of (with_stream xs worker bytes) w ≡ stream_of xs w
        → stream_of (cond b (record x { bytes = bytes } ∷ xs) (x ∷ with_stream xs worker bytes)) w ≡ stream_of (x ∷ xs) w
    at true is h =
        let none : same_worker x.worker w ≡ false = ap (λ (v : WorkerKey). same_worker v w) (worker-same x.worker worker is) ∙ e in
        ap (λ c. bytes_in (cond c (Some (record x { bytes = bytes })) (find (λ (y : Stream). same_worker y.worker w) xs))) none
        ∙ sym (ap (λ c. bytes_in (cond c (Some x) (find (λ (y : Stream). same_worker y.worker w) xs))) none)
    at false is h = later (same_worker x.worker w) h

-- ---- a chunk

joined-kept : (worker : WorkerKey) (bytes : List ℕ) (s : State) (t : Tables) → IsKept s t → IsKept (bytes_joined worker bytes s) t
joined-kept worker bytes s t k = record { look_ups = k.look_ups; at_rest = k.at_rest }

said-streams : (worker : WorkerKey) → ((payload : List ℕ) (s : State) → (step s (Says worker (message_of payload))).streams ≡ s.streams)
    → (payloads : List (List ℕ)) (s : State) → (say worker payloads s).streams ≡ s.streams
said-streams worker stand [] s = refl
said-streams worker stand (p ∷ ps) s = said-streams worker stand ps (step s (Says worker (message_of p))) ∙ stand p s

no_break : (worker : WorkerKey) (stream bytes : List ℕ) → is_broken (stream ++ bytes) ≡ false → break_behind worker stream bytes ≡ []
no_break worker stream bytes e = ap (λ b. cond (b && not (is_broken stream)) (Breaks worker ∷ []) []) e

chunk-up : (s : State) (worker : WorkerKey) (bytes : List ℕ) → is_up s.slots worker ≡ true → is_broken (stream_of s.streams worker ++ bytes) ≡ false
    → after s (entry.Chunk worker bytes) ≡ say worker (new_frames (stream_of s.streams worker) bytes) (step s (Comes worker bytes))
chunk-up s worker bytes up whole =
    let stream = stream_of s.streams worker in
    let said = sayings worker (new_frames stream bytes) in
    ap (λ b. steps s (cond b (chunk_micros worker stream bytes) [])) up
    ∙ ap (λ (l : List Micro). steps (step s (Comes worker bytes)) (said ++ l)) (no_break worker stream bytes whole)
    ∙ ap (steps (step s (Comes worker bytes))) (append-nil said)

pub down-held : (worker : WorkerKey) (bytes : List ℕ) (t : Tables) (r : Readers) → is_up t.slots.slots worker ≡ false
    → (seed : ℕ) (s : State) → IsHeld seed s t r → IsHeld seed (after s (entry.Chunk worker bytes)) t r
down-held worker bytes t r down seed s h =
    let is : is_up s.slots worker ≡ false = ap (λ (xs : List Slot). is_up xs worker) (sym (kept-slots s t h.kept)) ∙ down in
    subst (λ (x : State). IsHeld seed x t r) (sym (ap (λ b. steps s (cond b (chunk_micros worker (stream_of s.streams worker) bytes) [])) is)) h

-- what was fed
abbrev pub IsFed : WorkerKey → List ℕ → Readers → Readers → Type 0
IsFed worker bytes r r1 = (w : WorkerKey) → unread_of r1 w ≡ cond (same_worker worker w) (unread_of r w ++ bytes) (unread_of r w)

pub fed-itself : (worker : WorkerKey) (bytes : List ℕ) (r r1 : Readers) → IsFed worker bytes r r1 → unread_of r1 worker ≡ unread_of r worker ++ bytes
fed-itself worker bytes r r1 fed = fed worker ∙ ap (λ b. cond b (unread_of r worker ++ bytes) (unread_of r worker)) (worker-itself worker)

fed-other : (worker w : WorkerKey) (bytes : List ℕ) (r r1 : Readers) → IsFed worker bytes r r1 → same_worker worker w ≡ false → unread_of r1 w ≡ unread_of r w
fed-other worker w bytes r r1 fed e = fed w ∙ ap (λ b. cond b (unread_of r w ++ bytes) (unread_of r w)) e

module _
    (stays : StaysSound)
    (worker : WorkerKey)
    (stand : (payload : List ℕ) (s : State) → (step s (Says worker (message_of payload))).streams ≡ s.streams)
    (fresh : (first later : List ℕ) → new_frames first later ≡ frames (rest_of first ++ later))
    (cut : (first later : List ℕ) → rest_of (first ++ later) ≡ rest_of (rest_of first ++ later))
    (broken : (first later : List ℕ) → is_broken (first ++ later) ≡ is_broken (rest_of first ++ later))
    (bytes : List ℕ)
    (t t1 t' : Tables)
    (r r1 r2 : Readers)
    (up : is_up t.slots.slots worker ≡ true)
    (whole : is_broken (unread_of r worker ++ bytes) ≡ false)
    (fed : IsFed worker bytes r r1)
    (settles : Moves settle_awaits t t1)
    (goes : Goes (say worker (frames (unread_of r1 worker))) t1 t')
    (rest : unread_of r2 worker ≡ rest_of (unread_of r1 worker))
    (others : (w : WorkerKey) → same_worker worker w ≡ false → unread_of r2 w ≡ unread_of r1 w) where
  unread-then : (s : State) → IsRead s r → unread_of r1 worker ≡ rest_of (stream_of s.streams worker) ++ bytes
  unread-then s read = fed-itself worker bytes r r1 fed ∙ ap (λ (l : List ℕ). l ++ bytes) (read worker)

  read-here : (s : State) → IsRead s r → (w : WorkerKey) → same_worker worker w ≡ true
      → unread_of r2 w ≡ rest_of (stream_of (bytes_joined worker bytes s).streams w)
  read-here s read w e =
      let stream = stream_of s.streams worker in
      subst (λ (v : WorkerKey). unread_of r2 v ≡ rest_of (stream_of (bytes_joined worker bytes s).streams v)) (worker-same worker w e)
      (rest ∙ ap rest_of (unread-then s read) ∙ sym (cut stream bytes) ∙ ap rest_of (sym (stream-itself s.streams worker (stream ++ bytes))))

  read-there : (s : State) → IsRead s r → (w : WorkerKey) → same_worker worker w ≡ false
      → unread_of r2 w ≡ rest_of (stream_of (bytes_joined worker bytes s).streams w)
  read-there s read w e =
      others w e ∙ fed-other worker w bytes r r1 fed e ∙ read w
      ∙ ap rest_of (sym (stream-other s.streams worker w (stream_of s.streams worker ++ bytes) e))

  pub held-up : (seed : ℕ) (s : State) → IsHeld seed s t r → IsHeld seed (after s (entry.Chunk worker bytes)) t' r2
  held-up seed s h =
      let joined = step s (Comes worker bytes) in
      let stream = stream_of s.streams worker in
      let up_then : is_up s.slots worker ≡ true = ap (λ (xs : List Slot). is_up xs worker) (sym (kept-slots s t h.kept)) ∙ up in
      let whole_then : is_broken (stream ++ bytes) ≡ false = broken stream bytes ∙ ap (λ (l : List ℕ). is_broken (l ++ bytes)) (sym (h.read worker)) ∙ whole in
      let unread : frames (unread_of r1 worker) ≡ new_frames stream bytes = ap frames (unread-then s h.read) ∙ sym (fresh stream bytes) in
      let known_then : say worker (frames (unread_of r1 worker)) joined ≡ after s (entry.Chunk worker bytes) =
      ap (λ (l : List (List ℕ)). say worker l joined) unread ∙ sym (chunk-up s worker bytes up_then whole_then) in
      let heard = say worker (frames (unread_of r1 worker)) joined in
      let streams : heard.streams ≡ joined.streams = said-streams worker stand (frames (unread_of r1 worker)) joined in
      let read : IsRead joined r2 = λ w. elim (cases_Bool (same_worker worker w)) [ inl e ↦ read-here s h.read w e | inr e ↦ read-there s h.read w e ] in
      record {
        sound = sound-steps stays seed s (micros s (entry.Chunk worker bytes)) h.sound;
        kept =
            subst (λ (x : State). IsKept x t') known_then
            (goes seed joined (stays seed s (Comes worker bytes) h.sound) (settles (bytes_joined worker bytes s) (joined-kept worker bytes s t h.kept)));
        read = subst (λ (x : State). IsRead x r2) known_then (read-still joined heard r2 streams read);
      }

-- what follows from two clauses on an `Ok`
pub on_ok_both : {T E : Type 0} (r : Result T E) (P Q R : Type 0) → (P → Q → R) → OnOk r P → OnOk r Q → OnOk r R
on_ok_both (Ok x) P Q R f p q = f p q
on_ok_both (Err e) P Q R f p q = p

-- awaits settle last
pub settled-goes : (f : State → State) (t a now : Tables) → Goes f t a → Moves settle_awaits a now → Goes (λ s. settle_awaits (f s)) t now
settled-goes f t a now goes settles = λ seed s sound k. settles (f s) (goes seed s sound k)

pub hearing-done : (worker : WorkerKey) (t0 t : Tables) (r0 r : Readers) → Hearing worker t0 t r0 r → frames (unread_of r worker) ≡ [] → Goes (say worker (frames (unread_of r0 worker))) t0 t
hearing-done worker t0 t r0 r h none =
    let all : h.heard ≡ frames (unread_of r0 worker) = sym (h.payloads ∙ ap (λ (l : List (List ℕ)). h.heard ++ l) none ∙ append-nil h.heard) in
    subst (λ (l : List (List ℕ)). Goes (say worker l) t0 t) all h.goes
