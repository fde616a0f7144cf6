-- The indexes of the notes after one more note, and without the last.
use Rattle.std.proofs.Common.{◌≡◌, ⊎_elim, ℕ, zero, suc, ◌+◌, ◌-◌, Bool, length-append, List, [], ◌∷◌, ◌++◌, length, true, false, cond, Option, None, Some, IfSome, is_some, option_and_then, slice_get, take, refl, sym, ap, subst, ◌∙◌, arith}
use Rattle.std.specs.BTreeMap.{BTreeMap, Updates}
use Rattle.std.specs.Cmp.{both_tied, unsigned_ties}
use Rattle.std.specs.Ordering.{is_eq, nat_cmp, ordering_then}
use Rattle.std.specs.Prelude.{◌==◌}
use Rattle.std.proofs.Math.Seq.{take-append_seam}
use Rattle.std.proofs.lemmas.Bool.{cases_Bool}
use Rattle.std.proofs.lemmas.List.{append-nil}
use Rattle.std.proofs.lemmas.List.Concat.{flat_map-append}
use Rattle.std.proofs.lemmas.Bool.Decides.{nat_tests}
use Rattle.ms_base.specs.declared.id.Id.{Id}
use Rattle.ms_base.specs.declared.keys.CallKey.{CallKey}
use Rattle.ms_base.specs.declared.outcome.Outcome.{Outcome}
use Rattle.ms_base.specs.declared.outcome.Verdict.{Verdict}
use Rattle.ms_base.specs.Outcome.{verdict_of_outcome}
use Rattle.host_notes.proofs.LongerLemmas.{slice_get-last}
use Rattle.ms_base.specs.declared.keys.WorkerKey.{WorkerKey}
use Rattle.host_notes.specs.Indexes.{AreIndexed, IsPlaceOf, bytes_to, place_of, verdict_at}
use Rattle.channel_frames.specs.Frames.{frame}
use Rattle.host_notes.specs.Verdicts.{first_of_two, settled_in, verdict_in}
use Rattle.host_notes.specs.Sent.{frame_to, sent_in, sent_of}
use Rattle.host_notes.specs.Keys.{same_call}
use Rattle.host_notes.specs.Keys.{same_worker}
use Rattle.host_notes.specs.declared.sent.SentBytes.{SentBytes}
use Rattle.transcript.specs.declared.note.Note.{Note}
use Rattle.transcript.specs.declared.note.Note.TheVariants as note

none_from_is_some : {A : Type 0} (o : Option A) → is_some o ≡ false → o ≡ None
none_from_is_some None h = refl
none_from_is_some (Some x) h = cc

some_from_is_some : {A : Type 0} (o : Option A) → is_some o ≡ true → (x : A) × (o ≡ Some x)
some_from_is_some None h = cc
some_from_is_some (Some x) h = (x, refl)

-- ---- verdicts of a longer and of a shorter list

first_of_two-assoc : (a b c : Option Verdict) → first_of_two (first_of_two a b) c ≡ first_of_two a (first_of_two b c)
first_of_two-assoc None b c = refl
first_of_two-assoc (Some v) b c = refl

first_of_two-none : (a : Option Verdict) → first_of_two a None ≡ a
first_of_two-none None = refl
first_of_two-none (Some v) = refl

none-left : (a b : Option Verdict) → first_of_two a b ≡ None → a ≡ None
none-left None b h = refl
none-left (Some v) b h = h

none-right : (a b : Option Verdict) → first_of_two a b ≡ None → b ≡ None
none-right None b h = h
none-right (Some v) b h = cc

none-both : (a b : Option Verdict) → a ≡ None → b ≡ None → first_of_two a b ≡ None
none-both None b h g = g
none-both (Some v) b h g = h

verdict_in-more : (notes : List Note) (next : Note) (key : CallKey) → verdict_in (notes ++ next ∷ []) key ≡ first_of_two (verdict_in notes key) (settled_in key next)
verdict_in-more [] next key = first_of_two-none (settled_in key next)
verdict_in-more (n ∷ ns) next key =
    ap (first_of_two (settled_in key n)) (verdict_in-more ns next key) ∙ sym (first_of_two-assoc (settled_in key n) (verdict_in ns key) (settled_in key next))

verdict_in-take : (i : ℕ) (notes : List Note) (key : CallKey) → verdict_in notes key ≡ None → verdict_in (take i notes) key ≡ None
verdict_in-take zero notes key h = refl
verdict_in-take (suc i) [] key h = refl
verdict_in-take (suc i) (n ∷ ns) key h =
    none-both (settled_in key n) (verdict_in (take i ns) key) (none-left (settled_in key n) (verdict_in ns key) h)
    (verdict_in-take i ns key (none-right (settled_in key n) (verdict_in ns key) h))

-- ---- one more note

silent-at : (notes : List Note) (next : Note) (key : CallKey) (i : ℕ) → settled_in key next ≡ None
    → option_and_then (settled_in key) (slice_get (notes ++ next ∷ []) i) ≡ option_and_then (settled_in key) (slice_get notes i)
silent-at [] next key zero h = h
silent-at [] next key (suc i) h = refl
silent-at (n ∷ ns) next key zero h = refl
silent-at (n ∷ ns) next key (suc i) h = silent-at ns next key i h

silent-take : (notes : List Note) (next : Note) (key : CallKey) (i : ℕ) → settled_in key next ≡ None → verdict_in (take i notes) key ≡ None → verdict_in (take i (notes ++ next ∷ [])) key ≡ None
silent-take notes next key zero h g = refl
silent-take [] next key (suc i) h g = none-both (settled_in key next) (verdict_in (take i []) key) h (verdict_in-take i [] key refl)
silent-take (n ∷ ns) next key (suc i) h g =
    none-both (settled_in key n) (verdict_in (take i (ns ++ next ∷ [])) key) (none-left (settled_in key n) (verdict_in (take i ns) key) g)
    (silent-take ns next key i h (none-right (settled_in key n) (verdict_in (take i ns) key) g))

-- the note says nothing of the call
is_place-silent : (notes : List Note) (next : Note) (key : CallKey) (place : Option ℕ) → settled_in key next ≡ None → IsPlaceOf notes key place → IsPlaceOf (notes ++ next ∷ []) key place
is_place-silent notes next key place h before =
    let same : verdict_in (notes ++ next ∷ []) key ≡ verdict_at notes key place =
    verdict_in-more notes next key ∙ (ap (first_of_two (verdict_in notes key)) h ∙ (first_of_two-none (verdict_in notes key) ∙ before.verdict)) in
    elim place as (λ p. verdict_in (notes ++ next ∷ []) key ≡ verdict_at notes key p → IfSome p (λ i. verdict_in (take i notes) key ≡ None) → IsPlaceOf (notes ++ next ∷ []) key p) [
      | None ↦ λ e f. record { verdict = e; first = tt }
      | Some i ↦ λ e f. record { verdict = e ∙ sym (silent-at notes next key i h); first = silent-take notes next key i h f }
    ] same before.first

settled-at : (notes : List Note) (next : Note) (key : CallKey) (i : ℕ) (v : Verdict) → option_and_then (settled_in key) (slice_get notes i) ≡ Some v
    → option_and_then (settled_in key) (slice_get (notes ++ next ∷ []) i) ≡ Some v
settled-at [] next key i v h = cc
settled-at (n ∷ ns) next key zero v h = h
settled-at (n ∷ ns) next key (suc i) v h = settled-at ns next key i v h

settled-take : (notes : List Note) (next : Note) (key : CallKey) (i : ℕ) (v : Verdict) → option_and_then (settled_in key) (slice_get notes i) ≡ Some v → take i (notes ++ next ∷ []) ≡ take i notes
settled-take [] next key i v h = cc
settled-take (n ∷ ns) next key zero v h = refl
settled-take (n ∷ ns) next key (suc i) v h = ap (λ ms. n ∷ ms) (settled-take ns next key i v h)

-- the call has settled before
is_place-settled : (notes : List Note) (next : Note) (key : CallKey) (place : Option ℕ) (v : Verdict) → verdict_in notes key ≡ Some v → IsPlaceOf notes key place → IsPlaceOf (notes ++ next ∷ []) key place
is_place-settled notes next key None v h before = absurd (let e : Some v ≡ None = sym h ∙ before.verdict in cc)
is_place-settled notes next key (Some i) v h before =
    let here : option_and_then (settled_in key) (slice_get notes i) ≡ Some v = sym before.verdict ∙ h in record {
      verdict = verdict_in-more notes next key ∙ (ap (λ a. first_of_two a (settled_in key next)) h ∙ sym (settled-at notes next key i v here));
      first = ap (λ ns. verdict_in ns key) (settled-take notes next key i v here) ∙ before.first;
    }

-- the note is the first that may settle the call
is_place-first : (notes : List Note) (next : Note) (key : CallKey) → verdict_in notes key ≡ None → IsPlaceOf (notes ++ next ∷ []) key (Some (length notes))
is_place-first notes next key h = record {
  verdict = verdict_in-more notes next key ∙ (ap (λ a. first_of_two a (settled_in key next)) h ∙ sym (ap (option_and_then (settled_in key)) (slice_get-last notes next)));
  first = ap (λ ns. verdict_in ns key) (take-append_seam notes (next ∷ [])) ∙ h;
}

-- ---- a call that a note settles

note_says-nothing : (next : Note) (key : CallKey) → ((call : CallKey) (outcome : Outcome) → next ≡ note.Settled call outcome → ⊥) → settled_in key next ≡ None
note_says-nothing (note.Settled call outcome) key h = absurd (h call outcome refl)
note_says-nothing other key h = refl

other_call : (call key : CallKey) (outcome : Outcome) (next : Note) → next ≡ note.Settled call outcome → same_call call key ≡ false → settled_in key next ≡ None
other_call call key outcome next is apart = ap (settled_in key) is ∙ ap (λ b. cond b (Some (verdict_of_outcome outcome)) None) apart

-- a map finds keys apart where the calls are
compared : (a b : CallKey) → is_eq (ordering_then (nat_cmp a.lane b.lane) (nat_cmp a.place b.place)) ≡ same_call a b
compared a b = sym (both_tied (a.lane == b.lane) (a.place == b.place) (nat_cmp a.lane b.lane) (nat_cmp a.place b.place) (unsigned_ties a.lane b.lane) (unsigned_ties a.place b.place))

key_of : ℕ → ℕ → CallKey
key_of lane place = record { lane = lane; place = place }

call-same : (a b : CallKey) → same_call a b ≡ true → a ≡ b
unfolding key_of
call-same a b h =
    let lanes : a.lane ≡ b.lane = grind (arith, nat_tests) in
    let places : a.place ≡ b.place = grind (arith, nat_tests) in
    let e : key_of a.lane a.place ≡ key_of b.lane b.place = cc in e

-- the note settles a call that no note has settled, and its place is kept
pub is_place-insert : (notes : List Note) (next : Note) (call : CallKey) (outcome : Outcome) (verdict : Option Verdict) (old new : BTreeMap (ℕ × ℕ) ℕ)
    → next ≡ note.Settled call outcome → verdict ≡ verdict_at notes call (place_of old call) → is_some verdict ≡ false
    → Updates (λ a b. ordering_then (nat_cmp a.0 b.0) (nat_cmp a.1 b.1)) old new (call.lane, call.place) (Some (length notes))
    → ((key : CallKey) → IsPlaceOf notes key (place_of old key)) → (key : CallKey) → IsPlaceOf (notes ++ next ∷ []) key (place_of new key)
is_place-insert notes next call outcome verdict old new is said none update before key =
    ⊎_elim
    (λ same.
    let e = call-same call key same in
    let placed : place_of new key ≡ Some (length notes) = ap (place_of new) (sym e) ∙ update.1 in
    let open_call = (before call).verdict ∙ (sym said ∙ none_from_is_some verdict none) in
    subst (IsPlaceOf (notes ++ next ∷ []) key) (sym placed) (is_place-first notes next key (ap (verdict_in notes) (sym e) ∙ open_call)))
    (λ apart.
    let kept : place_of new key ≡ place_of old key = update.2 (key.lane, key.place) (compared call key ∙ apart) in
    subst (IsPlaceOf (notes ++ next ∷ []) key) (sym kept) (is_place-silent notes next key (place_of old key) (other_call call key outcome next is apart) (before key)))
    (cases_Bool (same_call call key))

-- the note settles a call once more
pub is_place-again : (notes : List Note) (next : Note) (call : CallKey) (outcome : Outcome) (verdict : Option Verdict) (places : BTreeMap (ℕ × ℕ) ℕ)
    → next ≡ note.Settled call outcome → verdict ≡ verdict_at notes call (place_of places call) → is_some verdict ≡ true
    → ((key : CallKey) → IsPlaceOf notes key (place_of places key)) → (key : CallKey) → IsPlaceOf (notes ++ next ∷ []) key (place_of places key)
is_place-again notes next call outcome verdict places is said some before key =
    ⊎_elim
    (λ same.
    let e = call-same call key same in
    let settled = (before call).verdict ∙ sym said in
    let (v, f) = some_from_is_some verdict some in
    is_place-settled notes next key (place_of places key) v (ap (verdict_in notes) (sym e) ∙ (settled ∙ f)) (before key))
    (λ apart. is_place-silent notes next key (place_of places key) (other_call call key outcome next is apart) (before key))
    (cases_Bool (same_call call key))

-- the note settles no call
pub is_place-none : (notes : List Note) (next : Note) (places : BTreeMap (ℕ × ℕ) ℕ) → ((call : CallKey) (outcome : Outcome) → next ≡ note.Settled call outcome → ⊥)
    → ((key : CallKey) → IsPlaceOf notes key (place_of places key)) → (key : CallKey) → IsPlaceOf (notes ++ next ∷ []) key (place_of places key)
is_place-none notes next places h before key = is_place-silent notes next key (place_of places key) (note_says-nothing next key h) (before key)

-- ---- notes were dropped

skip : (a b : Option Verdict) → a ≡ None → first_of_two a b ≡ b
skip None b h = refl
skip (Some v) b h = absurd (cc)

absorb : (a b c : Option Verdict) → first_of_two a b ≡ a → (b ≡ None → c ≡ None) → first_of_two a c ≡ a
absorb None b c h less = less h
absorb (Some v) b c h less = refl

take-at : (notes : List Note) (n i : ℕ) (key : CallKey) → verdict_in notes key ≡ option_and_then (settled_in key) (slice_get notes i) → verdict_in (take i notes) key ≡ None
    → verdict_in (take n notes) key ≡ option_and_then (settled_in key) (slice_get (take n notes) i)
take-at notes zero i key h g = refl
take-at [] (suc n) i key h g = refl
take-at (x ∷ xs) (suc n) zero key h g = absorb (settled_in key x) (verdict_in xs key) (verdict_in (take n xs) key) h (verdict_in-take n xs key)
take-at (x ∷ xs) (suc n) (suc i) key h g =
    let silent = none-left (settled_in key x) (verdict_in (take i xs) key) g in
    skip (settled_in key x) (verdict_in (take n xs) key) silent
    ∙ take-at xs n i key (sym (skip (settled_in key x) (verdict_in xs key) silent) ∙ h) (none-right (settled_in key x) (verdict_in (take i xs) key) g)

take-first : (notes : List Note) (n i : ℕ) (key : CallKey) → verdict_in (take i notes) key ≡ None → verdict_in (take i (take n notes)) key ≡ None
take-first notes n zero key h = refl
take-first notes zero (suc i) key h = refl
take-first [] (suc n) (suc i) key h = refl
take-first (x ∷ xs) (suc n) (suc i) key h =
    none-both (settled_in key x) (verdict_in (take i (take n xs)) key) (none-left (settled_in key x) (verdict_in (take i xs) key) h)
    (take-first xs n i key (none-right (settled_in key x) (verdict_in (take i xs) key) h))

-- the first n notes are left
pub is_place-take : (notes : List Note) (n : ℕ) (key : CallKey) (place : Option ℕ) → IsPlaceOf notes key place → IsPlaceOf (take n notes) key place
is_place-take notes n key None before = record { verdict = verdict_in-take n notes key before.verdict; first = tt }
is_place-take notes n key (Some i) before = record { verdict = take-at notes n i key before.verdict before.first; first = take-first notes n i key before.first }

-- ---- the bytes that went to a worker

sent-more : (notes : List Note) (next : Note) (worker : WorkerKey) → sent_of (notes ++ next ∷ []) worker ≡ sent_of notes worker ++ frame_to worker (sent_in next)
sent-more notes next worker =
    flat_map-append (λ n. frame_to worker (sent_in n)) notes (next ∷ []) ∙ ap (λ b. sent_of notes worker ++ b) (append-nil (frame_to worker (sent_in next)))

pub sends-nothing : (next : Note) → ((to : WorkerKey) (payload : List ℕ) → next ≡ note.Sent to payload → ⊥)
    → ((to : WorkerKey) (id : Id) (packet : List ℕ) → next ≡ note.SentRtp to id packet → ⊥) → sent_in next ≡ None
sends-nothing (note.Sent to payload) h g = absurd (h to payload refl)
sends-nothing (note.SentRtp to id packet) h g = absurd (g to id packet refl)
sends-nothing other h g = refl

sent-silent : (notes : List Note) (next : Note) (worker : WorkerKey) → sent_in next ≡ None → sent_of (notes ++ next ∷ []) worker ≡ sent_of notes worker
sent-silent notes next worker h =
    sent-more notes next worker ∙ (ap (λ s. sent_of notes worker ++ frame_to worker s) h ∙ append-nil (sent_of notes worker))

picked-bytes : (b : Bool) (xs ys : List ℕ) → cond b (xs ++ ys) xs ≡ xs ++ cond b ys []
picked-bytes true xs ys = refl
picked-bytes false xs ys = sym (append-nil xs)

-- the frame is added to the bytes of its worker
sent-framed : (notes : List Note) (next : Note) (to worker : WorkerKey) (payload : List ℕ) → sent_in next ≡ Some (to, payload)
    → sent_of (notes ++ next ∷ []) worker ≡ cond (same_worker to worker) (sent_of notes worker ++ frame payload) (sent_of notes worker)
sent-framed notes next to worker payload is =
    sent-more notes next worker
    ∙ (ap (λ s. sent_of notes worker ++ frame_to worker s) is ∙ sym (picked-bytes (same_worker to worker) (sent_of notes worker) (frame payload)))

-- ---- the indexes with one more note

settles-none : (next : Note) (sent : WorkerKey × List ℕ) → sent_in next ≡ Some sent → (call : CallKey) (outcome : Outcome) → next ≡ note.Settled call outcome → ⊥
settles-none next sent is call outcome other = let clash : None ≡ Some sent = sym (ap sent_in other) ∙ is in cc

pub indexed-sent : (notes : List Note) (next : Note) (places : BTreeMap (ℕ × ℕ) ℕ) (sent sent' : SentBytes) (to : WorkerKey) (payload : List ℕ)
    → sent_in next ≡ Some (to, payload) → AreIndexed notes places sent
    → ((w : WorkerKey) → bytes_to sent' w ≡ cond (same_worker to w) (bytes_to sent w ++ frame payload) (bytes_to sent w)) → AreIndexed (notes ++ next ∷ []) places sent'
indexed-sent notes next places sent sent' to payload is indexed grown = record {
  settled = is_place-none notes next places (settles-none next (to, payload) is) indexed.settled;
  bytes = λ w.
      grown w
      ∙ (ap (λ b. cond (same_worker to w) (b ++ frame payload) b) (indexed.bytes w)
      ∙ sym (sent-framed notes next to w payload is));
}

pub indexed-placed : (notes : List Note) (next : Note) (places places' : BTreeMap (ℕ × ℕ) ℕ) (sent : SentBytes)
    → sent_in next ≡ None → AreIndexed notes places sent
    → ((key : CallKey) → IsPlaceOf (notes ++ next ∷ []) key (place_of places' key)) → AreIndexed (notes ++ next ∷ []) places' sent
indexed-placed notes next places places' sent h indexed placed =
    record { settled = placed; bytes = λ w. indexed.bytes w ∙ sym (sent-silent notes next w h) }

-- ---- the indexes without the last note

cut-at : (b : Bool) (xs ys zs : List ℕ) (n : ℕ) → zs ≡ cond b (xs ++ ys) xs → n ≡ length ys → cond b (take (length zs - n) zs) zs ≡ xs
cut-at true xs ys zs n e is =
    let size : length zs - n ≡ length xs = omega (arith, ap length e, length-append xs ys) in
    ap (λ k. take k zs) size ∙ (ap (take (length xs)) e ∙ take-append_seam xs ys)
cut-at false xs ys zs n e is = e

pub indexed-cut : (notes front : List Note) (next : Note) (places : BTreeMap (ℕ × ℕ) ℕ) (sent sent' : SentBytes) (to : WorkerKey) (payload : List ℕ) (count : ℕ)
    → notes ≡ front ++ next ∷ [] → sent_in next ≡ Some (to, payload) → count ≡ 4 + length payload → AreIndexed notes places sent
    → ((w : WorkerKey) → bytes_to sent' w ≡ cond (same_worker to w) (take (length (bytes_to sent w) - count) (bytes_to sent w)) (bytes_to sent w)) → AreIndexed front places sent'
indexed-cut notes front next places sent sent' to payload count is sends size indexed cut = record {
  settled = λ key.
      subst (λ ns. IsPlaceOf ns key (place_of places key)) (ap (take (length front)) is ∙ take-append_seam front (next ∷ []))
      (is_place-take notes (length front) key (place_of places key) (indexed.settled key));
  bytes = λ w.
      cut w
      ∙ cut-at (same_worker to w) (sent_of front w) (frame payload) (bytes_to sent w) count
      (indexed.bytes w ∙ (ap (λ ns. sent_of ns w) is ∙ sent-framed front next to w payload sends))
      (omega (arith, size));
}

pub indexed-popped : (notes front : List Note) (next : Note) (places : BTreeMap (ℕ × ℕ) ℕ) (sent : SentBytes) → notes ≡ front ++ next ∷ []
    → sent_in next ≡ None → AreIndexed notes places sent → AreIndexed front places sent
indexed-popped notes front next places sent is h indexed = record {
  settled = λ key.
      subst (λ ns. IsPlaceOf ns key (place_of places key)) (ap (take (length front)) is ∙ take-append_seam front (next ∷ []))
      (is_place-take notes (length front) key (place_of places key) (indexed.settled key));
  bytes = λ w. indexed.bytes w ∙ (ap (λ ns. sent_of ns w) is ∙ sent-silent front next w h);
}
