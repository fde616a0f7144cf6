-- What a list of calls hands out and leaves, against all bytes that it feeds.
use Rattle.std.proofs.Common.{◌≡◌, ◌↔◌, ◌≤◌, ℕ, ◌+◌, List, [], ◌∷◌, ◌++◌, length, drop, min, Bool, true, false, cond, Option, Some, None, Result, Ok, Err, refl, sym, ap, ◌∙◌, subst, inl, inr, arith}
use Rattle.std.proofs.lemmas.List.{append_assoc, append-nil, length-append}
use Rattle.channel_frames.specs.Frames.{told_length, begins_with_frame, begins_too_long, frames, rest_of, is_broken, break_place, break_length}
use Rattle.channel_frames.specs.Reading.{Reading, max_place, told_place, unstarted, with_piece, without_frame, drained, answer_by, answer_of, left_by, left_of}
use Rattle.channel_frames.specs.Calls.{Call, feed, next, bytes_fed, state_after, handed_before, handed_out}
use Rattle.channel_frames.specs.Laws.{HandsOut}
use Rattle.channel_frames.specs.declared.fault.FrameFault.{FrameFault}
use Rattle.channel_frames.specs.declared.fault.FrameFault.TheVariants as fault
use Rattle.channel_frames.proofs.FramesLemmas.{first_of, behind, true_or_false, frames-more, frames-none, rest_of-more, frames-append, rest_of-append}
use Rattle.channel_frames.proofs.SplitLemmas.{length-first_of}
use Rattle.channel_frames.proofs.BreakLemmas.{size_of, size-cons, size-append, rest_of-no_frames, break_place-append, stays_broken}

abbrev pub Answer : Type 0
Answer = Result (Option (List ℕ)) FrameFault

-- ---- the answer, by whether the unread bytes have a frame and are broken

abbrev pub break_of : Reading → Answer
break_of r = Err (fault.TooLong r.place (break_length r.unread))

answer-test : (b : Bool) (x y z : Answer) → b ≡ true → x ≡ cond b y z → x ≡ y
answer-test true x y z h e = e
answer-test false x y z h e = absurd cc

answer-other : (b : Bool) (x y z : Answer) → b ≡ false → x ≡ cond b y z → x ≡ z
answer-other false x y z h e = e
answer-other true x y z h e = absurd cc

answer-empty : (r : Reading) → frames r.unread ≡ [] → answer_of r ≡ cond (is_broken r.unread) (break_of r) (Ok None)
answer-empty r h = ap (λ (ps : List (List ℕ)). answer_by r ps) h

pub answer-broken : (r : Reading) → frames r.unread ≡ [] → is_broken r.unread ≡ true → answer_of r ≡ break_of r
answer-broken r h b = answer-test (is_broken r.unread) (answer_of r) (break_of r) (Ok None) b (answer-empty r h)

pub answer-end : (r : Reading) → frames r.unread ≡ [] → is_broken r.unread ≡ false → answer_of r ≡ Ok None
answer-end r h b = answer-other (is_broken r.unread) (answer_of r) (break_of r) (Ok None) b (answer-empty r h)

pub answer-payload : (r : Reading) (p : List ℕ) (ps : List (List ℕ)) → frames r.unread ≡ p ∷ ps → answer_of r ≡ Ok (Some p)
answer-payload r p ps h = ap (λ (l : List (List ℕ)). answer_by r l) h

pub left-empty : (r : Reading) → frames r.unread ≡ [] → left_of r ≡ r
left-empty r h = ap (λ (l : List (List ℕ)). left_by r l) h

pub left-payload : (r : Reading) (p : List ℕ) (ps : List (List ℕ)) → frames r.unread ≡ p ∷ ps → left_of r ≡ without_frame r p
left-payload r p ps h = ap (λ (l : List (List ℕ)). left_by r l) h

-- the three cases of an answer
pub data Cases (r : Reading) : Type 0 where
  hands : (p : List ℕ) → (ps : List (List ℕ)) → frames r.unread ≡ p ∷ ps → Cases r
  broken : frames r.unread ≡ [] → is_broken r.unread ≡ true → Cases r
  ended : frames r.unread ≡ [] → is_broken r.unread ≡ false → Cases r

cases_by : (r : Reading) (ps : List (List ℕ)) → frames r.unread ≡ ps → Cases r
cases_by r (p ∷ ps) h = hands p ps h
cases_by r [] h = elim (true_or_false (is_broken r.unread)) [
  | inl t ↦ broken h t
  | inr f ↦ ended h f
]

pub cases : (r : Reading) → Cases r
cases r = cases_by r (frames r.unread) refl

not-break : (p : List ℕ) (a : Answer) (f : FrameFault) → a ≡ Ok (Some p) → a ≡ Err f → ⊥
not-break p a f h k = cc

some-none : (p : List ℕ) (a : Answer) → a ≡ Ok (Some p) → a ≡ Ok None → ⊥
some-none p a h k = cc

none-break : (a : Answer) (f : FrameFault) → a ≡ Ok None → a ≡ Err f → ⊥
none-break a f h k = cc

same-break : (a : Answer) (p q m n : ℕ) → a ≡ Err (fault.TooLong p m) → a ≡ Err (fault.TooLong q n) → (q ≡ p) × (n ≡ m)
same-break a p q m n h k = (cc, cc)

pub none-exactly : (r : Reading) → (answer_of r ≡ Ok None) ↔ ((frames r.unread ≡ []) × (is_broken r.unread ≡ false))
none-exactly r = (
  λ h. elim (cases r) [
    | hands p ps e ↦ absurd (some-none p (answer_of r) (answer-payload r p ps e) h)
    | broken e b ↦ absurd (none-break (answer_of r) _ h (answer-broken r e b))
    | ended e b ↦ (e, b)
  ],
  λ w. answer-end r w.0 w.1,
)

pub break-exactly : (r : Reading) (place told : ℕ) → (answer_of r ≡ Err (fault.TooLong place told))
    ↔ ((frames r.unread ≡ []) × (is_broken r.unread ≡ true) × (place ≡ r.place) × (told ≡ break_length r.unread))
break-exactly r place told = (
  λ h. elim (cases r) [
    | hands p ps e ↦ absurd (not-break p (answer_of r) _ (answer-payload r p ps e) h)
    | broken e b ↦
        let same = same-break (answer_of r) r.place place (break_length r.unread) told (answer-broken r e b) h in
        (e, b, same.0, same.1)
    | ended e b ↦ absurd (none-break (answer_of r) _ (answer-end r e b) h)
  ],
  λ w. answer-broken r w.0 w.1
      ∙ ap (λ (n : ℕ). let a : Answer = Err (fault.TooLong n (break_length r.unread)) in a) (sym w.2)
      ∙ ap (λ (n : ℕ). let a : Answer = Err (fault.TooLong place n) in a) (sym w.3),
)

-- ---- the frames of the unread bytes, without the first

pub uncons : (p q : List ℕ) (ps qs : List (List ℕ)) → p ∷ ps ≡ q ∷ qs → (p ≡ q) × (ps ≡ qs)
uncons p q ps qs h = (cc, cc)

pub no_cons : (p : List ℕ) (ps : List (List ℕ)) → p ∷ ps ≡ [] → ⊥
no_cons p ps h = cc

-- a payload at the front, and what stands behind its frame
pub record Front (s : List ℕ) (p : List ℕ) (ps : List (List ℕ)) : Type 0 where
  pub begins : begins_with_frame s ≡ true
  pub payload : p ≡ first_of s
  pub size : length p ≡ told_length s
  pub left : drop (4 + length p) s ≡ behind s
  pub others : ps ≡ frames (behind s)

pub front : (s : List ℕ) (p : List ℕ) (ps : List (List ℕ)) → frames s ≡ p ∷ ps → Front s p ps
front s p ps h = elim (true_or_false (begins_with_frame s)) [
  | inl t ↦
      let same = uncons p (first_of s) ps (frames (behind s)) (sym h ∙ frames-more s t) in
      let size : length p ≡ told_length s = ap (λ (l : List ℕ). length l) same.0 ∙ length-first_of s t in
      record {
        begins = t;
        payload = same.0;
        size = size;
        left = ap (λ (n : ℕ). drop (4 + n) s) size;
        others = same.1;
      }
  | inr f ↦ absurd (no_cons p ps (sym h ∙ frames-none s f))
]

pub frames-left : (s : List ℕ) (p : List ℕ) (ps : List (List ℕ)) → frames s ≡ p ∷ ps → frames (drop (4 + length p) s) ≡ ps
frames-left s p ps h = let w = front s p ps h in ap (λ (l : List ℕ). frames l) w.left ∙ sym w.others

pub rest_of-left : (s : List ℕ) (p : List ℕ) (ps : List (List ℕ)) → frames s ≡ p ∷ ps → rest_of (drop (4 + length p) s) ≡ rest_of s
rest_of-left s p ps h = let w = front s p ps h in ap (λ (l : List ℕ). rest_of l) w.left ∙ sym (rest_of-more s w.begins)

-- ---- a list of calls

-- all bytes so far, the payloads handed out of them, and what is left
pub record Holds (all : List ℕ) (out : List (List ℕ)) (r : Reading) : Type 0 where
  pub first : frames all ≡ out ++ frames r.unread
  pub rest : rest_of r.unread ≡ rest_of all
  pub place : r.place ≡ told_place (size_of out)

fed-holds : (all : List ℕ) (out : List (List ℕ)) (r : Reading) (piece : List ℕ) → Holds all out r → Holds (all ++ piece) out (with_piece r piece)
fed-holds all out r piece h = record {
  first =
      frames-append all piece
      ∙ ap (λ (l : List ℕ). frames all ++ frames (l ++ piece)) (sym h.rest)
      ∙ ap (λ (l : List (List ℕ)). l ++ frames (rest_of r.unread ++ piece)) h.first
      ∙ append_assoc out (frames r.unread) (frames (rest_of r.unread ++ piece))
      ∙ ap (λ (l : List (List ℕ)). out ++ l) (sym (frames-append r.unread piece));
  rest =
      rest_of-append r.unread piece
      ∙ ap (λ (l : List ℕ). rest_of (l ++ piece)) h.rest
      ∙ sym (rest_of-append all piece);
  place = h.place;
}

told-sum : (place out first all : ℕ) → place ≡ min out max_place → all ≡ out + (4 + first + 0) → min (place + (4 + first)) max_place ≡ min all max_place
told-sum place out first all e h = omega arith

left-holds : (all : List ℕ) (out : List (List ℕ)) (r : Reading) (p : List ℕ) (ps : List (List ℕ)) → frames r.unread ≡ p ∷ ps → Holds all out r
    → Holds all (out ++ p ∷ []) (without_frame r p)
left-holds all out r p ps e h = record {
  first =
      h.first
      ∙ ap (λ (l : List (List ℕ)). out ++ l) (e ∙ ap (λ (l : List (List ℕ)). p ∷ l) (sym (frames-left r.unread p ps e)))
      ∙ sym (append_assoc out (p ∷ []) (frames (drop (4 + length p) r.unread)));
  rest = rest_of-left r.unread p ps e ∙ h.rest;
  place =
      told-sum r.place (size_of out) (length p) (size_of (out ++ p ∷ [])) h.place
      (size-append out (p ∷ []) ∙ ap (λ (n : ℕ). size_of out + n) (size-cons p []));
}

moved : (all more : List ℕ) (out others : List (List ℕ)) (r : Reading) → all ≡ more → out ≡ others → Holds all out r → Holds more others r
moved all more out others r e h holds =
    subst (λ (l : List ℕ). Holds l others r) e (subst (λ (l : List (List ℕ)). Holds all l r) h holds)

next-holds : (all : List ℕ) (out : List (List ℕ)) (r : Reading) → Holds all out r → Holds all (out ++ handed_before (answer_of r) []) (left_of r)
next-holds all out r h = elim (cases r) [
  | hands p ps e ↦
      moved all all (out ++ p ∷ []) (out ++ handed_before (answer_of r) []) (left_of r) refl
      (ap (λ (a : Answer). out ++ handed_before a []) (sym (answer-payload r p ps e)))
      (subst (λ (s : Reading). Holds all (out ++ p ∷ []) s) (sym (left-payload r p ps e)) (left-holds all out r p ps e h))
  | broken e b ↦
      moved all all out (out ++ handed_before (answer_of r) []) (left_of r) refl
      (sym (ap (λ (a : Answer). out ++ handed_before a []) (answer-broken r e b) ∙ append-nil out))
      (subst (λ (s : Reading). Holds all out s) (sym (left-empty r e)) h)
  | ended e b ↦
      moved all all out (out ++ handed_before (answer_of r) []) (left_of r) refl
      (sym (ap (λ (a : Answer). out ++ handed_before a []) (answer-end r e b) ∙ append-nil out))
      (subst (λ (s : Reading). Holds all out s) (sym (left-empty r e)) h)
]

before-append : (a : Answer) (ps : List (List ℕ)) → handed_before a [] ++ ps ≡ handed_before a ps
before-append (Ok (Some p)) ps = refl
before-append (Ok None) ps = refl
before-append (Err f) ps = refl

calls-hold : (calls : List Call) (all : List ℕ) (out : List (List ℕ)) (r : Reading) → Holds all out r
    → Holds (all ++ bytes_fed calls) (out ++ handed_out r calls) (state_after r calls)
calls-hold [] all out r h = moved all (all ++ []) out (out ++ []) r (sym (append-nil all)) (sym (append-nil out)) h
calls-hold (feed piece ∷ calls) all out r h =
    moved ((all ++ piece) ++ bytes_fed calls) (all ++ (piece ++ bytes_fed calls))
    (out ++ handed_out (with_piece r piece) calls) (out ++ handed_out (with_piece r piece) calls) (state_after (with_piece r piece) calls)
    (append_assoc all piece (bytes_fed calls)) refl
    (calls-hold calls (all ++ piece) out (with_piece r piece) (fed-holds all out r piece h))
calls-hold (next ∷ calls) all out r h =
    moved (all ++ bytes_fed calls) (all ++ bytes_fed calls)
    ((out ++ handed_before (answer_of r) []) ++ handed_out (left_of r) calls)
    (out ++ handed_before (answer_of r) (handed_out (left_of r) calls)) (state_after (left_of r) calls)
    refl
    (append_assoc out (handed_before (answer_of r) []) (handed_out (left_of r) calls)
    ∙ ap (λ (l : List (List ℕ)). out ++ l) (before-append (answer_of r) (handed_out (left_of r) calls)))
    (calls-hold calls all (out ++ handed_before (answer_of r) []) (left_of r) (next-holds all out r h))

nothing-holds : Holds [] [] unstarted
nothing-holds = record { first = refl; rest = refl; place = refl }

held : (calls : List Call) → Holds (bytes_fed calls) (handed_out unstarted calls) (state_after unstarted calls)
held calls = calls-hold calls [] [] unstarted nothing-holds

-- ---- the laws

pub hands_out : (calls : List Call) → HandsOut calls
hands_out calls = let h = held calls in record { first = h.first; rest = h.rest; place = h.place }

no-items : (out ps all : List (List ℕ)) → all ≡ out ++ ps → out ≡ all → ps ≡ []
no-items out [] all e h = refl
no-items out (p ∷ ps) all e h =
    let sum : length all ≡ length out + length (p ∷ ps) = ap (λ (l : List (List ℕ)). length l) e ∙ length-append out (p ∷ ps) in
    let same : length out ≡ length all = ap (λ (l : List (List ℕ)). length l) h in
    absurd (omega (arith, sum, same))

-- all was handed out exactly where the unread bytes have no frame
all-out : (all : List ℕ) (out : List (List ℕ)) (r : Reading) → Holds all out r → frames r.unread ≡ [] → out ≡ frames all
all-out all out r h e = sym (h.first ∙ ap (λ (l : List (List ℕ)). out ++ l) e ∙ append-nil out)

all-left : (all : List ℕ) (out : List (List ℕ)) (r : Reading) → Holds all out r → out ≡ frames all → frames r.unread ≡ []
all-left all out r h e = no-items out (frames r.unread) (frames all) h.first e

same-broken : (all : List ℕ) (out : List (List ℕ)) (r : Reading) → Holds all out r → is_broken r.unread ≡ is_broken all
same-broken all out r h = ap (λ (l : List ℕ). begins_too_long l) h.rest

same-length : (all : List ℕ) (out : List (List ℕ)) (r : Reading) → Holds all out r → break_length r.unread ≡ break_length all
same-length all out r h = ap (λ (l : List ℕ). told_length l) h.rest

same-place : (all : List ℕ) (out : List (List ℕ)) (r : Reading) → Holds all out r → out ≡ frames all → r.place ≡ told_place (break_place all)
same-place all out r h e = h.place ∙ ap (λ (l : List (List ℕ)). told_place (size_of l)) e

pub none_is_the_end : (calls : List Call) → (answer_of (state_after unstarted calls) ≡ Ok None)
    ↔ ((handed_out unstarted calls ≡ frames (bytes_fed calls)) × (is_broken (bytes_fed calls) ≡ false))
none_is_the_end calls =
    let r : Reading = state_after unstarted calls in
    let all : List ℕ = bytes_fed calls in
    let out : List (List ℕ) = handed_out unstarted calls in
    let h : Holds all out r = held calls in
    let exactly = none-exactly r in (
      λ e. let w = exactly.0 e in (all-out all out r h w.0, sym (same-broken all out r h) ∙ w.1),
      λ w. exactly.1 (all-left all out r h w.0, same-broken all out r h ∙ w.1),
    )

pub break_is_of_the_stream : (calls : List Call) (place told : ℕ) → (answer_of (state_after unstarted calls) ≡ Err (fault.TooLong place told))
    ↔ (
    (handed_out unstarted calls ≡ frames (bytes_fed calls))
    × (is_broken (bytes_fed calls) ≡ true)
    × (place ≡ told_place (break_place (bytes_fed calls)))
    × (told ≡ break_length (bytes_fed calls))
    )
break_is_of_the_stream calls place told =
    let r : Reading = state_after unstarted calls in
    let all : List ℕ = bytes_fed calls in
    let out : List (List ℕ) = handed_out unstarted calls in
    let h : Holds all out r = held calls in
    let exactly = break-exactly r place told in (
      λ e. let w = exactly.0 e in
          let o : out ≡ frames all = all-out all out r h w.0 in
          (o, sym (same-broken all out r h) ∙ w.1, w.2 ∙ same-place all out r h o, w.3 ∙ same-length all out r h),
      λ w. exactly.1 (
        all-left all out r h w.0,
        same-broken all out r h ∙ w.1,
        w.2 ∙ sym (same-place all out r h w.0),
        w.3 ∙ sym (same-length all out r h),
      ),
    )

-- ---- what is left once all payloads were handed out

same : (place other : ℕ) (unread bytes : List ℕ) → place ≡ other → unread ≡ bytes
    → (let r : Reading = record { place = place; unread = unread } in r) ≡ record { place = other; unread = bytes }
same place other unread bytes e h =
    ap (λ (n : ℕ). let r : Reading = record { place = n; unread = unread } in r) e
    ∙ ap (λ (l : List ℕ). let r : Reading = record { place = other; unread = l } in r) h

told-twice : (a b all : ℕ) → all ≡ a + b → min (min a max_place + b) max_place ≡ min all max_place
told-twice a b all e = omega arith

told-again : (place p left all : ℕ) → all ≡ 4 + p + left → min (min (place + (4 + p)) max_place + left) max_place ≡ min (place + all) max_place
told-again place p left all e = omega arith

told-still : (place none : ℕ) → place ≤ max_place → none ≡ 0 → min (place + none) max_place ≡ place
told-still place none h e = omega arith

pub drained-next : (r : Reading) → drained (left_of r) ≡ drained r
drained-next r = elim (cases r) [
  | hands p ps e ↦
      ap (λ (x : Reading). drained x) (left-payload r p ps e)
      ∙ same (told_place ((without_frame r p).place + break_place (without_frame r p).unread)) (told_place (r.place + break_place r.unread))
      (rest_of (without_frame r p).unread) (rest_of r.unread)
      (ap (λ (l : List (List ℕ)). told_place ((without_frame r p).place + size_of l)) (frames-left r.unread p ps e)
      ∙ told-again r.place (length p) (size_of ps) (break_place r.unread) (ap (λ (l : List (List ℕ)). size_of l) e ∙ size-cons p ps))
      (rest_of-left r.unread p ps e)
  | broken e b ↦ ap (λ (x : Reading). drained x) (left-empty r e)
  | ended e b ↦ ap (λ (x : Reading). drained x) (left-empty r e)
]

pub drained-end : (r : Reading) → r.place ≤ max_place → frames r.unread ≡ [] → drained r ≡ r
drained-end r h e =
    same (told_place (r.place + break_place r.unread)) r.place (rest_of r.unread) r.unread
    (told-still r.place (break_place r.unread) h (ap (λ (l : List (List ℕ)). size_of l) e))
    (rest_of-no_frames r.unread e)

told-piece : (place first later all : ℕ) → all ≡ first + later → min (min (place + first) max_place + later) max_place ≡ min (place + all) max_place
told-piece place first later all e = omega arith

pub drained-piece : (r : Reading) (piece : List ℕ) → drained (with_piece (drained r) piece) ≡ drained (with_piece r piece)
drained-piece r piece =
    same (told_place ((drained r).place + break_place (rest_of r.unread ++ piece))) (told_place (r.place + break_place (r.unread ++ piece)))
    (rest_of (rest_of r.unread ++ piece)) (rest_of (r.unread ++ piece))
    (told-piece r.place (break_place r.unread) (break_place (rest_of r.unread ++ piece)) (break_place (r.unread ++ piece))
    (break_place-append r.unread piece))
    (sym (rest_of-append r.unread piece))

pub drained-whole : (calls : List Call) → drained (state_after unstarted calls) ≡ drained (with_piece unstarted (bytes_fed calls))
drained-whole calls =
    let r : Reading = state_after unstarted calls in
    let all : List ℕ = bytes_fed calls in
    let out : List (List ℕ) = handed_out unstarted calls in
    let h : Holds all out r = held calls in
    let size : break_place all ≡ size_of out + break_place r.unread =
    ap (λ (l : List (List ℕ)). size_of l) h.first ∙ size-append out (frames r.unread) in
    same (told_place (r.place + break_place r.unread)) (told_place (0 + break_place all)) (rest_of r.unread) (rest_of all)
    (ap (λ (n : ℕ). told_place (n + break_place r.unread)) h.place
    ∙ told-twice (size_of out) (break_place r.unread) (0 + break_place all) (omega (arith, size)))
    h.rest

-- ---- where the stream was cut has no part in what is left

ended-place : (calls : List Call) → (state_after unstarted calls).place ≤ max_place
ended-place calls = let h = held calls in let e = h.place in omega (arith, e)

ended-whole : (calls : List Call) → frames (state_after unstarted calls).unread ≡ [] → state_after unstarted calls ≡ drained (with_piece unstarted (bytes_fed calls))
ended-whole calls e = sym (drained-end (state_after unstarted calls) (ended-place calls) e) ∙ drained-whole calls

pub cuts : (calls others : List Call) → bytes_fed calls ≡ bytes_fed others
    → frames (state_after unstarted calls).unread ≡ [] → frames (state_after unstarted others).unread ≡ []
    → (handed_out unstarted calls ≡ handed_out unstarted others) × (state_after unstarted calls ≡ state_after unstarted others)
cuts calls others e first later = (
  all-out (bytes_fed calls) (handed_out unstarted calls) (state_after unstarted calls) (held calls) first
      ∙ ap (λ (l : List ℕ). frames l) e
      ∙ sym (all-out (bytes_fed others) (handed_out unstarted others) (state_after unstarted others) (held others) later),
  ended-whole calls first ∙ ap (λ (l : List ℕ). drained (with_piece unstarted l)) e ∙ sym (ended-whole others later),
)

-- ---- a break is the last answer

pub last_answer : (r : Reading) (place told : ℕ) → answer_of r ≡ Err (fault.TooLong place told)
    → (left_of r ≡ r) × ((piece : List ℕ) → answer_of (with_piece r piece) ≡ Err (fault.TooLong place told))
last_answer r place told h =
    let exactly = break-exactly r place told in
    let w = exactly.0 h in (
      left-empty r w.0,
      λ piece.
          let stays = stays_broken r.unread piece w.1 in
          let again = break-exactly (with_piece r piece) place told in
          again.1 (stays.payloads ∙ w.0, stays.broken, w.2, w.3 ∙ sym stays.told),
    )
