-- What a reader of frames answers, from what it finds at the front of its unread bytes.
use Rattle.std.proofs.Common.{◌≡◌, ◌↔◌, ℕ, ◌+◌, ◌-◌, List, [], ◌∷◌, ◌++◌, length, take, drop, min, true, false, Some, None, Ok, Err, refl, sym, ap, ◌∙◌, subst}
use Rattle.std.proofs.lemmas.List.{drop-drop}
use Rattle.channel_frames.specs.Frames.{told_length, begins_with_frame, begins_too_long, frames, rest_of, is_broken, break_length}
use Rattle.channel_frames.specs.Reading.{Reading, max_place, without_frame, answer_of, left_of, drained}
use Rattle.std.specs.Option.{option_to_list}
use Rattle.std.specs.Result.{IfOk, OnOk, OnErr, MatchResult, IsErrAnd}
use Rattle.channel_frames.specs.declared.fault.FrameFault.{FrameFault}
use Rattle.channel_frames.specs.declared.fault.FrameFault.TheVariants as fault
use Rattle.channel_frames.proofs.FramesLemmas.{first_of, behind, frames-more, frames-none, rest_of-none, is_broken-append}
use Rattle.channel_frames.proofs.Front.{from_place}
use Rattle.channel_frames.proofs.CallLemmas.{Answer, break_of, cases, hands, broken, ended, none-exactly, break-exactly, answer-broken, answer-end, left-empty, left-payload, uncons, no_cons, frames-left, rest_of-left, drained-next}

-- ---- the answer without a payload

pub breaks-here : (place n : ℕ) (u : List ℕ) → begins_with_frame u ≡ false → begins_too_long u ≡ true → n ≡ told_length u
    → (let a : Answer = Err (fault.TooLong place n) in a) ≡ answer_of (record { place = place; unread = u })
breaks-here place n u f over told =
    let r : Reading = record { place = place; unread = u } in
    let same : n ≡ break_length u = told ∙ ap (λ (l : List ℕ). told_length l) (sym (rest_of-none u f)) in
    ap (λ (m : ℕ). let a : Answer = Err (fault.TooLong place m) in a) same
    ∙ sym (answer-broken r (frames-none u f) (ap (λ (l : List ℕ). begins_too_long l) (rest_of-none u f) ∙ over))

pub ends-here : (place : ℕ) (u : List ℕ) → begins_with_frame u ≡ false → begins_too_long u ≡ false
    → (let a : Answer = Ok None in a) ≡ answer_of (record { place = place; unread = u })
ends-here place u f none =
    let r : Reading = record { place = place; unread = u } in
    sym (answer-end r (frames-none u f) (ap (λ (l : List ℕ). begins_too_long l) (rest_of-none u f) ∙ none))

-- ---- all that a call for the next payload tells

abbrev pub Answers : Reading → Answer → Reading → Type 0
Answers old answer new = record {
  payload : (first : List ℕ) (later : List (List ℕ)) → frames old.unread ≡ first ∷ later
      → MatchResult answer (λ found. found ≡ Some first) (λ wrong. wrong ≡ fault.NoMemory);
  otherwise : frames old.unread ≡ [] → answer ≡ answer_of old;
  none : (answer ≡ Ok None) ↔ ((frames old.unread ≡ []) × (is_broken old.unread ≡ false));
  too_long : (place told : ℕ) → (answer ≡ Err (fault.TooLong place told))
      ↔ ((frames old.unread ≡ []) × (is_broken old.unread ≡ true) × (place ≡ old.place) × (told ≡ break_length old.unread));
  ok : OnOk answer (new ≡ left_of old);
  err : OnErr answer (new ≡ old);
  others : IfOk answer (λ found. frames old.unread ≡ option_to_list found ++ frames new.unread);
  rest : rest_of new.unread ≡ rest_of old.unread;
  drained : drained new ≡ drained old;
}

-- where no payload is there, the answer is the one that is due
answers-due : (r : Reading) → frames r.unread ≡ [] → (a : Answer) → a ≡ answer_of r → OnOk a (r ≡ left_of r) → OnErr a (r ≡ r)
    → IfOk a (λ found. frames r.unread ≡ option_to_list found ++ frames r.unread) → Answers r a r
answers-due r e a due ok err others = record {
  payload = λ p ps h. absurd (no_cons p ps (sym h ∙ e));
  otherwise = λ _. due;
  none =
      let exactly = none-exactly r in
      (λ h. exactly.0 (sym due ∙ h), λ w. due ∙ exactly.1 w);
  too_long = λ place told.
      let exactly = break-exactly r place told in
      (λ h. exactly.0 (sym due ∙ h), λ w. due ∙ exactly.1 w);
  ok = ok;
  err = err;
  others = others;
  rest = refl;
  drained = refl;
}

pub answers-none : (now : Reading) (place : ℕ) (u : List ℕ) (a : Answer) → (let r : Reading = record { place = place; unread = u } in r) ≡ now
    → begins_with_frame u ≡ false → a ≡ answer_of (record { place = place; unread = u }) → Answers now a now
answers-none now place u a seen f due =
    let r : Reading = record { place = place; unread = u } in
    let e : frames r.unread ≡ [] = frames-none u f in
    let here : Answers r a r = elim (cases r) [
      | hands p ps h ↦ absurd (no_cons p ps (sym h ∙ e))
      | broken h b ↦
          subst (λ (x : Answer). Answers r x r) (sym (due ∙ answer-broken r h b))
          (answers-due r e (break_of r) (sym (answer-broken r h b)) tt refl tt)
      | ended h b ↦
          subst (λ (x : Answer). Answers r x r) (sym (due ∙ answer-end r h b))
          (answers-due r e (Ok None) (sym (answer-end r h b)) (sym (left-empty r e)) tt refl)
    ] in
    subst (λ (x : Reading). Answers x a x) seen here

-- where there is one, memory may be wanting
only_memory : (a : Answer) → IsErrAnd a (λ wrong. wrong ≡ fault.NoMemory) → a ≡ Err fault.NoMemory
only_memory (Err f) h = ap (λ (x : FrameFault). let a : Answer = Err x in a) h
only_memory (Ok x) h = absurd h

no_memory-ok : (let a : Answer = Err fault.NoMemory in a) ≡ Ok None → ⊥
no_memory-ok h = cc

no_memory-long : (place told : ℕ) → (let a : Answer = Err fault.NoMemory in a) ≡ Err (fault.TooLong place told) → ⊥
no_memory-long place told h = cc

no_some : (p : List ℕ) → (let a : Answer = Ok (Some p) in a) ≡ Ok None → ⊥
no_some p h = cc

no_long : (p : List ℕ) (place told : ℕ) → (let a : Answer = Ok (Some p) in a) ≡ Err (fault.TooLong place told) → ⊥
no_long p place told h = cc

pub answers-refused : (now : Reading) (place : ℕ) (u : List ℕ) (a : Answer) → (let r : Reading = record { place = place; unread = u } in r) ≡ now
    → begins_with_frame u ≡ true → IsErrAnd a (λ wrong. wrong ≡ fault.NoMemory) → Answers now a now
answers-refused now place u a seen t refused =
    let r : Reading = record { place = place; unread = u } in
    let e : frames r.unread ≡ first_of u ∷ frames (behind u) = frames-more u t in
    let none : frames r.unread ≡ [] → ⊥ = λ h. no_cons (first_of u) (frames (behind u)) (sym e ∙ h) in
    let here : Answers r (Err fault.NoMemory) r = record {
      payload = λ p ps h. refl;
      otherwise = λ h. absurd (none h);
      none = (λ h. absurd (no_memory-ok h), λ w. absurd (none w.0));
      too_long = λ place told. (λ h. absurd (no_memory-long place told h), λ w. absurd (none w.0));
      ok = tt;
      err = refl;
      others = tt;
      rest = refl;
      drained = refl;
    } in
    subst (λ (x : Reading). Answers x a x) seen
    (subst (λ (x : Answer). Answers r x r) (sym (only_memory a refused)) here)

drained-handed : (r : Reading) (p : List ℕ) (ps : List (List ℕ)) → frames r.unread ≡ p ∷ ps → drained (without_frame r p) ≡ drained r
drained-handed r p ps e = ap (λ (x : Reading). drained x) (sym (left-payload r p ps e)) ∙ drained-next r

pub answers-handed : (now : Reading) (buffer : List ℕ) (start place : ℕ) (handed : List ℕ) (len later : ℕ)
    → (let r : Reading = record { place = place; unread = drop start buffer } in r) ≡ now
    → begins_with_frame (drop start buffer) ≡ true → handed ≡ first_of (drop start buffer) → len ≡ length handed
    → later ≡ min (place + (4 + len)) max_place
    → Answers now (Ok (Some handed)) (record { place = later; unread = drop (start + (4 + len)) buffer })
answers-handed now buffer start place handed len later seen t front size told =
    let u : List ℕ = drop start buffer in
    let r : Reading = record { place = place; unread = u } in
    let e : frames u ≡ handed ∷ frames (behind u) =
    frames-more u t ∙ ap (λ (p : List ℕ). p ∷ frames (behind u)) (sym front) in
    let new : Reading = record { place = later; unread = drop (start + (4 + len)) buffer } in
    let left : new ≡ without_frame r handed =
    ap (λ (n : ℕ). let x : Reading = record { place = n; unread = drop (start + (4 + len)) buffer } in x) told
    ∙ ap (λ (l : List ℕ). let x : Reading = record { place = min (place + (4 + len)) max_place; unread = l } in x) (sym (drop-drop (4 + len) start buffer))
    ∙ ap (λ (n : ℕ). let x : Reading = record { place = min (place + (4 + n)) max_place; unread = drop (4 + n) u } in x) size in
    let here : Answers r (Ok (Some handed)) (without_frame r handed) = record {
      payload = λ p ps h. ap (λ (x : List ℕ). Some x) (let same = uncons handed p (frames (behind u)) ps (sym e ∙ h) in same.0);
      otherwise = λ h. absurd (no_cons handed (frames (behind u)) (sym e ∙ h));
      none = (λ h. absurd (no_some handed h), λ w. absurd (no_cons handed (frames (behind u)) (sym e ∙ w.0)));
      too_long = λ place told. (
        λ h. absurd (no_long handed place told h),
        λ w. absurd (no_cons handed (frames (behind u)) (sym e ∙ w.0)),
      );
      ok = sym (left-payload r handed (frames (behind u)) e);
      err = tt;
      others = e ∙ ap (λ (l : List (List ℕ)). handed ∷ l) (sym (frames-left u handed (frames (behind u)) e));
      rest = rest_of-left u handed (frames (behind u)) e;
      drained = drained-handed r handed (frames (behind u)) e;
    } in
    subst (λ (x : Reading). Answers x (Ok (Some handed)) new) seen
    (subst (λ (x : Reading). Answers r (Ok (Some handed)) x) (sym left) here)

-- the unread bytes as a slice of the buffer, and what contracts see with it
pub sliced : (buffer bytes : List ℕ) (start : ℕ) → bytes ≡ buffer → take (length bytes - start) (drop start bytes) ≡ drop start buffer
sliced buffer bytes start e = from_place start bytes ∙ ap (λ (l : List ℕ). drop start l) e

pub as-seen : (buffer bytes : List ℕ) (start place : ℕ) (now : Reading) → bytes ≡ buffer
    → (let r : Reading = record { place = place; unread = drop start buffer } in r) ≡ now
    → (let r : Reading = record { place = place; unread = take (length bytes - start) (drop start bytes) } in r) ≡ now
as-seen buffer bytes start place now e seen =
    ap (λ (l : List ℕ). let r : Reading = record { place = place; unread = l } in r) (sliced buffer bytes start e) ∙ seen

pub breaks-behind : (u slice rest piece : List ℕ) → slice ≡ u → rest ≡ rest_of slice → is_broken (rest ++ piece) ≡ is_broken (u ++ piece)
breaks-behind u slice rest piece e h =
    ap (λ (l : List ℕ). is_broken (l ++ piece)) (h ∙ ap (λ (l : List ℕ). rest_of l) e) ∙ sym (is_broken-append u piece)
