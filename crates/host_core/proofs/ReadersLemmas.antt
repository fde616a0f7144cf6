-- What a call of a reader of frames tells of its unread bytes.
use Rattle.std.proofs.Common.{◌≡◌, ◌↔◌, ℕ, List, [], ◌∷◌, ◌++◌, Bool, true, false, cond, Option, Some, None, Result, Ok, Err, IfOk, IfErr, IfSome, refl, sym, ap, subst, ◌∙◌, ◌⊎◌, inl, inr}
use Rattle.std.specs.Prelude.{OnOk, MatchResult, option_to_list}
use Rattle.channel_frames.specs.Frames.{frames, frames_within, rest_of, is_broken}
use Rattle.channel_frames.specs.Reading.{Reading, answer_of, answer_by, left_of, left_by}
use Rattle.channel_frames.specs.declared.fault.FrameFault.{FrameFault}
use Rattle.channel_frames.specs.declared.fault.FrameFault.TheVariants as fault

pub no_frames : frames [] ≡ []
unfolding frames_within
no_frames = refl

pub handed_out : (r : Result (Option (List ℕ)) FrameFault) (before after u v : List ℕ) → before ≡ u → after ≡ v
    → IfOk r (λ found. frames u ≡ option_to_list found ++ frames v) → rest_of v ≡ rest_of u
    → IfOk r (λ found. IfSome found (λ payload. (frames before ≡ payload ∷ frames after) × (rest_of after ≡ rest_of before)))
handed_out (Ok None) before after u v b a h rest = tt
handed_out (Ok (Some payload)) before after u v b a h rest =
    (ap frames b ∙ (h ∙ ap (λ (l : List ℕ). payload ∷ frames l) (sym a)), ap rest_of a ∙ (rest ∙ ap rest_of (sym b)))
handed_out (Err e) before after u v b a h rest = tt

pub none_left : (r : Result (Option (List ℕ)) FrameFault) (before after : List ℕ) (x y : Reading) → before ≡ x.unread → after ≡ y.unread
    → ((r ≡ Ok None) ↔ ((frames x.unread ≡ []) × (is_broken x.unread ≡ false))) → OnOk r (y ≡ left_of x)
    → r ≡ Ok None → (frames before ≡ []) × (after ≡ before)
none_left r before after x y b a none ok is =
    let empty : frames x.unread ≡ [] = (none.0 is).0 in
    let same : y ≡ left_of x = subst (λ (q : Result (Option (List ℕ)) FrameFault). OnOk q (y ≡ left_of x)) is ok in
    let stays : y ≡ x = same ∙ ap (left_by x) empty in
    (ap frames b ∙ empty, a ∙ (ap (λ (z : Reading). z.unread) stays ∙ sym b))

broken-empty : (x : Reading) (e : FrameFault) (b : Bool) (other : Result (Option (List ℕ)) FrameFault) → Err e ≡ cond b other (Ok None) → b ≡ true
broken-empty x e true other h = refl
broken-empty x e false other h = absurd cc

broken-by : (e : FrameFault) (x : Reading) (fs : List (List ℕ)) → frames x.unread ≡ fs
    → ((first : List ℕ) (later : List (List ℕ)) → frames x.unread ≡ first ∷ later → e ≡ fault.NoMemory)
    → (frames x.unread ≡ [] → Err e ≡ answer_of x) → (e ≡ fault.NoMemory) ⊎ (is_broken x.unread ≡ true)
broken-by e x [] is payload otherwise =
    inr (broken-empty x e (is_broken x.unread) _ (otherwise is ∙ ap (answer_by x) is))
broken-by e x (first ∷ later) is payload otherwise = inl (payload first later is)

pub broken : (r : Result (Option (List ℕ)) FrameFault) (before : List ℕ) (x : Reading) → before ≡ x.unread
    → ((first : List ℕ) (later : List (List ℕ)) → frames x.unread ≡ first ∷ later → MatchResult r (λ found. found ≡ Some first) (λ wrong. wrong ≡ fault.NoMemory))
    → (frames x.unread ≡ [] → r ≡ answer_of x)
    → IfErr r (λ wrong. (wrong ≡ fault.NoMemory) ⊎ (is_broken before ≡ true))
broken (Ok found) before x b payload otherwise = tt
broken (Err e) before x b payload otherwise = elim (broken-by e x (frames x.unread) refl payload otherwise) [
  | inl none ↦ inl none
  | inr is ↦ inr (ap is_broken b ∙ is)
]
