-- What holds of awaits from call to call.
use Rattle.std.proofs.Common.{◌≡◌, ◌+◌, ℕ, List, [], ◌∷◌, ◌++◌, Bool, true, false, ◌&&◌, cond, nat_le, Option, Some, None, bytes_eq, refl, ap, ◌∙◌, arith, map}
use Rattle.std.proofs.lemmas.Bool.{or_parts}
use Rattle.std.specs.List.{AllByRecursion}
use Rattle.ms_base.specs.declared.keys.Event.{Event}
use Rattle.ms_base.specs.declared.outcome.Outcome.{Outcome}
use Rattle.ms_base.specs.declared.outcome.Outcome.TheVariants as outcome
use Rattle.transcript.specs.declared.note.Note.{Note}
use Rattle.host_awaits.specs.Awaits.{counts, event_of, is_event, is_named, outcome_of, same_event, tells_of, times_noted, waiting_before, waiting_by}
use Rattle.host_awaits.specs.Watching.{HasNoneYet, Watched, just_entered, looked_at, touched_by}
use Rattle.host_awaits.specs.declared.entered.Await.{Await}
use Rattle.host_awaits.proofs.EntryLemmas.{all-appended}

-- ---- settling

module _ (times : List ℕ → Event → ℕ) (hopeless : List ℕ → Bool) where
  none-at : (a : Await) (o : Option Outcome) → outcome_of times hopeless a ≡ o → (others : List Await) → AllByRecursion (HasNoneYet times hopeless) (map looked_at others)
      → AllByRecursion (HasNoneYet times hopeless) (map looked_at (waiting_before a o others))
  none-at a None is others h = ((λ _. is), h)
  none-at a (Some o) is others h = h

  pub none-left : (awaits : List Await) → AllByRecursion (HasNoneYet times hopeless) (map looked_at (waiting_by times hopeless awaits))
  none-left [] = tt
  none-left (a ∷ awaits) = none-at a (outcome_of times hopeless a) refl (waiting_by times hopeless awaits) (none-left awaits)

  pub none-entered : (a : Await) (waiting : List Watched) → AllByRecursion (HasNoneYet times hopeless) waiting → AllByRecursion (HasNoneYet times hopeless) (waiting ++ just_entered a ∷ [])
  none-entered a waiting h = all-appended (HasNoneYet times hopeless) waiting (just_entered a) h (λ f. absurd (let clash : true ≡ false = f in cc))

-- ---- one look-up that has changed

outcome-same : (times after : List ℕ → Event → ℕ) (hopeless later : List ℕ → Bool) (a : Await) → after a.name a.event ≡ times a.name a.event → later a.name ≡ hopeless a.name
    → outcome_of after later a ≡ outcome_of times hopeless a
outcome-same times after hopeless later a t h = λ i. cond (nat_le a.count (t i)) (Some outcome.Done) (cond (h i) (Some outcome.Missed) None)

-- of each await that isn't touched the look-ups are the same
none-touched : (times after : List ℕ → Event → ℕ) (hopeless later : List ℕ → Bool) (is_of : List ℕ → Bool)
    → ((name : List ℕ) (e : Event) → is_of name ≡ false → after name e ≡ times name e) → ((name : List ℕ) → is_of name ≡ false → later name ≡ hopeless name)
    → (waiting : List Watched) → AllByRecursion (HasNoneYet times hopeless) waiting → AllByRecursion (HasNoneYet after later) (map (touched_by is_of) waiting)
none-touched times after hopeless later is_of t l [] h = tt
none-touched times after hopeless later is_of t l (x ∷ xs) h = (
  (λ f. let parts = or_parts x.touched (is_of x.awaited.name) f in
      outcome-same times after hopeless later x.awaited (t x.awaited.name x.awaited.event parts.1) (l x.awaited.name parts.1) ∙ h.0 parts.0),
  none-touched times after hopeless later is_of t l xs h.1,
)

not-told : (name : List ℕ) (e : Event) (told : Option (List ℕ × Event)) → is_named name told ≡ false → is_event name e told ≡ false
not-told name e None f = refl
not-told name e (Some of) f = ap (λ b. b && same_event of.1 e) f

pub none-heard : (times after : List ℕ → Event → ℕ) (hopeless : List ℕ → Bool) (note : Note) (waiting : List Watched)
    → ((name : List ℕ) (e : Event) → after name e ≡ cond (counts name e note) (times name e + 1) (times name e)) → AllByRecursion (HasNoneYet times hopeless) waiting
    → AllByRecursion (HasNoneYet after hopeless) (map (touched_by (λ name. tells_of name note)) waiting)
none-heard times after hopeless note waiting counted h =
    none-touched times after hopeless hopeless (λ name. tells_of name note)
    (λ name e f. counted name e ∙ ap (λ b. cond b (times name e + 1) (times name e)) (not-told name e (event_of note) f)) (λ name f. refl) waiting h

pub none-changed : (times : List ℕ → Event → ℕ) (hopeless after : List ℕ → Bool) (name : List ℕ) (waiting : List Watched)
    → ((other : List ℕ) → bytes_eq name other ≡ false → after other ≡ hopeless other) → AllByRecursion (HasNoneYet times hopeless) waiting
    → AllByRecursion (HasNoneYet times after) (map (touched_by (bytes_eq name)) waiting)
none-changed times hopeless after name waiting same h = none-touched times times hopeless after (bytes_eq name) (λ of e f. refl) same waiting h

-- ---- the awaits alone

pub awaits-touched : (is_of : List ℕ → Bool) (waiting : List Watched) → map (λ (x : Watched). x.awaited) (map (touched_by is_of) waiting) ≡ map (λ (x : Watched). x.awaited) waiting
awaits-touched is_of [] = refl
awaits-touched is_of (x ∷ xs) = ap (λ l. x.awaited ∷ l) (awaits-touched is_of xs)

pub awaits-looked-at : (awaits : List Await) → map (λ (x : Watched). x.awaited) (map looked_at awaits) ≡ awaits
awaits-looked-at [] = refl
awaits-looked-at (a ∷ awaits) = ap (λ l. a ∷ l) (awaits-looked-at awaits)

-- ---- notes

first-counted : (b : Bool) → cond b 1 0 + 0 ≡ cond b (0 + 1) 0
first-counted true = refl
first-counted false = refl

counted-behind : (b : Bool) (m n : ℕ) → m + cond b (n + 1) n ≡ cond b (m + n + 1) (m + n)
counted-behind true m n = omega arith
counted-behind false m n = refl

pub noted-once : (notes : List Note) (note : Note) (name : List ℕ) (e : Event) → times_noted (notes ++ note ∷ []) name e ≡ cond (counts name e note) (times_noted notes name e + 1) (times_noted notes name e)
noted-once [] note name e = first-counted (counts name e note)
noted-once (n ∷ notes) note name e =
    let before : ℕ = cond (counts name e n) 1 0 in
    ap (λ (m : ℕ). before + m) (noted-once notes note name e) ∙ counted-behind (counts name e note) before (times_noted notes name e)
