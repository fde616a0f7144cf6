-- Awaits at rest: those of whose names nothing has changed have no outcome yet.
use Rattle.std.proofs.Common.{◌≡◌, ℕ, ◌+◌, List, [], ◌∷◌, ◌++◌, map, Bool, false, ◌&&◌, cond, nat_le, Option, Some, None, refl, ap, ◌∙◌, arith}
use Rattle.std.proofs.lemmas.Bool.{or_parts, true≢false}
use Rattle.std.specs.List.{AllByRecursion}
use Rattle.ms_base.specs.declared.keys.Event.{Event}
use Rattle.ms_base.specs.declared.outcome.Outcome.TheVariants as outcome
use Rattle.transcript.specs.declared.note.Note.{Note}
use Rattle.host_awaits.specs.Awaits.{counts, event_of, is_event, is_named, outcome_of, same_event, tells_of, times_noted}
use Rattle.host_awaits.specs.Watching.{HasNoneYet, Watched, just_entered, touched_by}
use Rattle.host_awaits.specs.declared.entered.Await.{Await}
use Rattle.host_tables.specs.Kept.{is_told}

outcome-same : (times after : List ℕ → Event → ℕ) (hopeless later : List ℕ → Bool) (a : Await) → after a.name a.event ≡ times a.name a.event → later a.name ≡ hopeless a.name
    → outcome_of after later a ≡ outcome_of times hopeless a
outcome-same times after hopeless later a t h = λ i. cond (nat_le a.count (t i)) (Some outcome.Done) (cond (h i) (Some outcome.Missed) None)

-- of each await that isn't touched the look-ups are the same
pub rest-touched : (times after : List ℕ → Event → ℕ) (hopeless later : List ℕ → Bool) (is_of : List ℕ → Bool)
    → ((name : List ℕ) (e : Event) → is_of name ≡ false → after name e ≡ times name e) → ((name : List ℕ) → is_of name ≡ false → later name ≡ hopeless name)
    → (waiting : List Watched) → AllByRecursion (HasNoneYet times hopeless) waiting → AllByRecursion (HasNoneYet after later) (map (touched_by is_of) waiting)
rest-touched times after hopeless later is_of t l [] h = tt
rest-touched times after hopeless later is_of t l (x ∷ xs) h = (
  (λ f. let parts = or_parts x.touched (is_of x.awaited.name) f in
      outcome-same times after hopeless later x.awaited (t x.awaited.name x.awaited.event parts.1) (l x.awaited.name parts.1) ∙ h.0 parts.0),
  rest-touched times after hopeless later is_of t l xs h.1,
)

-- nothing was touched, and no look-up has changed
pub rest-same : (times after : List ℕ → Event → ℕ) (hopeless later : List ℕ → Bool)
    → ((name : List ℕ) (e : Event) → after name e ≡ times name e) → ((name : List ℕ) → later name ≡ hopeless name)
    → (waiting : List Watched) → AllByRecursion (HasNoneYet times hopeless) waiting → AllByRecursion (HasNoneYet after later) waiting
rest-same times after hopeless later t l [] h = tt
rest-same times after hopeless later t l (x ∷ xs) h = (
  (λ f. outcome-same times after hopeless later x.awaited (t x.awaited.name x.awaited.event) (l x.awaited.name) ∙ h.0 f),
  rest-same times after hopeless later t l xs h.1,
)

pub awaits-touched : (is_of : List ℕ → Bool) (waiting : List Watched) → map (λ (x : Watched). x.awaited) (map (touched_by is_of) waiting) ≡ map (λ (x : Watched). x.awaited) waiting
awaits-touched is_of [] = refl
awaits-touched is_of (x ∷ xs) = ap (λ l. x.awaited ∷ l) (awaits-touched is_of xs)

-- ---- notes

pub times-append : (ns ms : List Note) (name : List ℕ) (e : Event) → times_noted (ns ++ ms) name e ≡ times_noted ns name e + times_noted ms name e
times-append [] ms name e = omega arith
times-append (n ∷ ns) ms name e =
    let first : ℕ = cond (counts name e n) 1 0 in
    ap (λ m. first + m) (times-append ns ms name e) ∙ omega arith

not-counted : (name : List ℕ) (e : Event) (told : Option (List ℕ × Event)) → is_named name told ≡ false → is_event name e told ≡ false
not-counted name e None f = refl
not-counted name e (Some of) f = ap (λ b. b && same_event of.1 e) f

abbrev once_if : Bool → ℕ
once_if b = cond b 1 0

-- notes that aren't of a name don't count for it
pub none-told : (ns : List Note) (name : List ℕ) (e : Event) → is_told ns name ≡ false → times_noted ns name e ≡ 0
none-told [] name e f = refl
none-told (n ∷ ns) name e f =
    let parts = or_parts (tells_of name n) (is_told ns name) f in
    let first : once_if (counts name e n) ≡ 0 = ap once_if (not-counted name e (event_of n) parts.0) in
    omega (arith, first, none-told ns name e parts.1)

-- ---- an await more

pub rest-entered : (times : List ℕ → Event → ℕ) (hopeless : List ℕ → Bool) (a : Await) (waiting : List Watched) → AllByRecursion (HasNoneYet times hopeless) waiting
    → AllByRecursion (HasNoneYet times hopeless) (waiting ++ just_entered a ∷ [])
rest-entered times hopeless a [] h = ((λ f. absurd (true≢false f)), tt)
rest-entered times hopeless a (x ∷ xs) h = (h.0, rest-entered times hopeless a xs h.1)
