-- Requests kept by their ids: what a look-up, one more and a filter come to.
use Rattle.std.proofs.Common.{◌≡◌, ◌≤◌, ◌<◌, ℕ, ◌+◌, List, [], ◌∷◌, ◌++◌, Bool, true, false, not, cond, Some, refl, sym, ap, ◌∙◌, inl, inr, arith, nat_eq, nat_lt, subst, map}
use Rattle.std.proofs.lemmas.Bool.{cases_Bool}
use Rattle.std.proofs.lemmas.Bool.Decides.{nat_tests}
use Rattle.std.proofs.lemmas.Map.Keys.{IsStrictlyIncreasing-from_sorted, sorted_head, sorted_tail}
use Rattle.std.proofs.lemmas.List.Elements.{All-from_recursion}
use Rattle.std.specs.BTreeMap.{is_at, insert_entry}
use Rattle.std.specs.List.{AllByRecursion, filter, find}
use Rattle.std.specs.List.Sorted.{IsStrictlyIncreasing, IsStrictlySortedBy}
use Rattle.std.specs.Map.{keys_of, values_of, lookup, remove_entry}
use Rattle.std.specs.Ordering.{nat_cmp, is_eq}
use Rattle.std.specs.declared.cmp.Ordering.TheVariants.{Less, Equal, Greater}
use Rattle.pending_calls.specs.declared.waiting.Waiting.{Waiting}
use Rattle.pending_calls.specs.Kept.{AreKept, IsKeptAt}
use Rattle.pending_calls.specs.declared.waiting.Owner.{Owner}
use Rattle.ms_base.specs.declared.keys.Serial.{Serial}
use Rattle.pending_calls.specs.Pending.{AreNumbered, PendingView, has_id, without}

abbrev pub Entries : Type 0
Entries = List (ℕ × Waiting)

-- ---- numbers compared

cmp-greater : (a b : ℕ) → b < a → nat_cmp a b ≡ Greater
cmp-greater a b h =
    let less : nat_lt a b ≡ false = grind (arith, nat_tests) in
    let same : nat_eq a b ≡ false = grind (arith, nat_tests) in
    rw less (rw same refl)

pub above : (a b : ℕ) → nat_cmp a b ≡ Less → a < b
above a b h = elim (cases_Bool (nat_lt a b)) [
  | inl t ↦ grind (arith, nat_tests)
  | inr f ↦ elim (cases_Bool (nat_eq a b)) [
    | inl t ↦ absurd (let e : Equal ≡ Less = rw f at (rw t at h) in cc)
    | inr g ↦ absurd (let e : Greater ≡ Less = rw f at (rw g at h) in cc)
  ]
]

pub is_eq-nat_cmp : (a b : ℕ) → is_eq (nat_cmp a b) ≡ nat_eq b a
is_eq-nat_cmp a b = elim (cases_Bool (nat_lt a b)) [
  | inl t ↦ (let apart : nat_eq b a ≡ false = grind (arith, nat_tests) in rw t (sym apart))
  | inr f ↦ elim (cases_Bool (nat_eq a b)) [
    | inl e ↦ (let same : nat_eq b a ≡ true = grind (arith, nat_tests) in rw f (rw e (sym same)))
    | inr g ↦ (let apart : nat_eq b a ≡ false = grind (arith, nat_tests) in rw f (rw g (sym apart)))
  ]
]

-- ---- look-ups

at-own : (last id : ℕ) (e : ℕ × Waiting) → IsKeptAt last e → is_at (nat_cmp id) e.0 ≡ has_id id e.1
at-own last id e h = is_eq-nat_cmp id e.0 ∙ ap (λ n. nat_eq n id) h.0

-- an id that is found was used
pub found-used : (last id : ℕ) (w : Waiting) (es : Entries) → AllByRecursion (IsKeptAt last) es → lookup (is_at (nat_cmp id)) es ≡ Some w → id ≤ last
found-used last id w [] h e = absurd cc
found-used last id w (d ∷ es) h e = elim (cases_Bool (is_at (nat_cmp id) d.0)) [
  | inl t ↦ (let here : nat_eq d.0 id ≡ true = sym (is_eq-nat_cmp id d.0) ∙ t in let low : d.0 ≤ last = h.0.2 in grind (arith, nat_tests))
  | inr f ↦ found-used last id w es h.1 (sym (ap (λ b. cond b (Some d.1) (lookup (is_at (nat_cmp id)) es)) f) ∙ e)
]

pub lookup-kept : (last id : ℕ) (es : Entries) → AllByRecursion (IsKeptAt last) es → lookup (is_at (nat_cmp id)) es ≡ find (has_id id) (values_of es)
lookup-kept last id [] h = refl
lookup-kept last id (e ∷ es) h =
    ap (λ b. cond b (Some e.1) (lookup (is_at (nat_cmp id)) es)) (at-own last id e h.0) ∙ ap (cond (has_id id e.1) (Some e.1)) (lookup-kept last id es h.1)

-- ---- one is taken out

others-kept : (last id : ℕ) (es : Entries) → AllByRecursion (IsKeptAt last) es → AllByRecursion (λ k. nat_cmp id k ≡ Less) (keys_of es)
    → values_of es ≡ filter (λ w. not (has_id id w)) (values_of es)
others-kept last id [] h a = refl
others-kept last id (e ∷ es) h a =
    let apart : has_id id e.1 ≡ false = (let up = above id e.0 a.0 in let own = h.0.0 in grind (arith, nat_tests)) in
    rw apart (ap (λ ws. e.1 ∷ ws) (others-kept last id es h.1 a.1))

pub values-removed : (last id : ℕ) (es : Entries) → AllByRecursion (IsKeptAt last) es → IsStrictlySortedBy nat_cmp (keys_of es)
    → values_of (remove_entry (is_at (nat_cmp id)) es) ≡ filter (λ w. not (has_id id w)) (values_of es)
values-removed last id [] h s = refl
values-removed last id (e ∷ es) h s = elim (cases_Bool (has_id id e.1)) [
  | inl t ↦
      let here : is_at (nat_cmp id) e.0 ≡ true = at-own last id e h.0 ∙ t in
      let same : e.0 ≡ id = (let own = h.0.0 in grind (arith, nat_tests)) in
      let rest = subst (λ n. AllByRecursion (λ k. nat_cmp n k ≡ Less) (keys_of es)) same (sorted_head nat_cmp e.0 (keys_of es) s) in
      rw here (rw t (others-kept last id es h.1 rest))
  | inr f ↦
      let apart : is_at (nat_cmp id) e.0 ≡ false = at-own last id e h.0 ∙ f in
      rw apart (rw f (ap (λ ws. e.1 ∷ ws) (values-removed last id es h.1 (sorted_tail nat_cmp e.0 (keys_of es) s))))
]

kept-removed : (last : ℕ) (test : ℕ → Bool) (es : Entries) → AllByRecursion (IsKeptAt last) es → AllByRecursion (IsKeptAt last) (remove_entry test es)
kept-removed last test [] h = tt
kept-removed last test (e ∷ es) h = elim (cases_Bool (test e.0)) [
  | inl t ↦ rw t h.1
  | inr f ↦ rw f (h.0, kept-removed last test es h.1)
]

pub are-kept-removed : (last : ℕ) (test : ℕ → Bool) (es fs : Entries) → fs ≡ remove_entry test es → IsStrictlySortedBy nat_cmp (keys_of fs) → AreKept es last → AreKept fs last
are-kept-removed last test es fs is s h = record {
  each = subst (AllByRecursion (IsKeptAt last)) (sym is) (kept-removed last test es h.each);
  rising = s;
}

-- ---- one more

insert-last : (k : ℕ) (w : Waiting) (last : ℕ) (es : Entries) → last < k → AllByRecursion (IsKeptAt last) es → insert_entry nat_cmp es k w ≡ es ++ (k, w) ∷ []
insert-last k w last [] up h = refl
insert-last k w last (e ∷ es) up h =
    let greater : nat_cmp k e.0 ≡ Greater = cmp-greater k e.0 (omega (arith, h.0.2)) in
    rw greater (ap (λ fs. e ∷ fs) (insert-last k w last es up h.1))

values-push : (es : Entries) (e : ℕ × Waiting) → values_of (es ++ e ∷ []) ≡ values_of es ++ e.1 ∷ []
values-push [] e = refl
values-push (d ∷ es) e = ap (λ ws. d.1 ∷ ws) (values-push es e)

kept-push : (last now : ℕ) (e : ℕ × Waiting) (es : Entries) → last ≤ now → IsKeptAt now e → AllByRecursion (IsKeptAt last) es → AllByRecursion (IsKeptAt now) (es ++ e ∷ [])
kept-push last now e [] up here h = (here, tt)
kept-push last now e (d ∷ es) up here h = ((h.0.0, h.0.1, omega (arith, h.0.2)), kept-push last now e es up here h.1)

module _ (id last : ℕ) (w : Waiting) (es fs : Entries) (next : id ≡ last + 1) (own : w.id ≡ id) (is : fs ≡ insert_entry nat_cmp es id w) (h : AreKept es last) where
  entries-issued : fs ≡ es ++ (id, w) ∷ []
  entries-issued = is ∙ insert-last id w last es (omega (arith, next)) h.each

  pub values-issued : values_of fs ≡ values_of es ++ w ∷ []
  values-issued = ap (λ gs. values_of gs) entries-issued ∙ values-push es (id, w)

  pub are-kept-issued : IsStrictlySortedBy nat_cmp (keys_of fs) → AreKept fs id
  are-kept-issued s = record {
    each = subst (AllByRecursion (IsKeptAt id)) (sym entries-issued) (kept-push last id (id, w) es (omega (arith, next)) (sym own, omega (arith, next), omega arith) h.each);
    rising = s;
  }

-- ---- what is seen

abbrev pub viewed : List Waiting → ℕ → PendingView
viewed waiting last = record { waiting = waiting; last = last }

abbrev request : ℕ → Owner → Serial → Waiting
request id owner under = record { id = id; owner = owner; under = under }

-- what is seen after a request was issued behind those seen before
abbrev issued : PendingView → Owner → Serial → PendingView
issued before owner under = viewed (before.waiting ++ request (before.last + 1) owner under ∷ []) (before.last + 1)

pub view-issued : (id last : ℕ) (owner : Owner) (under : Serial) (es fs : Entries) (before : PendingView) → viewed (values_of es) last ≡ before → id ≡ last + 1
    → fs ≡ insert_entry nat_cmp es id (request id owner under) → AreKept es last → viewed (values_of fs) id ≡ issued before owner under
view-issued id last owner under es fs before seen next is h =
    ap (λ ws. viewed ws id) (values-issued id last (request id owner under) es fs next refl is h)
    ∙ ap (λ n. viewed (values_of es ++ request n owner under ∷ []) n) next
    ∙ ap (λ v. issued v owner under) seen

pub view-settled : (id last : ℕ) (es fs : Entries) (before : PendingView) → viewed (values_of es) last ≡ before → fs ≡ remove_entry (is_at (nat_cmp id)) es → AreKept es last
    → viewed (values_of fs) last ≡ record before { waiting = without id before.waiting }
view-settled id last es fs before seen is h =
    ap (λ gs. viewed (values_of gs) last) is
    ∙ ap (λ ws. viewed ws last) (values-removed last id es h.each h.rising)
    ∙ ap (λ (v : PendingView). viewed (without id v.waiting) v.last) seen

pub found-settled : (id last : ℕ) (es : Entries) (before : PendingView) → viewed (values_of es) last ≡ before → AreKept es last
    → lookup (is_at (nat_cmp id)) es ≡ find (has_id id) before.waiting
found-settled id last es before seen h = lookup-kept last id es h.each ∙ ap (λ (v : PendingView). find (has_id id) v.waiting) seen

-- ---- a filter

pub values-filtered : (p : Waiting → Bool) (es : Entries) → values_of (filter (λ e. p e.1) es) ≡ filter p (values_of es)
values-filtered p [] = refl
values-filtered p (e ∷ es) = elim (cases_Bool (p e.1)) [
  | inl t ↦ rw t (ap (λ ws. e.1 ∷ ws) (values-filtered p es))
  | inr f ↦ rw f (values-filtered p es)
]

-- ---- ids

pub ids-keys : (last : ℕ) (es : Entries) → AllByRecursion (IsKeptAt last) es → keys_of es ≡ map (λ (w : Waiting). w.id) (values_of es)
ids-keys last [] h = refl
ids-keys last (e ∷ es) h = ap (λ n. n ∷ keys_of es) h.0.0 ∙ ap (λ ns. e.1.id ∷ ns) (ids-keys last es h.1)

used-kept : (last : ℕ) (es : Entries) → AllByRecursion (IsKeptAt last) es → AllByRecursion (λ (w : Waiting). (1 ≤ w.id) × (w.id ≤ last)) (values_of es)
used-kept last [] h = tt
used-kept last (e ∷ es) h = (((let own = h.0.0 in let low = h.0.1 in omega arith), (let own = h.0.0 in let high = h.0.2 in omega arith)), used-kept last es h.1)

pub numbered-kept : (es : Entries) (last : ℕ) → AreKept es last → AreNumbered (viewed (values_of es) last)
numbered-kept es last h = record {
  rising = subst IsStrictlyIncreasing (ids-keys last es h.each) (IsStrictlyIncreasing-from_sorted (keys_of es) h.rising);
  used = All-from_recursion (λ (w : Waiting). (1 ≤ w.id) × (w.id ≤ last)) (values_of es) (used-kept last es h.each);
}
