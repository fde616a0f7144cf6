-- Requests that are taken out: found one after another by their ids, they are those of the whole list.
use Rattle.std.proofs.Common.{◌≡◌, ◌<◌, ℕ, ◌+◌, get_or, length, take, List, [], ◌∷◌, Bool, true, false, not, cond, Option, Some, None, IfSome, refl, sym, ap, ◌∙◌, inl, inr, arith, nat_eq, nat_lt, subst, map, ◌||◌}
use Rattle.std.proofs.lemmas.Bool.{cases_Bool}
use Rattle.std.proofs.lemmas.Bool.Decides.{nat_tests}
use Rattle.std.proofs.lemmas.List.Folds.{list_any_more}
use Rattle.std.proofs.lemmas.Map.Keys.{sorted_head, sorted_tail, IsDistinct-from_sorted}
use Rattle.std.proofs.lemmas.Map.Entries.{option_filter, lookup-filter-values}
use Rattle.std.specs.BTreeMap.{BTreeMap, get, is_at}
use Rattle.std.specs.Cmp.{eq_by_cmp_equiv, nat_cmp_total}
use Rattle.std.specs.List.{AllByRecursion, filter, list_any}
use Rattle.std.specs.List.Sorted.{IsStrictlySortedBy}
use Rattle.std.specs.Map.{keys_of, values_of, lookup}
use Rattle.std.specs.Ordering.{nat_cmp, is_eq}
use Rattle.std.specs.declared.cmp.Ordering.TheVariants.{Less}
use Rattle.ms_base.specs.declared.keys.Serial.{Serial}
use Rattle.pending_calls.specs.declared.waiting.Waiting.{Waiting}
use Rattle.pending_calls.specs.Pending.{PendingView, has_id, same_serial, without}
use Rattle.pending_calls.specs.Kept.{AreKept, AreFound, passing_or, without_each, is_listed}
use Rattle.pending_calls.proofs.KeptLemmas.{Entries, above, ids-keys, is_eq-nat_cmp, found-used, values-filtered}
use Rattle.pending_calls.proofs.ListedLemmas.{found-in-range, has_number, of_object}

-- ---- one look-up

-- what passes either test
pub passing-more : (p q r : Waiting → Bool) → ((w : Waiting) → r w ≡ (p w || q w)) → (o : Option Waiting) → passing_or q o (passing_or p o None) ≡ passing_or r o None
passing-more p q r is None = refl
passing-more p q r is (Some w) = by-tests (p w) (q w) ∙ ap (λ b. cond b (Some w) None) (sym (is w)) where
  by-tests : (a b : Bool) → cond b (Some w) (cond a (Some w) None) ≡ cond (a || b) (Some w) None
  by-tests true true = refl
  by-tests true false = refl
  by-tests false true = refl
  by-tests false false = refl

-- ---- the requests of one object, id after id

-- what is found of an id once the pairs that are left were looked at too
abbrev pub filled : (Waiting → Bool) → Option Waiting → ℕ → List (ℕ × ℕ) → Option Waiting → Option Waiting
filled test asked id left found = cond (has_number id left) (passing_or test asked found) found

keeps : (b : Bool) (o : Option Waiting) → cond b o o ≡ o
keeps true o = refl
keeps false o = refl

-- all pairs of the object are left
pub filled-first : (object : Serial) (waiting : BTreeMap ℕ Waiting) (listed : _) (last : ℕ) (left : List (ℕ × ℕ)) → AreFound waiting listed last
    → left ≡ filter (of_object object.0 last) listed.keys → (found : ℕ → Option Waiting) (id : ℕ)
    → filled (λ w. same_serial object w.under) (get nat_cmp waiting id) id left (found id) ≡ passing_or (λ w. same_serial object w.under) (get nat_cmp waiting id) (found id)
filled-first object waiting listed last left h is found id = by-look-up (get nat_cmp waiting id) refl (h.by_object id) where
  by-test : (w : Waiting) (b : Bool) → same_serial object w.under ≡ b → get nat_cmp waiting id ≡ Some w → is_listed listed w.under.0 id ≡ true
      → cond (has_number id left) (cond b (Some w) (found id)) (found id) ≡ cond b (Some w) (found id)
  by-test w true own e here =
      let same : w.under.0 ≡ object.0 = grind (arith, nat_tests) in
      let low = found-used last id w waiting.entries h.by_id.each e in
      let there : has_number id left ≡ true =
      ap (has_number id) is ∙ found-in-range object.0 last id low listed.keys (subst (λ n. is_listed listed n id ≡ true) same here) in
      ap (λ b. cond b (Some w) (found id)) there
  by-test w false own e here = keeps (has_number id left) (found id)

  by-look-up : (o : Option Waiting) → get nat_cmp waiting id ≡ o → IfSome o (λ w. is_listed listed w.under.0 id ≡ true)
      → filled (λ w. same_serial object w.under) o id left (found id) ≡ passing_or (λ w. same_serial object w.under) o (found id)
  by-look-up None e here = keeps (has_number id left) (found id)
  by-look-up (Some w) e here = by-test w (same_serial object w.under) refl e here

-- ---- lists of entries with the same look-ups

less : (a b : ℕ) → a < b → nat_cmp a b ≡ Less
less a b h = let t : nat_lt a b ≡ true = grind (arith, nat_tests) in rw t refl

all-above : (q b : ℕ) → q < b → (ks : List ℕ) → AllByRecursion (λ k. nat_cmp b k ≡ Less) ks → AllByRecursion (λ k. nat_cmp q k ≡ Less) ks
all-above q b h [] a = tt
all-above q b h (k ∷ ks) a = (less q k (let up = above b k a.0 in omega arith), all-above q b h ks a.1)

none-below : (q : ℕ) (es : Entries) → AllByRecursion (λ k. nat_cmp q k ≡ Less) (keys_of es) → lookup (is_at (nat_cmp q)) es ≡ None
none-below q [] a = refl
none-below q (e ∷ es) a = ap (λ o. cond (is_eq o) (Some e.1) (lookup (is_at (nat_cmp q)) es)) a.0 ∙ none-below q es a.1

at-first : (e : ℕ × Waiting) (es : Entries) → lookup (is_at (nat_cmp e.0)) (e ∷ es) ≡ Some e.1
at-first e es =
    let here : is_at (nat_cmp e.0) e.0 ≡ true = is_eq-nat_cmp e.0 e.0 ∙ (let t : nat_eq e.0 e.0 ≡ true = grind (arith, nat_tests) in t) in
    ap (λ b. cond b (Some e.1) (lookup (is_at (nat_cmp e.0)) es)) here

before-first : (q : ℕ) (e : ℕ × Waiting) (es : Entries) → q < e.0 → IsStrictlySortedBy nat_cmp (keys_of (e ∷ es)) → lookup (is_at (nat_cmp q)) (e ∷ es) ≡ None
before-first q e es h s = none-below q (e ∷ es) (less q e.0 h, all-above q e.0 h (keys_of es) (sorted_head nat_cmp e.0 (keys_of es) s))

not-below : (e f : ℕ × Waiting) (es fs : Entries) → IsStrictlySortedBy nat_cmp (keys_of (f ∷ fs)) → ((q : ℕ) → lookup (is_at (nat_cmp q)) (e ∷ es) ≡ lookup (is_at (nat_cmp q)) (f ∷ fs)) → e.0 < f.0 → ⊥
not-below e f es fs t h low = let clash : Some e.1 ≡ None = sym (at-first e es) ∙ h e.0 ∙ before-first e.0 f fs low t in cc

first-keys : (e f : ℕ × Waiting) (es fs : Entries) → IsStrictlySortedBy nat_cmp (keys_of (e ∷ es)) → IsStrictlySortedBy nat_cmp (keys_of (f ∷ fs))
    → ((q : ℕ) → lookup (is_at (nat_cmp q)) (e ∷ es) ≡ lookup (is_at (nat_cmp q)) (f ∷ fs)) → e.0 ≡ f.0
first-keys e f es fs s t h =
    let one = not-below e f es fs t h in
    let other = not-below f e fs es s (λ q. sym (h q)) in
    elim (cases_Bool (nat_lt e.0 f.0)) [
      | inl a ↦ absurd (one (grind (arith, nat_tests)))
      | inr a ↦ elim (cases_Bool (nat_lt f.0 e.0)) [
        | inl b ↦ absurd (other (grind (arith, nat_tests)))
        | inr b ↦ grind (arith, nat_tests)
      ]
    ]

first-values : (e f : ℕ × Waiting) (es fs : Entries) → ((q : ℕ) → lookup (is_at (nat_cmp q)) (e ∷ es) ≡ lookup (is_at (nat_cmp q)) (f ∷ fs)) → e.0 ≡ f.0 → e.1 ≡ f.1
first-values e f es fs h same =
    let found : Some e.1 ≡ Some f.1 = sym (at-first e es) ∙ h e.0 ∙ ap (λ n. lookup (is_at (nat_cmp n)) (f ∷ fs)) same ∙ at-first f fs in cc

tails : (e : ℕ × Waiting) (es fs : Entries) → IsStrictlySortedBy nat_cmp (keys_of (e ∷ es)) → IsStrictlySortedBy nat_cmp (keys_of (e ∷ fs))
    → ((q : ℕ) → lookup (is_at (nat_cmp q)) (e ∷ es) ≡ lookup (is_at (nat_cmp q)) (e ∷ fs)) → (q : ℕ) → lookup (is_at (nat_cmp q)) es ≡ lookup (is_at (nat_cmp q)) fs
tails e es fs s t h q = elim (cases_Bool (is_at (nat_cmp q) e.0)) [
  | inl b ↦
      let same : e.0 ≡ q = (let found : nat_eq e.0 q ≡ true = sym (is_eq-nat_cmp q e.0) ∙ b in grind (arith, nat_tests)) in
      none-below q es (subst (λ n. AllByRecursion (λ k. nat_cmp n k ≡ Less) (keys_of es)) same (sorted_head nat_cmp e.0 (keys_of es) s))
      ∙ sym (none-below q fs (subst (λ n. AllByRecursion (λ k. nat_cmp n k ≡ Less) (keys_of fs)) same (sorted_head nat_cmp e.0 (keys_of fs) t)))
  | inr b ↦
      sym (ap (λ c. cond c (Some e.1) (lookup (is_at (nat_cmp q)) es)) b) ∙ h q ∙ ap (λ c. cond c (Some e.1) (lookup (is_at (nat_cmp q)) fs)) b
]

same-entries : (es fs : Entries) → IsStrictlySortedBy nat_cmp (keys_of es) → IsStrictlySortedBy nat_cmp (keys_of fs)
    → ((q : ℕ) → lookup (is_at (nat_cmp q)) es ≡ lookup (is_at (nat_cmp q)) fs) → es ≡ fs
same-entries [] [] s t h = refl
same-entries [] (f ∷ fs) s t h = absurd (let clash : None ≡ Some f.1 = h f.0 ∙ at-first f fs in cc)
same-entries (e ∷ es) [] s t h = absurd (let clash : None ≡ Some e.1 = sym (h e.0) ∙ at-first e es in cc)
same-entries (e ∷ es) (f ∷ fs) s t h =
    let key = first-keys e f es fs s t h in
    let value = first-values e f es fs h key in
    let same : e ≡ f = λ i. (key i, value i) in
    let t' = subst (λ (g : ℕ × Waiting). IsStrictlySortedBy nat_cmp (keys_of (g ∷ fs))) (sym same) t in
    let rest = same-entries es fs (sorted_tail nat_cmp e.0 (keys_of es) s) (sorted_tail nat_cmp f.0 (keys_of fs) t)
    (tails e es fs s t' (λ q. h q ∙ ap (λ (g : ℕ × Waiting). lookup (is_at (nat_cmp q)) (g ∷ fs)) (sym same))) in
    λ i. same i ∷ rest i

-- ---- all that pass

sorted_cons : (k : ℕ) (ks : List ℕ) → AllByRecursion (λ n. nat_cmp k n ≡ Less) ks → IsStrictlySortedBy nat_cmp ks → IsStrictlySortedBy nat_cmp (k ∷ ks)
unfolding IsStrictlySortedBy
sorted_cons k ks a s = (a, s)

keys-fewer : (p : Waiting → Bool) (k : ℕ) (es : Entries) → AllByRecursion (λ n. nat_cmp k n ≡ Less) (keys_of es) → AllByRecursion (λ n. nat_cmp k n ≡ Less) (keys_of (filter (λ e. p e.1) es))
keys-fewer p k [] a = tt
keys-fewer p k (e ∷ es) a = elim (cases_Bool (p e.1)) [
  | inl t ↦ rw t (a.0, keys-fewer p k es a.1)
  | inr f ↦ rw f (keys-fewer p k es a.1)
]

keys-filtered : (p : Waiting → Bool) (es : Entries) → IsStrictlySortedBy nat_cmp (keys_of es) → IsStrictlySortedBy nat_cmp (keys_of (filter (λ e. p e.1) es))
keys-filtered p [] s = s
keys-filtered p (e ∷ es) s =
    let rest = keys-filtered p es (sorted_tail nat_cmp e.0 (keys_of es) s) in
    let above-first = keys-fewer p e.0 es (sorted_head nat_cmp e.0 (keys_of es) s) in
    elim (cases_Bool (p e.1)) [
      | inl t ↦ rw t (sorted_cons e.0 (keys_of (filter (λ d. p d.1) es)) above-first rest)
      | inr f ↦ rw f rest
    ]

as-filter : (p : Waiting → Bool) (o : Option Waiting) → passing_or p o None ≡ option_filter p o
as-filter p None = refl
as-filter p (Some w) = refl

-- the requests that were found are those of the list that pass
pub found-all : (p : Waiting → Bool) (found waiting : BTreeMap ℕ Waiting) (last : ℕ) → AreKept waiting.entries last → IsStrictlySortedBy nat_cmp (keys_of found.entries)
    → ((id : ℕ) → get nat_cmp found id ≡ passing_or p (get nat_cmp waiting id) None) → values_of found.entries ≡ filter p (values_of waiting.entries)
found-all p found waiting last h s each =
    ap values_of (same-entries found.entries (filter (λ e. p e.1) waiting.entries) s (keys-filtered p waiting.entries h.rising)
    (λ q. each q ∙ as-filter p (get nat_cmp waiting q)
    ∙ sym (lookup-filter-values (eq_by_cmp_equiv nat_cmp_total) p q waiting.entries (IsDistinct-from_sorted nat_cmp (keys_of waiting.entries) h.rising))))
    ∙ values-filtered p waiting.entries

-- ---- the others

-- ids of a list of requests that come one after another
abbrev Rising : List Waiting → Type 0
Rising ws = IsStrictlySortedBy nat_cmp (map (λ (w : Waiting). w.id) ws)

no-earlier : (p : Waiting → Bool) (w : Waiting) (ws : List Waiting) → AllByRecursion (λ k. nat_cmp w.id k ≡ Less) (map (λ (v : Waiting). v.id) ws)
    → list_any (λ (s : Waiting). has_id s.id w) (filter p ws) ≡ false
no-earlier p w [] a = refl
no-earlier p w (v ∷ ws) a =
    let rest = no-earlier p w ws a.1 in
    let apart : has_id v.id w ≡ false = (let up = above w.id v.id a.0 in grind (arith, nat_tests)) in
    elim (cases_Bool (p v)) [
      | inl t ↦ rw t (ap (λ c. c || list_any (λ (s : Waiting). has_id s.id w) (filter p ws)) apart ∙ rest)
      | inr f ↦ rw f rest
    ]

-- the ids of those that pass are the ids of those that pass, and of no others
own-ids : (p : Waiting → Bool) (ws : List Waiting) → Rising ws → AllByRecursion (λ (w : Waiting). list_any (λ (s : Waiting). has_id s.id w) (filter p ws) ≡ p w) ws
own-ids p [] s = tt
own-ids p (v ∷ ws) s = (first (p v) refl, later ws (own-ids p ws (sorted_tail nat_cmp v.id ids s)) above-ids) where
  ids : List ℕ
  ids = map (λ (w : Waiting). w.id) ws

  above-ids : AllByRecursion (λ k. nat_cmp v.id k ≡ Less) ids
  above-ids = sorted_head nat_cmp v.id ids s

  self : has_id v.id v ≡ true
  self = grind (arith, nat_tests)

  first : (b : Bool) → p v ≡ b → list_any (λ (s : Waiting). has_id s.id v) (cond b (v ∷ filter p ws) (filter p ws)) ≡ b
  first true e = ap (λ c. c || list_any (λ (s : Waiting). has_id s.id v) (filter p ws)) self
  first false e = no-earlier p v ws above-ids

  one-more : (w : Waiting) (b : Bool) → nat_cmp v.id w.id ≡ Less
      → list_any (λ (s : Waiting). has_id s.id w) (cond b (v ∷ filter p ws) (filter p ws)) ≡ list_any (λ (s : Waiting). has_id s.id w) (filter p ws)
  one-more w true a =
      let apart : has_id v.id w ≡ false = (let up = above v.id w.id a in grind (arith, nat_tests)) in
      ap (λ c. c || list_any (λ (s : Waiting). has_id s.id w) (filter p ws)) apart
  one-more w false a = refl

  later : (us : List Waiting) → AllByRecursion (λ (w : Waiting). list_any (λ (s : Waiting). has_id s.id w) (filter p ws) ≡ p w) us
      → AllByRecursion (λ k. nat_cmp v.id k ≡ Less) (map (λ (w : Waiting). w.id) us)
      → AllByRecursion (λ (w : Waiting). list_any (λ (s : Waiting). has_id s.id w) (filter p (v ∷ ws)) ≡ p w) us
  later [] h a = tt
  later (u ∷ us) h a = (one-more u (p v) a.0 ∙ h.0, later us h.1 a.1)

filter-alike : (p q : Waiting → Bool) (ws : List Waiting) → AllByRecursion (λ (w : Waiting). p w ≡ q w) ws → filter (λ w. not (p w)) ws ≡ filter (λ w. not (q w)) ws
filter-alike p q [] h = refl
filter-alike p q (w ∷ ws) h =
    ap (λ b. cond (not b) (w ∷ filter (λ v. not (p v)) ws) (filter (λ v. not (p v)) ws)) h.0
    ∙ ap (λ vs. cond (not (q w)) (w ∷ vs) vs) (filter-alike p q ws h.1)

-- without the ids of those that pass, the others are left
pub without-passed : (p : Waiting → Bool) (taken : List Waiting) (es : Entries) (last : ℕ) → AreKept es last → taken ≡ filter p (values_of es)
    → without_each taken (values_of es) ≡ filter (λ w. not (p w)) (values_of es)
without-passed p taken es last h is =
    ap (λ ts. without_each ts (values_of es)) is
    ∙ filter-alike (λ w. list_any (λ (s : Waiting). has_id s.id w) (filter p (values_of es))) p (values_of es)
    (own-ids p (values_of es) (subst (IsStrictlySortedBy nat_cmp) (ids-keys last es h.each) h.rising))

-- ---- one after another

pub without-none : (ws : List Waiting) → without_each [] ws ≡ ws
without-none [] = refl
without-none (w ∷ ws) = ap (λ vs. w ∷ vs) (without-none ws)

one-less : (a : Bool) (next w : Waiting) (left rest : List Waiting) → without next.id left ≡ rest
    → without next.id (cond (not a) (w ∷ left) left) ≡ cond (not (a || has_id next.id w)) (w ∷ rest) rest
one-less true next w left rest h = h
one-less false next w left rest h = ap (λ vs. cond (not (has_id next.id w)) (w ∷ vs) vs) h

-- once all are taken out whose ids some requests have, the next one is
without-more : (settled more : List Waiting) (next : Waiting) (ws : List Waiting)
    → ((w : Waiting) → list_any (λ (s : Waiting). has_id s.id w) more ≡ (list_any (λ (s : Waiting). has_id s.id w) settled || has_id next.id w))
    → without next.id (without_each settled ws) ≡ without_each more ws
without-more settled more next [] h = refl
without-more settled more next (w ∷ ws) h =
    one-less (list_any (λ (s : Waiting). has_id s.id w) settled) next w (without_each settled ws) (without_each more ws) (without-more settled more next ws h)
    ∙ ap (λ b. cond (not b) (w ∷ without_each more ws) (without_each more ws)) (sym (h w))

-- the same of what is seen: the request at a place is taken out behind those before it
pub view-taken : (taken : List Waiting) (i : ℕ) (d : Waiting) → i < length taken → (now before : PendingView)
    → now ≡ record before { waiting = without_each (take i taken) before.waiting }
    → record now { waiting = without (get_or taken i d).id now.waiting } ≡ record before { waiting = without_each (take (i + 1) taken) before.waiting }
view-taken taken i d h now before is =
    ap (λ (v : PendingView). record v { waiting = without (get_or taken i d).id v.waiting }) is
    ∙ ap (λ (ws : List Waiting). record before { waiting = ws })
    (without-more (take i taken) (take (i + 1) taken) (get_or taken i d) before.waiting (λ w. list_any_more (λ (s : Waiting). has_id s.id w) taken i d h))
