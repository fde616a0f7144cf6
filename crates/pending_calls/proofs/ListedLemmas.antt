-- Requests listed under their objects: after one more, after one was taken out, and in a range.
use Rattle.std.proofs.Common.{◌≡◌, ◌≤◌, ℕ, List, [], ◌∷◌, Bool, true, false, not, cond, Option, Some, None, Result, Ok, Err, OnOk, OnErr, is_err, IfSome, refl, sym, ap, ◌∙◌, inl, inr, arith, nat_eq, nat_lt, subst, ◌||◌, ◌&&◌}
use Rattle.std.proofs.lemmas.Bool.{cases_Bool}
use Rattle.std.proofs.lemmas.Bool.Decides.{nat_tests}
use Rattle.std.proofs.lemmas.Map.Lookups.{exact_pairs, exact_unsigned}
use Rattle.std.specs.BTreeMap.{BTreeMap, get, is_at}
use Rattle.std.specs.BTreeMap.Range.{range_contains}
use Rattle.std.specs.BTreeSet.{BTreeSet, contains}
use Rattle.std.specs.Cmp.{both_tied, unsigned_ties}
use Rattle.std.specs.List.{filter, list_any}
use Rattle.std.specs.Map.{lookup}
use Rattle.std.specs.Ordering.{nat_cmp, ordering_then, is_eq, is_le, is_lt, is_gt}
use Rattle.std.specs.declared.cmp.Ordering.{Ordering}
use Rattle.std.specs.declared.cmp.Ordering.TheVariants.{Less, Equal, Greater}
use Rattle.std.specs.declared.ops.Bound.TheVariants.{Included}
use Rattle.pending_calls.specs.declared.waiting.Waiting.{Waiting}
use Rattle.pending_calls.specs.Kept.{AreListed, is_listed}
use Rattle.pending_calls.proofs.KeptLemmas.{is_eq-nat_cmp}

abbrev Pair : Type 0
Pair = ℕ × ℕ

-- the order of the pairs
abbrev pub by_pair : Pair → Pair → Ordering
by_pair a b = ordering_then (nat_cmp a.0 b.0) (nat_cmp a.1 b.1)

abbrev Listed : Type 0
Listed = BTreeSet (ℕ × ℕ)

pair-same : (a b : Pair) → is_at (by_pair a) b ≡ true → a ≡ b
pair-same a b h = exact_pairs nat_cmp nat_cmp exact_unsigned exact_unsigned a b (equal (by_pair a b) h) where
  equal : (o : Ordering) → is_eq o ≡ true → o ≡ Equal
  equal Less e = absurd cc
  equal Equal e = refl
  equal Greater e = absurd cc

-- pairs of ids that differ are apart
pair-apart : (a b : Pair) → nat_eq a.1 b.1 ≡ false → is_at (by_pair a) b ≡ false
pair-apart a b h =
    sym (both_tied (nat_eq a.0 b.0) (nat_eq a.1 b.1) (nat_cmp a.0 b.0) (nat_cmp a.1 b.1) (unsigned_ties a.0 b.0) (unsigned_ties a.1 b.1))
    ∙ ap (λ b'. nat_eq a.0 b.0 && b') h ∙ never (nat_eq a.0 b.0) where
      never : (c : Bool) → (c && false) ≡ false
      never true = refl
      never false = refl

-- ---- what a call says by its result

pub if-ok : {T E P : Type 0} (r : Result T E) → false ≡ is_err r → OnOk r P → P
if-ok (Ok x) is p = p
if-ok (Err e) is p = absurd cc

pub if-err : {T E P : Type 0} (r : Result T E) → true ≡ is_err r → OnErr r P → P
if-err (Ok x) is p = absurd cc
if-err (Err e) is p = p

-- ---- changes

-- the requests are the same
pub listed-as : (waiting waiting' : BTreeMap ℕ Waiting) (listed : Listed) → waiting'.entries ≡ waiting.entries → AreListed waiting listed → AreListed waiting' listed
listed-as waiting waiting' listed same h id = subst (λ es. IfSome (lookup (is_at (nat_cmp id)) es) (λ w. is_listed listed w.under.0 id ≡ true)) (sym same) (h id)

-- a list that has what another has, and one pair more
grown : (old new : Listed) (k : Pair) → ((q : Pair) → contains by_pair new q ≡ cond (is_at (by_pair k) q) true (contains by_pair old q))
    → (q : Pair) → contains by_pair old q ≡ true → contains by_pair new q ≡ true
grown old new k update q h = update q ∙ ap (cond (is_at (by_pair k) q) true) h ∙ both (is_at (by_pair k) q) where
  both : (c : Bool) → cond c true true ≡ true
  both true = refl
  both false = refl

-- more is listed
pub listed-more : (waiting : BTreeMap ℕ Waiting) (old new : Listed) (k : Pair) → ((q : Pair) → contains by_pair new q ≡ cond (is_at (by_pair k) q) true (contains by_pair old q))
    → AreListed waiting old → AreListed waiting new
listed-more waiting old new k update h id =
    by-look-up (get nat_cmp waiting id) (h id) where
      by-look-up : (o : Option Waiting) → IfSome o (λ w. is_listed old w.under.0 id ≡ true) → IfSome o (λ w. is_listed new w.under.0 id ≡ true)
      by-look-up None e = tt
      by-look-up (Some w) e = grown old new k update (w.under.0, id) e

-- a request was issued, and is listed
pub listed-issued : (waiting waiting' : BTreeMap ℕ Waiting) (listed : Listed) (w : Waiting) (id : ℕ)
    → ((q : ℕ) → get nat_cmp waiting' q ≡ cond (is_at (nat_cmp id) q) (Some w) (get nat_cmp waiting q)) → is_listed listed w.under.0 id ≡ true
    → AreListed waiting listed → AreListed waiting' listed
listed-issued waiting waiting' listed w id update here h q =
    subst (λ o. IfSome o (λ v. is_listed listed v.under.0 q ≡ true)) (sym (update q)) (by-key (is_at (nat_cmp id) q) refl) where
      by-key : (b : Bool) → is_at (nat_cmp id) q ≡ b → IfSome (cond b (Some w) (get nat_cmp waiting q)) (λ v. is_listed listed v.under.0 q ≡ true)
      by-key true e =
          let same : id ≡ q = (let found : nat_eq q id ≡ true = sym (is_eq-nat_cmp id q) ∙ e in grind (arith, nat_tests)) in
          subst (λ n. is_listed listed w.under.0 n ≡ true) same here
      by-key false e = h q

-- a request was taken out
pub listed-fewer : (waiting waiting' : BTreeMap ℕ Waiting) (listed : Listed) (id : ℕ)
    → ((q : ℕ) → get nat_cmp waiting' q ≡ cond (is_at (nat_cmp id) q) None (get nat_cmp waiting q)) → AreListed waiting listed → AreListed waiting' listed
listed-fewer waiting waiting' listed id update h q =
    subst (λ o. IfSome o (λ v. is_listed listed v.under.0 q ≡ true)) (sym (update q)) (by-key (is_at (nat_cmp id) q)) where
      by-key : (b : Bool) → IfSome (cond b None (get nat_cmp waiting q)) (λ v. is_listed listed v.under.0 q ≡ true)
      by-key true = tt
      by-key false = h q

-- an id that isn't pending is listed no longer
pub listed-less : (waiting : BTreeMap ℕ Waiting) (old new : Listed) (serial id : ℕ) → get nat_cmp waiting id ≡ None
    → ((q : Pair) → contains by_pair new q ≡ cond (is_at (by_pair (serial, id)) q) false (contains by_pair old q)) → AreListed waiting old → AreListed waiting new
listed-less waiting old new serial id none update h q = elim (cases_Bool (nat_eq id q)) [
  | inl t ↦
      let same : id ≡ q = grind (arith, nat_tests) in
      subst (λ o. IfSome o (λ v. is_listed new v.under.0 q ≡ true)) (sym (ap (get nat_cmp waiting) (sym same) ∙ none)) tt
  | inr f ↦ by-look-up (get nat_cmp waiting q) (h q) f
] where
  by-look-up : (o : Option Waiting) → IfSome o (λ w. is_listed old w.under.0 q ≡ true) → nat_eq id q ≡ false → IfSome o (λ w. is_listed new w.under.0 q ≡ true)
  by-look-up None e f = tt
  by-look-up (Some w) e f =
      update (w.under.0, q) ∙ ap (λ b. cond b false (contains by_pair old (w.under.0, q))) (pair-apart (serial, id) (w.under.0, q) f) ∙ e

-- ---- the range of an object

nat_cmp-self : (n : ℕ) → nat_cmp n n ≡ Equal
nat_cmp-self n =
    let less : nat_lt n n ≡ false = grind (arith, nat_tests) in
    let same : nat_eq n n ≡ true = grind (arith, nat_tests) in
    rw less (rw same refl)

no-greater : (a b : ℕ) → a ≤ b → is_gt (nat_cmp a b) ≡ false
no-greater a b h = elim (cases_Bool (nat_lt a b)) [
  | inl t ↦ rw t refl
  | inr f ↦ (let same : nat_eq a b ≡ true = grind (arith, nat_tests) in rw f (rw same refl))
]

no-less : (a b : ℕ) → b ≤ a → is_lt (nat_cmp a b) ≡ false
no-less a b h =
    let less : nat_lt a b ≡ false = grind (arith, nat_tests) in
    elim (cases_Bool (nat_eq a b)) [
      | inl t ↦ rw less (rw t refl)
      | inr f ↦ rw less (rw f refl)
    ]

le-from_no_gt : (o : Ordering) → is_gt o ≡ false → is_le o ≡ true
le-from_no_gt Less e = refl
le-from_no_gt Equal e = refl
le-from_no_gt Greater e = absurd cc

-- the pairs of one object, up to an id
abbrev pub of_object : ℕ → ℕ → Pair → Bool
of_object serial last k = range_contains by_pair (Included (serial, 0)) (Included (serial, last)) k

in-range : (serial last id : ℕ) → id ≤ last → of_object serial last (serial, id) ≡ true
in-range serial last id h =
    ap (λ o. is_le (ordering_then o (nat_cmp 0 id)) && not (is_lt (ordering_then o (nat_cmp last id)))) (nat_cmp-self serial)
    ∙ ap (λ b. b && not (is_lt (nat_cmp last id))) (le-from_no_gt (nat_cmp 0 id) (no-greater 0 id (omega arith)))
    ∙ ap not (no-less last id h)

-- whether one of some pairs has this id
abbrev pub has_number : ℕ → List Pair → Bool
has_number id ks = list_any (λ k. nat_eq k.1 id) ks

-- what is listed under the object stands in its range
pub found-in-range : (serial last id : ℕ) → id ≤ last → (ks : List Pair) → list_any (is_at (by_pair (serial, id))) ks ≡ true → has_number id (filter (of_object serial last) ks) ≡ true
found-in-range serial last id low [] h = absurd cc
found-in-range serial last id low (k ∷ ks) h = elim (cases_Bool (is_at (by_pair (serial, id)) k)) [
  | inl t ↦
      let same = pair-same (serial, id) k t in
      let inside : of_object serial last k ≡ true = ap (of_object serial last) (sym same) ∙ in-range serial last id low in
      let own : nat_eq k.1 id ≡ true = (let e : id ≡ k.1 = ap (λ (p : Pair). p.1) same in grind (arith, nat_tests)) in
      ap (λ b. has_number id (cond b (k ∷ filter (of_object serial last) ks) (filter (of_object serial last) ks))) inside
      ∙ ap (λ b. b || has_number id (filter (of_object serial last) ks)) own
  | inr f ↦
      let behind : list_any (is_at (by_pair (serial, id))) ks ≡ true = sym (ap (λ b. b || list_any (is_at (by_pair (serial, id))) ks) f) ∙ h in
      kept (of_object serial last k) k (filter (of_object serial last) ks) (found-in-range serial last id low ks behind)
] where
  or-true : (b : Bool) → (b || true) ≡ true
  or-true true = refl
  or-true false = refl

  kept : (b : Bool) (k : Pair) (rest : List Pair) → has_number id rest ≡ true → has_number id (cond b (k ∷ rest) rest) ≡ true
  kept true k rest e = ap (λ c. nat_eq k.1 id || c) e ∙ or-true (nat_eq k.1 id)
  kept false k rest e = e
