-- A chain without a repetition has no more links than there are objects: what is reached in so many is reached by any chain.
use Rattle.std.proofs.Common.{◌≡◌, ◌<◌, ◌≤◌, ◌⊎◌, ℕ, zero, suc, List, [], ◌∷◌, Bool, true, false, ◌&&◌, ◌||◌, Some, refl, sym, ap, ◌∙◌, arith, inl, inr, subst, length}
use Rattle.std.proofs.lemmas.Bool.{cases_Bool, cases_eq, and_parts, and_from, or_cases, or_left, or_right, eq-eqb}
use Rattle.std.proofs.lemmas.List.Elements.{All-from_recursion}
use Rattle.std.proofs.lemmas.List.Folds.{Any-from_list_any, list_any_at}
use Rattle.std.specs.List.{AllByRecursion, Contains, filter, list_any}
use Rattle.ms_base.specs.declared.keys.Serial.{Serial}
use Rattle.object_tree.specs.declared.object.Object.{Object}
use Rattle.object_tree.specs.Falls.{IsChain, are_linked, falls_with, has_far_end, is_among, is_at, is_child, is_open_root, leads, reached}
use Rattle.object_tree.specs.Objects.{is_open}
use Rattle.object_tree.proofs.EntryLemmas.{all-weaker}

-- ---- one of a list

pub at-member : {X : Type 0} (R : X → Type 0) (xs : List X) (x : X) → Contains xs x → AllByRecursion R xs → R x
at-member R xs x m h = subst R m.2 (All-from_recursion R xs h m.0 x m.1)

any-member : {X : Type 0} (q : X → Bool) (xs : List X) (x : X) → Contains xs x → q x ≡ true → list_any q xs ≡ true
any-member q xs x m t = list_any_at q xs m.0 x m.1 (ap q m.2 ∙ t)

all-pointwise : {X : Type 0} (R : X → Type 0) (xs : List X) → ((x : X) → R x) → AllByRecursion R xs
all-pointwise R [] h = tt
all-pointwise R (x ∷ xs) h = (h x, all-pointwise R xs h)

-- ---- two tests, of which one passes more

module _ {X : Type 0} (p q : X → Bool) (more : (x : X) → p x ≡ true → q x ≡ true) where
  fewer : (xs : List X) → length (filter p xs) ≤ length (filter q xs)
  fewer [] = omega arith
  fewer (x ∷ xs) = elim (cases_Bool (p x)) [
    | inl t ↦ rw t (rw (more x t) (let h = fewer xs in omega (arith, h)))
    | inr f ↦ elim (cases_Bool (q x)) [
      | inl u ↦ rw (f, u) (let h = fewer xs in omega (arith, h))
      | inr g ↦ rw (f, g) (fewer xs)
    ]
  ]

  alike-or-more : (xs : List X) → AllByRecursion (λ x. q x ≡ p x) xs ⊎ (length (filter p xs) < length (filter q xs))
  alike-or-more [] = inl tt
  alike-or-more (x ∷ xs) = elim (cases_Bool (p x)) [
    | inl t ↦
        (let u = more x t in
        elim (alike-or-more xs) [
          | inl h ↦ inl (u ∙ sym t, h)
          | inr h ↦ inr (rw t (rw u (omega (arith, h))))
        ])
    | inr f ↦ elim (cases_Bool (q x)) [
      | inl u ↦ inr (rw (f, u) (let h = fewer xs in omega (arith, h)))
      | inr g ↦ elim (alike-or-more xs) [
        | inl h ↦ inl (g ∙ sym f, h)
        | inr h ↦ inr (rw (f, g) h)
      ]
    ]
  ]

filter-shorter : {X : Type 0} (p : X → Bool) (xs : List X) → length (filter p xs) ≤ length xs
filter-shorter p [] = omega arith
filter-shorter p (x ∷ xs) = elim (cases_Bool (p x)) [
  | inl t ↦ rw t (let h = filter-shorter p xs in omega (arith, h))
  | inr f ↦ rw f (let h = filter-shorter p xs in omega (arith, h))
]

all-pass : {X : Type 0} (p : X → Bool) (xs : List X) → length xs ≤ length (filter p xs) → AllByRecursion (λ x. p x ≡ true) xs
all-pass p [] h = tt
all-pass p (x ∷ xs) h = elim (cases_Bool (p x)) [
  | inl t ↦ (let l = rw t at h in (t, all-pass p xs (omega (arith, l))))
  | inr f ↦ (let l = rw f at h in let s = filter-shorter p xs in absurd (omega (arith, l, s)))
]

any-alike : {X : Type 0} (p q r : X → Bool) (xs : List X) → AllByRecursion (λ x. q x ≡ p x) xs → list_any (λ x. q x && r x) xs ≡ list_any (λ x. p x && r x) xs
any-alike p q r [] h = refl
any-alike p q r (x ∷ xs) h =
    ap (λ b. b && r x || list_any (λ y. q y && r y) xs) h.0 ∙ ap (λ b. p x && r x || b) (any-alike p q r xs h.1)

twice : (a b : Bool) → (a || b || b) ≡ (a || b)
twice true b = refl
twice false true = refl
twice false false = refl

-- ---- what is reached

module _ (xs : List Object) (roots : List Serial) where
  abbrev test : ℕ → Object → Bool
  test n = reached n xs roots

  still : (n : ℕ) (x : Object) → test n x ≡ true → test (suc n) x ≡ true
  still n x t = or_left (test n x) (is_open x && list_any (λ y. test n y && leads y x) xs) t

  later : (m n : ℕ) (x : Object) → m ≤ n → test m x ≡ true → test n x ≡ true
  later m zero x low t = let same : m ≡ zero = omega arith in subst (λ k. test k x ≡ true) same t
  later m (suc n) x low t = elim (cases_eq m (suc n)) [
    | inl same ↦ subst (λ k. test k x ≡ true) same t
    | inr other ↦ still n x (later m n x (omega (arith, low, other)) t)
  ]

  abbrev Stable : ℕ → Type 0
  Stable n = AllByRecursion (λ x. test (suc n) x ≡ test n x) xs

  stable-next : (n : ℕ) → Stable n → Stable (suc n)
  stable-next n h =
      all-pointwise (λ x. test (suc (suc n)) x ≡ test (suc n) x) xs
      (λ x.
      let led : Bool = is_open x && list_any (λ y. test n y && leads y x) xs in
      ap (λ b. test (suc n) x || is_open x && b) (any-alike (test n) (test (suc n)) (λ y. leads y x) xs h) ∙ twice (test n x) led)

  stable-on : (m n : ℕ) → m ≤ n → Stable m → Stable n
  stable-on m zero low h = let same : m ≡ zero = omega arith in subst Stable same h
  stable-on m (suc n) low h = elim (cases_eq m (suc n)) [
    | inl same ↦ subst Stable same h
    | inr other ↦ stable-next n (stable-on m n (omega (arith, low, other)) h)
  ]

  stable-or-many : (n : ℕ) → ((m : ℕ) × (m < n) × Stable m) ⊎ (n ≤ length (filter (test n) xs))
  stable-or-many zero = inr (omega arith)
  stable-or-many (suc n) = elim (stable-or-many n) [
    | inl w ↦ inl (w.0, (let less = w.1 in omega (arith, less)), w.2)
    | inr many ↦ elim (alike-or-more (test n) (test (suc n)) (still n) xs) [
      | inl same ↦ inl (n, omega arith, same)
      | inr more ↦ inr (omega (arith, many, more))
    ]
  ]

  stable : Stable (length xs)
  stable = elim (stable-or-many (length xs)) [
    | inl w ↦ (let less = w.1 in stable-on w.0 (length xs) (omega (arith, less)) w.2)
    | inr many ↦
        all-weaker (λ x. test (length xs) x ≡ true) (λ x. test (suc (length xs)) x ≡ test (length xs) x) xs (λ x t. still (length xs) x t ∙ sym t)
        (all-pass (test (length xs)) xs many)
  ]

  pub falls-linked : (x y : Object) → Contains xs x → Contains xs y → falls_with xs roots x ≡ true → is_open y ≡ true → leads x y ≡ true → falls_with xs roots y ≡ true
  falls-linked x y there here t opened led =
      sym (at-member (λ z. test (suc (length xs)) z ≡ test (length xs) z) xs y here stable)
      ∙ or_right (test (length xs) y) (is_open y && list_any (λ z. test (length xs) z && leads z y) xs)
      (and_from (is_open y) (list_any (λ z. test (length xs) z && leads z y) xs) opened
      (any-member (λ z. test (length xs) z && leads z y) xs x there (and_from (test (length xs) x) (leads x y) t led)))

  pub falls-root : (x : Object) → is_open_root roots x ≡ true → falls_with xs roots x ≡ true
  falls-root x t = later zero (length xs) x (omega arith) t

  pub reached-open : (n : ℕ) (x : Object) → test n x ≡ true → is_open x ≡ true
  reached-open zero x t = (and_parts (is_open x) (is_among roots x.serial) t).0
  reached-open (suc n) x t = elim (or_cases (test n x) (is_open x && list_any (λ y. test n y && leads y x) xs) t) [
    | inl u ↦ reached-open n x u
    | inr v ↦ (and_parts (is_open x) (list_any (λ y. test n y && leads y x) xs) v).0
  ]

  -- ---- chains

  pub chain-falls : (ys : List Object) (x : Object) → Contains xs x → IsChain xs roots x ys → falls_with xs roots x ≡ true
  chain-falls [] x here chain = falls-root x chain
  chain-falls (y ∷ ys) x here chain = falls-linked y x chain.1 here (chain-falls ys y chain.1 chain.3) chain.0 chain.2

  pub chain-of : (n : ℕ) (x : Object) → test n x ≡ true → (ys : List Object) × IsChain xs roots x ys
  chain-of zero x t = ([], t)
  chain-of (suc n) x t = elim (or_cases (test n x) (is_open x && list_any (λ y. test n y && leads y x) xs) t) [
    | inl u ↦ chain-of n x u
    | inr v ↦
        (let parts = and_parts (is_open x) (list_any (λ y. test n y && leads y x) xs) v in
        let (k, y, within, is, w) = Any-from_list_any (λ y. test n y && leads y x) xs parts.1 in
        let both = and_parts (test n y) (leads y x) w in
        let before = chain-of n y both.0 in
        (y ∷ before.0, (parts.0, (k, within, is), both.1, before.1)))
  ]

pub child-leads : (x y : Object) → y.parent ≡ Some x.serial → leads x y ≡ true
child-leads x y e =
    let child : is_child x y ≡ true = ap (λ p. is_at p x.serial) e ∙ eq-eqb x.serial.0 x.serial.0 refl in
    or_left (is_child x y || has_far_end x y) (are_linked x y) (or_left (is_child x y) (has_far_end x y) child)
