-- Entries under numbers that rise: the numbers of those that pass a test, with one more entry and without one.
use Rattle.std.proofs.Common.{◌≡◌, ◌<◌, ℕ, List, [], ◌∷◌, ◌++◌, Bool, true, false, not, cond, Some, None, refl, sym, ap, ◌∙◌, inl, inr, arith, nat_eq, nat_lt, subst, map, ◌||◌, length, ◌+◌, option_map}
use Rattle.std.proofs.lemmas.Bool.{cases_Bool}
use Rattle.std.proofs.lemmas.Bool.Decides.{nat_tests}
use Rattle.std.proofs.lemmas.Map.Keys.{sorted_head, sorted_tail}
use Rattle.std.specs.BTreeMap.{is_at, insert_entry}
use Rattle.std.specs.BTreeSet.{insert_key}
use Rattle.std.specs.List.{AllByRecursion, filter, find, list_any}
use Rattle.std.specs.List.Sorted.{IsStrictlySortedBy}
use Rattle.std.specs.Map.{keys_of, values_of, lookup, remove_entry}
use Rattle.std.specs.Set.{remove_key}
use Rattle.std.specs.Ordering.{nat_cmp}
use Rattle.std.specs.declared.cmp.Ordering.TheVariants.{Less, Equal, Greater}
use Rattle.host_requests.specs.Places.{first_of, has, numbers_of}

-- ---- numbers compared

abbrev pub is_number : ℕ → ℕ → Bool
is_number n = is_at (nat_cmp n)

less : (a b : ℕ) → nat_cmp a b ≡ Less → a < b
less a b h = elim (cases_Bool (nat_lt a b)) [
  | inl t ↦ grind (arith, nat_tests)
  | inr f ↦ elim (cases_Bool (nat_eq a b)) [
    | inl t ↦ absurd (let e : Equal ≡ Less = rw f at (rw t at h) in cc)
    | inr g ↦ absurd (let e : Greater ≡ Less = rw f at (rw g at h) in cc)
  ]
]

greater : (a b : ℕ) → b < a → nat_cmp a b ≡ Greater
greater a b h =
    let below : nat_lt a b ≡ false = grind (arith, nat_tests) in
    let same : nat_eq a b ≡ false = grind (arith, nat_tests) in
    rw below (rw same refl)

number-is : (n k : ℕ) → is_number n k ≡ nat_eq k n
number-is n k = elim (cases_Bool (nat_lt n k)) [
  | inl t ↦ (let apart : nat_eq k n ≡ false = grind (arith, nat_tests) in rw t (sym apart))
  | inr f ↦ elim (cases_Bool (nat_eq n k)) [
    | inl e ↦ (let same : nat_eq k n ≡ true = grind (arith, nat_tests) in rw f (rw e (sym same)))
    | inr g ↦ (let apart : nat_eq k n ≡ false = grind (arith, nat_tests) in rw f (rw g (sym apart)))
  ]
]

eq-same : (k n : ℕ) → k ≡ n → nat_eq k n ≡ true
eq-same k n e = grind (arith, nat_tests)

eq-above : (k n : ℕ) → n < k → nat_eq k n ≡ false
eq-above k n h = grind (arith, nat_tests)

eq-below : (k n : ℕ) → k < n → nat_eq k n ≡ false
eq-below k n h = grind (arith, nat_tests)

eq-found : (k n : ℕ) → nat_eq k n ≡ true → k ≡ n
eq-found k n h = grind (arith, nat_tests)

pub number-same : (n k : ℕ) → k ≡ n → is_number n k ≡ true
number-same n k e = number-is n k ∙ eq-same k n e

number-above : (n k : ℕ) → n < k → is_number n k ≡ false
number-above n k h = number-is n k ∙ eq-above k n h

number-below : (n k : ℕ) → k < n → is_number n k ≡ false
number-below n k h = number-is n k ∙ eq-below k n h

pub number-found : (n k : ℕ) → is_number n k ≡ true → k ≡ n
number-found n k h = eq-found k n (sym (number-is n k) ∙ h)

abbrev Entries : Type 0 → Type 0
Entries X = List (ℕ × X)

-- ---- lists of numbers

insert_key-last : (n : ℕ) (ks : List ℕ) → AllByRecursion (λ k. k < n) ks → insert_key nat_cmp ks n ≡ ks ++ n ∷ []
insert_key-last n [] h = refl
insert_key-last n (k ∷ ks) h = rw (greater n k h.0) (ap (λ ls. k ∷ ls) (insert_key-last n ks h.1))

pub heads : (a b : ℕ) (ks ls : List ℕ) → a ∷ ks ≡ b ∷ ls → a ≡ b
heads a b ks ls e = cc

pub tails : (a b : ℕ) (ks ls : List ℕ) → a ∷ ks ≡ b ∷ ls → ks ≡ ls
tails a b ks ls e = cc

pub none-first : (ns : List ℕ) → None ≡ first_of ns → ns ≡ []
none-first [] h = refl
none-first (n ∷ ns) h = absurd cc

pub some-first : (n : ℕ) (ns : List ℕ) → Some n ≡ first_of ns → (ms : List ℕ) × (ns ≡ n ∷ ms)
some-first n [] h = absurd cc
some-first n (m ∷ ms) h = (ms, (let e : n ≡ m = cc in ap (λ k. k ∷ ms) (sym e)))

module _ {X : Type 0} where
  -- ---- what holds of each

  pub all-removed : (P : ℕ × X → Type 0) (t : ℕ → Bool) (es : Entries X) → AllByRecursion P es → AllByRecursion P (remove_entry t es)
  all-removed P t [] h = tt
  all-removed P t (e ∷ es) h = elim (cases_Bool (t e.0)) [
    | inl y ↦ rw y h.1
    | inr f ↦ rw f (h.0, all-removed P t es h.1)
  ]

  pub all-filtered : (P : ℕ × X → Type 0) (q : ℕ × X → Bool) (es : Entries X) → AllByRecursion P es → AllByRecursion P (filter q es)
  all-filtered P q [] h = tt
  all-filtered P q (e ∷ es) h = elim (cases_Bool (q e)) [
    | inl y ↦ rw y (h.0, all-filtered P q es h.1)
    | inr f ↦ rw f (all-filtered P q es h.1)
  ]

  pub all-pushed : (P : ℕ × X → Type 0) (e : ℕ × X) (es : Entries X) → AllByRecursion P es → P e → AllByRecursion P (es ++ e ∷ [])
  all-pushed P e [] h here = (here, tt)
  all-pushed P e (d ∷ es) h here = (h.0, all-pushed P e es h.1 here)

  pub all-weaker : (P Q : ℕ × X → Type 0) → ((e : ℕ × X) → P e → Q e) → (es : Entries X) → AllByRecursion P es → AllByRecursion Q es
  all-weaker P Q f [] h = tt
  all-weaker P Q f (e ∷ es) h = (f e h.0, all-weaker P Q f es h.1)

  -- of the numbers, where it holds of the keys
  all-numbers : (P : ℕ → Type 0) (p : X → Bool) (es : Entries X) → AllByRecursion P (keys_of es) → AllByRecursion P (numbers_of p es)
  all-numbers P p [] h = tt
  all-numbers P p (e ∷ es) h = elim (cases_Bool (p e.1)) [
    | inl y ↦ rw y (h.0, all-numbers P p es h.1)
    | inr f ↦ rw f (all-numbers P p es h.1)
  ]

  numbers-below : (n : ℕ) (p : X → Bool) (es : Entries X) → AllByRecursion (λ e. e.0 < n) es → AllByRecursion (λ k. k < n) (numbers_of p es)
  numbers-below n p [] h = tt
  numbers-below n p (e ∷ es) h = elim (cases_Bool (p e.1)) [
    | inl y ↦ rw y (h.0, numbers-below n p es h.1)
    | inr f ↦ rw f (numbers-below n p es h.1)
  ]

  -- ---- one more

  pub insert_entry-last : (n : ℕ) (x : X) (es : Entries X) → AllByRecursion (λ e. e.0 < n) es → insert_entry nat_cmp es n x ≡ es ++ (n, x) ∷ []
  insert_entry-last n x [] h = refl
  insert_entry-last n x (e ∷ es) h = rw (greater n e.0 h.0) (ap (λ fs. e ∷ fs) (insert_entry-last n x es h.1))

  numbers-push : (p : X → Bool) (e : ℕ × X) (es : Entries X) → numbers_of p (es ++ e ∷ []) ≡ cond (p e.1) (numbers_of p es ++ e.0 ∷ []) (numbers_of p es)
  numbers-push p e [] = elim (cases_Bool (p e.1)) [
    | inl y ↦ rw y refl
    | inr f ↦ rw f refl
  ]
  numbers-push p e (d ∷ es) = elim (cases_Bool (p d.1)) [
    | inl y ↦ elim (cases_Bool (p e.1)) [
      | inl t ↦ (let more = rw t at (numbers-push p e es) in rw (y, t) (ap (λ ns. d.0 ∷ ns) more))
      | inr f ↦ (let more = rw f at (numbers-push p e es) in rw (y, f) (ap (λ ns. d.0 ∷ ns) more))
    ]
    | inr f ↦ rw f (numbers-push p e es)
  ]

  -- the entry behind all others brings its number
  pub numbers-added : (p : X → Bool) (n : ℕ) (x : X) (es : Entries X) → AllByRecursion (λ e. e.0 < n) es
      → numbers_of p (es ++ (n, x) ∷ []) ≡ cond (p x) (insert_key nat_cmp (numbers_of p es) n) (numbers_of p es)
  numbers-added p n x es h = numbers-push p (n, x) es ∙ ap (λ ns. cond (p x) ns (numbers_of p es)) (sym (insert_key-last n (numbers_of p es) (numbers-below n p es h)))

  pub lookup-last : (n : ℕ) (x : X) (es : Entries X) → AllByRecursion (λ e. e.0 < n) es → lookup (is_number n) (es ++ (n, x) ∷ []) ≡ Some x
  lookup-last n x [] h = rw (number-same n n refl) refl
  lookup-last n x (e ∷ es) h = rw (number-below n e.0 h.0) (lookup-last n x es h.1)

  -- and is taken out again
  pub removed-last : (n : ℕ) (x : X) (es : Entries X) → AllByRecursion (λ e. e.0 < n) es → remove_entry (is_number n) (es ++ (n, x) ∷ []) ≡ es
  removed-last n x [] h = rw (number-same n n refl) refl
  removed-last n x (e ∷ es) h = rw (number-below n e.0 h.0) (ap (λ fs. e ∷ fs) (removed-last n x es h.1))

  -- ---- one is taken out

  some-same : (x y : X) → Some x ≡ Some y → x ≡ y
  some-same x y e = cc

  pub numbers-removed : (p : X → Bool) (n : ℕ) (x : X) (es : Entries X) → lookup (is_number n) es ≡ Some x
      → numbers_of p (remove_entry (is_number n) es) ≡ cond (p x) (remove_key (is_number n) (numbers_of p es)) (numbers_of p es)
  numbers-removed p n x [] h = absurd cc
  numbers-removed p n x (e ∷ es) h = elim (cases_Bool (is_number n e.0)) [
    | inl here ↦
        let same : e.1 ≡ x = some-same e.1 x (rw here at h) in
        elim (cases_Bool (p e.1)) [
          | inl y ↦ (let own : p x ≡ true = ap p (sym same) ∙ y in rw (here, own, y) (rw here refl))
          | inr f ↦ (let own : p x ≡ false = ap p (sym same) ∙ f in rw (here, own, f) refl)
        ]
    | inr apart ↦
        let below = numbers-removed p n x es (rw apart at h) in
        elim (cases_Bool (p e.1)) [
          | inl y ↦ elim (cases_Bool (p x)) [
            | inl own ↦ (let rest = rw own at below in rw (apart, own, y) (rw apart (ap (λ ns. e.0 ∷ ns) rest)))
            | inr own ↦ (let rest = rw own at below in rw (apart, own, y) (ap (λ ns. e.0 ∷ ns) rest))
          ]
          | inr f ↦ rw (apart, f) below
        ]
  ]

  pub removed-none : (t : ℕ → Bool) (es : Entries X) → lookup t es ≡ None → remove_entry t es ≡ es
  removed-none t [] h = refl
  removed-none t (e ∷ es) h = elim (cases_Bool (t e.0)) [
    | inl y ↦ absurd (let clash : Some e.1 ≡ None = rw y at h in cc)
    | inr f ↦ rw f (ap (λ fs. e ∷ fs) (removed-none t es (rw f at h)))
  ]

  -- what is taken out leaves the others that pass no test of it
  pub length-removed : (n : ℕ) (x : X) (es : Entries X) → lookup (is_number n) es ≡ Some x → length es ≡ length (remove_entry (is_number n) es) + 1
  length-removed n x [] h = absurd cc
  length-removed n x (e ∷ es) h = elim (cases_Bool (is_number n e.0)) [
    | inl here ↦ rw here (omega arith)
    | inr apart ↦ (let below = length-removed n x es (rw apart at h) in rw apart (omega arith))
  ]

  -- ---- the first of those that pass

  pub record IsFirst (p : X → Bool) (n : ℕ) (ns : List ℕ) (es : Entries X) (x : X) : Type 0 where
    pub found : lookup (is_number n) es ≡ Some x
    pub first : find p (values_of es) ≡ Some x
    pub left : numbers_of p (remove_entry (is_number n) es) ≡ ns
    pub taken : values_of (filter (λ e. p e.1) es) ≡ x ∷ values_of (filter (λ e. p e.1) (remove_entry (is_number n) es))
    pub kept : filter (λ e. not (p e.1)) (remove_entry (is_number n) es) ≡ filter (λ e. not (p e.1)) es

  -- it isn't the one before
  pub apart-first : (p : X → Bool) (n : ℕ) (ns : List ℕ) (e : ℕ × X) (es : Entries X) → numbers_of p es ≡ n ∷ ns → IsStrictlySortedBy nat_cmp (keys_of (e ∷ es)) → is_number n e.0 ≡ false
  apart-first p n ns e es later s =
      let above : nat_cmp e.0 n ≡ Less = (subst (AllByRecursion (λ k. nat_cmp e.0 k ≡ Less)) later (all-numbers (λ k. nat_cmp e.0 k ≡ Less) p es (sorted_head nat_cmp e.0 (keys_of es) s))).0 in
      number-below n e.0 (less e.0 n above)

  pub is-first : (p : X → Bool) (n : ℕ) (ns : List ℕ) (es : Entries X) → numbers_of p es ≡ n ∷ ns → IsStrictlySortedBy nat_cmp (keys_of es) → (x : X) × IsFirst p n ns es x
  is-first p n ns [] h s = absurd cc
  is-first p n ns (e ∷ es) h s = elim (cases_Bool (p e.1)) [
    | inl y ↦
        let both = rw y at h in
        let here : is_number n e.0 ≡ true = number-same n e.0 (heads e.0 n (numbers_of p es) ns both) in (
          e.1,
          record {
            found = rw here refl;
            first = rw y refl;
            left = rw here (tails e.0 n (numbers_of p es) ns both);
            taken = rw (here, y) refl;
            kept = rw (here, y) refl;
          },
        )
    | inr f ↦
        let later = rw f at h in
        let apart : is_number n e.0 ≡ false = apart-first p n ns e es later s in
        let (x, t) = is-first p n ns es later (sorted_tail nat_cmp e.0 (keys_of es) s) in (
          x,
          record {
            found = rw apart t.found;
            first = rw f t.first;
            left = rw apart (rw f t.left);
            taken = rw (apart, f) t.taken;
            kept = rw (apart, f) (ap (λ fs. e ∷ fs) t.kept);
          },
        )
  ]

  -- ---- none passes

  pub record IsNone (p : X → Bool) (es : Entries X) : Type 0 where
    pub first : find p (values_of es) ≡ None
    pub taken : filter (λ e. p e.1) es ≡ []
    pub kept : filter (λ e. not (p e.1)) es ≡ es

  pub is-none : (p : X → Bool) (es : Entries X) → numbers_of p es ≡ [] → IsNone p es
  is-none p [] h = record { first = refl; taken = refl; kept = refl }
  is-none p (e ∷ es) h = elim (cases_Bool (p e.1)) [
    | inl y ↦ absurd (let more : e.0 ∷ numbers_of p es ≡ [] = rw y at h in cc)
    | inr f ↦
        let rest = is-none p es (rw f at h) in record {
          first = rw f rest.first;
          taken = rw f rest.taken;
          kept = rw f (ap (λ fs. e ∷ fs) rest.kept);
        }
  ]

  -- ---- values

  pub values-filtered : (q : X → Bool) (es : Entries X) → values_of (filter (λ e. q e.1) es) ≡ filter q (values_of es)
  values-filtered q [] = refl
  values-filtered q (e ∷ es) = elim (cases_Bool (q e.1)) [
    | inl t ↦ rw t (ap (λ xs. e.1 ∷ xs) (values-filtered q es))
    | inr f ↦ rw f (values-filtered q es)
  ]

  pub values-pushed : (e : ℕ × X) (es : Entries X) → values_of (es ++ e ∷ []) ≡ values_of es ++ e.1 ∷ []
  values-pushed e [] = refl
  values-pushed e (d ∷ es) = ap (λ xs. d.1 ∷ xs) (values-pushed e es)

-- ---- entries of which only a part is looked at

module _ {X Y : Type 0} (f : X → Y) where
  abbrev pub parts : List (ℕ × X) → List (ℕ × Y)
  parts es = map (λ e. (e.0, f e.1)) es

  pub numbers-parts : (p : Y → Bool) (es : List (ℕ × X)) → numbers_of p (parts es) ≡ numbers_of (λ x. p (f x)) es
  numbers-parts p [] = refl
  numbers-parts p (e ∷ es) = elim (cases_Bool (p (f e.1))) [
    | inl t ↦ rw t (ap (λ ns. e.0 ∷ ns) (numbers-parts p es))
    | inr g ↦ rw g (numbers-parts p es)
  ]

  pub parts-pushed : (e : ℕ × X) (es : List (ℕ × X)) → parts (es ++ e ∷ []) ≡ parts es ++ (e.0, f e.1) ∷ []
  parts-pushed e [] = refl
  parts-pushed e (d ∷ es) = ap (λ ps. (d.0, f d.1) ∷ ps) (parts-pushed e es)

  pub parts-removed : (t : ℕ → Bool) (es : List (ℕ × X)) → parts (remove_entry t es) ≡ remove_entry t (parts es)
  parts-removed t [] = refl
  parts-removed t (e ∷ es) = elim (cases_Bool (t e.0)) [
    | inl y ↦ rw y refl
    | inr g ↦ rw g (ap (λ ps. (e.0, f e.1) ∷ ps) (parts-removed t es))
  ]

  pub lookup-parts : (t : ℕ → Bool) (es : List (ℕ × X)) → lookup t (parts es) ≡ option_map f (lookup t es)
  lookup-parts t [] = refl
  lookup-parts t (e ∷ es) = elim (cases_Bool (t e.0)) [
    | inl y ↦ rw y refl
    | inr g ↦ rw g (lookup-parts t es)
  ]

  pub all-parts : (P : ℕ → Type 0) (es : List (ℕ × X)) → AllByRecursion (λ e. P e.0) es → AllByRecursion (λ e. P e.0) (parts es)
  all-parts P [] h = tt
  all-parts P (e ∷ es) h = (h.0, all-parts P es h.1)

  pub all-whole : (P : ℕ → Type 0) (es : List (ℕ × X)) → AllByRecursion (λ e. P e.0) (parts es) → AllByRecursion (λ e. P e.0) es
  all-whole P [] h = tt
  all-whole P (e ∷ es) h = (h.0, all-whole P es h.1)

-- ---- numbers in order are told by a test of each

has-above : (n k : ℕ) (ks : List ℕ) → n < k → AllByRecursion (λ q. nat_cmp k q ≡ Less) ks → list_any (is_number n) ks ≡ false
has-above n k [] up h = refl
has-above n k (q ∷ ks) up h =
    let over : nat_lt k q ≡ true = (let l = less k q h.0 in grind (arith, nat_tests)) in
    let apart : is_number n q ≡ false = number-above n q (let l = less k q h.0 in omega arith) in
    rw apart (has-above n k ks up h.1)

has-self-above : (k : ℕ) (ks : List ℕ) → AllByRecursion (λ q. nat_cmp k q ≡ Less) ks → list_any (is_number k) ks ≡ false
has-self-above k [] h = refl
has-self-above k (q ∷ ks) h = rw (number-above k q (less k q h.0)) (has-self-above k ks h.1)

same-tails : (k : ℕ) (ks ls : List ℕ) → AllByRecursion (λ q. nat_cmp k q ≡ Less) ks → AllByRecursion (λ q. nat_cmp k q ≡ Less) ls
    → ((n : ℕ) → list_any (is_number n) (k ∷ ks) ≡ list_any (is_number n) (k ∷ ls)) → (n : ℕ) → list_any (is_number n) ks ≡ list_any (is_number n) ls
same-tails k ks ls hk hl same n = elim (cases_Bool (is_number n k)) [
  | inl t ↦
      let e : k ≡ n = number-found n k t in
      subst (λ m. list_any (is_number m) ks ≡ list_any (is_number m) ls) e (has-self-above k ks hk ∙ sym (has-self-above k ls hl))
  | inr f ↦ rw f at (same n)
]

has-head : (k : ℕ) (ks : List ℕ) → list_any (is_number k) (k ∷ ks) ≡ true
has-head k ks = rw (number-same k k refl) refl

-- a number below the first isn't among them
has-below : (n k : ℕ) (ks : List ℕ) → n < k → AllByRecursion (λ q. nat_cmp k q ≡ Less) ks → list_any (is_number n) (k ∷ ks) ≡ false
has-below n k ks up h = rw (number-above n k up) (has-above n k ks up h)

same-heads : (k l : ℕ) (ks ls : List ℕ) → AllByRecursion (λ q. nat_cmp k q ≡ Less) ks → AllByRecursion (λ q. nat_cmp l q ≡ Less) ls
    → ((n : ℕ) → list_any (is_number n) (k ∷ ks) ≡ list_any (is_number n) (l ∷ ls)) → k ≡ l
same-heads k l ks ls hk hl same = elim (cases_Bool (nat_lt k l)) [
  | inl t ↦ absurd (let up : k < l = grind (arith, nat_tests) in let clash : true ≡ false = sym (has-head k ks) ∙ (same k ∙ has-below k l ls up hl) in cc)
  | inr f ↦ elim (cases_Bool (nat_lt l k)) [
    | inl t ↦ absurd (let up : l < k = grind (arith, nat_tests) in let clash : true ≡ false = sym (has-head l ls) ∙ (sym (same l) ∙ has-below l k ks up hk) in cc)
    | inr g ↦ grind (arith, nat_tests)
  ]
]

pub same-numbers : (ks ls : List ℕ) → IsStrictlySortedBy nat_cmp ks → IsStrictlySortedBy nat_cmp ls → ((n : ℕ) → list_any (is_number n) ks ≡ list_any (is_number n) ls) → ks ≡ ls
same-numbers [] [] sk sl same = refl
same-numbers [] (l ∷ ls) sk sl same = absurd (let clash : false ≡ true = same l ∙ has-head l ls in cc)
same-numbers (k ∷ ks) [] sk sl same = absurd (let clash : true ≡ false = sym (has-head k ks) ∙ same k in cc)
same-numbers (k ∷ ks) (l ∷ ls) sk sl same =
    let hk = sorted_head nat_cmp k ks sk in
    let hl = sorted_head nat_cmp l ls sl in
    let e : k ≡ l = same-heads k l ks ls hk hl same in
    let hl' = subst (λ m. AllByRecursion (λ q. nat_cmp m q ≡ Less) ls) (sym e) hl in
    let same' = subst (λ m. (n : ℕ) → list_any (is_number n) (k ∷ ks) ≡ list_any (is_number n) (m ∷ ls)) (sym e) same in
    ap (λ m. m ∷ ks) e ∙ ap (λ ms. l ∷ ms) (same-numbers ks ls (sorted_tail nat_cmp k ks sk) (sorted_tail nat_cmp l ls sl) (same-tails k ks ls hk hl' same'))

pub sorted-cons : (k : ℕ) (ks : List ℕ) → AllByRecursion (λ q. nat_cmp k q ≡ Less) ks → IsStrictlySortedBy nat_cmp ks → IsStrictlySortedBy nat_cmp (k ∷ ks)
unfolding IsStrictlySortedBy
sorted-cons k ks h s = (h, s)

-- the numbers of some entries are in order
pub numbers-in-order : {X : Type 0} (p : X → Bool) (es : List (ℕ × X)) → IsStrictlySortedBy nat_cmp (keys_of es) → IsStrictlySortedBy nat_cmp (numbers_of p es)
numbers-in-order p [] s = s
numbers-in-order p (e ∷ es) s =
    let rest = numbers-in-order p es (sorted_tail nat_cmp e.0 (keys_of es) s) in
    elim (cases_Bool (p e.1)) [
      | inl y ↦ rw y (sorted-cons e.0 (numbers_of p es) (all-numbers (λ k. nat_cmp e.0 k ≡ Less) p es (sorted_head nat_cmp e.0 (keys_of es) s)) rest)
      | inr f ↦ rw f rest
    ]

-- ---- numbers of those that pass one test or another

or-true : (a : Bool) → (a || true) ≡ true
or-true true = refl
or-true false = refl

pub or-false : (a : Bool) → (a || false) ≡ a
or-false true = refl
or-false false = refl

-- what one more element of either list does to their union
either-step : (a p q x y : Bool) → cond (p || q) (a || (x || y)) (x || y) ≡ (cond p (a || x) x || cond q (a || y) y)
either-step true true true x y = refl
either-step true true false x y = refl
either-step true false true true y = refl
either-step true false true false y = refl
either-step true false false x y = refl
either-step false true true x y = refl
either-step false true false x y = refl
either-step false false true x y = refl
either-step false false false x y = refl

has-more : {X : Type 0} (p : X → Bool) (n : ℕ) (e : ℕ × X) (es : List (ℕ × X)) → has n (numbers_of p (e ∷ es)) ≡ cond (p e.1) (is_number n e.0 || has n (numbers_of p es)) (has n (numbers_of p es))
has-more p n e es = elim (cases_Bool (p e.1)) [
  | inl t ↦ rw t refl
  | inr f ↦ rw f refl
]

pub has-either : {X : Type 0} (p q r : X → Bool) (n : ℕ) → ((x : X) → r x ≡ (p x || q x)) → (es : List (ℕ × X)) → has n (numbers_of r es) ≡ (has n (numbers_of p es) || has n (numbers_of q es))
has-either p q r n h [] = refl
has-either p q r n h (e ∷ es) =
    has-more r n e es
    ∙ ap (λ b. cond b (is_number n e.0 || has n (numbers_of r es)) (has n (numbers_of r es))) (h e.1)
    ∙ ap (λ b. cond (p e.1 || q e.1) (is_number n e.0 || b) b) (has-either p q r n h es)
    ∙ either-step (is_number n e.0) (p e.1) (q e.1) (has n (numbers_of p es)) (has n (numbers_of q es))
    ∙ sym (ap (λ b. b || has n (numbers_of q (e ∷ es))) (has-more p n e es) ∙ ap (λ b. cond (p e.1) (is_number n e.0 || has n (numbers_of p es)) (has n (numbers_of p es)) || b) (has-more q n e es))

pub numbers-none : {X : Type 0} (p : X → Bool) → ((x : X) → p x ≡ false) → (es : List (ℕ × X)) → numbers_of p es ≡ []
numbers-none p h [] = refl
numbers-none p h (e ∷ es) = rw (h e.1) (numbers-none p h es)
