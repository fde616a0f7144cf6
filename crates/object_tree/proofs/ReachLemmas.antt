-- A fall that spreads round by round has the objects that are reached, and its list has no others.
use Rattle.std.proofs.Common.{◌≡◌, ◌<◌, ◌≤◌, ◌⊎◌, ℕ, zero, suc, List, [], ◌∷◌, Bool, true, false, ◌&&◌, ◌||◌, nat_eq, Option, Some, None, refl, sym, ap, ◌∙◌, arith, inl, inr, subst, length, map}
use Rattle.std.proofs.lemmas.Bool.{cases_Bool, cases_eq, and_parts, and_from, or_cases, or_left, or_right, eqb-true, eq-eqb, lt-ltb}
use Rattle.std.proofs.lemmas.Map.Lookups.{btree_set_from_contains, exact_unsigned}
use Rattle.std.specs.BTreeMap.{is_at}
use Rattle.std.specs.BTreeSet.{BTreeSet, IsOrdered}
use Rattle.std.specs.Cmp.{nat_cmp_total}
use Rattle.std.specs.List.{AllByRecursion, filter, find, list_any}
use Rattle.std.specs.List.Sorted.{IsStrictlySortedBy}
use Rattle.std.specs.Map.{values_of}
use Rattle.std.specs.Ordering.{nat_cmp}
use Rattle.std.specs.declared.cmp.Ordering.TheVariants.{Less}
use Rattle.ms_base.specs.declared.keys.Serial.{Serial}
use Rattle.object_tree.specs.declared.fall.Fall.{Fall}
use Rattle.object_tree.specs.declared.object.Object.{Object}
use Rattle.object_tree.specs.Falls.{is_open_root, leads, reached}
use Rattle.object_tree.specs.Objects.{AreInOrder, has_serial, is_open, numbered}
use Rattle.object_tree.specs.Spread.{Grows, Reaches, Spreads, is_in, is_led, leads_from}
use Rattle.object_tree.specs.Tables.{is_listed}
use Rattle.object_tree.proofs.ChangeLemmas.{all-numbered}
use Rattle.object_tree.proofs.EntryLemmas.{as_serial, is_eq-nat_cmp}
use Rattle.object_tree.proofs.FallLemmas.{of-serial}

-- ---- one of a list

pub any-found : {X : Type 0} (p q : X → Bool) (xs : List X) (x : X) → find p xs ≡ Some x → q x ≡ true → list_any q xs ≡ true
any-found p q [] x e t = absurd (let clash : None ≡ Some x = e in cc)
any-found p q (y ∷ ys) x e t = elim (cases_Bool (p y)) [
  | inl u ↦ (let same : y ≡ x = (let found = rw u at e in cc) in or_left (q y) (list_any q ys) (ap q same ∙ t))
  | inr f ↦ or_right (q y) (list_any q ys) (any-found p q ys x (rw f at e) t)
]

pub any-one : {X : Type 0} (R : X → Type 0) (q : X → Bool) (xs : List X) → AllByRecursion R xs → list_any q xs ≡ true → (x : X) × R x × (q x ≡ true)
any-one R q [] h t = absurd (let clash : false ≡ true = t in cc)
any-one R q (y ∷ ys) h t = elim (cases_Bool (q y)) [
  | inl u ↦ (y, h.0, u)
  | inr f ↦ any-one R q ys h.1 (rw f at t)
]

-- ---- rounds

module _ (xs : List Object) (roots : List Serial) (rising : AreInOrder xs) where
  abbrev at : ℕ → Option Object
  at n = numbered xs (as_serial n)

  abbrev test : ℕ → Object → Bool
  test k = reached k xs roots

  same-object : (n : ℕ) (x y : Object) → at n ≡ Some x → at n ≡ Some y → x ≡ y
  same-object n x y a b = let e = sym a ∙ b in cc

  listed-led : (serials : List ℕ) (m : ℕ) (x y : Object) → at m ≡ Some x → is_listed serials m ≡ true → leads x y ≡ true → list_any (λ n. leads_from (at n) y) serials ≡ true
  listed-led [] m x y e h t = absurd (let clash : false ≡ true = h in cc)
  listed-led (n ∷ ns) m x y e h t = elim (cases_Bool (nat_eq n m)) [
    | inl u ↦
        (let same : n ≡ m = eqb-true n m u in
        or_left (leads_from (at n) y) (list_any (λ k. leads_from (at k) y) ns) (ap (λ k. leads_from (at k) y) same ∙ (ap (λ o. leads_from o y) e ∙ t)))
    | inr f ↦ or_right (leads_from (at n) y) (list_any (λ k. leads_from (at k) y) ns) (listed-led ns m x y e (rw f at h) t)
  ]

  abbrev IsLed : List ℕ → Object → Type 0
  IsLed serials y = (m : ℕ) × (x : Object) × (at m ≡ Some x) × (is_listed serials m ≡ true) × (leads x y ≡ true)

  further : (n : ℕ) (ns : List ℕ) (y : Object) → IsLed ns y → IsLed (n ∷ ns) y
  further n ns y w = (w.0, w.1, w.2, or_right (nat_eq n w.0) (is_listed ns w.0) w.3, w.4)

  led-by : (o : Option Object) (n : ℕ) (ns : List ℕ) (y : Object) → at n ≡ o → (leads_from o y || list_any (λ k. leads_from (at k) y) ns) ≡ true
      → (list_any (λ k. leads_from (at k) y) ns ≡ true → IsLed ns y) → IsLed (n ∷ ns) y
  led-by None n ns y e t more = further n ns y (more t)
  led-by (Some x) n ns y e t more = elim (or_cases (leads x y) (list_any (λ k. leads_from (at k) y) ns) t) [
    | inl u ↦ (n, x, e, or_left (nat_eq n n) (is_listed ns n) (eq-eqb n n refl), u)
    | inr v ↦ further n ns y (more v)
  ]

  led-listed : (serials : List ℕ) (y : Object) → list_any (λ n. leads_from (at n) y) serials ≡ true → IsLed serials y
  led-listed [] y t = absurd (let clash : false ≡ true = t in cc)
  led-listed (n ∷ ns) y t = led-by (at n) n ns y refl t (led-listed ns y)

  -- an object to which a link leads from one that is reached
  reached-next : (k m : ℕ) (x y : Object) → at m ≡ Some x → test k x ≡ true → is_open y ≡ true → leads x y ≡ true → test (suc k) y ≡ true
  reached-next k m x y e t opened led =
      or_right (test k y) (is_open y && list_any (λ z. test k z && leads z y) xs)
      (and_from (is_open y) (list_any (λ z. test k z && leads z y) xs) opened
      (any-found (has_serial (as_serial m)) (λ z. test k z && leads z y) xs x e (and_from (test k x) (leads x y) t led)))

  still-reached : (k : ℕ) (y : Object) → test k y ≡ true → test (suc k) y ≡ true
  still-reached k y t = or_left (test k y) (is_open y && list_any (λ z. test k z && leads z y) xs) t

  -- it is one of those reached before, or a link leads to it from one of these
  reached-before : (k : ℕ) (y : Object) → test (suc k) y ≡ true
      → (test k y ≡ true) ⊎ ((is_open y ≡ true) × ((x : Object) × (at x.serial.0 ≡ Some x) × (test k x ≡ true) × (leads x y ≡ true)))
  reached-before k y t = elim (or_cases (test k y) (is_open y && list_any (λ z. test k z && leads z y) xs) t) [
    | inl u ↦ inl u
    | inr v ↦
        (let parts = and_parts (is_open y) (list_any (λ z. test k z && leads z y) xs) v in
        let (x, there, w) = any-one (λ (z : Object). numbered xs z.serial ≡ Some z) (λ z. test k z && leads z y) xs (all-numbered xs rising) parts.1 in
        let both = and_parts (test k x) (leads x y) w in
        inr (parts.0, (x, there, both.0, both.1)))
  ]

  module _ (k : ℕ) (f g : Fall) (h : Reaches at (test k) f) (s : Spreads at f g) where
    all-next : (n : ℕ) → is_in g.serials n ≡ true → (y : Object) × (at n ≡ Some y) × (test (suc k) y ≡ true)
    all-next n t = elim (s.sound n t) [
      | inl old ↦ (let w = h.all n old in (w.0, w.1, still-reached k w.0 w.2))
      | inr w ↦
          (let y : Object = w.0 in
          let parts = and_parts (is_open y) (list_any (λ m. leads_from (at m) y) f.latest.items) w.2 in
          let (m, x, e, listed, led) = led-listed f.latest.items y parts.1 in
          let v = h.all m (h.latest m listed) in
          let same : v.0 ≡ x = same-object m v.0 x v.1 e in
          (y, w.1, reached-next k m x y e (ap (test k) (sym same) ∙ v.2) parts.0 led))
    ]

    -- what a link leads to, out of what was known before
    led-next : (m n : ℕ) (x y : Object) → at m ≡ Some x → test k x ≡ true → at n ≡ Some y → is_open y ≡ true → leads x y ≡ true → is_in g.serials n ≡ true
    led-next m n x y e t there opened led = elim (h.leading m n x y e t there opened led) [
      | inl old ↦ s.kept n old
      | inr listed ↦
          s.complete n y there (and_from (is_open y) (list_any (λ j. leads_from (at j) y) f.latest.items) opened (listed-led f.latest.items m x y e listed led))
    ]

    each-next : (n : ℕ) (y : Object) → at n ≡ Some y → test (suc k) y ≡ true → is_in g.serials n ≡ true
    each-next n y there t = elim (reached-before k y t) [
      | inl old ↦ s.kept n (h.each n y there old)
      | inr w ↦ led-next w.1.0.serial.0 n w.1.0 y w.1.1 w.1.2 there w.0 w.1.3
    ]

    leading-next : (m n : ℕ) (x y : Object) → at m ≡ Some x → test (suc k) x ≡ true → at n ≡ Some y → is_open y ≡ true → leads x y ≡ true
        → (is_in g.serials n ≡ true) ⊎ (is_listed g.latest.items m ≡ true)
    leading-next m n x y e t there opened led = elim (s.listed m (each-next m x e t)) [
      | inl old ↦
          (let v = h.all m old in
          let same : v.0 ≡ x = same-object m v.0 x v.1 e in
          inl (led-next m n x y e (ap (test k) (sym same) ∙ v.2) there opened led))
      | inr listed ↦ inr listed
    ]

    pub reaches-next : Reaches at (test (suc k)) g
    reaches-next = record { all = all-next; each = each-next; leading = leading-next; latest = s.among }

  -- the roots
  pub reaches-roots : (f g : Fall) → f.serials.keys ≡ [] → f.latest.items ≡ [] → Grows at (is_open_root roots) f g → Reaches at (test zero) g
  reaches-roots f g none empty h =
      let nothing : (n : ℕ) → is_in f.serials n ≡ true → ⊥ = (λ n t. let clash : false ≡ true = sym (ap (λ ks. list_any (is_at (nat_cmp n)) ks) none) ∙ t in cc) in
      let unlisted : (n : ℕ) → is_listed f.latest.items n ≡ true → ⊥ = (λ n t. let clash : false ≡ true = sym (ap (λ ks. is_listed ks n) empty) ∙ t in cc) in
      record {
        all = λ n t. elim (h.sound n t) [
          | inl old ↦ absurd (nothing n old)
          | inr w ↦ w
        ];
        each = h.complete;
        leading = λ m n x y e t there opened led. elim (h.listed m (h.complete m x e t)) [
          | inl old ↦ absurd (nothing m old)
          | inr listed ↦ inr listed
        ];
        latest = λ n t. elim (h.among n t) [
          | inl old ↦ absurd (unlisted n old)
          | inr new ↦ new
        ];
      }

  -- nothing is new any more
  spreads-no_more : (f : Fall) → f.latest.items ≡ [] → Spreads at f f
  spreads-no_more f empty =
      let unled : (y : Object) → is_led at f.latest.items y ≡ true → ⊥ =
      (λ y t.
      let clash : false ≡ true =
      sym (ap (λ ks. list_any (λ m. leads_from (at m) y) ks) empty) ∙ (and_parts (is_open y) (list_any (λ m. leads_from (at m) y) f.latest.items) t).1
      in
      cc)
      in
      record {
        kept = λ n t. t;
        sound = λ n t. inl t;
        complete = λ n y there t. absurd (unled y t);
        listed = λ n t. inl t;
        among = λ n t. let clash : false ≡ true = sym (ap (λ ks. is_listed ks n) empty) ∙ t in absurd cc;
      }

  pub reaches-on : (f : Fall) → f.latest.items ≡ [] → (k n : ℕ) → k ≤ n → Reaches at (test k) f → Reaches at (test n) f
  reaches-on f empty k zero low h = let same : k ≡ zero = omega arith in subst (λ j. Reaches at (test j) f) same h
  reaches-on f empty k (suc n) low h = elim (cases_eq k (suc n)) [
    | inl same ↦ subst (λ j. Reaches at (test j) f) same h
    | inr other ↦ reaches-next n f f (reaches-on f empty k n (omega (arith, low, other)) h) (spreads-no_more f empty)
  ]

-- one round after another
pub spreads-round : (find : ℕ → Option Object) (f e g : Fall) → e.serials ≡ f.serials → e.latest.items ≡ [] → Grows find (is_led find f.latest.items) e g → Spreads find f g
spreads-round find f e g same empty h =
    let was : (n : ℕ) → is_in f.serials n ≡ true → is_in e.serials n ≡ true = (λ n t. ap (λ s. is_in s n) same ∙ t) in
    let still : (n : ℕ) → is_in e.serials n ≡ true → is_in f.serials n ≡ true = (λ n t. ap (λ s. is_in s n) (sym same) ∙ t) in
    record {
      kept = λ n t. h.kept n (was n t);
      sound = λ n t. elim (h.sound n t) [
        | inl old ↦ inl (still n old)
        | inr w ↦ inr w
      ];
      complete = h.complete;
      listed = λ n t. elim (h.listed n t) [
        | inl old ↦ inl (still n old)
        | inr new ↦ inr new
      ];
      among = λ n t. elim (h.among n t) [
        | inl old ↦ absurd (let clash : false ≡ true = sym (ap (λ ks. is_listed ks n) empty) ∙ old in cc)
        | inr new ↦ new
      ];
    }

-- ---- the list

pub all-filtered : {X : Type 0} (R : X → Type 0) (p : X → Bool) (xs : List X) → AllByRecursion R xs → AllByRecursion R (filter p xs)
all-filtered R p [] h = tt
all-filtered R p (x ∷ xs) h = elim (cases_Bool (p x)) [
  | inl t ↦ rw t (h.0, all-filtered R p xs h.1)
  | inr f ↦ rw f (all-filtered R p xs h.1)
]

pub all-passing : {X : Type 0} (p : X → Bool) (xs : List X) → AllByRecursion (λ (x : X). p x ≡ true) (filter p xs)
all-passing p [] = tt
all-passing p (x ∷ xs) = elim (cases_Bool (p x)) [
  | inl t ↦ rw t (t, all-passing p xs)
  | inr f ↦ rw f (all-passing p xs)
]

in-order-filtered : (p : Object → Bool) (xs : List Object) → AreInOrder xs → AreInOrder (filter p xs)
in-order-filtered p [] h = tt
in-order-filtered p (x ∷ xs) h = elim (cases_Bool (p x)) [
  | inl t ↦ rw t (all-filtered (λ (y : Object). x.serial.0 < y.serial.0) p xs h.0, in-order-filtered p xs h.1)
  | inr f ↦ rw f (in-order-filtered p xs h.1)
]

abbrev numbers : List Object → List ℕ
numbers xs = map (λ (o : Object). o.serial.0) xs

all-less : (n : ℕ) (xs : List Object) → AllByRecursion (λ (y : Object). n < y.serial.0) xs → AllByRecursion (λ (k : ℕ). nat_cmp n k ≡ Less) (numbers xs)
all-less n [] h = tt
all-less n (x ∷ xs) h = ((let less = lt-ltb n x.serial.0 h.0 in rw less refl), all-less n xs h.1)

sorted-in_order : (xs : List Object) → AreInOrder xs → IsStrictlySortedBy nat_cmp (numbers xs)
unfolding IsStrictlySortedBy
sorted-in_order [] h = tt
sorted-in_order (x ∷ xs) h = (all-less x.serial.0 xs h.0, sorted-in_order xs h.1)

pub any-kept : (p find-by q : Object → Bool) (xs : List Object) (x : Object) → find find-by xs ≡ Some x → p x ≡ true → q x ≡ true → list_any q (filter p xs) ≡ true
any-kept p find-by q [] x e t u = absurd (let clash : None ≡ Some x = e in cc)
any-kept p find-by q (y ∷ ys) x e t u = elim (cases_Bool (find-by y)) [
  | inl here ↦
      (let same : y ≡ x = (let found = rw here at e in cc) in
      let passes : p y ≡ true = ap p same ∙ t in
      rw passes (or_left (q y) (list_any q (filter p ys)) (ap q same ∙ u)))
  | inr there ↦ elim (cases_Bool (p y)) [
    | inl passes ↦ rw passes (or_right (q y) (list_any q (filter p ys)) (any-kept p find-by q ys x (rw there at e) t u))
    | inr fails ↦ rw fails (any-kept p find-by q ys x (rw there at e) t u)
  ]
]

any-numbers : (q : ℕ → Bool) (xs : List Object) → list_any q (numbers xs) ≡ list_any (λ (o : Object). q o.serial.0) xs
any-numbers q [] = refl
any-numbers q (x ∷ xs) = ap (λ b. q x.serial.0 || b) (any-numbers q xs)

pub all-two : {X : Type 0} (P Q : X → Type 0) (xs : List X) → AllByRecursion P xs → AllByRecursion Q xs → AllByRecursion (λ (x : X). P x × Q x) xs
all-two P Q [] p q = tt
all-two P Q (x ∷ xs) p q = ((p.0, q.0), all-two P Q xs p.1 q.1)

serials-of : (xs : List Object) → map (λ n. as_serial n) (numbers xs) ≡ map (λ (o : Object). o.serial) xs
serials-of [] = refl
serials-of (x ∷ xs) = ap (λ ss. x.serial ∷ ss) (serials-of xs)

module _ (xs : List Object) (p : Object → Bool) (f : Fall) (rising : AreInOrder xs) (h : Reaches (λ n. numbered xs (as_serial n)) p f) where
  is-listed : (n : ℕ) → is_in f.serials n ≡ true → list_any (is_at (nat_cmp n)) (numbers (filter p xs)) ≡ true
  is-listed n t =
      let w = h.all n t in
      let here : is_at (nat_cmp n) w.0.serial.0 ≡ true = is_eq-nat_cmp n w.0.serial.0 ∙ eq-eqb w.0.serial.0 n (of-serial xs n w.0 w.1) in
      any-numbers (is_at (nat_cmp n)) (filter p xs)
      ∙ any-kept p (has_serial (as_serial n)) (λ (o : Object). is_at (nat_cmp n) o.serial.0) xs w.0 w.1 w.2 here

  is-fallen : (n : ℕ) → list_any (is_at (nat_cmp n)) (numbers (filter p xs)) ≡ true → is_in f.serials n ≡ true
  is-fallen n t =
      let both =
      all-two (λ (y : Object). numbered xs y.serial ≡ Some y) (λ (y : Object). p y ≡ true) (filter p xs)
      (all-filtered (λ (y : Object). numbered xs y.serial ≡ Some y) p xs (all-numbered xs rising)) (all-passing p xs)
      in
      let (y, w, test) =
      any-one (λ (y : Object). (numbered xs y.serial ≡ Some y) × (p y ≡ true)) (λ (o : Object). is_at (nat_cmp n) o.serial.0) (filter p xs) both
      (sym (any-numbers (is_at (nat_cmp n)) (filter p xs)) ∙ t)
      in
      let own : y.serial.0 ≡ n = eqb-true y.serial.0 n (sym (is_eq-nat_cmp n y.serial.0) ∙ test) in
      ap (is_in f.serials) (sym own) ∙ h.each y.serial.0 y w.0 w.1

  same-set : (n : ℕ) → is_in f.serials n ≡ list_any (is_at (nat_cmp n)) (numbers (filter p xs))
  same-set n = elim (cases_Bool (is_in f.serials n)) [
    | inl t ↦ t ∙ sym (is-listed n t)
    | inr u ↦ elim (cases_Bool (list_any (is_at (nat_cmp n)) (numbers (filter p xs)))) [
      | inl t ↦ absurd (let clash : true ≡ false = sym (is-fallen n t) ∙ u in cc)
      | inr v ↦ u ∙ sym v
    ]
  ]

  pub keys-fallen : IsOrdered nat_cmp f.serials → map (λ n. as_serial n) f.serials.keys ≡ map (λ (o : Object). o.serial) (filter p xs)
  keys-fallen ordered =
      let other : BTreeSet ℕ = record { keys = numbers (filter p xs) } in
      let keys = btree_set_from_contains nat_cmp_total f.serials other ordered (sorted-in_order (filter p xs) (in-order-filtered p xs rising)) same-set exact_unsigned in
      ap (λ ks. map (λ n. as_serial n) ks) keys ∙ serials-of (filter p xs)

-- ---- how many rounds

pub length-values : (es : List (ℕ × Object)) → length (values_of es) ≡ length es
length-values [] = refl
length-values (e ∷ es) = ap suc (length-values es)

pub none-items : {X : Type 0} (xs : List X) → length xs ≡ 0 → xs ≡ []
none-items [] t = refl
none-items (x ∷ xs) t = absurd (omega (arith, t))
