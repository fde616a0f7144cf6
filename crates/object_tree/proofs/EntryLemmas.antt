-- Objects under their serials: what a look-up, one more, one less and a changed one come to.
use Rattle.std.proofs.Common.{◌≡◌, ◌<◌, ◌≤◌, ◌≢◌, ℕ, List, [], ◌∷◌, Bool, true, false, cond, nat_eq, nat_lt, Some, None, refl, sym, ap, ◌∙◌, arith, inl, inr, map, subst}
use Rattle.std.proofs.lemmas.Bool.{cases_Bool, eqb-true, eqb-false, eq-eqb, ne_eqb, lt-ltb, ltb-true, ltb-false}
use Rattle.std.proofs.lemmas.Bool.Decides.{nat_tests}
use Rattle.std.specs.BTreeMap.{is_at, insert_entry}
use Rattle.std.specs.List.{AllByRecursion, find}
use Rattle.std.specs.Map.{values_of, lookup, remove_entry, set_value}
use Rattle.std.specs.Ordering.{nat_cmp, is_eq}
use Rattle.std.specs.declared.cmp.Ordering.TheVariants.{Less, Greater}
use Rattle.ms_base.specs.declared.keys.Serial.{Serial}
use Rattle.object_tree.specs.declared.object.Object.{Object}
use Rattle.object_tree.specs.Objects.{AreInOrder, has_serial, numbered, with_object}
use Rattle.object_tree.specs.Tables.{AreKeyed, change_at}

abbrev pub Entries : Type 0
Entries = List (ℕ × Object)

abbrev pub as_serial : ℕ → Serial
as_serial n = record { 0 = n }

-- ---- all of a list

pub all-found : {X : Type 0} (P : X → Type 0) (p : X → Bool) (xs : List X) (x : X) → AllByRecursion P xs → find p xs ≡ Some x → P x
all-found P p [] x h e = absurd (let c : None ≡ Some x = e in cc)
all-found P p (y ∷ ys) x h e = elim (cases_Bool (p y)) [
  | inl t ↦ (let same : y ≡ x = (let found = rw t at e in cc) in subst P same h.0)
  | inr f ↦ all-found P p ys x h.1 (rw f at e)
]

pub passes-found : {X : Type 0} (p : X → Bool) (xs : List X) (x : X) → find p xs ≡ Some x → p x ≡ true
passes-found p [] x e = absurd (let c : None ≡ Some x = e in cc)
passes-found p (y ∷ ys) x e = elim (cases_Bool (p y)) [
  | inl t ↦ (let same : y ≡ x = (let found = rw t at e in cc) in ap p (sym same) ∙ t)
  | inr f ↦ passes-found p ys x (rw f at e)
]

-- what one test finds, another that it passes finds as well, or one before it
pub found-too : {X : Type 0} (p q : X → Bool) (xs : List X) (x : X) → find p xs ≡ Some x → q x ≡ true → (y : X) × (find q xs ≡ Some y)
found-too p q [] x e h = absurd (let c : None ≡ Some x = e in cc)
found-too p q (y ∷ ys) x e h = elim (cases_Bool (q y)) [
  | inl t ↦ (y, rw t refl)
  | inr f ↦ elim (cases_Bool (p y)) [
    | inl u ↦ absurd (let same : y ≡ x = (let found = rw u at e in cc) in let clash : true ≡ false = sym (ap q same ∙ h) ∙ f in cc)
    | inr g ↦ (let (z, there) = found-too p q ys x (rw g at e) h in (z, rw f there))
  ]
]

pub all-mapped : {X : Type 0} (P : X → Type 0) (f : X → X) → ((x : X) → P x → P (f x)) → (xs : List X) → AllByRecursion P xs → AllByRecursion P (map f xs)
all-mapped P f keeps [] h = tt
all-mapped P f keeps (x ∷ xs) h = (keeps x h.0, all-mapped P f keeps xs h.1)

pub all-weaker : {X : Type 0} (P Q : X → Type 0) (xs : List X) → ((x : X) → P x → Q x) → AllByRecursion P xs → AllByRecursion Q xs
all-weaker P Q [] weaker h = tt
all-weaker P Q (x ∷ xs) weaker h = (weaker x h.0, all-weaker P Q xs weaker h.1)

-- ---- numbers compared

cmp-less : (a b : ℕ) → a < b → nat_cmp a b ≡ Less
cmp-less a b h = rw (lt-ltb a b h) refl

cmp-greater : (a b : ℕ) → b < a → nat_cmp a b ≡ Greater
cmp-greater a b h =
    let less : nat_lt a b ≡ false = grind (arith, nat_tests) in
    let same : nat_eq a b ≡ false = grind (arith, nat_tests) in
    rw less (rw same refl)

pub is_eq-nat_cmp : (a b : ℕ) → is_eq (nat_cmp a b) ≡ nat_eq b a
is_eq-nat_cmp a b = elim (cases_Bool (nat_lt a b)) [
  | inl t ↦ (let apart : nat_eq b a ≡ false = grind (arith, nat_tests) in rw t (sym apart))
  | inr f ↦ elim (cases_Bool (nat_eq a b)) [
    | inl e ↦ (let same : nat_eq b a ≡ true = grind (arith, nat_tests) in rw f (rw e (sym same)))
    | inr g ↦ (let apart : nat_eq b a ≡ false = grind (arith, nat_tests) in rw f (rw g (sym apart)))
  ]
]

at-own : (n : ℕ) (e : ℕ × Object) → e.0 ≡ e.1.serial.0 → is_at (nat_cmp n) e.0 ≡ has_serial (as_serial n) e.1
at-own n e h = is_eq-nat_cmp n e.0 ∙ ap (λ k. nat_eq k n) h

apart-serial : (x : Object) (serial : Serial) → x.serial.0 ≢ serial.0 → has_serial serial x ≡ false
apart-serial x serial h = ne_eqb x.serial.0 serial.0 h

-- ---- look-ups

pub lookup-numbered : (n : ℕ) (es : Entries) → AreKeyed es → lookup (is_at (nat_cmp n)) es ≡ numbered (values_of es) (as_serial n)
lookup-numbered n [] h = refl
lookup-numbered n (e ∷ es) h =
    ap (λ b. cond b (Some e.1) (lookup (is_at (nat_cmp n)) es)) (at-own n e h.0) ∙ ap (cond (has_serial (as_serial n) e.1) (Some e.1)) (lookup-numbered n es h.1)

-- none of those behind has the serial
none-behind : (n : ℕ) (xs : List Object) (serial : Serial) → serial.0 ≤ n → AllByRecursion (λ (y : Object). n < y.serial.0) xs → numbered xs serial ≡ None
none-behind n [] serial h a = refl
none-behind n (y ∷ ys) serial h a =
    let apart : has_serial serial y ≡ false = apart-serial y serial (λ e. omega (arith, e, h, a.0)) in
    rw apart (none-behind n ys serial h a.1)

-- an object that is found is the one of its serial
pub found-numbered : (p : Object → Bool) (xs : List Object) (x : Object) → AreInOrder xs → find p xs ≡ Some x → numbered xs x.serial ≡ Some x
found-numbered p [] x h e = absurd (let c : None ≡ Some x = e in cc)
found-numbered p (y ∷ ys) x h e = elim (cases_Bool (p y)) [
  | inl t ↦
      (let same : y ≡ x = (let found = rw t at e in cc) in
      let here : has_serial x.serial y ≡ true = eq-eqb y.serial.0 x.serial.0 (ap (λ (o : Object). o.serial.0) same) in
      rw here (ap (λ (o : Object). Some o) same))
  | inr f ↦
      (let behind = rw f at e in
      let more : y.serial.0 < x.serial.0 = all-found (λ (o : Object). y.serial.0 < o.serial.0) p ys x h.0 behind in
      let apart : has_serial x.serial y ≡ false = apart-serial y x.serial (λ s. omega (arith, s, more)) in
      rw apart (found-numbered p ys x h.1 behind))
]

-- ---- one more

pub behind-all : (n m : ℕ) (xs : List Object) → n < m → AllByRecursion (λ (y : Object). m < y.serial.0) xs → AllByRecursion (λ (y : Object). n < y.serial.0) xs
behind-all n m xs h a = all-weaker (λ (y : Object). m < y.serial.0) (λ (y : Object). n < y.serial.0) xs (λ y b. omega (arith, h, b)) a

pub all-added : (P : Object → Type 0) (o : Object) (xs : List Object) → P o → AllByRecursion P xs → AllByRecursion P (with_object o xs)
all-added P o [] here h = (here, tt)
all-added P o (x ∷ xs) here h = elim (cases_Bool (nat_lt o.serial.0 x.serial.0)) [
  | inl t ↦ rw t (here, (h.0, h.1))
  | inr f ↦ rw f (h.0, all-added P o xs here h.1)
]

-- the first of a list is not the one whose serial no object has
pub fresh-head : (x : Object) (xs : List Object) (serial : Serial) → numbered (x ∷ xs) serial ≡ None → (has_serial serial x ≡ false) × (numbered xs serial ≡ None)
fresh-head x xs serial none = elim (cases_Bool (has_serial serial x)) [
  | inl t ↦ absurd (let clash : Some x ≡ None = rw t at none in cc)
  | inr f ↦ (f, rw f at none)
]

pub in-order-added : (o : Object) (xs : List Object) → numbered xs o.serial ≡ None → AreInOrder xs → AreInOrder (with_object o xs)
in-order-added o [] none h = (tt, tt)
in-order-added o (x ∷ xs) none h =
    let (apart, rest) = fresh-head x xs o.serial none in
    elim (cases_Bool (nat_lt o.serial.0 x.serial.0)) [
      | inl t ↦ (let less = ltb-true o.serial.0 x.serial.0 t in rw t ((less, behind-all o.serial.0 x.serial.0 xs less h.0), h))
      | inr f ↦
          (let more : x.serial.0 < o.serial.0 = (let least = ltb-false o.serial.0 x.serial.0 f in let ne = eqb-false x.serial.0 o.serial.0 apart in omega (arith, least, ne)) in
          rw f (all-added (λ (y : Object). x.serial.0 < y.serial.0) o xs more h.0, in-order-added o xs rest h.1))
    ]

module _ (o : Object) (n : ℕ) (own : n ≡ o.serial.0) where
  pub values-inserted : (es : Entries) → AreKeyed es → numbered (values_of es) o.serial ≡ None → values_of (insert_entry nat_cmp es n o) ≡ with_object o (values_of es)
  values-inserted [] h none = refl
  values-inserted (e ∷ es) h none =
      let (apart, rest) = fresh-head e.1 (values_of es) o.serial none in
      elim (cases_Bool (nat_lt o.serial.0 e.1.serial.0)) [
        | inl t ↦ (let less = ltb-true o.serial.0 e.1.serial.0 t in rw (cmp-less n e.0 (omega (arith, own, h.0, less))) (rw t refl))
        | inr f ↦
            (let least = ltb-false o.serial.0 e.1.serial.0 f in
            let ne = eqb-false e.1.serial.0 o.serial.0 apart in
            rw (cmp-greater n e.0 (omega (arith, own, h.0, least, ne))) (rw f (ap (λ xs. e.1 ∷ xs) (values-inserted es h.1 rest))))
      ]

  pub keyed-inserted : (es : Entries) → AreKeyed es → numbered (values_of es) o.serial ≡ None → AreKeyed (insert_entry nat_cmp es n o)
  keyed-inserted [] h none = (own, tt)
  keyed-inserted (e ∷ es) h none =
      let (apart, rest) = fresh-head e.1 (values_of es) o.serial none in
      elim (cases_Bool (nat_lt o.serial.0 e.1.serial.0)) [
        | inl t ↦ (let less = ltb-true o.serial.0 e.1.serial.0 t in rw (cmp-less n e.0 (omega (arith, own, h.0, less))) (own, h))
        | inr f ↦
            (let least = ltb-false o.serial.0 e.1.serial.0 f in
            let ne = eqb-false e.1.serial.0 o.serial.0 apart in
            rw (cmp-greater n e.0 (omega (arith, own, h.0, least, ne))) (h.0, keyed-inserted es h.1 rest))
      ]

  -- what was put in is taken out again
  pub removed-inserted : (es : Entries) → AreKeyed es → numbered (values_of es) o.serial ≡ None → remove_entry (is_at (nat_cmp n)) (insert_entry nat_cmp es n o) ≡ es
  removed-inserted [] h none = let here : is_at (nat_cmp n) n ≡ true = is_eq-nat_cmp n n ∙ eq-eqb n n refl in rw here refl
  removed-inserted (e ∷ es) h none =
      let (apart, rest) = fresh-head e.1 (values_of es) o.serial none in
      elim (cases_Bool (nat_lt o.serial.0 e.1.serial.0)) [
        | inl t ↦
            (let less = ltb-true o.serial.0 e.1.serial.0 t in
            let here : is_at (nat_cmp n) n ≡ true = is_eq-nat_cmp n n ∙ eq-eqb n n refl in
            rw (cmp-less n e.0 (omega (arith, own, h.0, less))) (rw here refl))
        | inr f ↦
            (let least = ltb-false o.serial.0 e.1.serial.0 f in
            let ne = eqb-false e.1.serial.0 o.serial.0 apart in
            let there : is_at (nat_cmp n) e.0 ≡ false = is_eq-nat_cmp n e.0 ∙ ne_eqb e.0 n (λ s. omega (arith, own, h.0, least, ne, s)) in
            rw (cmp-greater n e.0 (omega (arith, own, h.0, least, ne))) (rw there (ap (λ fs. e ∷ fs) (removed-inserted es h.1 rest))))
      ]

-- ---- one is changed

unchanged-behind : (g : Object → Object) (n : ℕ) (xs : List Object) (serial : Serial) → serial.0 ≤ n → AllByRecursion (λ (y : Object). n < y.serial.0) xs → xs ≡ map (change_at g serial) xs
unchanged-behind g n [] serial h a = refl
unchanged-behind g n (y ∷ ys) serial h a =
    let apart : has_serial serial y ≡ false = apart-serial y serial (λ e. omega (arith, e, h, a.0)) in
    rw apart (ap (λ zs. y ∷ zs) (unchanged-behind g n ys serial h a.1))

pub values-set : (g : Object → Object) (n : ℕ) (es : Entries) (o : Object) → AreKeyed es → AreInOrder (values_of es) → numbered (values_of es) (as_serial n) ≡ Some o
    → values_of (set_value (is_at (nat_cmp n)) es (g o)) ≡ map (change_at g (as_serial n)) (values_of es)
values-set g n [] o h s e = absurd (let c : None ≡ Some o = e in cc)
values-set g n (d ∷ es) o h s e = elim (cases_Bool (has_serial (as_serial n) d.1)) [
  | inl t ↦
      (let here : is_at (nat_cmp n) d.0 ≡ true = at-own n d h.0 ∙ t in
      let same : d.1 ≡ o = (let found = rw t at e in cc) in
      let own : d.1.serial.0 ≡ n = eqb-true d.1.serial.0 n t in
      rw here (rw t (ap (λ (x : Object). g x ∷ values_of es) (sym same) ∙ ap (λ xs. g d.1 ∷ xs) (unchanged-behind g d.1.serial.0 (values_of es) (as_serial n) (omega (arith, own)) s.0))))
  | inr f ↦
      (let there : is_at (nat_cmp n) d.0 ≡ false = at-own n d h.0 ∙ f in
      rw there (rw f (ap (λ xs. d.1 ∷ xs) (values-set g n es o h.1 s.1 (rw f at e)))))
]

pub keyed-set : (n : ℕ) (es : Entries) (o : Object) → AreKeyed es → o.serial.0 ≡ n → AreKeyed (set_value (is_at (nat_cmp n)) es o)
keyed-set n [] o h own = tt
keyed-set n (d ∷ es) o h own = elim (cases_Bool (has_serial (as_serial n) d.1)) [
  | inl t ↦
      (let here : is_at (nat_cmp n) d.0 ≡ true = at-own n d h.0 ∙ t in
      let same : d.1.serial.0 ≡ n = eqb-true d.1.serial.0 n t in
      let key : d.0 ≡ o.serial.0 = h.0 ∙ (same ∙ sym own) in
      rw here (key, h.1))
  | inr f ↦
      (let there : is_at (nat_cmp n) d.0 ≡ false = at-own n d h.0 ∙ f in
      rw there (h.0, keyed-set n es o h.1 own))
]

-- a change that leaves serials leaves their order
module _ (f : Object → Object) (same : (x : Object) → (f x).serial ≡ x.serial) where
  behind-mapped : (n m : ℕ) (xs : List Object) → n ≡ m → AllByRecursion (λ (y : Object). m < y.serial.0) xs → AllByRecursion (λ (y : Object). n < y.serial.0) (map f xs)
  behind-mapped n m [] e h = tt
  behind-mapped n m (y ∷ ys) e h = (omega (arith, e, h.0, ap (λ (s : Serial). s.0) (same y)), behind-mapped n m ys e h.1)

  pub in-order-mapped : (xs : List Object) → AreInOrder xs → AreInOrder (map f xs)
  in-order-mapped [] h = tt
  in-order-mapped (x ∷ xs) h = (behind-mapped (f x).serial.0 x.serial.0 xs (ap (λ (s : Serial). s.0) (same x)) h.0, in-order-mapped xs h.1)

-- nothing is changed where no object has the serial
pub unchanged-none : (g : Object → Object) (xs : List Object) (serial : Serial) → numbered xs serial ≡ None → xs ≡ map (change_at g serial) xs
unchanged-none g [] serial none = refl
unchanged-none g (x ∷ xs) serial none =
    let (apart, rest) = fresh-head x xs serial none in
    rw apart (ap (λ ys. x ∷ ys) (unchanged-none g xs serial rest))

-- nor where the change leaves the one that has it
pub unchanged-one : (g : Object → Object) (xs : List Object) (serial : Serial) (o : Object) → AreInOrder xs → numbered xs serial ≡ Some o → o ≡ g o → xs ≡ map (change_at g serial) xs
unchanged-one g [] serial o h e same = refl
unchanged-one g (x ∷ xs) serial o h e same = elim (cases_Bool (has_serial serial x)) [
  | inl t ↦
      (let here : x ≡ o = (let found = rw t at e in cc) in
      let own : x.serial.0 ≡ serial.0 = eqb-true x.serial.0 serial.0 t in
      let left : x ≡ g x = subst (λ (y : Object). y ≡ g y) (sym here) same in
      rw t (ap (λ (y : Object). y ∷ xs) left ∙ ap (λ ys. g x ∷ ys) (unchanged-behind g x.serial.0 xs serial (omega (arith, own)) h.0)))
  | inr f ↦ rw f (ap (λ ys. x ∷ ys) (unchanged-one g xs serial o h.1 (rw f at e) same))
]
