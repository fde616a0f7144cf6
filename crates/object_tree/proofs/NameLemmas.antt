-- The object that a name belongs to, in a list in order, and after one more.
use Rattle.std.proofs.Common.{◌≡◌, ◌<◌, ◌≤◌, ◌⊎◌, ℕ, List, [], ◌∷◌, Bool, true, false, cond, nat_lt, Option, Some, None, option_map, bytes_eq, refl, sym, ap, ◌∙◌, arith, inl, inr, subst, reverse, map}
use mathlib.Core.List.{reverse-cons}
use Rattle.std.proofs.lemmas.Bool.{cases_Bool, le-ltb, lt-ltb, ltb-true, ltb-false, eqb-false, eq-eqb, ne_eqb}
use Rattle.std.proofs.lemmas.List.Folds.{find-append}
use Rattle.std.specs.List.{AllByRecursion, find}
use Rattle.std.specs.Option.{option_or}
use Rattle.ms_base.specs.declared.keys.Serial.{Serial}
use Rattle.object_tree.specs.declared.object.Object.{Object}
use Rattle.object_tree.specs.Objects.{AreInOrder, has_name, has_serial, named, numbered, with_object}
use Rattle.object_tree.specs.Tables.{greatest, raised}
use Rattle.object_tree.proofs.EntryLemmas.{all-weaker, behind-all, fresh-head, as_serial}

abbrev pub serial_in : Option Object → Option ℕ
serial_in o = option_map (λ (x : Object). x.serial.0) o

named-cons : (x : Object) (xs : List Object) (name : List ℕ) → named (x ∷ xs) name ≡ option_or (named xs name) (cond (has_name name x) (Some x) None)
named-cons x xs name = ap (find (has_name name)) (reverse-cons x xs) ∙ find-append (has_name name) (reverse xs) (x ∷ [])

later-or-here : (n : Option Object) (b : Bool) (o x : Object) → option_or n (cond b (Some o) None) ≡ Some x → (n ≡ Some x) ⊎ (o ≡ x)
later-or-here None true o x e = inr cc
later-or-here None false o x e = absurd cc
later-or-here (Some y) b o x e = inl e

named-of : (o x : Object) (xs : List Object) (name : List ℕ) → named (o ∷ xs) name ≡ Some x → (named xs name ≡ Some x) ⊎ (o ≡ x)
named-of o x xs name e = later-or-here (named xs name) (has_name name o) o x (sym (named-cons o xs name) ∙ e)

above : (n : ℕ) (xs : List Object) (name : List ℕ) (x : Object) → AllByRecursion (λ (y : Object). n < y.serial.0) xs → named xs name ≡ Some x → n < x.serial.0
above n [] name x h e = absurd (let c : None ≡ Some x = e in cc)
above n (o ∷ xs) name x h e = elim (named-of o x xs name e) [
  | inl later ↦ above n xs name x h.1 later
  | inr here ↦ subst (λ (z : Object). n < z.serial.0) here h.0
]

-- it is the one of its serial
named-numbered : (xs : List Object) (name : List ℕ) (x : Object) → AreInOrder xs → named xs name ≡ Some x → numbered xs x.serial ≡ Some x
named-numbered [] name x h e = absurd (let c : None ≡ Some x = e in cc)
named-numbered (o ∷ xs) name x h e = elim (named-of o x xs name e) [
  | inl later ↦
      (let more = above o.serial.0 xs name x h.0 later in
      let apart : has_serial x.serial o ≡ false = ne_eqb o.serial.0 x.serial.0 (λ s. omega (arith, s, more)) in
      rw apart (named-numbered xs name x h.1 later))
  | inr here ↦
      (let same : has_serial x.serial o ≡ true = eq-eqb o.serial.0 x.serial.0 (ap (λ (z : Object). z.serial.0) here) in
      rw same (ap (λ (z : Object). Some z) here))
]

serial_in-some : (o : Option Object) (s : ℕ) → Some s ≡ serial_in o → (x : Object) × (o ≡ Some x) × (x.serial.0 ≡ s)
serial_in-some None s e = absurd cc
serial_in-some (Some x) s e = let same : s ≡ x.serial.0 = cc in (x, refl, sym same)

pub named-at : (xs : List Object) (name : List ℕ) (s : ℕ) → AreInOrder xs → Some s ≡ serial_in (named xs name) → numbered xs (as_serial s) ≡ named xs name
named-at xs name s h e =
    let (x, there, number) = serial_in-some (named xs name) s e in
    let serial : as_serial s ≡ x.serial = ap as_serial (sym number) in
    ap (numbered xs) serial ∙ (named-numbered xs name x h there ∙ sym there)

-- ---- one more

serial_in-or : (a b : Option Object) → serial_in (option_or a b) ≡ option_or (serial_in a) (serial_in b)
serial_in-or None b = refl
serial_in-or (Some x) b = refl

serial-cons : (x : Object) (xs : List Object) (name : List ℕ) → serial_in (named (x ∷ xs) name) ≡ option_or (serial_in (named xs name)) (serial_in (cond (has_name name x) (Some x) None))
serial-cons x xs name = ap serial_in (named-cons x xs name) ∙ serial_in-or (named xs name) (cond (has_name name x) (Some x) None)

newest : (n : Option Object) (b : Bool) (o : Object) → ((x : Object) → n ≡ Some x → o.serial.0 ≤ x.serial.0)
    → option_or (serial_in n) (serial_in (cond b (Some o) None)) ≡ cond b (greatest o.serial.0 (serial_in n)) (serial_in n)
newest None true o h = refl
newest None false o h = refl
newest (Some x) true o h = let less : nat_lt x.serial.0 o.serial.0 ≡ false = le-ltb x.serial.0 o.serial.0 (h x refl) in rw less refl
newest (Some x) false o h = refl

either : (b : Bool) (s y : ℕ) (x : Option ℕ) → option_or (cond b (Some s) (Some y)) x ≡ cond b (Some s) (Some y)
either true s y x = refl
either false s y x = refl

older : (n x : Option ℕ) (b : Bool) (s : ℕ) → ((y : ℕ) → x ≡ Some y → y < s) → option_or (cond b (greatest s n) n) x ≡ cond b (greatest s (option_or n x)) (option_or n x)
older n x false s h = refl
older (Some y) x true s h = either (nat_lt y s) s y x
older None None true s h = refl
older None (Some y) true s h = let less : nat_lt y s ≡ true = lt-ltb y s (h y refl) in rw less refl

older-one : (b : Bool) (x : Object) (s : ℕ) → x.serial.0 < s → (y : ℕ) → serial_in (cond b (Some x) None) ≡ Some y → y < s
older-one true x s h y e = let same : x.serial.0 ≡ y = cc in omega (arith, same, h)
older-one false x s h y e = absurd cc

least : (a b : ℕ) → a < b → a ≤ b
least a b h = omega arith

-- the serials of the names after one more object
pub serials-added : (o : Object) (xs : List Object) (name : List ℕ) → AreInOrder xs → numbered xs o.serial ≡ None
    → serial_in (named (with_object o xs) name) ≡ raised o.name o.serial.0 name (serial_in (named xs name))
serials-added o [] name h none = serial-cons o [] name ∙ newest None (has_name name o) o (λ x found. absurd (let c : None ≡ Some x = found in cc))
serials-added o (x ∷ xs) name h none =
    let (apart, rest) = fresh-head x xs o.serial none in
    elim (cases_Bool (nat_lt o.serial.0 x.serial.0)) [
      | inl t ↦
          (let less = ltb-true o.serial.0 x.serial.0 t in
          rw t (serial-cons o (x ∷ xs) name
          ∙ newest (named (x ∷ xs) name) (has_name name o) o (λ y found. least _ _ (above o.serial.0 (x ∷ xs) name y (less, behind-all o.serial.0 x.serial.0 xs less h.0) found))))
      | inr f ↦
          (let more : x.serial.0 < o.serial.0 = (let low = ltb-false o.serial.0 x.serial.0 f in let ne = eqb-false x.serial.0 o.serial.0 apart in omega (arith, low, ne)) in
          let here : Option ℕ = serial_in (cond (has_name name x) (Some x) None) in
          let before : Option ℕ = serial_in (named xs name) in
          rw f (serial-cons x (with_object o xs) name
          ∙ (ap (λ (a : Option ℕ). option_or a here) (serials-added o xs name h.1 rest)
          ∙ (older before here (has_name name o) o.serial.0 (older-one (has_name name x) x o.serial.0 more)
          ∙ ap (raised o.name o.serial.0 name) (sym (serial-cons x xs name))))))
    ]

-- a change that leaves serials and names leaves the serials of the names
module _ (f : Object → Object) (same : (x : Object) → (f x).serial ≡ x.serial) (called : (x : Object) → (f x).name ≡ x.name) where
  serial-mapped : (x : Object) (b : Bool) → serial_in (cond b (Some (f x)) None) ≡ serial_in (cond b (Some x) None)
  serial-mapped x true = ap (λ (s : Serial). Some s.0) (same x)
  serial-mapped x false = refl

  pub serials-mapped : (xs : List Object) (name : List ℕ) → serial_in (named (map f xs) name) ≡ serial_in (named xs name)
  serials-mapped [] name = refl
  serials-mapped (x ∷ xs) name =
      serial-cons (f x) (map f xs) name
      ∙ (ap (λ (s : Option ℕ). option_or s (serial_in (cond (has_name name (f x)) (Some (f x)) None))) (serials-mapped xs name)
      ∙ (ap (option_or (serial_in (named xs name))) (serial-mapped x (has_name name (f x)) ∙ ap (λ (n : List ℕ). serial_in (cond (bytes_eq n name) (Some x) None)) (called x))
      ∙ sym (serial-cons x xs name)))

-- ---- a name belongs to the latest

neither : (n : Option Object) (b : Bool) (o : Object) → option_or n (cond b (Some o) None) ≡ None → (n ≡ None) × (b ≡ false)
neither None true o e = absurd cc
neither None false o e = (refl, refl)
neither (Some x) b o e = absurd cc

from-none : (n : Option Object) (b : Bool) (o x : Object) → n ≡ None → option_or n (cond b (Some o) None) ≡ Some x → o ≡ x
from-none None true o x none e = cc
from-none None false o x none e = absurd cc
from-none (Some z) b o x none e = absurd cc

from-some : (n : Option Object) (b : Bool) (o z x : Object) → n ≡ Some z → option_or n (cond b (Some o) None) ≡ Some x → z ≡ x
from-some None b o z x some e = absurd cc
from-some (Some y) b o z x some e = cc

none-named : (xs : List Object) (name : List ℕ) → named xs name ≡ None → AllByRecursion (λ (y : Object). has_name name y ≡ false) xs
none-named [] name e = tt
none-named (x ∷ xs) name e =
    let parts = neither (named xs name) (has_name name x) x (sym (named-cons x xs name) ∙ e) in
    (parts.1, none-named xs name parts.0)

latest-of : (o x : Object) (xs : List Object) (name : List ℕ) → AreInOrder (o ∷ xs) → (found : Option Object) → named xs name ≡ found → named (o ∷ xs) name ≡ Some x
    → (named xs name ≡ Some x → AllByRecursion (λ (y : Object). has_name name y ≡ true → y.serial.0 ≤ x.serial.0) xs)
    → AllByRecursion (λ (y : Object). has_name name y ≡ true → y.serial.0 ≤ x.serial.0) (o ∷ xs)
latest-of o x xs name h None e there more =
    let here : o ≡ x = from-none (named xs name) (has_name name o) o x e (sym (named-cons o xs name) ∙ there) in (
      (λ t. let same = ap (λ (z : Object). z.serial.0) here in omega (arith, same)),
      all-weaker (λ (y : Object). has_name name y ≡ false) (λ (y : Object). has_name name y ≡ true → y.serial.0 ≤ x.serial.0) xs
          (λ y f t. let clash : true ≡ false = sym t ∙ f in absurd cc) (none-named xs name e),
    )
latest-of o x xs name h (Some z) e there more =
    let same : z ≡ x = from-some (named xs name) (has_name name o) o z x e (sym (named-cons o xs name) ∙ there) in
    let later : named xs name ≡ Some x = e ∙ ap (λ (y : Object). Some y) same in
    ((λ t. least o.serial.0 x.serial.0 (above o.serial.0 xs name x h.0 later)), more later)

pub latest-named : (xs : List Object) (name : List ℕ) (x : Object) → AreInOrder xs → named xs name ≡ Some x
    → AllByRecursion (λ (y : Object). has_name name y ≡ true → y.serial.0 ≤ x.serial.0) xs
latest-named [] name x h e = tt
latest-named (o ∷ xs) name x h e = latest-of o x xs name h (named xs name) refl e (latest-named xs name x h.1)
