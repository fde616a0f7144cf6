-- The element at the front of bytes: what is spelled there is read, and what is read is spelled there.
use Rattle.std.proofs.Common.{◌≡◌, ◌≢◌, ℕ, zero, suc, ◌+◌, ◌-◌, ◌*◌, ◌/◌, ◌%◌, ◌≤◌, Bool, true, false, List, [], ◌∷◌, ◌++◌, length, take, drop, Option, Some, None, refl, sym, ap, subst, ◌∙◌, arith, length-append}
use Rattle.std.specs.Prelude.{nat_le, ◌&&◌, if◌then◌else◌}
use Rattle.std.proofs.lemmas.Bool.{leb-true, le-leb}
use Rattle.std.proofs.lemmas.List.{length-take, take_at, take-append-drop}
use Rattle.rtp_packet.specs.Packet.{AreBytes}
use Rattle.rtp_extension.specs.declared.form.Form.{Form}
use Rattle.rtp_extension.specs.declared.form.Form.TheVariants.{OneByte, TwoByte}
use Rattle.rtp_extension.specs.Elements.{Element, IsElement, spelled}
use Rattle.rtp_extension.specs.Reading.{element_with, element_at, elements_behind, elements_in}
use Rattle.rtp_extension.specs.Viewing.{IsSplit}

-- ---- tests

if_true : {X : Type 0} (b : Bool) (x y : X) → b ≡ true → (if b then x else y) ≡ x
if_true true x y h = refl
if_true false x y h = absurd cc

pub if_some : {X : Type 0} (b : Bool) (o : Option X) (x : X) → (if b then o else None) ≡ Some x → (b ≡ true) × (o ≡ Some x)
if_some true o x h = (refl, h)
if_some false o x h = absurd cc

both : (a b : Bool) → a && b ≡ true → (a ≡ true) × (b ≡ true)
both true true h = (refl, refl)
both true false h = absurd cc
both false b h = absurd cc

both_true : (a b : Bool) → a ≡ true → b ≡ true → a && b ≡ true
both_true true true g h = refl
both_true true false g h = absurd cc
both_true false b g h = absurd cc

-- ---- what is spelled is read

element_with-front : (id len : ℕ) (content rest : List ℕ) → len ≡ length content → element_with id len (content ++ rest) ≡ Some (id, content)
element_with-front id len content rest e =
    if_true (nat_le len (length (content ++ rest))) (Some (id, take len (content ++ rest))) None (le-leb len (length (content ++ rest)) (omega (arith, length-append content rest, e)))
    ∙ ap (λ (xs : List ℕ). Some (id, xs)) (take_at content rest len (sym e))

one_byte_front : (first id : ℕ) (content rest : List ℕ) → first / 16 ≡ id → first % 16 + 1 ≡ length content → 1 ≤ id → id ≤ 14
    → element_at OneByte (first ∷ (content ++ rest)) ≡ Some (id, content)
one_byte_front first id content rest i l low high =
    if_true (nat_le 1 (first / 16) && nat_le (first / 16) 14) (element_with (first / 16) (first % 16 + 1) (content ++ rest)) None
    (both_true _ _ (le-leb 1 (first / 16) (omega arith)) (le-leb (first / 16) 14 (omega arith)))
    ∙ element_with-front (first / 16) (first % 16 + 1) content rest l
    ∙ ap (λ (n : ℕ). Some (n, content)) i

pub spelled_front : (form : Form) (e : Element) (rest : List ℕ) → IsElement form e → element_at form (spelled form e ++ rest) ≡ Some e
spelled_front OneByte (id, content) rest is =
    one_byte_front (16 * id + (length content - 1)) id content rest (omega arith) (omega arith) is.0 is.1
spelled_front TwoByte (id, content) rest is =
    if_true (nat_le 1 id) (element_with id (length content) (content ++ rest)) None (le-leb 1 id is.0)
    ∙ element_with-front id (length content) content rest refl

-- ---- what is read is spelled

pub record Stands (form : Form) (e : Element) (bytes : List ℕ) : Type 0 where
  pub is_element : IsElement form e
  pub written : bytes ≡ spelled form e ++ drop (length (spelled form e)) bytes

record HasData (id len : ℕ) (bytes : List ℕ) (e : Element) : Type 0 where
  fits : len ≤ length bytes
  is : (id, take len bytes) ≡ e

element_with-found : (id len : ℕ) (bytes : List ℕ) (e : Element) → element_with id len bytes ≡ Some e → HasData id len bytes e
element_with-found id len bytes e h =
    let found = if_some (nat_le len (length bytes)) (Some (id, take len bytes)) e h in
    record { fits = leb-true len (length bytes) found.0; is = cc found.1 }

one_byte_stands : (first : ℕ) (rest : List ℕ) → 1 ≤ first / 16 → first / 16 ≤ 14 → first % 16 + 1 ≤ length rest
    → Stands OneByte (first / 16, take (first % 16 + 1) rest) (first ∷ rest)
one_byte_stands first rest low high fits =
    let len : length (take (first % 16 + 1) rest) ≡ first % 16 + 1 = omega (arith, length-take (first % 16 + 1) rest) in
    let head : first ≡ 16 * (first / 16) + (length (take (first % 16 + 1) rest) - 1) = omega arith in
    record {
      is_element = (low, high, omega arith, omega arith);
      written =
          ap (λ (n : ℕ). n ∷ rest) head
          ∙ ap (λ (xs : List ℕ). (16 * (first / 16) + (length (take (first % 16 + 1) rest) - 1)) ∷ xs)
          (sym (take-append-drop (first % 16 + 1) rest) ∙ ap (λ (n : ℕ). take (first % 16 + 1) rest ++ drop n rest) (sym len));
    }

two_byte_stands : (id len : ℕ) (rest : List ℕ) → 1 ≤ id → id ≤ 255 → len ≤ 255 → len ≤ length rest
    → Stands TwoByte (id, take len rest) (id ∷ len ∷ rest)
two_byte_stands id len rest low high short fits =
    let is_len : length (take len rest) ≡ len = omega (arith, length-take len rest) in
    record {
      is_element = (low, high, omega arith);
      written =
          ap (λ (n : ℕ). id ∷ n ∷ rest) (sym is_len)
          ∙ ap (λ (xs : List ℕ). id ∷ length (take len rest) ∷ xs)
          (sym (take-append-drop len rest) ∙ ap (λ (n : ℕ). take len rest ++ drop n rest) (sym is_len));
    }

pub stands : (form : Form) (bytes : List ℕ) (e : Element) → AreBytes bytes → element_at form bytes ≡ Some e → Stands form e bytes
stands OneByte [] e fits h = absurd cc
stands OneByte (first ∷ rest) e fits h =
    let found = if_some (nat_le 1 (first / 16) && nat_le (first / 16) 14) (element_with (first / 16) (first % 16 + 1) rest) e h in
    let id = both (nat_le 1 (first / 16)) (nat_le (first / 16) 14) found.0 in
    let its_data = element_with-found (first / 16) (first % 16 + 1) rest e found.1 in
    subst (λ (e : Element). Stands OneByte e (first ∷ rest)) its_data.is
    (one_byte_stands first rest (leb-true 1 (first / 16) id.0) (leb-true (first / 16) 14 id.1) its_data.fits)
stands TwoByte [] e fits h = absurd cc
stands TwoByte (id ∷ []) e fits h = absurd cc
stands TwoByte (id ∷ len ∷ rest) e fits h =
    let found = if_some (nat_le 1 id) (element_with id len rest) e h in
    let its_data = element_with-found id len rest e found.1 in
    subst (λ (e : Element). Stands TwoByte e (id ∷ len ∷ rest)) its_data.is
    (two_byte_stands id len rest (leb-true 1 id found.0) (omega (arith, fits 0)) (omega (arith, fits 1)) its_data.fits)

-- ---- the list goes on behind it

pub skipped : (form : Form) (n : ℕ) (bytes : List ℕ) → elements_behind form n bytes ≡ elements_in form (drop n bytes)
skipped form zero bytes = refl
skipped form (suc n) [] = refl
skipped form (suc n) (x ∷ bytes) = skipped form n bytes

behind_spelled : (form : Form) (e : Element) (x : ℕ) (rest : List ℕ) → drop (length (spelled form e) - 1) rest ≡ drop (length (spelled form e)) (x ∷ rest)
behind_spelled OneByte e x rest = let less : suc (length e.1) - 1 ≡ length e.1 = omega arith in ap (λ (n : ℕ). drop n rest) less
behind_spelled TwoByte e x rest = let less : suc (suc (length e.1)) - 1 ≡ suc (length e.1) = omega arith in ap (λ (n : ℕ). drop n rest) less

pub elements_in-element : (form : Form) (bytes : List ℕ) (e : Element) → element_at form bytes ≡ Some e
    → elements_in form bytes ≡ e ∷ elements_in form (drop (length (spelled form e)) bytes)
elements_in-element OneByte [] e h = absurd cc
elements_in-element TwoByte [] e h = absurd cc
elements_in-element OneByte (zero ∷ rest) e h = absurd cc
elements_in-element TwoByte (zero ∷ []) e h = absurd cc
elements_in-element TwoByte (zero ∷ x ∷ rest) e h = absurd cc
elements_in-element form (suc n ∷ rest) e h =
    ap (λ (o : Option Element). elim o [ None ↦ [] | Some e ↦ e ∷ elements_behind form (length (spelled form e) - 1) rest ]) h
    ∙ ap (λ (es : List Element). e ∷ es) (skipped form (length (spelled form e) - 1) rest ∙ ap (elements_in form) (behind_spelled form e (suc n) rest))

pub elements_in-none : (form : Form) (bytes : List ℕ) → element_at form bytes ≡ None → ((rest : List ℕ) → bytes ≢ 0 ∷ rest) → elements_in form bytes ≡ []
elements_in-none form [] h front = refl
elements_in-none form (zero ∷ rest) h front = absurd (front rest refl)
elements_in-none form (suc n ∷ rest) h front =
    ap (λ (o : Option Element). elim o [ None ↦ [] | Some e ↦ e ∷ elements_behind form (length (spelled form e) - 1) rest ]) h

-- what is left behind the first element that is read
pub next_element : (form : Form) (now : List Element) (rest bytes : List ℕ) (id : ℕ) (content behind : List ℕ)
    → elements_in form rest ≡ now → elements_in form bytes ≡ elements_in form rest → IsSplit form bytes id content behind
    → now ≡ (id, content) ∷ elements_in form behind
next_element form now rest bytes id content behind v s split =
    sym v ∙ sym s ∙ elements_in-element form bytes (id, content) split.element
    ∙ ap (λ (xs : List ℕ). (id, content) ∷ elements_in form xs) (sym split.rest_is)
