-- Reading is the grammar.
use Rattle.std.proofs.Common.{◌≡◌, ◌≢◌, ℕ, zero, suc, ◌≤◌, List, [], ◌∷◌, ◌++◌, length, drop, Option, Some, None, refl, sym, ap, subst, ◌∙◌, arith, length-append}
use Rattle.std.specs.List.{AllByRecursion}
use Rattle.std.proofs.lemmas.List.{length-drop, drop_at}
use Rattle.rtp_packet.specs.Packet.{AreBytes}
use Rattle.rtp_extension.specs.declared.form.Form.{Form}
use Rattle.rtp_extension.specs.declared.form.Form.TheVariants.{OneByte, TwoByte}
use Rattle.rtp_extension.specs.Elements.{Element, IsElement, spelled, spelling, EndsList, Spells, padding, element, end}
use Rattle.rtp_extension.specs.Reading.{element_at, elements_in}
use Rattle.rtp_extension.proofs.Front.{Stands, stands, spelled_front, elements_in-element, elements_in-none}

-- ---- bytes

pub AreBytes-behind : (xs ys : List ℕ) → AreBytes (xs ++ ys) → AreBytes ys
AreBytes-behind [] ys fits = fits
AreBytes-behind (x ∷ xs) ys fits = AreBytes-behind xs ys (λ i. fits (suc i))

-- ---- what is spelled so is read

no_element_at : (form : Form) (bytes : List ℕ) → AreBytes bytes → EndsList form bytes → (o : Option Element) → element_at form bytes ≡ o → o ≡ None
no_element_at form bytes fits ends None h = refl
no_element_at form bytes fits ends (Some e) h =
    let found = stands form bytes e fits h in
    absurd (ends.no_element e (drop (length (spelled form e)) bytes) found.is_element found.written)

-- an element, and whatever follows
pub elements_in-spelled : (form : Form) (e : Element) (rest : List ℕ) → IsElement form e → elements_in form (spelled form e ++ rest) ≡ e ∷ elements_in form rest
elements_in-spelled form e rest is =
    elements_in-element form (spelled form e ++ rest) e (spelled_front form e rest is)
    ∙ ap (λ (xs : List ℕ). e ∷ elements_in form xs) (drop_at (spelled form e) rest (length (spelled form e)) refl)

pub read_from_grammar : {form : Form} {es : List Element} {bytes : List ℕ} → Spells form es bytes → AreBytes bytes → es ≡ elements_in form bytes
read_from_grammar (padding s) fits = read_from_grammar s (λ i. fits (suc i))
read_from_grammar {form} (element {es} {rest} e is s) fits =
    ap (λ (es : List Element). e ∷ es) (read_from_grammar s (AreBytes-behind (spelled form e) rest fits)) ∙ sym (elements_in-spelled form e rest is)
read_from_grammar {form} (end {bytes} ends) fits = sym (elements_in-none form bytes (no_element_at form bytes fits ends (element_at form bytes) refl) ends.no_padding)

-- ---- what is read is spelled so

spelled_some : (form : Form) (e : Element) → 1 ≤ length (spelled form e)
spelled_some OneByte e = omega arith
spelled_some TwoByte e = omega arith

no_bytes : (form : Form) → EndsList form []
no_bytes form = record { no_padding = λ rest h. cc; no_element = λ e rest is h. nothing form e rest h }
  where
    nothing : (form : Form) (e : Element) (rest : List ℕ) → [] ≢ spelled form e ++ rest
    nothing OneByte e rest h = cc
    nothing TwoByte e rest h = cc

ends_here : (form : Form) (n : ℕ) (rest : List ℕ) → element_at form (suc n ∷ rest) ≡ None → EndsList form (suc n ∷ rest)
ends_here form n rest h = record {
  no_padding = λ r e. cc;
  no_element = λ e r is b.
      let found : Some e ≡ element_at form (suc n ∷ rest) = sym (spelled_front form e r is) ∙ ap (element_at form) (sym b) in cc (found ∙ h);
}

-- behind a byte that isn't 0, if what is shorter is spelled as it is read
front_spells : (form : Form) (x : ℕ) (rest : List ℕ) → AreBytes (suc x ∷ rest)
    → ((bytes : List ℕ) → length bytes ≤ length rest → AreBytes bytes → Spells form (elements_in form bytes) bytes)
    → (o : Option Element) → element_at form (suc x ∷ rest) ≡ o → Spells form (elements_in form (suc x ∷ rest)) (suc x ∷ rest)
front_spells form x rest fits shorter None h =
    let ends : EndsList form (suc x ∷ rest) = ends_here form x rest h in
    subst (λ (es : List Element). Spells form es (suc x ∷ rest)) (sym (elements_in-none form (suc x ∷ rest) h ends.no_padding)) (end ends)
front_spells form x rest fits shorter (Some e) h =
    let bytes : List ℕ = suc x ∷ rest in
    let behind : List ℕ = drop (length (spelled form e)) bytes in
    let found : Stands form e bytes = stands form bytes e fits h in
    let fewer : length behind ≤ length rest = omega (arith, length-drop (length (spelled form e)) bytes, spelled_some form e) in
    let behind_fits : AreBytes behind = AreBytes-behind (spelled form e) behind (subst AreBytes found.written fits) in
    let spells : Spells form (e ∷ elements_in form behind) (spelled form e ++ behind) = element e found.is_element (shorter behind fewer behind_fits) in
    subst (λ (es : List Element). Spells form es bytes) (sym (elements_in-element form bytes e h))
    (subst (λ (bs : List ℕ). Spells form (e ∷ elements_in form behind) bs) (sym found.written) spells)

grammar_within : (n : ℕ) (form : Form) (bytes : List ℕ) → length bytes ≤ n → AreBytes bytes → Spells form (elements_in form bytes) bytes
grammar_within n form [] short fits = end (no_bytes form)
grammar_within zero form (x ∷ rest) short fits = absurd (omega arith)
grammar_within (suc n) form (zero ∷ rest) short fits = padding (grammar_within n form rest (omega arith) (λ i. fits (suc i)))
grammar_within (suc n) form (suc x ∷ rest) short fits =
    front_spells form x rest fits (λ bytes fewer are. grammar_within n form bytes (omega arith) are) (element_at form (suc x ∷ rest)) refl

pub grammar_from_read : (form : Form) (bytes : List ℕ) → AreBytes bytes → Spells form (elements_in form bytes) bytes
grammar_from_read form bytes fits = grammar_within (length bytes) form bytes (omega arith) fits

-- ---- what is known of the elements

pub spells_elements : {form : Form} {es : List Element} {bytes : List ℕ} → Spells form es bytes → AllByRecursion (IsElement form) es
spells_elements (padding s) = spells_elements s
spells_elements (element e is s) = (is, spells_elements s)
spells_elements (end ends) = tt

pub are_elements : (form : Form) (bytes : List ℕ) → AreBytes bytes → AllByRecursion (IsElement form) (elements_in form bytes)
are_elements form bytes fits = spells_elements (grammar_from_read form bytes fits)

spells_len : {form : Form} {es : List Element} {bytes : List ℕ} → Spells form es bytes → length (spelling form es) ≤ length bytes
spells_len (padding s) = omega (arith, spells_len s)
spells_len {form} (element {es} {rest} e is s) =
    omega (arith, spells_len s, length-append (spelled form e) rest, length-append (spelled form e) (spelling form es))
spells_len (end ends) = omega arith

pub spelling_len : (form : Form) (bytes : List ℕ) → AreBytes bytes → length (spelling form (elements_in form bytes)) ≤ length bytes
spelling_len form bytes fits = spells_len (grammar_from_read form bytes fits)
