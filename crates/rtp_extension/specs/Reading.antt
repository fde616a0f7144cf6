-- The elements of an extension, read from its first byte on: RFC 8285, sections 4.2 and 4.3. `Laws` says that they
-- are those of the grammar in `Elements`.
use Rattle.std.specs.Prelude.{ℕ, zero, suc, ◌+◌, ◌-◌, ◌/◌, ◌%◌, nat_le, ◌&&◌, if◌then◌else◌, List, [], ◌∷◌, length, take, Option, Some, None}
use Rattle.rtp_extension.specs.declared.form.Form.{Form}
use Rattle.rtp_extension.specs.declared.form.Form.TheVariants.{OneByte, TwoByte}
use Rattle.rtp_extension.specs.Elements.{Element, form_of, spelled}

-- the element with this id and so many bytes of data, which stand at the front of these, if all are there
abbrev pub element_with : ℕ → ℕ → List ℕ → Option Element
element_with id len bytes = if nat_le len (length bytes) then Some (id, take len bytes) else None

-- the element at the front of these bytes, if a whole one stands there
abbrev pub element_at : Form → List ℕ → Option Element
element_at OneByte [] = None
element_at OneByte (first ∷ rest) =
    if nat_le 1 (first / 16) && nat_le (first / 16) 14 then element_with (first / 16) (first % 16 + 1) rest else None
element_at TwoByte [] = None
element_at TwoByte (id ∷ []) = None
element_at TwoByte (id ∷ len ∷ rest) = if nat_le 1 id then element_with id len rest else None

-- the elements of what stands behind the first n of these bytes
abbrev pub elements_behind : Form → ℕ → List ℕ → List Element
elements_behind form n [] = []
elements_behind form (suc n) (_ ∷ rest) = elements_behind form n rest
elements_behind form zero (zero ∷ rest) = elements_behind form zero rest
elements_behind form zero (suc n ∷ rest) =
    elim (element_at form (suc n ∷ rest)) [ None ↦ [] | Some e ↦ e ∷ elements_behind form (length (spelled form e) - 1) rest ]

-- the elements of the words of an extension
abbrev pub elements_in : Form → List ℕ → List Element
elements_in form words = elements_behind form 0 words

-- an extension of another profile has none
abbrev pub elements_under : Option Form → List ℕ → List Element
elements_under None words = []
elements_under (Some form) words = elements_in form words

-- the elements of a packet's extension: the profile, and the words behind it
abbrev pub elements_of : Option (ℕ × List ℕ) → List Element
elements_of None = []
elements_of (Some e) = elements_under (form_of e.0) e.1
