-- The elements of an RTP header extension and how they are spelled: RFC 8285, sections 4.2 and 4.3.
use Rattle.std.specs.Prelude.{◌≢◌, ℕ, ◌+◌, ◌-◌, ◌*◌, ◌/◌, ◌≤◌, ◌==◌, if◌then◌else◌, List, [], ◌∷◌, ◌++◌, length, Option, Some, None}
use Rattle.rtp_extension.specs.declared.form.Form.{Form}
use Rattle.rtp_extension.specs.declared.form.Form.TheVariants.{OneByte, TwoByte}

-- an id and data
abbrev pub Element : Type 0
Element = ℕ × List ℕ

-- the form that a profile says: 0xBEDE, or 0x100 in the first twelve bits and any value in the last four, the
-- "appbits"
abbrev pub form_of : ℕ → Option Form
form_of profile = if profile == 0xBEDE then Some OneByte else if profile / 16 == 0x100 then Some TwoByte else None

-- which elements a form can spell: id 0 is padding in both, and id 15 is reserved in the one-byte form
abbrev pub IsElement : Form → Element → Type 0
IsElement OneByte e = (1 ≤ e.0) × (e.0 ≤ 14) × (1 ≤ length e.1) × (length e.1 ≤ 16)
IsElement TwoByte e = (1 ≤ e.0) × (e.0 ≤ 255) × (length e.1 ≤ 255)

-- section 4.2: the id in the high four bits, and the number of bytes less one in the low four. Section 4.3: a byte with
-- the id, and one with the number of bytes.
abbrev pub spelled : Form → Element → List ℕ
spelled OneByte e = (16 * e.0 + (length e.1 - 1)) ∷ e.1
spelled TwoByte e = e.0 ∷ length e.1 ∷ e.1

-- elements, one behind the other
abbrev pub spelling : Form → List Element → List ℕ
spelling form [] = []
spelling form (e ∷ es) = spelled form e ++ spelling form es

-- neither padding nor a whole element stands at the front of these bytes: they are none, or begin with the id 15 of the
-- one-byte form, or with its id 0 and a length, or with an element that passes their end
pub record EndsList (form : Form) (bytes : List ℕ) : Type 0 where
  pub no_padding : (rest : List ℕ) → bytes ≢ 0 ∷ rest
  pub no_element : (e : Element) (rest : List ℕ) → IsElement form e → bytes ≢ spelled form e ++ rest

-- The grammar: these bytes are these elements, with padding of single bytes 0 before, between and behind them, up to
-- where the list ends.
pub data Spells (form : Form) : List Element → List ℕ → Type 0 where
  padding : {es : List Element} {rest : List ℕ} → Spells form es rest → Spells form es (0 ∷ rest)
  element : {es : List Element} {rest : List ℕ} → (e : Element) → IsElement form e → Spells form es rest → Spells form (e ∷ es) (spelled form e ++ rest)
  end : {bytes : List ℕ} → EndsList form bytes → Spells form [] bytes
