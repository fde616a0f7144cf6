-- Worked rows of the definitions, which compute.
use Rattle.std.specs.Prelude.{◌≡◌, ℕ, ◌==◌, if◌then◌else◌, [], ◌∷◌, Option, Some, None}
use mathlib.Core.Path.{refl}
use Rattle.rtp_extension.specs.declared.form.Form.TheVariants.{OneByte, TwoByte}
use Rattle.rtp_extension.specs.Elements.{form_of}
use Rattle.rtp_extension.specs.Reading.{elements_in, elements_of}
use Rattle.rtp_extension.specs.Rewriting.{extension_with}

-- ---- which form a profile says

one_byte : form_of 0xBEDE ≡ Some OneByte
one_byte = refl

first_two_byte : form_of 0x1000 ≡ Some TwoByte
first_two_byte = refl

last_two_byte : form_of 0x100F ≡ Some TwoByte
last_two_byte = refl

behind_two_byte : form_of 0x1010 ≡ None
behind_two_byte = refl

before_two_byte : form_of 0x0FFF ≡ None
before_two_byte = refl

-- ---- elements of the one-byte form

-- padding before, between and behind
three_elements : elements_in OneByte (0x00 ∷ 0x10 ∷ 0xAA ∷ 0x00 ∷ 0x00 ∷ 0x21 ∷ 0xBB ∷ 0xCC ∷ 0xE0 ∷ 0x00 ∷ 0x00 ∷ 0x00 ∷ []) ≡ (1, 0xAA ∷ []) ∷ (2, 0xBB ∷ 0xCC ∷ []) ∷ (14, 0x00 ∷ []) ∷ []
three_elements = refl

id_15_ends : elements_in OneByte (0x10 ∷ 0xAA ∷ 0xF0 ∷ 0x10 ∷ 0x20 ∷ 0xBB ∷ 0x00 ∷ 0x00 ∷ []) ≡ (1, 0xAA ∷ []) ∷ []
id_15_ends = refl

id_0_with_a_length_ends : elements_in OneByte (0x10 ∷ 0xAA ∷ 0x01 ∷ 0x10 ∷ 0x20 ∷ 0xBB ∷ 0x00 ∷ 0x00 ∷ []) ≡ (1, 0xAA ∷ []) ∷ []
id_0_with_a_length_ends = refl

one_byte_past_the_end : elements_in OneByte (0x10 ∷ 0xAA ∷ 0x22 ∷ 0xBB ∷ []) ≡ (1, 0xAA ∷ []) ∷ []
one_byte_past_the_end = refl

up_to_the_end : elements_in OneByte (0x32 ∷ 0x01 ∷ 0x02 ∷ 0x03 ∷ []) ≡ (3, 0x01 ∷ 0x02 ∷ 0x03 ∷ []) ∷ []
up_to_the_end = refl

-- ---- elements of the two-byte form

-- data of no bytes, padding, the greatest id
two_byte_elements : elements_in TwoByte (0x01 ∷ 0x00 ∷ 0x00 ∷ 0xFF ∷ 0x02 ∷ 0x00 ∷ 0xF0 ∷ 0x00 ∷ []) ≡ (1, []) ∷ (255, 0x00 ∷ 0xF0 ∷ []) ∷ []
two_byte_elements = refl

two_byte_past_the_end : elements_in TwoByte (0x0F ∷ 0x01 ∷ 0xAA ∷ 0x00 ∷ 0x02 ∷ 0x03 ∷ 0xBB ∷ 0xCC ∷ []) ≡ (15, 0xAA ∷ []) ∷ []
two_byte_past_the_end = refl

id_is_the_last_byte : elements_in TwoByte (0x01 ∷ 0x01 ∷ 0xAA ∷ 0x02 ∷ []) ≡ (1, 0xAA ∷ []) ∷ []
id_is_the_last_byte = refl

-- ---- extensions

other_profile : elements_of (Some (0x1234, 0x10 ∷ 0xAA ∷ 0x00 ∷ 0x00 ∷ [])) ≡ []
other_profile = refl

-- 3 becomes 10, 1 becomes 15 and 255 becomes 1
abbrev ids : ℕ → Option ℕ
ids id = if id == 3 then Some 10 else if id == 1 then Some 15 else if id == 255 then Some 1 else None

renamed_row : extension_with ids (Some (0xBEDE, 0x30 ∷ 0xFF ∷ 0x00 ∷ 0x00 ∷ [])) ≡ Some (0xBEDE, 0xA0 ∷ 0xFF ∷ 0x00 ∷ 0x00 ∷ [])
renamed_row = refl

nothing_is_kept : extension_with (λ id. None) (Some (0xBEDE, 0x30 ∷ 0xFF ∷ 0x00 ∷ 0x00 ∷ [])) ≡ Some (0xBEDE, [])
nothing_is_kept = refl

-- the one-byte form has no id 15
fifteen_is_not_kept : extension_with ids (Some (0xBEDE, 0x10 ∷ 0xAA ∷ 0x31 ∷ 0x01 ∷ 0x02 ∷ 0x00 ∷ 0x00 ∷ 0x00 ∷ [])) ≡ Some (0xBEDE, 0xA1 ∷ 0x01 ∷ 0x02 ∷ 0x00 ∷ [])
fifteen_is_not_kept = refl

-- and the two-byte form has
fifteen_is_kept : extension_with ids (Some (0x100A, 0x01 ∷ 0x00 ∷ 0x00 ∷ 0xFF ∷ 0x02 ∷ 0x07 ∷ 0x08 ∷ 0x00 ∷ [])) ≡ Some (0x100A, 0x0F ∷ 0x00 ∷ 0x01 ∷ 0x02 ∷ 0x07 ∷ 0x08 ∷ 0x00 ∷ 0x00 ∷ [])
fifteen_is_kept = refl

other_profile_stays : extension_with ids (Some (0x1234, 0xDE ∷ 0xAD ∷ 0xBE ∷ 0xEF ∷ [])) ≡ Some (0x1234, 0xDE ∷ 0xAD ∷ 0xBE ∷ 0xEF ∷ [])
other_profile_stays = refl
