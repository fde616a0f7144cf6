-- The words behind the first word of a line, by their forms (this project's own): how many there are is looked at
-- before any of them is, and then they are read one after another.
use Rattle.std.specs.Prelude.{ℕ, zero, suc, ◌^◌, ◌&&◌, nat_lt, is_some, decimal, map, List, [], ◌∷◌, Bool, true, false, length, Result, Ok, Err}
use Rattle.std.specs.Char.{to_ascii_lowercase}
use Rattle.std.specs.List.{list_all}
use Rattle.hex.specs.Hex.{encode_lower}
use Rattle.serde_json.specs.Read.{read}
use Rattle.ms_base.specs.Name.{is_name}
use Rattle.ms_base.specs.declared.keys.Event.{Event as Noted}
use Rattle.ms_base.specs.declared.code.Code.{Code}
use Rattle.ms_base.specs.declared.code.Code.TheVariants as code
use Rattle.script_text.specs.Words.{◌>>=◌, name_of, number_of, event_of, event_word, json_of, hex_of, rest_of_line, is_within, is_line}

-- the form of a word
pub data Form : Type 0 where
  Name : Form
  -- a number from low to high
  Number : ℕ → ℕ → Form
  Event : Form
  -- bytes in hexadecimal, at least one
  Hex : Form
  -- a JSON text, which is the rest of the line
  Json : Form

-- the forms of the words of a line, one at least
pub data Shape : Type 0 where
  Last : Form → Shape
  Then : Form → Shape → Shape

-- what a word of this form stands for
abbrev pub Value : Form → Type 0
Value Name = List ℕ
Value (Number low high) = ℕ
Value Event = Noted
Value Hex = List ℕ
Value Json = List ℕ

abbrev pub Values : Shape → Type 0
Values (Last form) = Value form
Values (Then form shape) = Value form × Values shape

-- as many words and a last one, which is the rest of the line where it may be; `words` where there are fewer or more
abbrev pub cut : Bool → ℕ → List (List ℕ) → Result (List (List ℕ)) Code
cut rest (suc n) (word ∷ more) = do
  others ← cut rest n more
  Ok (word ∷ others)
cut true zero (word ∷ more) = Ok (rest_of_line (word ∷ more) ∷ [])
cut false zero (word ∷ []) = Ok (word ∷ [])
cut _ _ _ = Err code.Words

abbrev pub takes_rest : Shape → Bool
takes_rest (Last Json) = true
takes_rest (Last _) = false
takes_rest (Then form shape) = takes_rest shape

abbrev pub before_last : Shape → ℕ
before_last (Last form) = 0
before_last (Then form shape) = suc (before_last shape)

-- the pieces of the words, one for each form
abbrev pub pieces : Shape → List (List ℕ) → Result (List (List ℕ)) Code
pieces shape words = cut (takes_rest shape) (before_last shape) words

abbrev pub value_of : (form : Form) → List ℕ → Result (Value form) Code
value_of Name word = name_of word
value_of (Number low high) word = number_of low high word
value_of Event word = event_of word
value_of Hex word = hex_of word
value_of Json word = json_of word

-- the code is that of the first bad word
abbrev pub values_of : (shape : Shape) → List (List ℕ) → Result (Values shape) Code
values_of (Last form) (word ∷ more) = value_of form word
values_of (Then form shape) (word ∷ more) = do
  x ← value_of form word
  xs ← values_of shape more
  Ok (x, xs)
values_of _ [] = Err code.Words

-- what the words of a line are read as
abbrev pub args_of : (shape : Shape) → List (List ℕ) → Result (Values shape) Code
args_of shape words = do
  found ← pieces shape words
  values_of shape found

-- The written words.

abbrev pub value_word : (form : Form) → Value form → List ℕ
value_word Name name = name
value_word (Number low high) n = decimal n
value_word Event e = event_word e
value_word Hex bytes = encode_lower bytes
value_word Json text = text

abbrev pub value_words : (shape : Shape) → Values shape → List (List ℕ)
value_words (Last form) x = value_word form x ∷ []
value_words (Then form shape) (x, xs) = value_word form x ∷ value_words shape xs

-- a word as it is written: digits of bytes in lower case
abbrev pub lower_word : Form → List ℕ → List ℕ
lower_word Hex word = map to_ascii_lowercase word
lower_word _ word = word

-- forms whose words have no blank; numbers are below 2^64
abbrev pub is_tight : Form → Bool
is_tight (Number low high) = nat_lt high (2 ^ 64)
is_tight Json = false
is_tight _ = true

-- whether the value has such a word
abbrev pub is_value : (form : Form) → Value form → Bool
is_value Name name = is_name name
is_value (Number low high) n = is_within low high n
is_value Event e = true
is_value Hex bytes = nat_lt 0 (length bytes) && list_all (λ b. nat_lt b 256) bytes
is_value Json text = is_line text && is_some (read text)

abbrev pub are_values : (shape : Shape) → Values shape → Bool
are_values (Last form) x = is_value form x
are_values (Then form shape) (x, xs) = is_value form x && are_values shape xs
