-- Lines and their words, and what each word is read as (this project's own).
use Rattle.std.specs.Prelude.{ℕ, ◌-◌, ◌^◌, ◌==◌, ◌&&◌, ◌||◌, not, nat_le, nat_lt, decimal, List, [], ◌∷◌, Bool, codes, length, slice_index, if◌then◌else◌, Option, Some, None, is_some, Result, Ok, Err}
use Rattle.std.specs.List.{slice_split, join_with_byte, list_all, list_any}
use Rattle.std.specs.Str.{is_utf8, bytes_eq, all_ascii_digits}
use Rattle.std.specs.Str.Parse.{digits_value}
use Rattle.hex.specs.Hex.{decode_of}
use Rattle.hex.specs.declared.error.FromHexError.{FromHexError}
use Rattle.serde_json.specs.Read.{read}
use Rattle.ms_base.specs.Name.{is_name}
use Rattle.ms_base.specs.declared.keys.Event.{Event}
use Rattle.ms_base.specs.declared.keys.Event.TheVariants as event
use Rattle.ms_base.specs.declared.keys.WorkerKey.{WorkerKey}
use Rattle.ms_base.specs.declared.code.Code.{Code}
use Rattle.ms_base.specs.declared.code.Code.TheVariants as code
use Rattle.ms_base.specs.Words.{space, line_feed}

-- the pieces of a text between its line feeds; the last piece is what stands behind the last line feed
abbrev pub lines : List ℕ → List (List ℕ)
lines text = slice_split (λ b. b == line_feed) text

-- the pieces of a line between its spaces: two spaces have an empty word between them
abbrev pub words : List ℕ → List (List ℕ)
words line = slice_split (λ b. b == space) line

-- what stands behind the first space of a line, and behind the first line feed of a text, by its pieces
abbrev pub words_behind : Option (List ℕ) → List (List ℕ)
words_behind None = []
words_behind (Some rest) = words rest

abbrev pub lines_behind : Option (List ℕ) → List (List ℕ)
lines_behind None = []
lines_behind (Some rest) = lines rest

-- these words with their spaces between them, as they stood in the line
abbrev pub rest_of_line : List (List ℕ) → List ℕ
rest_of_line ws = join_with_byte space ws

-- no line feed stands in it
abbrev pub is_unbroken : List ℕ → Bool
is_unbroken text = not (list_any (λ b. b == line_feed) text)

-- a text that stands in one line
abbrev pub is_line : List ℕ → Bool
is_line text = is_utf8 text && is_unbroken text

-- a word of ASCII characters from `0` on: no blank is among them, and no line feed
abbrev pub is_plain_byte : ℕ → Bool
is_plain_byte b = nat_le 48 b && nat_lt b 128

abbrev pub is_plain_word : List ℕ → Bool
is_plain_word word = list_all is_plain_byte word

abbrev pub is_word : List ℕ → List ℕ → Bool
is_word expected word = bytes_eq word expected

-- what is read, or the code of the first fault
infixl 10 ◌>>=◌
abbrev pub ◌>>=◌ : {A B F : Type 0} → Result A F → (A → Result B F) → Result B F
(Ok x) >>= f = f x
(Err e) >>= f = Err e

-- decimal digits, without a leading zero other than `0` itself
abbrev pub is_number : List ℕ → Bool
is_number word = all_ascii_digits word && nat_lt 0 (length word) && ((length word == 1) || not (slice_index word 0 == 48))

abbrev pub is_within : ℕ → ℕ → ℕ → Bool
is_within low high n = nat_le low n && nat_le n high

-- a number from low to high
unfoldable pub number_of : ℕ → ℕ → List ℕ → Result ℕ Code
number_of low high word =
    if is_number word && is_within low high (digits_value 10 word) then Ok (digits_value 10 word) else Err code.Number

abbrev pub name_of : List ℕ → Result (List ℕ) Code
name_of word = if is_name word then Ok word else Err code.Name

-- the word of an event
abbrev pub event_word : Event → List ℕ
event_word event.Running = codes "running"
event_word event.Opened = codes "open"
event_word event.Closed = codes "closed"
event_word event.Paused = codes "paused"
event_word event.Resumed = codes "resumed"
event_word event.Tuple = codes "tuple"
event_word event.Rtp = codes "rtp"

abbrev pub events : List Event
events =
    event.Running ∷ event.Opened ∷ event.Closed ∷ event.Paused ∷ event.Resumed ∷ event.Tuple ∷ event.Rtp ∷ []

-- the first of these that has the word
abbrev pub by_word : {A : Type 0} → (A → List ℕ) → List ℕ → Code → List A → Result A Code
by_word spelled word fault [] = Err fault
by_word spelled word fault (x ∷ xs) = if is_word (spelled x) word then Ok x else by_word spelled word fault xs

abbrev pub event_of : List ℕ → Result Event Code
event_of word = by_word event_word word code.Event events

-- a JSON text
abbrev pub json_of : List ℕ → Result (List ℕ) Code
json_of text = if is_some (read text) then Ok text else Err code.Json

abbrev pub some_bytes : Result (List ℕ) FromHexError → Result (List ℕ) Code
some_bytes (Ok []) = Err code.Hex
some_bytes (Ok (b ∷ bytes)) = Ok (b ∷ bytes)
some_bytes (Err _) = Err code.Hex

-- the bytes that a word of hexadecimal digits stands for, at least one
abbrev pub hex_of : List ℕ → Result (List ℕ) Code
hex_of word = some_bytes (decode_of word)

-- `S G`: a slot and a generation
abbrev pub worker_of : List ℕ → List ℕ → Result WorkerKey Code
worker_of slot generation = do
  s ← number_of 1 64 slot
  g ← number_of 1 1001 generation
  Ok (record { slot = s; generation = g })

-- The first line, `script 1 SEED` or `journal 1 SEED`.

abbrev pub max_seed : ℕ
max_seed = 2 ^ 60 - 1

abbrev pub head_words : List ℕ → ℕ → List (List ℕ)
head_words word seed = word ∷ codes "1" ∷ decimal seed ∷ []

-- each other fault of the first line is `head`
abbrev pub or_head : Result ℕ Code → Result ℕ Code
or_head (Ok seed) = Ok seed
or_head (Err _) = Err code.Head

abbrev pub head_of : List ℕ → List ℕ → List ℕ → List ℕ → Result ℕ Code
head_of word first version seed =
    if is_word word first && is_word (codes "1") version then or_head (number_of 0 max_seed seed) else Err code.Head

unfoldable pub seed_of_words : List ℕ → List (List ℕ) → Result ℕ Code
seed_of_words word (first ∷ version ∷ seed ∷ []) = head_of word first version seed
seed_of_words word _ = Err code.Head

-- the seed of a first line that begins with this word
unfoldable pub seed_of_line : List ℕ → List ℕ → Result ℕ Code
seed_of_line word line = if is_utf8 line then seed_of_words word (words line) else Err code.Utf8

-- the number of a line, from 1, and what is wrong with it
pub record BadLine : Type 0 where
  pub line : ℕ
  pub code : Code

-- what the line of this number is read as
abbrev pub at_line : {A : Type 0} → ℕ → Result A Code → Result A BadLine
at_line n (Ok x) = Ok x
at_line n (Err c) = Err (record { line = n; code = c })
