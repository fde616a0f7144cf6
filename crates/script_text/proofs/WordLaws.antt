-- Words by their kind: what is written is read back, and what is read is written as it stood but for case.
use Rattle.std.proofs.Common.{◌≡◌, ℕ, zero, suc, ◌+◌, ◌^◌, ◌<◌, ◌≤◌, inl, inr, List, [], ◌∷◌, ◌++◌, Bool, true, false, ◌&&◌, cond, leb, eqb, ltb, length, get_or, drop, map, Result, Ok, Err, is_some, refl, sym, ◌∙◌, ap, subst, arith, add-one}
use Rattle.std.proofs.lemmas.Bool.{and_parts, and_from, or_from, or_parts, leb-true, le-leb, lt-ltb, ltb-true, ne_eqb, cond-true, cases_lt, not-true, not_from_false}
use Rattle.std.proofs.lemmas.Bool.Decides.{nat_tests}
use Rattle.std.proofs.lemmas.Fmt.{digits_decimal, digits_value-decimal, decimal-digits_value, decimal_nonempty, first_decimal, decimal_digit}
use Rattle.std.proofs.lemmas.List.Sums.{list_all-from_AllPass}
use Rattle.std.proofs.lemmas.Slice.Eq.{bytes_eq-Decides}
use Rattle.std.proofs.lemmas.Str.{IsUtf8-append, IsUtf8-drop, IsUtf8-from_ascii, IsUtf8-from_is_utf8, is_utf8-from_IsUtf8, IsCharBoundary-after_ascii}
use Rattle.std.proofs.lemmas.Str.Ascii.{IsAscii-cons, IsAscii-nil}
use Rattle.std.proofs.lemmas.Str.Parse.{tells_all_ascii_digits}
use Rattle.std.specs.Char.{to_ascii_lowercase}
use Rattle.std.specs.Fmt.{decimal}
use Rattle.std.specs.List.{list_all, list_any}
use Rattle.std.specs.Str.{IsAscii, IsUtf8, is_utf8, all_ascii_digits}
use Rattle.std.specs.Str.Parse.{digits_value}
use Rattle.hex.specs.Hex.{IsBytes, decode_of, encode_lower, is_hex_digit}
use Rattle.hex.specs.declared.error.FromHexError.{FromHexError}
use Rattle.hex.proofs.HexLemmas.{decode_of-ok, decode_of-encode_lower}
use Rattle.serde_json.specs.Read.{read}
use Rattle.ms_base.specs.Name.{is_name, is_name_byte}
use Rattle.ms_base.specs.declared.keys.Event.{Event}
use Rattle.ms_base.specs.declared.keys.Event.TheVariants as event
use Rattle.ms_base.specs.declared.code.Code.{Code}
use Rattle.ms_base.specs.declared.code.Code.TheVariants as code
use Rattle.script_text.specs.Words.{words, is_line, is_plain_byte, is_plain_word, is_word, is_number, is_within, number_of, name_of, by_word, event_of, event_word, json_of, some_bytes, hex_of}
use Rattle.script_text.specs.Parted.{ok_is, chosen}
use Rattle.script_text.proofs.HexCase.{digits_lower}
use Rattle.script_text.proofs.Numbers.{own, number_from, number_parts}
use Rattle.script_text.proofs.Pieces.{lacks, pieces_at, pieces_none}

-- two words that agree
pub word_is : (expected word : List ℕ) → is_word expected word ≡ true → word ≡ expected
word_is expected word h = (bytes_eq-Decides word expected).0 h

by_word_one : {A : Type 0} (spelled : A → List ℕ) (word : List ℕ) (fault : Code) (x y : A) (xs : List A) (b : Bool) → is_word (spelled x) word ≡ b
    → cond b (Ok x) (by_word spelled word fault xs) ≡ Ok y → (by_word spelled word fault xs ≡ Ok y → word ≡ spelled y) → word ≡ spelled y
by_word_one spelled word fault x y xs true e h more = word_is (spelled x) word e ∙ ap spelled (ok_is {F = Code} x y h)
by_word_one spelled word fault x y xs false e h more = more h

-- what is found by its word has that word
pub by_word_is : {A : Type 0} (spelled : A → List ℕ) (word : List ℕ) (fault : Code) (xs : List A) (y : A) → by_word spelled word fault xs ≡ Ok y → word ≡ spelled y
by_word_is spelled word fault [] y h = absurd cc
by_word_is spelled word fault (x ∷ xs) y h = by_word_one spelled word fault x y xs (is_word (spelled x) word) refl h (by_word_is spelled word fault xs y)

-- ---- lines, and words without a blank

pub record IsLine (line : List ℕ) : Type 0 where
  pub text : IsUtf8 line
  pub whole : lacks 10 line

pub line_from : (line : List ℕ) → is_line line ≡ true → IsLine line
line_from line h = let parts = and_parts (is_utf8 line) _ h in record { text = IsUtf8-from_is_utf8 line parts.0; whole = not-true _ parts.1 }

pub line_tested : (line : List ℕ) → IsLine line → is_line line ≡ true
line_tested line h = and_from _ _ (is_utf8-from_IsUtf8 line h.text) (not_from_false _ h.whole)

at_seam : (w : List ℕ) (b : ℕ) (rest : List ℕ) → (get_or (w ++ b ∷ rest) (length w) 0 ≡ b) × (drop (suc (length w)) (w ++ b ∷ rest) ≡ rest) × (length w < length (w ++ b ∷ rest))
at_seam [] b rest = (refl, refl, omega arith)
at_seam (a ∷ w) b rest = let ih = at_seam w b rest in (ih.0, ih.1, omega (arith, ih.2))

lacks_behind : (w rest : List ℕ) → lacks 10 (w ++ 32 ∷ rest) → lacks 10 rest
lacks_behind [] rest h = (or_parts (eqb 32 10) (list_any (λ b. eqb b 10) rest) h).1
lacks_behind (a ∷ w) rest h = lacks_behind w rest (or_parts (eqb a 10) (list_any (λ b. eqb b 10) (w ++ 32 ∷ rest)) h).1

pub line_behind : (w rest : List ℕ) → IsLine (w ++ 32 ∷ rest) → IsLine rest
line_behind w rest h =
    let seam = at_seam w 32 rest in
    let small : get_or (w ++ 32 ∷ rest) (length w) 0 < 128 = omega (arith, seam.0) in
    let here = IsCharBoundary-after_ascii (w ++ 32 ∷ rest) (length w) h.text seam.2 small in
    let dropped : drop (length w + 1) (w ++ 32 ∷ rest) ≡ rest = ap (λ n. drop n (w ++ 32 ∷ rest)) (add-one (length w)) ∙ seam.1 in
    record {
      text = subst IsUtf8 dropped (IsUtf8-drop (w ++ 32 ∷ rest) (length w + 1) h.text here);
      whole = lacks_behind w rest h.whole;
    }

abbrev pub IsPlain : List ℕ → Type 0
IsPlain w = is_plain_word w ≡ true

all_weaker : (p q : ℕ → Bool) → ((b : ℕ) → p b ≡ true → q b ≡ true) → (xs : List ℕ) → list_all p xs ≡ true → list_all q xs ≡ true
all_weaker p q f [] h = refl
all_weaker p q f (x ∷ xs) h = let parts = and_parts (p x) (list_all p xs) h in and_from _ _ (f x parts.0) (all_weaker p q f xs parts.1)

plain_lacks : (c : ℕ) (w : List ℕ) → c < 48 → IsPlain w → lacks c w
plain_lacks c [] small h = refl
plain_lacks c (b ∷ w) small h =
    let parts = and_parts (is_plain_byte b) (list_all is_plain_byte w) h in
    let low : 48 ≤ b = leb-true 48 b (and_parts (leb 48 b) (ltb b 128) parts.0).0 in
    or_from _ _ (ne_eqb b c (λ e. omega arith)) (plain_lacks c w small parts.1)

plain_ascii : (w : List ℕ) → IsPlain w → IsAscii w
plain_ascii [] h i = omega arith
plain_ascii (b ∷ w) h zero = ltb-true b 128 (and_parts (leb 48 b) (ltb b 128) (and_parts (is_plain_byte b) (list_all is_plain_byte w) h).0).1
plain_ascii (b ∷ w) h (suc i) = plain_ascii w (and_parts (is_plain_byte b) (list_all is_plain_byte w) h).1 i

pub plain_line : (w : List ℕ) → IsPlain w → IsLine w
plain_line w h = record { text = IsUtf8-from_ascii w (plain_ascii w h); whole = plain_lacks 10 w (omega arith) h }

lacks_joined : (w rest : List ℕ) → lacks 10 w → lacks 10 rest → lacks 10 (w ++ 32 ∷ rest)
lacks_joined [] rest a b = or_from _ _ refl b
lacks_joined (x ∷ w) rest a b =
    let parts = or_parts (eqb x 10) (list_any (λ b. eqb b 10) w) a in
    or_from _ _ parts.0 (lacks_joined w rest parts.1 b)

pub joined_line : (w rest : List ℕ) → IsPlain w → IsLine rest → IsLine (w ++ 32 ∷ rest)
joined_line w rest a b =
    let front = plain_line w a in
    record {
      text = IsUtf8-append w (32 ∷ rest) front.text (IsUtf8-append (32 ∷ []) rest (IsUtf8-from_ascii (32 ∷ []) (IsAscii-cons 32 [] (omega arith) IsAscii-nil)) b.text);
      whole = lacks_joined w rest front.whole b.whole;
    }

-- a plain word is one word, and before a space the first
pub last_word : (w : List ℕ) → IsPlain w → words w ≡ w ∷ []
last_word w h = pieces_none 32 w (plain_lacks 32 w (omega arith) h)

pub next_word : (w rest : List ℕ) → IsPlain w → words (w ++ 32 ∷ rest) ≡ w ∷ words rest
next_word w rest h = pieces_at 32 w rest (plain_lacks 32 w (omega arith) h)

-- ---- numbers

digits_plain : (w : List ℕ) → all_ascii_digits w ≡ true → IsPlain w
digits_plain [] h = refl
digits_plain (b ∷ w) h =
    let parts = tells_all_ascii_digits.parts b w h in
    and_from _ _ (and_from _ _ (le-leb 48 b parts.0.0) (lt-ltb b 128 (omega arith))) (digits_plain w parts.1)

pub number_plain : (n : ℕ) → n < 2 ^ 64 → IsPlain (decimal n)
number_plain n fits = digits_plain (decimal n) (digits_decimal own n fits)

number_whole : (n : ℕ) → n < 2 ^ 64 → get_or (decimal n) 0 0 ≡ 48 → length (decimal n) ≡ 1
number_whole n fits first = elim (cases_lt 0 n) [
  | inl some ↦ (let more = first_decimal n some fits in absurd (omega arith))
  | inr none ↦ (let same : decimal n ≡ (48 + n) ∷ [] = decimal_digit n (omega arith) in ap (λ (w : List ℕ). length w) same)
]

pub within : (low high n : ℕ) → is_within low high n ≡ true → (low ≤ n) × (n ≤ high)
within low high n h = let parts = and_parts (leb low n) (leb n high) h in (leb-true low n parts.0, leb-true n high parts.1)

pub number_reads : (low high n : ℕ) → high < 2 ^ 64 → is_within low high n ≡ true → number_of low high (decimal n) ≡ Ok n
unfolding number_of
number_reads low high n fits h =
    let v : ℕ = digits_value 10 (decimal n) in
    let bounds = within low high n h in
    let small : n < 2 ^ 64 = omega arith in
    let same : v ≡ n = digits_value-decimal own n small in
    let number : is_number (decimal n) ≡ true = number_from (decimal n) (record {
      digits = digits_decimal own n small;
      some = decimal_nonempty n small;
      first = number_whole n small;
    }) in
    cond-true (is_number (decimal n) && is_within low high v) (Ok v) (Err code.Number)
    (and_from _ _ number (subst (λ m. is_within low high m ≡ true) (sym same) h))
    ∙ ap (λ (x : ℕ). Ok x) same

pub number_back : (low high : ℕ) (word : List ℕ) (n : ℕ) → high < 2 ^ 64 → number_of low high word ≡ Ok n
    → (decimal n ≡ word) × (is_within low high n ≡ true)
unfolding number_of
number_back low high word n fits h =
    let v : ℕ = digits_value 10 word in
    let found = chosen (is_number word && is_within low high v) v n code.Number h in
    let tests = and_parts (is_number word) (is_within low high v) found.0 in
    let parts = number_parts word tests.0 in
    let bounds = within low high v tests.1 in
    let spelled : decimal v ≡ word = decimal-digits_value own word parts.digits parts.some parts.first (omega arith) in
    (ap decimal (sym found.1) ∙ spelled, subst (λ m. is_within low high m ≡ true) found.1 tests.1)

-- ---- names, events, bytes, JSON texts

name_byte_plain : (b : ℕ) → is_name_byte b ≡ true → is_plain_byte b ≡ true
unfolding is_name_byte
name_byte_plain b h = grind (arith, nat_tests)

pub name_plain : (name : List ℕ) → is_name name ≡ true → IsPlain name
unfolding is_name
name_plain name h = all_weaker is_name_byte is_plain_byte name_byte_plain name (and_parts _ _ h).1

pub name_back : (word name : List ℕ) → name_of word ≡ Ok name → (name ≡ word) × (is_name name ≡ true)
name_back word name h =
    let found = chosen (is_name word) word name code.Name h in
    (sym found.1, subst (λ n. is_name n ≡ true) found.1 found.0)

pub event_plain : (e : Event) → IsPlain (event_word e)
event_plain event.Running = refl
event_plain event.Opened = refl
event_plain event.Closed = refl
event_plain event.Paused = refl
event_plain event.Resumed = refl
event_plain event.Tuple = refl
event_plain event.Rtp = refl

pub event_reads : (e : Event) → event_of (event_word e) ≡ Ok e
event_reads event.Running = refl
event_reads event.Opened = refl
event_reads event.Closed = refl
event_reads event.Paused = refl
event_reads event.Resumed = refl
event_reads event.Tuple = refl
event_reads event.Rtp = refl

hex_digit_plain : (b : ℕ) → is_hex_digit b ≡ true → is_plain_byte b ≡ true
hex_digit_plain b h = grind (arith, nat_tests)

pub are_bytes : (bytes : List ℕ) → list_all (λ b. ltb b 256) bytes ≡ true → IsBytes bytes
are_bytes [] h i = omega arith
are_bytes (b ∷ bytes) h zero = ltb-true b 256 (and_parts (ltb b 256) (list_all (λ b. ltb b 256) bytes) h).0
are_bytes (b ∷ bytes) h (suc i) = are_bytes bytes (and_parts (ltb b 256) (list_all (λ b. ltb b 256) bytes) h).1 i

bytes_are : (bytes : List ℕ) → IsBytes bytes → list_all (λ b. ltb b 256) bytes ≡ true
bytes_are [] h = refl
bytes_are (b ∷ bytes) h = and_from _ _ (lt-ltb b 256 (h 0)) (bytes_are bytes (λ i. h (suc i)))

pub hex_plain : (bytes : List ℕ) → IsBytes bytes → IsPlain (encode_lower bytes)
hex_plain bytes h =
    all_weaker is_hex_digit is_plain_byte hex_digit_plain (encode_lower bytes)
    (list_all-from_AllPass is_hex_digit (encode_lower bytes) (decode_of-ok (encode_lower bytes) bytes (decode_of-encode_lower bytes h)).1)

some_read : (bytes : List ℕ) → ltb 0 (length bytes) ≡ true → some_bytes (Ok bytes) ≡ Ok bytes
some_read [] h = absurd cc
some_read (b ∷ bytes) h = refl

pub hex_reads : (bytes : List ℕ) → ltb 0 (length bytes) ≡ true → IsBytes bytes → hex_of (encode_lower bytes) ≡ Ok bytes
hex_reads bytes some h = ap some_bytes (decode_of-encode_lower bytes h) ∙ some_read bytes some

some_back : (r : Result (List ℕ) FromHexError) (bytes : List ℕ) → some_bytes r ≡ Ok bytes → (r ≡ Ok bytes) × (ltb 0 (length bytes) ≡ true)
some_back (Ok []) bytes h = absurd cc
some_back (Ok (b ∷ bs)) bytes h = let same : b ∷ bs ≡ bytes = ok_is {F = Code} _ _ h in (ap Ok same, subst (λ (x : List ℕ). ltb 0 (length x) ≡ true) same (lt-ltb 0 (length (b ∷ bs)) (omega arith)))
some_back (Err f) bytes h = absurd cc

-- bytes are spelled by the digits that were read, in lower case
pub hex_back : (word bytes : List ℕ) → hex_of word ≡ Ok bytes
    → (encode_lower bytes ≡ map to_ascii_lowercase word) × (ltb 0 (length bytes) ≡ true) × (list_all (λ b. ltb b 256) bytes ≡ true)
hex_back word bytes h =
    let found = some_back (decode_of word) bytes h in
    (digits_lower word bytes found.0, found.1, bytes_are bytes (decode_of-ok word bytes found.0).3)

pub json_reads : (text : List ℕ) → is_some (read text) ≡ true → json_of text ≡ Ok text
json_reads text h = cond-true _ _ _ h

pub json_back : (word text : List ℕ) → json_of word ≡ Ok text → (word ≡ text) × (is_some (read text) ≡ true)
json_back word text h =
    let found = chosen (is_some (read word)) word text code.Json h in
    (found.1, subst (λ t. is_some (read t) ≡ true) found.1 found.0)
