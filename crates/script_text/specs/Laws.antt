-- What holds of the definitions of lines and words: each of these is what a function of `laws.rt` promises.
use Rattle.std.specs.Prelude.{◌≡◌, ◌<◌, ◌^◌, ℕ, List, [], ◌∷◌, ◌++◌, true, Ok}
use Rattle.std.specs.List.{list_all}
use Rattle.ms_base.specs.Words.{space, line_feed}
use Rattle.ms_base.specs.declared.keys.Event.{Event}
use Rattle.ms_base.specs.declared.op.Op.{Op}
use Rattle.script_text.specs.Calls.{op_of, op_of_words, op_words, is_well_formed_op, await_of, await_words, is_await, lower_call}
use Rattle.script_text.specs.Forms.{Form, Value, value_of, value_word, lower_word, is_tight, is_value}
use Rattle.script_text.specs.Words.{lines, words, is_unbroken, is_line, is_plain_word, rest_of_line, head_words, seed_of_line}

-- ---- lines and words

-- a line is the first of a text that goes on behind its line feed; no line has a line feed
pub record TextsAreLines : Type 0 where
  pub first : (line rest : List ℕ) → is_line line ≡ true → lines (line ++ line_feed ∷ rest) ≡ line ∷ lines rest
  pub unbroken : (text : List ℕ) → list_all is_unbroken (lines text) ≡ true

-- plain words with spaces between them are a line, and its words; what stands behind a space of a line is one
pub record WordsMakeLines : Type 0 where
  pub alone : (word : List ℕ) → is_plain_word word ≡ true → is_line word ≡ true
  pub joined : (word rest : List ℕ) → is_plain_word word ≡ true → is_line rest ≡ true → is_line (word ++ space ∷ rest) ≡ true
  pub behind : (word rest : List ℕ) → is_line (word ++ space ∷ rest) ≡ true → is_line rest ≡ true
  pub last : (word : List ℕ) → is_plain_word word ≡ true → words word ≡ word ∷ []
  pub next : (word rest : List ℕ) → is_plain_word word ≡ true → words (word ++ space ∷ rest) ≡ word ∷ words rest

-- the word of a value is plain, and is read as the value
pub record WordsReadBack : Type 0 where
  pub plain : (form : Form) (x : Value form) → is_tight form ≡ true → is_value form x ≡ true → is_plain_word (value_word form x) ≡ true
  pub read : (form : Form) (x : Value form) → is_tight form ≡ true → is_value form x ≡ true → value_of form (value_word form x) ≡ Ok x

-- a value that is read has a word, and it is the one that was read but for case
pub record WordsAreWritten : Type 0 where
  pub written : (form : Form) (word : List ℕ) (x : Value form) → is_tight form ≡ true → value_of form word ≡ Ok x → value_word form x ≡ lower_word form word
  pub form : (form : Form) (word : List ℕ) (x : Value form) → is_tight form ≡ true → value_of form word ≡ Ok x → is_value form x ≡ true

-- ---- the first line

pub record HeadsReadBack : Type 0 where
  pub line : (word : List ℕ) (seed : ℕ) → is_plain_word word ≡ true → seed < 2 ^ 60 → is_line (rest_of_line (head_words word seed)) ≡ true
  pub read : (word : List ℕ) (seed : ℕ) → is_plain_word word ≡ true → seed < 2 ^ 60 → seed_of_line word (rest_of_line (head_words word seed)) ≡ Ok seed

pub record HeadsAreWritten : Type 0 where
  pub written : (word line : List ℕ) (seed : ℕ) → seed_of_line word line ≡ Ok seed → words line ≡ head_words word seed
  pub bound : (word line : List ℕ) (seed : ℕ) → seed_of_line word line ≡ Ok seed → seed < 2 ^ 60

-- ---- calls and waits

pub record CallsReadBack : Type 0 where
  pub line : (op : Op) → is_well_formed_op op ≡ true → is_line (op_words op) ≡ true
  pub read : (op : Op) → is_well_formed_op op ≡ true → op_of_words (words (op_words op)) ≡ Ok op

pub record CallsAreWritten : Type 0 where
  pub written : (first : List ℕ) (rest : List (List ℕ)) (op : Op) → op_of first rest ≡ Ok op → op_words op ≡ rest_of_line (lower_call (first ∷ rest))
  pub form : (first : List ℕ) (rest : List (List ℕ)) (op : Op) → op_of first rest ≡ Ok op → is_line (rest_of_line (first ∷ rest)) ≡ true → is_well_formed_op op ≡ true

pub record WaitsReadBack : Type 0 where
  pub line : (name : List ℕ) (event : Event) (count : ℕ) → is_await name event count ≡ true → is_line (await_words name event count) ≡ true
  pub read : (name : List ℕ) (event : Event) (count : ℕ) → is_await name event count ≡ true → await_of (words (await_words name event count)) ≡ Ok (name, event, count)

pub record WaitsAreWritten : Type 0 where
  pub written : (rest : List (List ℕ)) (wait : List ℕ × Event × ℕ) → await_of rest ≡ Ok wait → await_words wait.0 wait.1 wait.2 ≡ rest_of_line rest
  pub form : (rest : List (List ℕ)) (wait : List ℕ × Event × ℕ) → await_of rest ≡ Ok wait → is_line (rest_of_line rest) ≡ true → is_await wait.0 wait.1 wait.2 ≡ true
