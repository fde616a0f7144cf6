-- How the text of a journal is read (this project's own): a head line, and behind it one entry a line.
use Rattle.std.specs.Prelude.{ℕ, ◌+◌, ◌==◌, nat_le, List, [], ◌∷◌, ◌++◌, Bool, true, false, codes, length, if◌then◌else◌, Result, Ok, Err}
use Rattle.std.specs.Str.{is_utf8}
use Rattle.ms_base.specs.declared.keys.WorkerKey.{WorkerKey}
use Rattle.ms_base.specs.declared.code.Code.{Code}
use Rattle.ms_base.specs.declared.code.Code.TheVariants as code
use Rattle.ms_base.specs.declared.entry.Entry.{Entry}
use Rattle.ms_base.specs.declared.entry.Entry.TheVariants as entry
use Rattle.script_text.specs.Words.{◌>>=◌, lines, words, is_word, number_of, worker_of, hex_of, seed_of_line, at_line}
pub use Rattle.script_text.specs.Words.{BadLine}
use Rattle.script_text.specs.Calls.{op_of, await_of}

-- The words behind the first of a line.

-- whether a code says that there is no such line, or none of so many words
abbrev pub is_of_line : Code → Bool
is_of_line code.Op = true
is_of_line code.Words = true
is_of_line _ = false

-- a line with a lane where the words behind the lane have this fault: the lane is looked at before them, but behind
-- whether there is such a line of so many words
abbrev pub fault_in_lane : List ℕ → Code → Result Entry Code
fault_in_lane lane c = if is_of_line c then Err c else (number_of 1 64 lane >>= λ l. Err c)

-- the number of a lane, and what it does
abbrev pub in_lane : {A : Type 0} → (ℕ → A → Entry) → List ℕ → Result A Code → Result Entry Code
in_lane entry_with lane (Ok x) = do
  l ← number_of 1 64 lane
  Ok (entry_with l x)
in_lane entry_with lane (Err c) = fault_in_lane lane c

-- `L CALL`
unfoldable pub call_of : List (List ℕ) → Result Entry Code
call_of (lane ∷ first ∷ rest) = in_lane entry.Call lane (op_of first rest)
call_of _ = Err code.Op

-- `L X EVENT COUNT`
unfoldable pub wait_of : List (List ℕ) → Result Entry Code
wait_of (lane ∷ rest) = in_lane (λ l a. entry.Await l a.0 a.1 a.2) lane (await_of rest)
wait_of [] = Err code.Words

-- `S G` and a last word
unfoldable pub worker_line : {A : Type 0} → (List ℕ → Result A Code) → (WorkerKey → A → Entry) → List (List ℕ) → Result Entry Code
worker_line value entry_with (slot ∷ generation ∷ last ∷ []) = do
  worker ← worker_of slot generation
  x ← value last
  Ok (entry_with worker x)
worker_line value entry_with _ = Err code.Words

abbrev pub up_of : List ℕ → Result Bool Code
up_of word =
    if is_word (codes "up") word then Ok true
    else if is_word (codes "failed") word then Ok false
    else Err code.Event

-- 1 to 65,536 bytes in hexadecimal
abbrev pub chunk_of : List ℕ → Result (List ℕ) Code
chunk_of word = do
  bytes ← hex_of word
  if nat_le (length bytes) 65536 then Ok bytes else Err code.Hex

-- the first word of a line, and the words behind it
abbrev pub entry_line_of : List ℕ → List (List ℕ) → Result Entry Code
entry_line_of first rest =
    if is_word (codes "call") first then call_of rest
    else if is_word (codes "await") first then wait_of rest
    else if is_word (codes "spawned") first then worker_line up_of entry.Spawned rest
    else if is_word (codes "chunk") first then worker_line chunk_of entry.Chunk rest
    else Err code.Op

unfoldable pub entry_of_words : List (List ℕ) → Result Entry Code
entry_of_words [] = Err code.Op
entry_of_words (first ∷ rest) = entry_line_of first rest

-- a line other than the first
unfoldable pub entry_of_line : List ℕ → Result Entry Code
entry_of_line line = if is_utf8 line then entry_of_words (words line) else Err code.Utf8

-- The whole text.

-- what is wrong with a last line that has no line feed
abbrev pub cut : List ℕ → Code
cut line = if is_utf8 line then code.Cut else code.Utf8

-- these entries before those that are read
abbrev pub with_front : List Entry → Result (List Entry) BadLine → Result (List Entry) BadLine
with_front front read = do
  entries ← read
  Ok (front ++ entries)

-- the entries of the pieces from the line of this number on; nothing stands behind the last line feed
unfoldable pub entries_of : ℕ → List (List ℕ) → Result (List Entry) BadLine
entries_of n [] = Ok []
entries_of n (last ∷ []) = if length last == 0 then Ok [] else at_line n (Err (cut last))
entries_of n (line ∷ next ∷ more) = do
  e ← at_line n (entry_of_line line)
  es ← entries_of (n + 1) (next ∷ more)
  Ok (e ∷ es)

-- the pieces behind the first line, of which there are some where it has its line feed
abbrev pub behind_head : List (List ℕ) → Result (List Entry) BadLine
behind_head [] = at_line 1 (Err code.Cut)
behind_head (line ∷ more) = entries_of 2 (line ∷ more)

unfoldable pub reading_of_lines : List (List ℕ) → Result (ℕ × List Entry) BadLine
reading_of_lines [] = at_line 1 (Err code.Head)
reading_of_lines (head ∷ rest) = do
  seed ← at_line 1 (seed_of_line (codes "journal") head)
  entries ← behind_head rest
  Ok (seed, entries)

-- the seed and the entries of a text, or its first fault
abbrev pub reading_of : List ℕ → Result (ℕ × List Entry) BadLine
reading_of text = reading_of_lines (lines text)
