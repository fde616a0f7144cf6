-- What a replay promises (this project's own).
use Rattle.std.specs.Prelude.{◌≡◌, ◌≢◌, ◌⊎◌, ◌≤◌, ℕ, ◌+◌, ◌==◌, ◌||◌, List, [], ◌∷◌, ◌++◌, Bool, IsTrue, length, codes, if◌then◌else◌, Option, Some, None, option_map, Result, Ok, Err}
use Rattle.ms_base.specs.Code.{code_word}
use Rattle.ms_base.specs.Words.{space, line_feed, spaced}
use Rattle.ms_base.specs.declared.entry.Entry.{Entry}
use Rattle.ms_base.specs.declared.code.Code.{Code}
use Rattle.ms_base.specs.declared.code.Code.TheVariants as code
use Rattle.ms_devices.specs.Causes.{Rose}
use Rattle.ms_devices.specs.Told.{Tells, AddsPrefix}
use Rattle.journal_text.specs.Gives.{told_line}
use Rattle.journal_text.specs.Reading.{BadLine, reading_of}
use Rattle.journal_text.specs.Written.{max_journal}
use Rattle.host_core.specs.Apply.{is_unbuilt}
use Rattle.host_model.specs.Run.{Journal, after, transcript_of}
use Rattle.host_model.specs.State.{State, start}
use Rattle.run_top.specs.declared.status.TheConstants.Status.{DONE, BAD_TEXT, READ_FAILED, WRITE_FAILED, TOO_LONG, OUT_OF_MEMORY}

-- ---- what a text comes to

-- the line of the first entry that is of a kind not built yet, of those from the line of this number on
abbrev pub first_unbuilt : State → ℕ → List Entry → Option ℕ
first_unbuilt s n [] = None
first_unbuilt s n (e ∷ es) = if is_unbuilt s e then Some n else first_unbuilt (after s e) (n + 1) es

-- such an entry counts as one that no line begins so; the entries stand from the second line on
abbrev pub not_built_in : ℕ → List Entry → Option BadLine
not_built_in seed entries = option_map (λ n. record { line = n; code = code.Op }) (first_unbuilt (start seed) 2 entries)

abbrev pub bad_by : Result (ℕ × List Entry) BadLine → Option BadLine
bad_by (Ok read) = not_built_in read.0 read.1
bad_by (Err bad) = Some bad

-- the first line of a text that is bad, and why
abbrev pub bad_line_of : List ℕ → Option BadLine
bad_line_of text = bad_by (reading_of text)

-- The text reads as this journal, all entries of which are built.
pub record ReadsAs (text : List ℕ) (j : Journal) : Type 0 where
  pub reads : reading_of text ≡ Ok (j.seed, j.entries)
  pub built : first_unbuilt (start j.seed) 2 j.entries ≡ None

-- the line that says what is bad
abbrev pub told_words : ℕ → Code → List ℕ
told_words line c = codes "bad" ++ spaced line ++ space ∷ code_word c ++ line_feed ∷ []

-- the one line that is written for a text that is bad
abbrev pub told_bad : BadLine → List ℕ
told_bad bad = told_words (told_line bad.line) bad.code

-- ---- what the source and the sink tell

pub record Outside : Type 0 where
  -- what the source holds still
  pub held : Option (List ℕ)
  -- its faults
  pub read_faults : ℕ
  -- what the sink got
  pub got : Option (List ℕ)
  -- its faults
  pub write_faults : ℕ

-- the text was read to its end, and is no longer than a journal may be
pub record IsRead (text rest : List ℕ) : Type 0 where
  pub whole : rest ≡ []
  pub within : length text ≤ max_journal

-- the sink got this behind what it had
abbrev pub Adds : List ℕ → List ℕ → List ℕ → Type 0
Adds piece had got = got ≡ had ++ piece

-- what the sink had before stands
abbrev pub AddsBehind : List ℕ → List ℕ → Type 0
AddsBehind had got = (piece : List ℕ) × (got ≡ had ++ piece)

-- not more was read than one byte past the limit
abbrev pub StopsPastLimit : List ℕ → List ℕ → Type 0
StopsPastLimit text rest = length text ≤ length rest + (max_journal + 1)

-- exactly one byte past the limit was read
abbrev pub ReadsOnePast : List ℕ → List ℕ → Type 0
ReadsOnePast text rest = length text ≡ length rest + (max_journal + 1)

-- what was read is a front of the text
abbrev pub ReadsFront : List ℕ → List ℕ → Type 0
ReadsFront text rest = (front : List ℕ) × (text ≡ front ++ rest)

-- the text reads as a journal, and the sink got that journal's transcript
abbrev pub Transcribed : Outside → Outside → Type 0
Transcribed before now =
    Tells (λ text rest. IsRead text rest × ((j : Journal) × ReadsAs text j × Tells (Adds (transcript_of j)) before.got now.got)) before.held now.held

-- the text is bad, and the sink got the line that says so; where it failed, a prefix of that
abbrev pub ToldBad : Outside → Outside → Type 0
ToldBad before now =
    Tells (λ text rest. IsRead text rest × ((bad : BadLine) × (bad_line_of text ≡ Some bad)
    × (((now.write_faults ≡ before.write_faults) × Tells (Adds (told_bad bad)) before.got now.got)
    ⊎ (Rose before.write_faults now.write_faults × Tells (AddsPrefix (told_bad bad)) before.got now.got)))) before.held now.held

-- the text reads as a journal, and the sink got a prefix of that journal's transcript
abbrev pub CutShort : Outside → Outside → Type 0
CutShort before now =
    Tells (λ text rest. IsRead text rest × ((j : Journal) × ReadsAs text j × Tells (AddsPrefix (transcript_of j)) before.got now.got)) before.held now.held

-- ---- statuses

abbrev pub is_replay_status : ℕ → Bool
is_replay_status status =
    (status == DONE.0) || (status == BAD_TEXT.0) || (status == READ_FAILED.0) || (status == WRITE_FAILED.0) || (status == TOO_LONG.0) || (status == OUT_OF_MEMORY.0)

-- those at which nothing is written
abbrev pub is_silent_status : ℕ → Bool
is_silent_status status = (status == READ_FAILED.0) || (status == TOO_LONG.0) || (status == OUT_OF_MEMORY.0)

-- ---- what a replay promises, over the sink before and now. Running out of memory alone is free.

pub record IsReplay {K : Type 0} (status : ℕ) (before now : Outside) (had has : K) : Type 0 where
  -- one of these statuses comes
  pub statuses : IsTrue (is_replay_status status)
  pub done : status ≡ DONE.0 → Transcribed before now
  pub bad_text : status ≡ BAD_TEXT.0 → ToldBad before now
  pub read_failed : status ≡ READ_FAILED.0 → Rose before.read_faults now.read_faults
  pub write_failed : status ≡ WRITE_FAILED.0 → Rose before.write_faults now.write_faults
  pub cut_short : status ≡ WRITE_FAILED.0 → CutShort before now
  pub too_long : status ≡ TOO_LONG.0 → Tells ReadsOnePast before.held now.held
  -- nothing is written where the text was not read whole, or memory ran out
  pub silent : IsTrue (is_silent_status status) → has ≡ had
  -- no fault is passed over
  pub read_still : status ≢ READ_FAILED.0 → now.read_faults ≡ before.read_faults
  pub write_still : status ≡ DONE.0 → now.write_faults ≡ before.write_faults
  -- no count falls
  pub read_count : before.read_faults ≤ now.read_faults
  pub write_count : before.write_faults ≤ now.write_faults
  pub behind : Tells AddsBehind before.got now.got
  -- a front of what the source held was read, and no more than one byte past the limit
  pub front : Tells ReadsFront before.held now.held
  pub stops : Tells StopsPastLimit before.held now.held
