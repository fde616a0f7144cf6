-- How the text of a script is read, and its written form (this project's own): a head line, and behind it the lanes,
-- each begun by a line `lane`, with one step a line.
use Rattle.std.specs.Prelude.{ℕ, ◌+◌, ◌==◌, ◌&&◌, ◌||◌, nat_le, nat_lt, List, [], ◌∷◌, ◌++◌, Bool, true, false, codes, length, slice_index, flat_map, if◌then◌else◌, Option, Some, None, Result, Ok, Err}
use Rattle.std.specs.Io.BufRead.{ends_with_byte, strip_last}
use Rattle.std.specs.List.{list_all}
use Rattle.std.specs.Str.{is_utf8}
use Rattle.ms_base.specs.declared.code.Code.{Code}
use Rattle.ms_base.specs.declared.code.Code.TheVariants as code
use Rattle.ms_base.specs.declared.op.Op.TheVariants as op
use Rattle.ms_base.specs.Words.{space, line_feed, spaced}
use Rattle.script_text.specs.declared.script.Script.{Script}
use Rattle.script_text.specs.declared.script.Step.{Step}
use Rattle.script_text.specs.declared.script.Step.TheVariants as step
use Rattle.script_text.specs.declared.row.Row.{Row}
use Rattle.script_text.specs.declared.row.Row.TheVariants as row
use Rattle.script_text.specs.Words.{◌>>=◌, lines, words, is_word, seed_of_line, max_seed, BadLine, at_line}
use Rattle.script_text.specs.Calls.{op_of, op_words, is_well_formed_op, await_of, await_words, is_await}

-- how many bytes a script may have, how many lanes, and how many `worker` lines in all of them
abbrev pub max_script : ℕ
max_script = 16777216

abbrev pub max_lanes : ℕ
max_lanes = 64

abbrev pub max_workers : ℕ
max_workers = 64

abbrev pub carriage_return : ℕ
carriage_return = 13

-- a carriage return directly before a line feed isn't part of its line; behind the last piece no line feed stands
abbrev pub script_lines : List (List ℕ) → List (List ℕ)
script_lines [] = []
script_lines (last ∷ []) = last ∷ []
script_lines (line ∷ next ∷ more) = strip_last carriage_return line ∷ script_lines (next ∷ more)

abbrev pub script_lines_behind : Option (List ℕ) → List (List ℕ)
script_lines_behind None = []
script_lines_behind (Some rest) = script_lines (lines rest)

-- a step by its first word and the words behind it
abbrev pub step_by : List ℕ → List (List ℕ) → Result Step Code
step_by first rest =
    if is_word (codes "await") first
    then (await_of rest >>= λ a. Ok (step.Wait a.0 a.1 a.2))
    else (op_of first rest >>= λ o. Ok (step.Do o))

unfoldable pub step_of : List (List ℕ) → Result Step Code
step_of [] = Err code.Op
step_of (first ∷ rest) = step_by first rest

abbrev pub is_worker : Step → Bool
is_worker (step.Do (op.Worker _ _)) = true
is_worker _ = false

-- The lines behind the head, each a row: one that is skipped, one that begins a lane, or a step.

-- empty lines and those that begin with `#`
abbrev pub is_skipped : List ℕ → Bool
is_skipped line = (length line == 0) || (slice_index line 0 == 35)

abbrev pub row_steps : Row → List Step
row_steps (row.Step s) = s ∷ []
row_steps _ = []

-- the steps up to the next lane
abbrev pub steps_before_lane : List Row → List Step
steps_before_lane [] = []
steps_before_lane (row.Skip ∷ rows) = steps_before_lane rows
steps_before_lane (row.Lane ∷ rows) = []
steps_before_lane (row.Step s ∷ rows) = s ∷ steps_before_lane rows

abbrev pub lanes_of : List Row → List (List Step)
lanes_of [] = []
lanes_of (row.Skip ∷ rows) = lanes_of rows
lanes_of (row.Lane ∷ rows) = steps_before_lane rows ∷ lanes_of rows
lanes_of (row.Step s ∷ rows) = lanes_of rows

-- lanes with one more row behind them
abbrev pub onto_last : Step → List (List Step) → List (List Step)
onto_last s [] = []
onto_last s (lane ∷ []) = (lane ++ s ∷ []) ∷ []
onto_last s (lane ∷ next ∷ more) = lane ∷ onto_last s (next ∷ more)

abbrev pub with_row : List (List Step) → Row → List (List Step)
with_row lanes row.Skip = lanes
with_row lanes row.Lane = lanes ++ [] ∷ []
with_row lanes (row.Step s) = onto_last s lanes

abbrev pub workers_in : List Step → ℕ
workers_in [] = 0
workers_in (s ∷ steps) = (if is_worker s then 1 else 0) + workers_in steps

-- the `worker` lines of all lanes
abbrev pub workers_of : List (List Step) → ℕ
workers_of [] = 0
workers_of (lane ∷ lanes) = workers_in lane + workers_of lanes

-- a step, where there are so many lanes and `worker` lines before it
abbrev pub step_row : ℕ → ℕ → List ℕ → Result Row Code
step_row lanes workers line =
    if lanes == 0
    then Err code.NoLane
    else (step_of (words line) >>= λ s. if is_worker s && nat_le max_workers workers then Err code.TooMany else Ok (row.Step s))

abbrev pub lane_row : ℕ → Result Row Code
lane_row lanes = if nat_lt lanes max_lanes then Ok row.Lane else Err code.TooMany

abbrev pub text_row : ℕ → ℕ → List ℕ → Result Row Code
text_row lanes workers line =
    if is_skipped line then Ok row.Skip
    else if is_word (codes "lane") line then lane_row lanes
    else step_row lanes workers line

unfoldable pub row_of : ℕ → ℕ → List ℕ → Result Row Code
row_of lanes workers line = if is_utf8 line then text_row lanes workers line else Err code.Utf8

-- the rows of all lines, where these stand before them: with the head line there is one line more than rows
unfoldable pub rows_behind : List Row → List (List ℕ) → Result (List Row) BadLine
rows_behind before [] = Ok before
rows_behind before (line ∷ more) = do
  r ← at_line (length before + 2) (row_of (length (lanes_of before)) (workers_of (lanes_of before)) line)
  rows_behind (before ++ r ∷ []) more

abbrev pub lanes_behind : List (List ℕ) → Result (List (List Step)) BadLine
lanes_behind rest = do
  rows ← rows_behind [] rest
  Ok (lanes_of rows)

unfoldable pub script_of_lines : List (List ℕ) → Result Script BadLine
script_of_lines [] = at_line 1 (Err code.Head)
script_of_lines (head ∷ rest) = do
  seed ← at_line 1 (seed_of_line (codes "script") head)
  lanes ← lanes_behind rest
  Ok (record { seed = seed; lanes = lanes })

-- the script that a text is, or its first fault
abbrev pub script_of : List ℕ → Result Script BadLine
script_of text =
    if nat_le (length text) max_script then script_of_lines (script_lines (lines text)) else at_line 1 (Err code.Long)

-- The written form.

abbrev pub step_words : Step → List ℕ
step_words (step.Do o) = op_words o
step_words (step.Wait name event count) = codes "await" ++ space ∷ await_words name event count

-- a line that ends with a carriage return has another behind it, which isn't read
abbrev pub ended : List ℕ → List ℕ
ended line = line ++ (if ends_with_byte carriage_return line then carriage_return ∷ line_feed ∷ [] else line_feed ∷ [])

abbrev pub lane_text : List Step → List ℕ
lane_text steps = ended (codes "lane") ++ flat_map (λ s. ended (step_words s)) steps

unfoldable pub script_text : Script → List ℕ
script_text script = ended (codes "script 1" ++ spaced script.seed) ++ flat_map lane_text script.lanes

abbrev pub is_step : Step → Bool
is_step (step.Do o) = is_well_formed_op o
is_step (step.Wait name event count) = is_await name event count

-- what can be read: a seed below 2^60, at most 64 lanes and 64 `worker` lines, and each step has a line
unfoldable pub is_script : Script → Bool
is_script script =
    nat_le script.seed max_seed
    && nat_le (length script.lanes) max_lanes
    && nat_le (workers_of script.lanes) max_workers
    && list_all (list_all is_step) script.lanes
