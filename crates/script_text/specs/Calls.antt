-- The lines that begin a call, and the line that waits for notes (this project's own).
use Rattle.std.specs.Prelude.{ℕ, ◌&&◌, List, [], ◌∷◌, ◌++◌, Bool, true, false, codes, Result, Ok, Err, if◌then◌else◌, map, ◌-◌, ◌^◌}
use Rattle.std.specs.Char.{to_ascii_lowercase}
use Rattle.ms_base.specs.declared.keys.Event.{Event}
use Rattle.ms_base.specs.declared.code.Code.{Code}
use Rattle.ms_base.specs.declared.code.Code.TheVariants as code
use Rattle.ms_base.specs.Words.{space}
use Rattle.ms_base.specs.declared.op.Op.{Op}
use Rattle.ms_base.specs.declared.op.Op.TheVariants as op
use Rattle.script_text.specs.declared.verb.Verb.{Verb}
use Rattle.script_text.specs.declared.verb.Verb.TheVariants as verb
use Rattle.script_text.specs.declared.verb.Making.TheVariants as making
use Rattle.script_text.specs.declared.verb.Telling.TheVariants as telling
use Rattle.script_text.specs.declared.verb.Turning.TheVariants as turning
use Rattle.script_text.specs.Words.{◌>>=◌, by_word, is_word, rest_of_line}
use Rattle.script_text.specs.Forms.{Name, Number, Event as AnEvent, Hex, Json, Shape, Last, Then, Values, args_of, value_words, are_values}

-- The table of call lines: the first word of each, and the forms of those behind it.

abbrev pub verb_word : Verb → List ℕ
verb_word verb.Worker = codes "worker"
verb_word (verb.Make making.Router) = codes "router"
verb_word (verb.Make making.Plain) = codes "plain"
verb_word (verb.Make making.Pipe) = codes "pipe"
verb_word verb.Direct = codes "direct"
verb_word (verb.Tell telling.Connect) = codes "connect"
verb_word (verb.Make making.Produce) = codes "produce"
verb_word verb.Consume = codes "consume"
verb_word (verb.Turn turning.Pause) = codes "pause"
verb_word (verb.Turn turning.Resume) = codes "resume"
verb_word (verb.Turn turning.Close) = codes "close"
verb_word (verb.Tell telling.CanConsume) = codes "canconsume"
verb_word verb.Send = codes "send"
verb_word verb.PipeRouter = codes "piperouter"

abbrev pub shape_of : Verb → Shape
shape_of verb.Worker = Then Name (Last (Number 0 1000))
shape_of (verb.Make _) = Then Name (Then Name (Last Json))
shape_of verb.Direct = Then Name (Last Name)
shape_of verb.Consume = Then Name (Then Name (Then Name (Last Json)))
shape_of (verb.Tell _) = Then Name (Last Json)
shape_of (verb.Turn _) = Last Name
shape_of verb.Send = Then Name (Last Hex)
shape_of verb.PipeRouter = Then Name (Then Name (Last Name))

abbrev pub verbs : List Verb
verbs =
    verb.Worker
    ∷ verb.Make making.Router ∷ verb.Make making.Plain ∷ verb.Make making.Pipe ∷ verb.Direct
    ∷ verb.Tell telling.Connect ∷ verb.Make making.Produce ∷ verb.Consume
    ∷ verb.Turn turning.Pause ∷ verb.Turn turning.Resume ∷ verb.Turn turning.Close
    ∷ verb.Tell telling.CanConsume ∷ verb.Send ∷ verb.PipeRouter ∷ []

-- the call of a line
abbrev pub op_with : (v : Verb) → Values (shape_of v) → Op
op_with verb.Worker (name, budget) = op.Worker name budget
op_with (verb.Make making.Router) (name, (worker, options)) = op.Router name worker options
op_with (verb.Make making.Plain) (name, (router, options)) = op.Plain name router options
op_with (verb.Make making.Pipe) (name, (router, options)) = op.Pipe name router options
op_with verb.Direct (name, router) = op.Direct name router
op_with (verb.Tell telling.Connect) (transport, options) = op.Connect transport options
op_with (verb.Make making.Produce) (name, (transport, options)) = op.Produce name transport options
op_with verb.Consume (name, (transport, (producer, options))) = op.Consume name transport producer options
op_with (verb.Turn turning.Pause) name = op.Pause name
op_with (verb.Turn turning.Resume) name = op.Resume name
op_with (verb.Turn turning.Close) name = op.Close name
op_with (verb.Tell telling.CanConsume) (producer, caps) = op.CanConsume producer caps
op_with verb.Send (producer, packet) = op.Send producer packet
op_with verb.PipeRouter (name, (producer, router)) = op.PipeRouter name producer router

-- a line of a call: its first word, and what those behind it stand for
abbrev pub Line : Type 0
Line = (v : Verb) × Values (shape_of v)

abbrev pub line_of : Op → Line
line_of (op.Worker name budget) = (verb.Worker, (name, budget))
line_of (op.Router name worker options) = (verb.Make making.Router, (name, (worker, options)))
line_of (op.Plain name router options) = (verb.Make making.Plain, (name, (router, options)))
line_of (op.Pipe name router options) = (verb.Make making.Pipe, (name, (router, options)))
line_of (op.Direct name router) = (verb.Direct, (name, router))
line_of (op.Connect transport options) = (verb.Tell telling.Connect, (transport, options))
line_of (op.Produce name transport options) = (verb.Make making.Produce, (name, (transport, options)))
line_of (op.Consume name transport producer options) = (verb.Consume, (name, (transport, (producer, options))))
line_of (op.Pause name) = (verb.Turn turning.Pause, name)
line_of (op.Resume name) = (verb.Turn turning.Resume, name)
line_of (op.Close name) = (verb.Turn turning.Close, name)
line_of (op.CanConsume producer caps) = (verb.Tell telling.CanConsume, (producer, caps))
line_of (op.Send producer packet) = (verb.Send, (producer, packet))
line_of (op.PipeRouter name producer router) = (verb.PipeRouter, (name, (producer, router)))

-- How they are read.

-- whether such a line is read: one of `piperouter` isn't yet
abbrev pub is_read : Verb → Bool
is_read verb.PipeRouter = false
is_read _ = true

-- a call by the words behind its first
unfoldable pub call_of : Verb → List (List ℕ) → Result Op Code
call_of v words =
    if is_read v then (args_of (shape_of v) words >>= λ xs. Ok (op_with v xs)) else Err code.Op

-- a call by its first word and the words behind it: `op` where no call line begins so, then `words` where their
-- number is wrong, then the code of the first bad word
abbrev pub op_of : List ℕ → List (List ℕ) → Result Op Code
op_of first rest = do
  v ← by_word verb_word first code.Op verbs
  call_of v rest

abbrev pub op_of_words : List (List ℕ) → Result Op Code
op_of_words [] = Err code.Op
op_of_words (first ∷ rest) = op_of first rest

-- `X EVENT COUNT`
abbrev pub await_shape : Shape
await_shape = Then Name (Then AnEvent (Last (Number 1 1000000000)))

unfoldable pub await_of : List (List ℕ) → Result (List ℕ × Event × ℕ) Code
await_of words = args_of await_shape words >>= λ a. Ok (a.0, a.1.0, a.1.1)

-- How they are written.

abbrev pub line_verb : Line → List ℕ
line_verb line = verb_word line.0

abbrev pub line_rest : Line → List ℕ
line_rest line = rest_of_line (value_words (shape_of line.0) line.1)

-- the text of a call: options stand as they were given, and are the rest of the line
unfoldable pub op_words : Op → List ℕ
op_words o = line_verb (line_of o) ++ space ∷ line_rest (line_of o)

abbrev pub is_read_line : Line → Bool
is_read_line line = is_read line.0 && are_values (shape_of line.0) line.1

-- whether the call has a line that is read
unfoldable pub is_well_formed_op : Op → Bool
is_well_formed_op o = is_read_line (line_of o)

abbrev pub await_words : List ℕ → Event → ℕ → List ℕ
await_words name e count = rest_of_line (value_words await_shape (name, (e, count)))

abbrev pub is_await : List ℕ → Event → ℕ → Bool
is_await name e count = are_values await_shape (name, (e, count))

-- the words of a call, the digits of a packet in lower case
abbrev pub lower_packet : List (List ℕ) → List (List ℕ)
lower_packet (producer ∷ digits ∷ []) = producer ∷ map to_ascii_lowercase digits ∷ []
lower_packet other = other

abbrev pub lower_call : List (List ℕ) → List (List ℕ)
lower_call [] = []
lower_call (first ∷ rest) = first ∷ (if is_word (codes "send") first then lower_packet rest else rest)

-- the greatest number that a length is told as
abbrev pub max_told : ℕ
max_told = 2 ^ 64 - 1
