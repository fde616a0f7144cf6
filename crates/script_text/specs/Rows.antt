-- Worked rows for the lines of calls and for the texts of scripts.
use Rattle.std.specs.Prelude.{◌≡◌, ℕ, ◌^◌, ◌-◌, List, [], ◌∷◌, ◌++◌, true, false, codes, map, replicate, Result, Ok, Err, ⊤, refl}
use Rattle.std.specs.Str.{chars, is_utf8}
use Rattle.std.specs.Char.{encode_utf8}
use Rattle.std.specs.Fmt.{digits}
use Rattle.hex.specs.Hex.{decode_pairs, encode_with}
use Rattle.serde_json.proofs.OnLiterals.{serde_json_on_literals}
use Rattle.ms_base.specs.Name.{is_name, is_name_byte}
use Rattle.ms_base.specs.declared.keys.Event.TheVariants as event
use Rattle.ms_base.specs.declared.code.Code.{Code}
use Rattle.ms_base.specs.declared.code.Code.TheVariants as code
use Rattle.ms_base.specs.declared.op.Op.{Op}
use Rattle.ms_base.specs.declared.op.Op.TheVariants as op
use Rattle.script_text.specs.declared.script.Script.{Script}
use Rattle.script_text.specs.declared.script.Step.{Step}
use Rattle.script_text.specs.declared.script.Step.TheVariants as step
use Rattle.script_text.specs.declared.row.Row.TheVariants as row
use Rattle.script_text.specs.Words.{BadLine, lines, number_of, seed_of_line, seed_of_words, words}
use Rattle.script_text.specs.Calls.{await_of, call_of, is_well_formed_op, lower_call, op_of_words, op_words}
use Rattle.script_text.specs.Script.{is_script, row_of, rows_behind, script_of, script_of_lines, script_text, step_of}

-- what a row unfolds to compute
unfoldable on_literals : ⊤
unfolding number_of seed_of_words seed_of_line call_of await_of op_words is_well_formed_op step_of row_of rows_behind script_of_lines script_text is_script chars is_utf8 encode_utf8 decode_pairs encode_with digits is_name is_name_byte serde_json_on_literals
on_literals = tt

-- Calls.

abbrev pub calls_of : List ℕ → List (Result Op Code)
calls_of text = map (λ line. op_of_words (words line)) (lines text)

abbrev pub one_of_each : List Op
one_of_each =
    op.Worker (codes "w") 1000
    ∷ op.Router (codes "r") (codes "w") (codes "{ }")
    ∷ op.Plain (codes "t") (codes "r") (codes "{}")
    ∷ op.Pipe (codes "q") (codes "r") (codes "{}")
    ∷ op.Direct (codes "d") (codes "r")
    ∷ op.Connect (codes "t") (codes "{}")
    ∷ op.Produce (codes "p") (codes "t") (codes "{}")
    ∷ op.Consume (codes "c") (codes "t") (codes "p") (codes "[1, 2] ")
    ∷ op.Pause (codes "p")
    ∷ op.Resume (codes "p")
    ∷ op.Close (codes "w")
    ∷ op.CanConsume (codes "p") (codes "{}")
    ∷ op.Send (codes "p") (0 ∷ 255 ∷ []) ∷ []

pub each_is_read : calls_of (codes "worker w 1000\nrouter r w { }\nplain t r {}\npipe q r {}\ndirect d r\nconnect t {}\nproduce p t {}\nconsume c t p [1, 2] \npause p\nresume p\nclose w\ncanconsume p {}\nsend p 00fF") ≡ map (λ o. Ok o) one_of_each
unfolding on_literals
each_is_read = refl

pub each_is_written : map op_words one_of_each ≡ lines (codes "worker w 1000\nrouter r w { }\nplain t r {}\npipe q r {}\ndirect d r\nconnect t {}\nproduce p t {}\nconsume c t p [1, 2] \npause p\nresume p\nclose w\ncanconsume p {}\nsend p 00ff")
unfolding on_literals
each_is_written = refl

pub each_has_a_line : map is_well_formed_op one_of_each ≡ map (λ _. true) one_of_each
unfolding on_literals
each_has_a_line = refl

-- one of `piperouter` is written, but isn't read yet
pub a_pipe_of_routers : op_words (op.PipeRouter (codes "k") (codes "p") (codes "r")) ≡ codes "piperouter k p r"
unfolding on_literals
a_pipe_of_routers = refl

pub no_pipe_of_routers : is_well_formed_op (op.PipeRouter (codes "k") (codes "p") (codes "r")) ≡ false
unfolding on_literals
no_pipe_of_routers = refl

pub no_call : calls_of (codes "\npiperouter k p r\ntogether 2\nawait w open 1\nWorker w 0") ≡ replicate 5 (Err code.Op)
unfolding on_literals
no_call = refl

pub other_words : calls_of (codes "worker\nworker w\nworker W 0 \nrouter r w\ndirect D\npause\npause p \nsend p 00 00\nconsume c t p") ≡ replicate 9 (Err code.Words)
unfolding on_literals
other_words = refl

pub the_first_bad_word : calls_of (codes "worker W x\nworker w 1001\nworker w 01\nrouter r  x\nrouter r w \nrouter r w {} {}\nsend P 0\nsend p 0\nsend p ") ≡ Err code.Name ∷ Err code.Number ∷ Err code.Number ∷ Err code.Name ∷ Err code.Json ∷ Err code.Json ∷ Err code.Name ∷ Err code.Hex ∷ Err code.Hex ∷ []
unfolding on_literals
the_first_bad_word = refl

pub digits_alone_in_lower_case : lower_call (words (codes "send AB CDef")) ≡ words (codes "send AB cdef")
digits_alone_in_lower_case = refl

-- Scripts.

abbrev pub bad : ℕ → Code → Result Script BadLine
bad n c = Err (record { line = n; code = c })

abbrev pub script : ℕ → List (List Step) → Script
script seed lanes = record { seed = seed; lanes = lanes }

abbrev pub two_lanes : Script
two_lanes = script 7 ((step.Do (op.Worker (codes "w") 0) ∷ step.Wait (codes "w") event.Running 1 ∷ []) ∷ [] ∷ (step.Do (op.Close (codes "w")) ∷ []) ∷ [])

pub lanes_with_remarks : script_of (codes "script 1 7\r\n\n# x\r\nlane\nworker w 0\r\nawait w running 1\nlane\nlane\n#\n\r\nclose w") ≡ Ok two_lanes
unfolding on_literals
lanes_with_remarks = refl

pub written_lanes : script_text two_lanes ≡ codes "script 1 7\nlane\nworker w 0\nawait w running 1\nlane\nlane\nclose w\n"
unfolding on_literals
written_lanes = refl

pub two_lanes_can_be_read : is_script two_lanes ≡ true
unfolding on_literals
two_lanes_can_be_read = refl

pub no_lanes : script_of (codes "script 1 1152921504606846975") ≡ Ok (script (2 ^ 60 - 1) [])
unfolding on_literals
no_lanes = refl

-- options that end with a carriage return are written with another, which isn't read
pub a_return_in_options : script_text (script 0 ((step.Do (op.Connect (codes "t") (codes "{}\r")) ∷ []) ∷ [])) ≡ codes "script 1 0\nlane\nconnect t {}\r\r\n"
unfolding on_literals
a_return_in_options = refl

pub that_return_is_read : script_of (codes "script 1 0\nlane\nconnect t {}\r\r\n") ≡ Ok (script 0 ((step.Do (op.Connect (codes "t") (codes "{}\r")) ∷ []) ∷ []))
unfolding on_literals
that_return_is_read = refl

pub bad_heads : map script_of (codes "" ∷ codes "script 1 1152921504606846976" ∷ codes "script 2 7" ∷ codes "script 1 7\r" ∷ codes "#\nscript 1 7" ∷ codes "journal 1 7" ∷ []) ≡ replicate 6 (bad 1 code.Head)
unfolding on_literals
bad_heads = refl

pub a_line_before_a_lane : script_of (codes "script 1 7\nworker w 0") ≡ bad 2 code.NoLane
unfolding on_literals
a_line_before_a_lane = refl

pub the_first_bad_line : script_of (codes "script 1 7\nlane\n\nclose W\nfoo") ≡ bad 4 code.Name
unfolding on_literals
the_first_bad_line = refl

pub a_remark_that_is_no_text : script_of (codes "script 1 7\n#" ++ 255 ∷ codes "\nfoo") ≡ bad 2 code.Utf8
unfolding on_literals
a_remark_that_is_no_text = refl

-- `toomany` comes last, behind the code of a bad word
pub one_too_many : map (row_of 64 64) (lines (codes "lane\nlane \nworker w 0\nworker W 0\nclose w\n#")) ≡ Err code.TooMany ∷ Err code.Op ∷ Err code.TooMany ∷ Err code.Name ∷ Ok (row.Step (step.Do (op.Close (codes "w")))) ∷ Ok row.Skip ∷ []
unfolding on_literals
one_too_many = refl

pub before_the_first_lane : map (row_of 0 0) (lines (codes "lane\nlane x\nfoo\n")) ≡ Ok row.Lane ∷ Err code.NoLane ∷ Err code.NoLane ∷ Ok row.Skip ∷ []
unfolding on_literals
before_the_first_lane = refl

pub bad_waits : map (row_of 1 0) (lines (codes "await w gone 1\nawait w open 0\nawait w open 1000000001\nawait w open\nawait W gone 0")) ≡ Err code.Event ∷ Err code.Number ∷ Err code.Number ∷ Err code.Words ∷ Err code.Name ∷ []
unfolding on_literals
bad_waits = refl
