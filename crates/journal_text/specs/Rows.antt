-- Worked rows for the text of a journal.
use Rattle.std.specs.Prelude.{◌≡◌, ℕ, ◌-◌, ◌^◌, List, [], ◌∷◌, ◌++◌, true, false, codes, map, replicate, Option, Some, None, Result, Ok, Err, ⊤, refl}
use Rattle.std.specs.Str.{chars, is_utf8}
use Rattle.std.specs.Char.{encode_utf8}
use Rattle.std.specs.Fmt.{digits}
use Rattle.hex.specs.Hex.{decode_pairs, encode_with}
use Rattle.serde_json.proofs.OnLiterals.{serde_json_on_literals}
use Rattle.ms_base.specs.Name.{is_name, is_name_byte}
use Rattle.ms_base.specs.declared.keys.Event.TheVariants as event
use Rattle.ms_base.specs.declared.keys.GoneCause.TheVariants as cause
use Rattle.ms_base.specs.declared.keys.WorkerKey.{WorkerKey}
use Rattle.ms_base.specs.declared.code.Code.{Code}
use Rattle.ms_base.specs.declared.code.Code.TheVariants as code
use Rattle.ms_base.specs.declared.entry.Entry.{Entry}
use Rattle.ms_base.specs.declared.entry.Entry.TheVariants as entry
use Rattle.ms_base.specs.declared.op.Op.TheVariants as op
use Rattle.script_text.specs.Words.{BadLine, number_of, seed_of_words, seed_of_line}
use Rattle.script_text.specs.Calls.{await_of, op_words, is_well_formed_op}
use Rattle.script_text.specs.Calls.{call_of as op_by_verb}
use Rattle.journal_text.specs.Case.{in_lower_case}
use Rattle.journal_text.specs.Reading.{call_of, wait_of, worker_line, entry_of_words, entry_of_line, entries_of, reading_of_lines, reading_of}
use Rattle.journal_text.specs.WellFormed.{is_well_formed, are_well_formed}
use Rattle.journal_text.specs.Written.{entry_line, journal_text, journal_size}

-- what a row unfolds to compute
unfoldable on_literals : ⊤
unfolding number_of seed_of_words seed_of_line await_of op_words is_well_formed_op op_by_verb call_of wait_of worker_line entry_of_words entry_of_line entries_of reading_of_lines is_well_formed chars is_utf8 encode_utf8 decode_pairs encode_with digits is_name is_name_byte serde_json_on_literals
on_literals = tt

abbrev pub key : ℕ → ℕ → WorkerKey
key s g = record { slot = s; generation = g }

-- ---- whole texts

pub every_line : reading_of (codes "journal 1 1152921504606846975\ncall 64 router r w {\"mediaCodecs\": []} \ncall 1 send p 80fF\nawait 2 w running 3\nspawned 1 1 up\nspawned 64 1001 failed\nchunk 2 3 00fF\n") ≡ Ok (
  2 ^ 60 - 1,
  entry.Call 64 (op.Router (codes "r") (codes "w") (codes "{\"mediaCodecs\": []} "))
      ∷ entry.Call 1 (op.Send (codes "p") (128 ∷ 255 ∷ []))
      ∷ entry.Await 2 (codes "w") event.Running 3
      ∷ entry.Spawned (key 1 1) true
      ∷ entry.Spawned (key 64 1001) false
      ∷ entry.Chunk (key 2 3) (0 ∷ 255 ∷ []) ∷ [],
)
unfolding on_literals
every_line = refl

abbrev pub fault_in : {A : Type 0} → Result A BadLine → Option (ℕ × Code)
fault_in (Ok read) = None
fault_in (Err bad) = Some (bad.line, bad.code)

-- the number of the first bad line of a text and its code
abbrev pub fault_of : List ℕ → Option (ℕ × Code)
fault_of text = fault_in (reading_of text)

-- another version, a seed that is absent, empty or too great, a carriage return, two spaces; also without a line feed
pub bad_heads : map fault_of (
    codes "" ∷ codes "journal 2 7\n" ∷ codes "journal 1\n" ∷ codes "journal 1 \n" ∷ codes "journal 1 1152921504606846976\n" ∷ codes "journal 1 07\n"
    ∷ codes "journal 1 7\r\n" ∷ codes "journal  1 7\n" ∷ codes "script 1 7\n" ∷ codes "journal 1 x" ∷ []
    ) ≡ replicate 10 (Some (1, code.Head))
unfolding on_literals
bad_heads = refl

pub no_last_line_feed : map fault_of (codes "journal 1 7" ∷ codes "journal 1 7\nspawned 1 1 up" ∷ codes "journal 1 7\n\n" ∷ []) ≡ Some (1, code.Cut) ∷ Some (2, code.Cut) ∷ Some (2, code.Op) ∷ []
unfolding on_literals
no_last_line_feed = refl

pub no_texts : map fault_of ((128 ∷ []) ∷ (codes "journal 1 7\nstop " ++ 255 ∷ codes "\n") ∷ (codes "journal 1 7\n" ++ 192 ∷ 128 ∷ []) ∷ []) ≡ Some (1, code.Utf8) ∷ Some (2, code.Utf8) ∷ Some (2, code.Utf8) ∷ []
unfolding on_literals
no_texts = refl

pub the_first_bad_line : fault_of (codes "journal 1 7\nspawned 1 1 up\nchunk 1 0 aa\nstop\n") ≡ Some (3, code.Number)
unfolding on_literals
the_first_bad_line = refl

-- ---- lines

abbrev pub code_in : Result Entry Code → Option Code
code_in (Ok e) = None
code_in (Err c) = Some c

abbrev pub codes_of : List (List ℕ) → List (Option Code)
codes_of lines = map (λ line. code_in (entry_of_line line)) lines

-- no line begins so, or none of a call; before a bad lane and a wrong number of words
pub no_such_line : codes_of (
    codes "" ∷ codes "stop" ∷ codes "stop\r" ∷ codes "gone 1 1 end" ∷ codes "lane" ∷ codes "call" ∷ codes "call 0" ∷ codes "call 0 await w running 1"
    ∷ codes "call 0 piperouter n p r" ∷ codes "call 0 together 2" ∷ codes "call 65 foo" ∷ []
    ) ≡ replicate 11 (Some code.Op)
unfolding on_literals
no_such_line = refl

-- a wrong number of words, before a bad one
pub wrong_numbers_of_words : codes_of (
    codes "await" ∷ codes "await 0" ∷ codes "await 0 w running" ∷ codes "await 1 w running 1 " ∷ codes "call 0 worker W" ∷ codes "call 1 worker w 0 "
    ∷ codes "call 1 router r w" ∷ codes "call 1 consume c t p" ∷ codes "call 1 pause" ∷ codes "spawned 0 1" ∷ codes "chunk 1 1" ∷ []
    ) ≡ replicate 11 (Some code.Words)
unfolding on_literals
wrong_numbers_of_words = refl

-- the first bad word, of a line with a lane the lane's number
pub bad_numbers : codes_of (
    codes "call 0 worker W 0" ∷ codes "call 65 worker w 0" ∷ codes "call 01 pause P" ∷ codes "call +1 send p x" ∷ codes "await 0 W x 0" ∷ codes "await 1 w open 0"
    ∷ codes "call 1 worker w 1001" ∷ codes "call 1 worker w " ∷ codes "spawned 1 1002 x" ∷ codes "chunk 65 1 x" ∷ codes "spawned 99999999999999999999999999999999 1 up" ∷ []
    ) ≡ replicate 11 (Some code.Number)
unfolding on_literals
bad_numbers = refl

pub bad_names : codes_of (codes "call 1 worker W x" ∷ codes "call 1 router r  x" ∷ codes "call 1 close " ∷ codes "await 1 W x 0" ∷ codes "call 1 send P x" ∷ []) ≡ replicate 5 (Some code.Name)
unfolding on_literals
bad_names = refl

pub other_events : codes_of (codes "await 1 w gone 0" ∷ codes "spawned 1 1 gone" ∷ codes "spawned 1 1 up\r" ∷ []) ≡ replicate 3 (Some code.Event)
unfolding on_literals
other_events = refl

pub no_json : codes_of (codes "call 1 router r w " ∷ codes "call 1 router r w {} {}" ∷ codes "call 1 connect t {" ∷ []) ≡ replicate 3 (Some code.Json)
unfolding on_literals
no_json = refl

pub no_bytes : codes_of (codes "chunk 1 1 abc" ∷ codes "chunk 1 1 " ∷ codes "chunk 1 1 0g" ∷ codes "call 1 send p " ∷ codes "call 1 send p 0" ∷ []) ≡ replicate 5 (Some code.Hex)
unfolding on_literals
no_bytes = refl

-- ---- what can be written

abbrev pub some_entries : List Entry
some_entries =
    entry.Call 1 (op.Worker (codes "w") 1000)
    ∷ entry.Call 64 (op.Consume (codes "c") (codes "t") (codes "p") (codes "{ }"))
    ∷ entry.Await 1 (codes "t") event.Tuple 1
    ∷ entry.Spawned (key 64 1001) false
    ∷ entry.Chunk (key 1 1) (255 ∷ []) ∷ []

pub each_has_a_line : are_well_formed some_entries ≡ true
unfolding on_literals
each_has_a_line = refl

pub written : journal_text 7 some_entries ≡ codes "journal 1 7\ncall 1 worker w 1000\ncall 64 consume c t p { }\nawait 1 t tuple 1\nspawned 64 1001 failed\nchunk 1 1 ff\n"
unfolding on_literals
written = refl

pub its_size : journal_size 7 some_entries ≡ 113
unfolding on_literals
its_size = refl

-- a lane, a budget, a name, options in two lines, a count, a slot, no bytes, a byte; and what isn't read yet
pub no_lines : map is_well_formed (
    entry.Call 0 (op.Pause (codes "p")) ∷ entry.Call 1 (op.Worker (codes "w") 1001) ∷ entry.Call 1 (op.Worker (codes "a b") 0)
    ∷ entry.Call 1 (op.Router (codes "r") (codes "w") (codes "{\n}")) ∷ entry.Await 1 (codes "w") event.Running 0 ∷ entry.Spawned (key 65 1) true
    ∷ entry.Chunk (key 1 1) [] ∷ entry.Chunk (key 1 1) (256 ∷ [])
    ∷ entry.Call 1 (op.PipeRouter (codes "n") (codes "p") (codes "r")) ∷ entry.Gone (key 1 1) cause.End ∷ entry.Stop ∷ []
    ) ≡ replicate 11 false
unfolding on_literals
no_lines = refl

-- they have a written form all the same
pub ends : map entry_line (entry.Gone (key 2 3) cause.Write ∷ entry.Stop ∷ []) ≡ codes "gone 2 3 write\n" ∷ codes "stop\n" ∷ []
unfolding on_literals
ends = refl

-- of a text of both cases nothing but the digits of bytes changes
pub digits_alone_in_lower_case : in_lower_case (codes "journal 1 0\ncall 1 router r w {\"A\": \"B\"}\ncall 1 send p FfAa\nchunk 2 3 00fFAa\n") ≡ codes "journal 1 0\ncall 1 router r w {\"A\": \"B\"}\ncall 1 send p ffaa\nchunk 2 3 00ffaa\n"
unfolding on_literals
digits_alone_in_lower_case = refl
