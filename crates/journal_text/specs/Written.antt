-- The written form of a journal, and its size. This project's own.
use Rattle.std.specs.Prelude.{ℕ, ◌^◌, ◌-◌, List, [], ◌∷◌, ◌++◌, length, min, Bool, codes, flat_map, if◌then◌else◌}
use Rattle.hex.specs.Hex.{encode_lower}
use Rattle.ms_base.specs.declared.entry.Entry.{Entry}
use Rattle.ms_base.specs.declared.entry.Entry.TheVariants as entry
use Rattle.ms_base.specs.declared.keys.GoneCause.{GoneCause}
use Rattle.ms_base.specs.declared.keys.GoneCause.TheVariants as cause
use Rattle.ms_base.specs.Words.{space, line_feed, spaced, worker_words}
use Rattle.script_text.specs.Calls.{op_words, await_words}

-- how many bytes the text of a journal may have
abbrev pub max_journal : ℕ
max_journal = 268435456

abbrev pub head_line : ℕ → List ℕ
head_line seed = codes "journal 1" ++ spaced seed ++ line_feed ∷ []

abbrev pub up_word : Bool → List ℕ
up_word up = if up then codes "up" else codes "failed"

abbrev pub cause_word : GoneCause → List ℕ
cause_word cause.End = codes "end"
cause_word cause.Read = codes "read"
cause_word cause.Write = codes "write"

-- a call and a wait stand as in a script, behind their lane
abbrev pub entry_words : Entry → List ℕ
entry_words (entry.Call lane o) = codes "call" ++ spaced lane ++ space ∷ op_words o
entry_words (entry.Await lane name event count) = codes "await" ++ spaced lane ++ space ∷ await_words name event count
entry_words (entry.Spawned worker up) = codes "spawned" ++ worker_words worker ++ space ∷ up_word up
entry_words (entry.Chunk worker bytes) = codes "chunk" ++ worker_words worker ++ space ∷ encode_lower bytes
entry_words (entry.Gone worker c) = codes "gone" ++ worker_words worker ++ space ∷ cause_word c
entry_words entry.Stop = codes "stop"

abbrev pub entry_line : Entry → List ℕ
entry_line e = entry_words e ++ line_feed ∷ []

-- the text of a journal
abbrev pub journal_text : ℕ → List Entry → List ℕ
journal_text seed entries = head_line seed ++ flat_map entry_line entries

abbrev pub journal_size : ℕ → List Entry → ℕ
journal_size seed entries = length (journal_text seed entries)

-- the greatest number that a size is told as
abbrev pub max_told : ℕ
max_told = 2 ^ 64 - 1

-- the length of an entry's line, or the greatest told number where it is longer
abbrev pub told_entry_size : Entry → ℕ
told_entry_size e = min (length (entry_line e)) max_told
