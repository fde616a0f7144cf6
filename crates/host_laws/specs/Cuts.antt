-- Where chunks are cut. This project's own.
use Rattle.std.specs.Prelude.{ℕ, List, ◌∷◌, ◌++◌}
use Rattle.ms_base.specs.declared.entry.Entry.{Entry}
use Rattle.ms_base.specs.declared.entry.Entry.TheVariants as entry
use Rattle.ms_base.specs.declared.keys.WorkerKey.{WorkerKey}
use Rattle.host_model.specs.Run.{Journal}

-- two journals that differ in where one chunk is cut
abbrev pub in_one : Journal → WorkerKey → List ℕ → List ℕ → List Entry → Journal
in_one j worker first later behind = record j { entries = j.entries ++ entry.Chunk worker (first ++ later) ∷ behind }

abbrev pub in_two : Journal → WorkerKey → List ℕ → List ℕ → List Entry → Journal
in_two j worker first later behind = record j { entries = j.entries ++ entry.Chunk worker first ∷ entry.Chunk worker later ∷ behind }
