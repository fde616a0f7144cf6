-- Which entries have a line that is read, so that a journal of them can be written and read back (this project's own).
use Rattle.std.specs.Prelude.{◌&&◌, nat_le, List, Bool, false, length}
use Rattle.std.specs.List.{list_all}
use Rattle.ms_base.specs.declared.keys.WorkerKey.{WorkerKey}
use Rattle.ms_base.specs.declared.entry.Entry.{Entry}
use Rattle.ms_base.specs.declared.entry.Entry.TheVariants as entry
use Rattle.script_text.specs.Words.{is_within}
use Rattle.script_text.specs.Forms.{Hex, is_value}
use Rattle.script_text.specs.Calls.{is_well_formed_op, is_await}

abbrev pub is_worker_key : WorkerKey → Bool
is_worker_key worker = is_within 1 64 worker.slot && is_within 1 1001 worker.generation

-- lines for the end of a channel and of a run are written, and not read yet
unfoldable pub is_well_formed : Entry → Bool
is_well_formed (entry.Call lane o) = is_within 1 64 lane && is_well_formed_op o
is_well_formed (entry.Await lane name event count) = is_within 1 64 lane && is_await name event count
is_well_formed (entry.Spawned worker up) = is_worker_key worker
is_well_formed (entry.Chunk worker bytes) = is_worker_key worker && is_value Hex bytes && nat_le (length bytes) 65536
is_well_formed (entry.Gone worker cause) = false
is_well_formed entry.Stop = false

abbrev pub are_well_formed : List Entry → Bool
are_well_formed entries = list_all is_well_formed entries
