-- What stands in the way of an entry. This project's own.
use Rattle.std.specs.Prelude.{ℕ, ◌+◌, ◌++◌, length, min, nat_lt, Bool, true, false, not, ◌&&◌, ◌==◌, if◌then◌else◌, Option, Some, None}
use Rattle.ms_base.specs.declared.applied.ApplyFault.{ApplyFault}
use Rattle.ms_base.specs.declared.applied.ApplyFault.TheVariants as fault
use Rattle.ms_base.specs.declared.entry.Entry.{Entry}
use Rattle.ms_base.specs.declared.entry.Entry.TheVariants as entry
use Rattle.ms_base.specs.declared.op.Op.{Op}
use Rattle.ms_base.specs.declared.op.Op.TheVariants as op
use Rattle.channel_frames.specs.Frames.{is_broken}
use Rattle.journal_text.specs.Written.{entry_line, journal_size, max_journal, max_told}
use Rattle.host_model.specs.State.{State, is_up, is_wanted, stream_of}
use Rattle.host_model.specs.Run.{Journal, HostView, state_of}

-- the size that the journal would have with this entry
abbrev pub size_with : Journal → Entry → ℕ
size_with j e = journal_size j.seed j.entries + length (entry_line e)

-- ---- what is not built yet

-- a Worker with restarts, and a Producer that is piped to another Router
abbrev pub is_unbuilt_op : Op → Bool
is_unbuilt_op (op.Worker name budget) = not (budget == 0)
is_unbuilt_op (op.PipeRouter name producer router) = true
is_unbuilt_op other = false

-- such a call, a failed start, a chunk that breaks its stream, the end of a worker, and the end of the run
abbrev pub is_unbuilt : State → Entry → Bool
is_unbuilt s (entry.Call lane op) = is_unbuilt_op op
is_unbuilt s (entry.Await lane name event count) = false
is_unbuilt s (entry.Spawned worker up) = not up && is_wanted s.slots worker
is_unbuilt s (entry.Chunk worker bytes) = is_up s.slots worker && is_broken (stream_of s.streams worker ++ bytes)
is_unbuilt s (entry.Gone worker cause) = true
is_unbuilt s entry.Stop = true

-- a host that has run out of memory answers that again; then the journal's limit counts, and then what is built
abbrev pub fault_of : HostView → Entry → Option ApplyFault
fault_of h e =
    if h.spent then Some fault.NoMemory
    else if nat_lt max_journal (size_with h.journal e) then Some (fault.Full (min (size_with h.journal e) max_told))
    else if is_unbuilt (state_of h.journal) e then Some fault.Unbuilt
    else None
