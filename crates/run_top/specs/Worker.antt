-- What a worker promises, by the status that it ends with (this project's own). Running out of memory alone is free.
use Rattle.std.specs.Prelude.{◌≡◌, ◌≢◌, ℕ, ◌==◌, ◌||◌, Bool, IsTrue}
use Rattle.ms_devices.specs.Causes.{Rose}
use Rattle.worker_serve.specs.Serving.{WorkerOutside, Since, IsAny, IsUnbroken, IsToTheEnd, IsToABreak, IsOutput, IsCutByAFault, IsCutShort, IsOfLinks}
use Rattle.worker_serve.specs.declared.serving.ServeEnd.{ServeEnd}
use Rattle.worker_serve.specs.declared.serving.ServeEnd.TheVariants as ends
use Rattle.run_top.specs.declared.status.TheConstants.Status.{DONE, BAD_TEXT, READ_FAILED, WRITE_FAILED, OUT_OF_MEMORY}

-- the status that tells how serving ended
abbrev pub status_of : ServeEnd → ℕ
status_of ends.End = DONE.0
status_of ends.Read = READ_FAILED.0
status_of ends.Write = WRITE_FAILED.0
status_of (ends.TooLong place told) = BAD_TEXT.0
status_of ends.NoMemory = OUT_OF_MEMORY.0

abbrev pub is_worker_status : ℕ → Bool
is_worker_status status =
    (status == DONE.0) || (status == BAD_TEXT.0) || (status == READ_FAILED.0) || (status == WRITE_FAILED.0) || (status == OUT_OF_MEMORY.0)

pub record IsWorker (status : ℕ) (before now : WorkerOutside) : Type 0 where
  -- one of these statuses comes
  pub statuses : IsTrue (is_worker_status status)
  pub done : status ≡ DONE.0 → Since IsToTheEnd IsOutput before now
  -- the channel's stream is broken; at its end and where a read failed it isn't, and where a write failed or memory ran out it may be
  pub broken : status ≡ BAD_TEXT.0 → Since IsToABreak IsOutput before now
  pub read_failed : status ≡ READ_FAILED.0 → Since IsUnbroken IsOutput before now
  pub read_rose : status ≡ READ_FAILED.0 → Rose before.read_faults now.read_faults
  pub write_failed : status ≡ WRITE_FAILED.0 → Since IsAny IsCutByAFault before now
  pub write_rose : status ≡ WRITE_FAILED.0 → Rose before.channel_faults now.channel_faults
  pub out_of_memory : status ≡ OUT_OF_MEMORY.0 → Since IsAny IsCutShort before now
  -- no fault is passed over, and none of a link stands for one of the channel
  pub read_still : status ≢ READ_FAILED.0 → now.read_faults ≡ before.read_faults
  pub write_still : status ≢ WRITE_FAILED.0 → now.channel_faults ≡ before.channel_faults
  -- the faults of links are those of calls for a link and of datagrams that failed
  pub links : IsOfLinks before.link_faults now.link_faults before.calls now.calls
