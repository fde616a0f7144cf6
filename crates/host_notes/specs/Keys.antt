-- When two keys are the same. This project's own.
use Rattle.std.specs.Prelude.{Bool, ◌&&◌, ◌==◌}
use Rattle.ms_base.specs.declared.keys.CallKey.{CallKey}
use Rattle.ms_base.specs.declared.keys.WorkerKey.{WorkerKey}

abbrev pub same_worker : WorkerKey → WorkerKey → Bool
same_worker a b = (a.slot == b.slot) && (a.generation == b.generation)

abbrev pub same_call : CallKey → CallKey → Bool
same_call a b = (a.lane == b.lane) && (a.place == b.place)
