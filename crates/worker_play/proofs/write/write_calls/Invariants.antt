use Rattle.std.proofs.Common.{◌≡◌, ◌++◌, take, flat_map}
use Rattle.worker_play.specs.Written.{call_line}
use Rattle.worker_play.proofs.write.write_calls.Given as goal

abbrev pub invariant-loop-call : goal.invariant-loop-call
invariant-loop-call l = l.into ≡ l.initial.into ++ flat_map call_line (take l.call-index l.calls)
