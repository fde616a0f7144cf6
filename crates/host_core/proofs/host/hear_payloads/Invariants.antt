use Rattle.std.proofs.Common.{length}
use Rattle.channel_frames.specs.Frames.{frames}
use Rattle.host_core.specs.LookUps.{unread_of}
use Rattle.host_core.proofs.HostLemmas.{Hearing}
use Rattle.host_core.proofs.host.hear_payloads.Given as goal

abbrev pub invariant-loop-payload : goal.invariant-loop-payload
invariant-loop-payload l = Hearing l.worker l.initial.tables l.tables l.initial.readers l.readers

abbrev pub decreases-loop-payload : goal.decreases-loop-payload
decreases-loop-payload l = length (frames (unread_of l.readers l.worker))
