use Rattle.std.proofs.Common.{◌≡◌, map}
use Rattle.std.specs.List.{range_with_len}
use Rattle.pipe_params.specs.Pipe.{pipe_encoding}
use Rattle.pipe_params.proofs.pipe.pipe_encodings.Given as goal

abbrev pub invariant-loop-place : goal.invariant-loop-place
invariant-loop-place l = l.encodings.items ≡ map (pipe_encoding l.enable_rtx l.count) (range_with_len l.first_ssrc l.place)
