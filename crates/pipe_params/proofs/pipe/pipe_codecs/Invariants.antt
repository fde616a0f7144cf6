use Rattle.std.proofs.Common.{◌≡◌, take}
use Rattle.pipe_params.specs.Pipe.{pipe_codecs}
use Rattle.pipe_params.proofs.pipe.pipe_codecs.Given as goal

abbrev pub invariant-loop-codec : goal.invariant-loop-codec
invariant-loop-codec l = l.piped.items ≡ pipe_codecs l.enable_rtx (take l.codec-index l.codecs)
