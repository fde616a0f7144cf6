use Rattle.std.proofs.Common.{◌≡◌, take}
use Rattle.pipe_params.specs.Pipe.{pipe_exts}
use Rattle.pipe_params.proofs.pipe.pipe_exts.Given as goal

abbrev pub invariant-loop-ext : goal.invariant-loop-ext
invariant-loop-ext l = l.kept.items ≡ pipe_exts (take l.ext-index l.exts)
