use Rattle.std.proofs.Common.{◌≡◌, drop}
use Rattle.rtp_params.specs.Names.{parameter_named}
use Rattle.rtp_params.proofs.codec.parameter_named.Given as goal

abbrev pub invariant-loop-key : goal.invariant-loop-key
invariant-loop-key l = parameter_named l.name l.parameters ≡ parameter_named l.name (drop l.key-index l.parameters)
