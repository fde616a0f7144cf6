use Rattle.std.proofs.Common.{◌≡◌, drop, filter}
use Rattle.rtp_params.specs.Names.{is_rtx}
use Rattle.ortc_map.specs.Rules.{each_behind}
use Rattle.ortc_map.specs.ProducerMapping.{rtx_types}
use Rattle.ortc_map.proofs.producer.add_rtx_types.Given as goal

-- what is left, behind what has been mapped, comes to what the whole comes to
abbrev pub invariant-loop-codec : goal.invariant-loop-codec
invariant-loop-codec l =
    each_behind (rtx_types l.router l.codecs) l.types.items (filter is_rtx (drop l.codec-index l.codecs))
    ≡ each_behind (rtx_types l.router l.codecs) l.fn.types.items (filter is_rtx l.codecs)
