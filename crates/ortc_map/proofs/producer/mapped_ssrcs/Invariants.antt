use Rattle.std.proofs.Common.{◌≡◌, ◌+◌, ◌++◌, drop}
use Rattle.ortc_map.specs.ProducerMapping.{mapped_ssrcs}
use Rattle.ortc_map.proofs.producer.mapped_ssrcs.Given as goal

-- what is left, behind what has been mapped, comes to what the whole comes to
abbrev pub invariant-loop-index : goal.invariant-loop-index
invariant-loop-index l = l.ssrcs.items ++ mapped_ssrcs (l.first_ssrc + l.index) (drop l.index l.encodings) ≡ mapped_ssrcs l.first_ssrc l.encodings
