use Rattle.std.proofs.Common.{◌≡◌, map, filter, take}
use Rattle.ortc_map.specs.ConsumerParams.{consumer_codec, stays}
use Rattle.ortc_map.proofs.consumer.consumer_codecs.Given as goal

abbrev pub invariant-loop-codec : goal.invariant-loop-codec
invariant-loop-codec l = l.kept.items ≡ map (consumer_codec l.caps l.exts) (filter (stays l.caps l.codecs) (take l.codec-index l.codecs))
