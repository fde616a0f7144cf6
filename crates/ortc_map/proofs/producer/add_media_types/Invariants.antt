use Rattle.std.proofs.Common.{◌≡◌, drop, filter}
use Rattle.ortc_map.specs.Rules.{each_behind}
use Rattle.ortc_map.specs.ProducerMapping.{is_media, media_types}
use Rattle.ortc_map.proofs.producer.add_media_types.Given as goal

-- what is left, behind what has been mapped, comes to what the whole comes to
abbrev pub invariant-loop-codec : goal.invariant-loop-codec
invariant-loop-codec l =
    each_behind (media_types l.router) l.types.items (filter is_media (drop l.codec-index l.codecs))
    ≡ each_behind (media_types l.router) l.fn.types.items (filter is_media l.codecs)
