use Rattle.std.proofs.Common.{◌≡◌, take}
use Rattle.ortc_map.specs.Consumable.{offered_codecs}
use Rattle.ortc_map.proofs.offer.offered_codecs.Given as goal

abbrev pub invariant-loop-codec : goal.invariant-loop-codec
invariant-loop-codec l = l.offer.items ≡ offered_codecs l.router l.types (take l.codec-index l.codecs)
