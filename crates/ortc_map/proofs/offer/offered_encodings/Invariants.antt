use Rattle.std.proofs.Common.{◌≡◌, map, take}
use Rattle.ortc_map.specs.Consumable.{offered_encoding}
use Rattle.ortc_map.proofs.offer.offered_encodings.Given as goal

abbrev pub invariant-loop-mapped : goal.invariant-loop-mapped
invariant-loop-mapped l = l.encodings.items ≡ map offered_encoding (take l.mapped-index l.ssrcs)
