use Rattle.std.proofs.Common.{◌≡◌, map, take}
use Rattle.ortc_map.specs.Consumable.{as_of_params}
use Rattle.ortc_map.proofs.offer.offered_exts.Given as goal

abbrev pub invariant-loop-ext : goal.invariant-loop-ext
invariant-loop-ext l = l.exts.items ≡ map as_of_params (take l.ext-index l.ext-items)
