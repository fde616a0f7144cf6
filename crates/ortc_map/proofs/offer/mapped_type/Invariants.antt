use Rattle.std.proofs.Common.{◌≡◌, drop}
use Rattle.ortc_map.specs.Consumable.{mapped_type}
use Rattle.ortc_map.proofs.offer.mapped_type.Given as goal

abbrev pub invariant-loop-each : goal.invariant-loop-each
invariant-loop-each l = mapped_type l.types l.own ≡ mapped_type (drop l.each-index l.types) l.own
