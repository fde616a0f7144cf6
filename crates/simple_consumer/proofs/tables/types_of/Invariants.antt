use Rattle.std.proofs.Common.{◌≡◌, ℕ, ◌<◌, false, length, get_or}
use Rattle.simple_consumer.specs.Sending.{has_payload_type}
use Rattle.simple_consumer.proofs.tables.types_of.Given as goal

-- those so far are told
abbrev pub invariant-loop-own : goal.invariant-loop-own
invariant-loop-own l = (length l.types ≡ 128) × ((t : ℕ) → t < l.own → get_or l.types t false ≡ has_payload_type l.params t)
