use Rattle.std.proofs.Common.{◌≡◌, ℕ, ◌<◌, None, length, get_or}
use Rattle.producer.specs.Tables.{media_type}
use Rattle.producer.proofs.types.media_types.Given as goal

-- those so far are told
abbrev pub invariant-loop-own : goal.invariant-loop-own
invariant-loop-own l = (length l.types ≡ 128) × ((t : ℕ) → t < l.own → get_or l.types t None ≡ media_type l.params l.mapping t)
