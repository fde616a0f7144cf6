use Rattle.std.proofs.Common.{◌≡◌, ℕ, ◌==◌, take}
use Rattle.std.specs.List.{list_any}
use Rattle.rtp_extension.specs.Ids.{has_id}
use Rattle.simple_consumer.proofs.tables.exts_of.Given as goal

-- the set has the ids so far
abbrev pub invariant-loop-ext : goal.invariant-loop-ext
invariant-loop-ext l = (id : ℕ) → has_id l.exts id ≡ list_any (λ ext. ext.id == id) (take l.ext-index l.ext-items)
