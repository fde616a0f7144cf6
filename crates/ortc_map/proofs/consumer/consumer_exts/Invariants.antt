use Rattle.std.proofs.Common.{◌≡◌, filter, take}
use Rattle.ortc_map.specs.ConsumerParams.{is_known}
use Rattle.ortc_map.proofs.consumer.consumer_exts.Given as goal

abbrev pub invariant-loop-ext : goal.invariant-loop-ext
invariant-loop-ext l = l.kept.items ≡ filter (is_known l.caps) (take l.ext-index l.exts)
