use Rattle.std.proofs.Common.{◌≡◌, drop}
use Rattle.std.specs.List.{find}
use Rattle.producer.specs.Ids.{has_uri}
use Rattle.producer.proofs.ids.ext_named.Given as goal

-- none of those so far has the URI
abbrev pub invariant-loop-ext : goal.invariant-loop-ext
invariant-loop-ext l = find (has_uri l.uri) l.exts ≡ find (has_uri l.uri) (drop l.ext-index l.exts)
