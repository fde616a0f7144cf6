use Rattle.std.proofs.Common.{◌≡◌, ◌==◌, drop}
use Rattle.std.specs.List.{find}
use Rattle.producer.proofs.ids.ext_of.Given as goal

-- none of those so far has the id
abbrev pub invariant-loop-ext : goal.invariant-loop-ext
invariant-loop-ext l = find (λ ext. ext.id == l.id) l.exts ≡ find (λ ext. ext.id == l.id) (drop l.ext-index l.exts)
