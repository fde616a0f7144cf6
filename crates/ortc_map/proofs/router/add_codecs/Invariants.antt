use Rattle.std.proofs.Common.{◌≡◌, drop}
use Rattle.ortc_map.specs.RouterCaps.{with_codecs}
use Rattle.ortc_map.proofs.router.add_codecs.Given as goal

-- what is left, added to what has been made, comes to what the whole comes to
abbrev pub invariant-loop-given : goal.invariant-loop-given
invariant-loop-given l = with_codecs l.made.items (drop l.given-index l.codecs) ≡ with_codecs l.fn.made.items l.codecs
