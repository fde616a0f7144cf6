use Rattle.std.proofs.Common.{◌≡◌, ◌++◌, map, drop}
use Rattle.worker_calls.proofs.streams.ssrcs_of.Given as goal

abbrev pub invariant-loop-encoding : goal.invariant-loop-encoding
invariant-loop-encoding l = l.ssrcs.items ++ map (λ e. e.ssrc) (drop l.encoding-index l.encodings) ≡ map (λ e. e.ssrc) l.encodings
