use Rattle.std.proofs.Common.{◌≡◌, drop, find, is_some, nat_eq}
use Rattle.worker_calls.proofs.links.has_number.Given as goal

-- what is left tells what all tell
abbrev pub invariant-loop-link : goal.invariant-loop-link
invariant-loop-link l = is_some (find (λ k. nat_eq k.link l.number) (drop l.link-index l.links)) ≡ is_some (find (λ k. nat_eq k.link l.number) l.links)
