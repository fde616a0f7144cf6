use Rattle.std.proofs.Common.{◌≡◌, ◌++◌, map, filter, drop}
use Rattle.worker_calls.specs.Plans.{covers}
use Rattle.worker_calls.specs.Requests.{shut}
use Rattle.worker_calls.proofs.links.Links.shut.Given as goal

abbrev pub invariant-loop-link : goal.invariant-loop-link
invariant-loop-link l =
    l.acts ++ map (λ k. shut k.link) (filter (λ k. covers l.span k.place) (drop l.link-index l.self.links))
    ≡ l.initial.acts ++ map (λ k. shut k.link) (filter (λ k. covers l.span k.place) l.self.links)
