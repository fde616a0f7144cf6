use Rattle.std.proofs.Common.{◌≡◌, ◌&&◌, ◌++◌, not, filter, map}
use Rattle.worker_router.specs.State.{Sink, goes_over}
use Rattle.worker_router.specs.Calls.{comes_by, told_of_transport}
use Rattle.worker_router.proofs.router.WorkerRouter.told_by_transport.Given as goal

-- what was found and then those of what is left
abbrev pub invariant-loop-consumer : goal.invariant-loop-consumer
invariant-loop-consumer l =
    l.told.items ++ map (λ (s : Sink). s.id) (filter (λ s. comes_by l.self l.id s && not (goes_over l.id s)) l.consumer-iterator)
    ≡ told_of_transport l.self l.id
