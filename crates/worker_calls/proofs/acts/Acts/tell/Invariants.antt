use Rattle.std.proofs.Common.{◌≡◌, ◌++◌, map, drop}
use Rattle.worker_calls.specs.Acts.{event_notice}
use Rattle.worker_calls.specs.Requests.{notify}
use Rattle.worker_calls.proofs.acts.Acts.tell.Given as goal

abbrev pub invariant-loop-consumer : goal.invariant-loop-consumer
invariant-loop-consumer l =
    l.self ++ map (λ c. notify (event_notice l.event c)) (drop l.consumer-index l.consumers)
    ≡ l.initial.self ++ map (λ c. notify (event_notice l.event c)) l.consumers
