use Rattle.std.proofs.Common.{◌≡◌, None, rules, ap, ◌∙◌}
use Rattle.std.specs.Option.{option_map, option_and_then}
use Rattle.worker_router.specs.Calls.{receives}
use Rattle.worker_router.proofs.RouterLemmas.{source, source-at}
use Rattle.worker_router.proofs.router.WorkerRouter.receive.Goals as goal

pub returns-in_err-feed-clause-received : goal.returns-in_err-feed-clause-received
returns-in_err-feed-clause-received c = let none : c.from_residual.result ≡ None = search rules in none ∙ ap (option_and_then (receives c.args.view.now)) (ap (option_map source) c.in_err-feed.ensures ∙ source-at c.args.self.now c.self.inside.transports c.self.inside.producers c.self.inside.consumers c.self.view_is c.args.producer)

pub returns-clause-received : goal.returns-clause-received
returns-clause-received c =
    c.receive.ensures.received ∙ ap (option_and_then (receives c.args.view.now)) (ap (option_map source) c.in_ok-feed.ensures ∙ source-at c.args.self.now c.self.inside.transports c.self.inside.producers c.self.inside.consumers c.self.view_is c.args.producer)
