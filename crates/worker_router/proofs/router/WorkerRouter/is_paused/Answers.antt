use Rattle.std.proofs.Common.{◌≡◌, None, rules, Some, ap, ◌∙◌}
use Rattle.std.specs.Option.{option_map}
use Rattle.worker_router.specs.State.{Source}
use Rattle.worker_router.proofs.RouterLemmas.{source, source-at}
use Rattle.worker_router.proofs.router.WorkerRouter.is_paused.Goals as goal

pub returns-in_err-get : goal.returns-in_err-get
returns-in_err-get c = let none : c.from_residual.result ≡ None = search rules in none ∙ ap (option_map (λ (p : Source). p.stream.paused)) (ap (option_map source) c.in_err-get.ensures ∙ source-at c.args.self.now c.self.inside.transports c.self.inside.producers c.self.inside.consumers c.self.view_is c.args.producer)

pub returns : goal.returns
returns c = ap Some c.is_paused.ensures ∙ ap (option_map (λ (p : Source). p.stream.paused)) (ap (option_map source) c.in_ok-get.ensures ∙ source-at c.args.self.now c.self.inside.transports c.self.inside.producers c.self.inside.consumers c.self.view_is c.args.producer)
