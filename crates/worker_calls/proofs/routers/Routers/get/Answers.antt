use Rattle.std.proofs.Common.{None, Some, Option, option_map, option_copied, ap, ◌∙◌}
use Rattle.std.specs.Borrow.{Bor}
use Rattle.worker_router.specs.State.{RouterState}
use Rattle.worker_calls.specs.Plans.{at}
use Rattle.worker_calls.proofs.PlaceLemmas.{read-at}
use Rattle.worker_calls.proofs.routers.Routers.get.Goals as goal

pub returns-in_err-_key : goal.returns-in_err-_key
returns-in_err-_key c =
    ap (λ (r : Option (Bor RouterState)). option_map (at c.args.id) (option_copied r)) c.from_residual-in_err-_key.ensures
    ∙ read-at c.args.id c.self.inside.routers c.args.self.now c.self.view_is c.in_ok-index.index c.in_ok-index.ensures None c.in_err-_key.ensures.entry

pub returns : goal.returns
returns c =
    read-at c.args.id c.self.inside.routers c.args.self.now c.self.view_is c.in_ok-index.index c.in_ok-index.ensures (Some (c.in_ok-_key._key.now, c.in_ok-_key.router.now)) c.in_ok-_key.ensures.entry
