-- What becomes of a worker whose Router was lent: what is put back stands in its place.
use Rattle.std.specs.Prelude.{◌≡◌, List, Option}
use Rattle.std.specs.Borrow.{LendsSo, MutBor, Fml}
use Rattle.std.specs.Option.{OnSome}
use Rattle.ms_base.specs.declared.id.Id.{Id}
use Rattle.worker_router.specs.State.{RouterState}
use Rattle.worker_router.specs.contracts.router.WorkerRouter.{the_row as router_row}
use Rattle.worker_calls.specs.contracts.routers.Routers.{the_row}
use Rattle.worker_calls.specs.contracts.worker.Worker.{the_row as worker_row}
use Rattle.worker_calls.specs.Plans.{change_in}
use Rattle.worker_calls.specs.State.{RouterAt, Worker, change_router}

abbrev pub LendsOne : MutBor (List RouterAt) → Id → Option (MutBor RouterState) → Fml
LendsOne s id r = LendsSo the_row router_row s r (λ n w. OnSome r (n ≡ change_in id (λ _. w) s.now)) (λ n. n ≡ s.now)

abbrev pub LendsRouter : MutBor Worker → Id → Option (MutBor RouterState) → Fml
LendsRouter s id r = LendsSo worker_row router_row s r (λ n w. OnSome r (n ≡ change_router id (λ _. w) s.now)) (λ n. n ≡ s.now)
