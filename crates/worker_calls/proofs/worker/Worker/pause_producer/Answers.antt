use Rattle.std.proofs.Common.{◌≡◌, Ok, sym, ◌∙◌}
use Rattle.worker_requests.specs.declared.refusal.Refusal.TheVariants as refusal
use Rattle.worker_requests.specs.Refusals.{or_refused, ◌>>=◌}
use Rattle.worker_router.specs.State.{producer_of}
use Rattle.worker_router.specs.Calls.{with_producer_paused}
use Rattle.worker_calls.specs.Plans.{at}
use Rattle.worker_calls.specs.Requests.{standing_producer, pause_told, pause_producer}
use Rattle.worker_calls.specs.State.{RouterAt, Worker, change_router}
use Rattle.worker_calls.proofs.PlanLemmas.{bound, planned, done_with, pause-done}
use Rattle.worker_calls.proofs.worker.Worker.pause_producer.Goals as goal

pub returns : goal.returns
returns c =
    let w : Worker = c.args.self.now in
    let r : RouterAt = at c.args.ids.router c.in_ok-router.router.now in
    let behind : Worker = change_router c.args.ids.router (λ s. with_producer_paused s c.args.ids.producer c.args.paused) w in
    let standing : standing_producer w c.args.ids ≡ Ok r = sym c.in_ok-router.ensures in
    planned c.accept.result w c.args.request (done_with behind c.in_ok-acts.acts) (pause_producer w c.args.paused c.args.ids)
    (bound (standing_producer w c.args.ids)
    (λ x. or_refused refusal.Missing (producer_of x.router c.args.ids.producer) >>= (λ p. done_with behind (pause_told c.args.paused x.router p))) r standing
    ∙ pause-done behind c.args.paused c.in-Some.was_paused c.in_ok-router.router.now c.args.ids.producer c.in_ok-acts.acts c.in-Some.ensures c.in_ok-acts.ensures)
    c.accept.ensures
