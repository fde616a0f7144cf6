use Rattle.std.proofs.Common.{◌≡◌, List, ◌++◌, map, Ok, sym, ap, ◌∙◌}
use Rattle.ms_base.specs.declared.id.Id.{Id}
use Rattle.worker_requests.specs.declared.notice.WorkerNotice.TheVariants.{ProducerClosed}
use Rattle.worker_router.specs.Calls.{told_of_producer, without_producer}
use Rattle.worker_calls.specs.Plans.{at}
use Rattle.worker_calls.specs.Requests.{Outgoing, notify, standing_producer, with_standing, close_producer}
use Rattle.worker_calls.specs.State.{RouterAt, Worker, change_router}
use Rattle.worker_calls.proofs.PlanLemmas.{bound, planned, done_with}
use Rattle.worker_calls.proofs.worker.Worker.close_producer.Goals as goal

pub returns : goal.returns
returns c =
    let w : Worker = c.args.self.now in
    let r : RouterAt = at c.args.ids.router c.in_ok-router.router.now in
    let behind : Worker = with_standing (change_router c.args.ids.router (λ s. without_producer s c.args.ids.producer) w) in
    let standing : standing_producer w c.args.ids ≡ Ok r = sym c.in_ok-router.ensures in
    let acts : c.tell.new.self ≡ map (λ x. notify (ProducerClosed x)) (told_of_producer r.router c.args.ids.producer) =
    c.in_ok-tell.ensures
    ∙ (ap (λ (before : List Outgoing). before ++ map (λ x. notify (ProducerClosed x)) c.as_slice.result.now) c.new-acts.ensures
    ∙ ap (λ (told : List Id). map (λ x. notify (ProducerClosed x)) told) (c.as_slice.ensures.value ∙ c.in_ok-told.ensures))
    in
    planned c.accept.result w c.args.request (done_with behind c.tell.new.self) (close_producer w c.args.ids)
    (bound (standing_producer w c.args.ids) (λ x. done_with behind (map (λ y. notify (ProducerClosed y)) (told_of_producer x.router c.args.ids.producer))) r standing
    ∙ ap (done_with behind) (sym acts)) c.accept.ensures
