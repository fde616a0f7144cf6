use Rattle.std.proofs.Common.{◌≡◌, List, ◌++◌, map, filter, not, Ok, sym, ap, ◌∙◌}
use Rattle.ms_base.specs.declared.id.Id.{Id}
use Rattle.worker_requests.specs.declared.notice.WorkerNotice.TheVariants.{ProducerClosed}
use Rattle.worker_router.specs.Calls.{told_of_transport, without_transport}
use Rattle.worker_calls.specs.Plans.{at}
use Rattle.worker_calls.specs.Requests.{Outgoing, notify, is_at, shuts, place, standing_transport, with_standing, close_transport}
use Rattle.worker_calls.specs.State.{RouterAt, Worker, Place, change_router, same_place}
use Rattle.worker_calls.proofs.PlanLemmas.{bound, planned, done_with}
use Rattle.worker_calls.proofs.worker.Worker.close_transport.Goals as goal

pub returns : goal.returns
returns c =
    let w : Worker = c.args.self.now in
    let r : RouterAt = at c.args.ids.router c.in_ok-router.router.now in
    let behind : Worker =
    with_standing (record (change_router c.args.ids.router (λ s. without_transport s c.args.ids.transport) w) { links = filter (λ l. not (is_at c.args.ids l.place)) w.links })
    in
    let standing : standing_transport w c.args.ids ≡ Ok r = sym c.in_ok-router.ensures in
    let closed : List Outgoing = map (λ x. notify (ProducerClosed x)) (told_of_transport r.router c.args.ids.transport) in
    let told : c.tell.new.self ≡ closed =
    c.in_ok-tell.ensures
    ∙ (ap (λ (before : List Outgoing). before ++ map (λ x. notify (ProducerClosed x)) c.as_slice.result.now) c.new-acts.ensures
    ∙ ap (λ (ids : List Id). map (λ x. notify (ProducerClosed x)) ids) (c.as_slice.ensures.value ∙ c.in_ok-told.ensures))
    in
    let acts : c.shut.new.acts ≡ closed ++ shuts (is_at c.args.ids) w =
    c.in_ok-shut.ensures
    ∙ (ap (λ (p : Place). c.tell.new.self ++ shuts (λ q. same_place q p) (record w { links = c.self.inside.links.links })) c.new.ensures
    ∙ (ap (λ (v : Worker). c.tell.new.self ++ shuts (is_at c.args.ids) v) c.self.view_is ∙ ap (λ (before : List Outgoing). before ++ shuts (is_at c.args.ids) w) told))
    in
    planned c.accept.result w c.args.request (done_with behind c.shut.new.acts) (close_transport w c.args.ids)
    (bound (standing_transport w c.args.ids)
    (λ x. done_with behind (map (λ y. notify (ProducerClosed y)) (told_of_transport x.router c.args.ids.transport) ++ shuts (is_at c.args.ids) w)) r standing
    ∙ ap (done_with behind) (sym acts)) c.accept.ensures
