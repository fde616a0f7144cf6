use Rattle.std.proofs.Common.{◌≡◌, List, ◌++◌, map, filter, Ok, sym, ap, ◌∙◌}
use Rattle.worker_calls.specs.Plans.{at}
use Rattle.worker_calls.specs.Requests.{Outgoing, is_in, shut, shuts, standing_router, without_router, close_router}
use Rattle.worker_calls.specs.State.{Worker}
use Rattle.worker_calls.proofs.PlanLemmas.{bound, planned, done_with}
use Rattle.worker_calls.proofs.worker.Worker.close_router.Goals as goal

pub returns : goal.returns
returns c =
    let w : Worker = c.args.self.now in
    let standing : standing_router w c.args.id ≡ Ok (at c.args.id c.in_ok-standing_router.field-0.now) = sym c.in_ok-standing_router.ensures in
    let acts : c.shut.new.acts ≡ shuts (is_in c.args.id) w =
    c.in_ok-shut.ensures
    ∙ (ap (λ (before : List Outgoing). before ++ map (λ l. shut l.link) (filter (λ l. is_in c.args.id l.place) c.self.inside.links.links)) c.new-acts.ensures
    ∙ ap (shuts (is_in c.args.id)) c.self.view_is)
    in
    planned c.accept.result w c.args.request (done_with (without_router w c.args.id) c.shut.new.acts) (close_router w c.args.id)
    (bound (standing_router w c.args.id) (λ _. done_with (without_router w c.args.id) (shuts (is_in c.args.id) w)) (at c.args.id c.in_ok-standing_router.field-0.now) standing
    ∙ ap (done_with (without_router w c.args.id)) (sym acts)) c.accept.ensures
