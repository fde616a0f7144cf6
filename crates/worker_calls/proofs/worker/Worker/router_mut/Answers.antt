use Rattle.std.proofs.Common.{List, find, refl, ap, ◌∙◌}
use Rattle.worker_router.specs.State.{same_id}
use Rattle.worker_calls.specs.State.{RouterAt, Worker, change_router}
use Rattle.worker_calls.proofs.EntryLemmas.{some-then}
use Rattle.worker_calls.proofs.worker.Worker.router_mut.Goals as goal
use Rattle.worker_calls.proofs.worker.Worker.router_mut.Goals.{After-get_mut}

-- the worker with these Routers
abbrev with : After-get_mut → List RouterAt → Worker
with c routers = record {
  routers = routers;
  links = c.self.inside.links.links;
  binds = c.self.inside.binds;
  waiting = c.self.inside.waiting;
  directs = c.self.inside.directs.keys;
}

pub returns : goal.returns
returns c = (
  (
    refl,
    λ w.
        some-then c.get_mut.result (λ e. ap (with (goal.at.returns c).After-get_mut) e ∙ ap (change_router c.args.id (λ _. w)) c.self.view_is) (c.get_mut.follows.holds w),
    ap (with (goal.at.returns c).After-get_mut) c.get_mut.follows.holds-at-none ∙ c.self.view_is,
  ),
  record { lends = tt; value = c.get_mut.ensures.value ∙ ap (λ (v : Worker). find (λ r. same_id r.id c.args.id) v.routers) c.self.view_is },
)
