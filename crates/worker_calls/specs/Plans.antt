-- How the code comes to what the definitions say: what is to be changed and what goes out is planned, and then done. This project's own.
use Rattle.std.specs.Prelude.{◌≡◌, ℕ, ◌+◌, ◌≤◌, List, [], ◌∷◌, ◌++◌, Bool, true, false, not, map, filter, length, is_some, if◌then◌else◌, Option, Some, None, Result, Ok, Err, ⊤}
use Rattle.std.specs.Borrow.{Bor}
use Rattle.ms_base.specs.declared.id.Id.{Id}
use Rattle.rtp_params.specs.Table.{sent_exts}
use Rattle.worker_requests.specs.declared.refusal.Refusal.{Refusal}
use Rattle.worker_router.specs.State.{RouterState, nothing_yet, same_id}
use Rattle.worker_router.specs.Calls.{with_transport, with_producer, connected_to, new_source, with_producer_paused, with_consumer_paused, without_transport, without_producer, without_consumer}
use Rattle.worker_calls.specs.declared.change.Change.{Change}
use Rattle.worker_calls.specs.declared.change.Change.TheVariants as change
use Rattle.worker_calls.specs.declared.change.RouterChange.{RouterChange}
use Rattle.worker_calls.specs.declared.change.RouterChange.TheVariants as router_change
use Rattle.worker_calls.specs.declared.fault.Fault.{Fault}
use Rattle.worker_calls.specs.declared.fault.Fault.TheVariants.{Refused, NoMemory}
use Rattle.worker_calls.specs.declared.place.Span.{Span}
use Rattle.worker_calls.specs.declared.place.Span.TheVariants as span
use Rattle.worker_calls.specs.declared.plan.Plan.{Plan}
use Rattle.worker_calls.specs.State.{RouterAt, Place, Worker, router_of, same_place, change_router}
use Rattle.worker_calls.specs.Requests.{Performed, is_in, without_router, with_standing, add_transport, is_at, with_new_consumer, after_performed, out_performed, after_bound, out_bound}

-- ---- transports

abbrev pub covers : Span → Place → Bool
covers (span.Transport at) other = same_place other at
covers (span.Router id) other = is_in id other

-- ---- Routers

-- a Router of this id
abbrev pub at : Id → RouterState → RouterAt
at id r = record { id = id; router = r }

-- a Router of this id that was found, or why it wasn't
abbrev pub found_at : Id → Result (Bor RouterState) Refusal → Result RouterAt Refusal
found_at id (Ok r) = Ok (at id r.now)
found_at id (Err why) = Err why

abbrev pub change_in : Id → (RouterState → RouterState) → List RouterAt → List RouterAt
change_in id f routers = map (λ (r : RouterAt). if same_id r.id id then record r { router = f r.router } else r) routers

-- ---- changes

abbrev pub changed_router : RouterChange → RouterState → RouterState
changed_router (router_change.AddTransport id t) r = with_transport r id t
changed_router (router_change.Connect id to) r = connected_to r id to
changed_router (router_change.AddProducer ids c) r =
    with_producer r (new_source ids.transport ids.producer c.params c.mapping (sent_exts c.media) c.paused)
changed_router (router_change.AddConsumer ids c) r = with_new_consumer ids c r
changed_router (router_change.RemoveTransport id) r = without_transport r id
changed_router (router_change.RemoveProducer id) r = without_producer r id
changed_router (router_change.RemoveConsumer id) r = without_consumer r id
changed_router (router_change.PauseProducer id paused) r = with_producer_paused r id paused
changed_router (router_change.PauseConsumer id paused) r = with_consumer_paused r id paused

abbrev pub changed : Change → Worker → Worker
changed change.Nothing w = w
changed (change.AddRouter id) w = record w { routers = w.routers ++ record { id = id; router = nothing_yet } ∷ [] }
changed (change.RemoveRouter id) w = without_router w id
changed (change.InRouter id c) w = change_router id (changed_router c) w
changed (change.Wait waiting) w = record w { binds = waiting.link; waiting = Some waiting }
changed (change.Stand link at t) w = record (add_transport w at t) { links = w.links ++ record { link = link; place = at } ∷ []; waiting = None }
changed change.Forget w = record w { waiting = None }
changed (change.AddProducer ids c direct) w = record (change_router ids.router (changed_router (router_change.AddProducer ids c)) w) {
  directs = if direct then w.directs ++ record { router = ids.router; producer = ids.producer } ∷ [] else w.directs;
}
changed (change.RemoveTransport ids) w = with_standing (record (change_router ids.router (λ s. without_transport s ids.transport) w) {
  links = filter (λ l. not (is_at ids l.place)) w.links;
})
changed (change.RemoveProducer ids) w = with_standing (change_router ids.router (λ s. without_producer s ids.producer) w)

-- a new Router has an id of its own
abbrev pub IsPossible : Change → Worker → Type 0
IsPossible (change.AddRouter id) w = is_some (router_of w id) ≡ false
IsPossible other w = ⊤

-- ---- plans

-- what is changed and what goes out is what a request comes to
pub record IsPlan (p : Plan) (w : Worker) (request : ℕ) (outcome : Result Performed Refusal) : Type 0 where
  pub state : changed p.change w ≡ after_performed w outcome
  pub acts : p.acts ≡ out_performed request outcome
  pub possible : IsPossible p.change w

-- a plan of it, or why it is refused; memory may run out at any point
abbrev pub Plans : Result Plan Fault → Worker → ℕ → Result Performed Refusal → Type 0
Plans (Ok p) w request outcome = IsPlan p w request outcome
Plans (Err (Refused why)) w request outcome = outcome ≡ Err why
Plans (Err NoMemory) w request outcome = ⊤

-- what is changed and what goes out is what follows when a wait ends
pub record IsPlanBound (p : Plan) (w : Worker) (port : Option ℕ) : Type 0 where
  pub state : changed p.change w ≡ after_bound w port
  pub acts : p.acts ≡ out_bound w port
  pub possible : IsPossible p.change w
