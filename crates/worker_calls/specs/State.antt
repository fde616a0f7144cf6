-- What stands in a worker: its Routers with their objects, the links of their transports, and the Producers of direct transports over all
-- Routers. This project's own, after mediasoup's classes of these names.
use Rattle.std.specs.Prelude.{ℕ, ◌==◌, ◌&&◌, List, [], ◌∷◌, ◌++◌, Bool, not, find, filter, map, if◌then◌else◌, Option, Some, None, option_and_then}
use Rattle.ms_base.specs.declared.id.Id.{Id}
use Rattle.worker_router.specs.State.{RouterState, same_id}
use Rattle.worker_router.specs.declared.transport.Transport.{Transport}
pub use Rattle.worker_calls.specs.declared.place.Place.{Place}

pub record RouterAt : Type 0 where
  pub id : Id
  pub router : RouterState

-- the socket of a transport
pub record LinkAt : Type 0 where
  pub link : ℕ
  pub place : Place

-- a Producer by the ids of its Router and of itself
pub record ProducerKey : Type 0 where
  pub router : Id
  pub producer : Id

-- a transport that is made once its link is bound
pub record Waiting : Type 0 where
  pub link : ℕ
  -- the request that asked for it
  pub request : ℕ
  pub place : Place
  pub transport : Transport
  -- the address that it listens on
  pub ip : List ℕ

-- each list in order of making
pub record Worker : Type 0 where
  pub routers : List RouterAt
  pub links : List LinkAt
  -- how many links were bound or failed to be: no number is used again
  pub binds : ℕ
  pub waiting : Option Waiting
  -- the Producers of direct transports
  pub directs : List ProducerKey

-- before the first request
abbrev pub idle : Worker
idle = record { routers = []; links = []; binds = 0; waiting = None; directs = [] }

-- ---- look-ups

abbrev pub router_of : Worker → Id → Option RouterAt
router_of w id = find (λ r. same_id r.id id) w.routers

abbrev pub same_place : Place → Place → Bool
same_place a b = same_id a.router b.router && same_id a.transport b.transport

-- the place whose socket a link is
abbrev pub place_of : Worker → ℕ → Option LinkAt
place_of w link = find (λ l. l.link == link) w.links

-- the link of a transport, where it has one
abbrev pub link_of : Worker → Place → Option LinkAt
link_of w place = find (λ l. same_place l.place place) w.links

-- the earliest made of the direct Producers with this id
abbrev pub direct_of : Worker → Id → Option ProducerKey
direct_of w id = find (λ key. same_id key.producer id) w.directs

-- ---- changes

-- the Router of an id is changed
abbrev pub change_router : Id → (RouterState → RouterState) → Worker → Worker
change_router id f w =
    record w { routers = map (λ (r : RouterAt). if same_id r.id id then record r { router = f r.router } else r) w.routers }
