-- How the tables of a Router stand to the lists of its objects. This project's own.
use Rattle.std.specs.Prelude.{◌≡◌, ℕ, ◌==◌, ◌&&◌, List, [], ◌∷◌, Bool, true, map, filter, bytes_eq, find, is_some, Option, Some, None, option_map, Result, Ok, Err, ⊤}
use Rattle.std.specs.List.{AllByRecursion, IsDistinct}
use Rattle.std.specs.HashMap as hash_map
use Rattle.std.specs.HashMap.{HashMap}
use Rattle.std.specs.Map.{lookup}
use Rattle.ms_base.specs.declared.id.Id.{Id}
use Rattle.rtp_params.specs.declared.encoding.Encoding.{Encoding}
use Rattle.rtp_params.specs.Encodings.{is_own}
use Rattle.simple_consumer.specs.Sending.{Sending}
use Rattle.worker_router.specs.Calls.{without}
use Rattle.worker_router.specs.State.{RouterState, Source, Sink, TransportAt, same_id}
use Rattle.worker_router.specs.declared.fault.RouterFault.{RouterFault}
use Rattle.worker_router.specs.declared.fault.RouterFault.TheVariants as fault
use Rattle.worker_router.specs.declared.streams.Sink.{Sink as Streams}
use Rattle.worker_router.specs.declared.streams.Sink.TheVariants as streams

-- ---- faults

-- the fault was answered where there is one, and memory may run out at any point
abbrev pub Faults : {A : Type 0} → Result A RouterFault → Option RouterFault → Type 0
Faults (Ok _) found = found ≡ None
Faults (Err fault.NoMemory) found = ⊤
Faults (Err f) found = found ≡ Some f

-- as a test answers it
abbrev pub checked : Option RouterFault → Result Unit RouterFault
checked None = Ok tt
checked (Some f) = Err f

-- the same of a test that finds something where there is no fault
abbrev pub checked_with : {A : Type 0} → Option RouterFault → Option A → Result A RouterFault
checked_with (Some f) found = Err f
checked_with None (Some a) = Ok a
checked_with None None = Err fault.Missing

-- ---- objects under their ids

-- each object stands under the bytes of its id, and no two under the same
pub record AreUnderIds {X S : Type 0} (id : X → Id) (m : HashMap (List ℕ) X S) : Type 0 where
  pub keys : hash_map.keys m ≡ map (λ x. (id x).0) (hash_map.values m)
  pub different : IsDistinct bytes_eq (hash_map.keys m)

-- the id of these bytes
abbrev pub id_of : List ℕ → Id
id_of bytes = record { 0 = bytes }

-- no two have the same id
abbrev pub AreDifferent : {X : Type 0} → (X → Id) → List X → Type 0
AreDifferent id xs = IsDistinct bytes_eq (map (λ x. (id x).0) xs)

-- one of them has this id
abbrev pub present : {X : Type 0} → (X → Id) → List X → Id → Bool
present id xs i = is_some (find (λ x. same_id (id x) i) xs)

-- ---- Producers and Consumers

abbrev pub streams_in : Streams → List Sending
streams_in (streams.Simple stream) = stream ∷ []
streams_in (streams.Pipe all) = all

-- a Producer with the ids of its Consumers, each with that of its transport
pub record FeedView : Type 0 where
  pub source : Source
  pub consumers : List (Id × Id)

-- the ids of Consumers that stand with their transports
abbrev pub ids_in : List (Id × Id) → List (List ℕ)
ids_in places = map (λ place. place.0.0) places

-- a Consumer stands among these
abbrev pub is_listed : List (Id × Id) → Sink → Bool
is_listed places c = present (λ place. place.0) places c.id

-- without the Consumer of this id
abbrev pub detached : Id → FeedView → FeedView
detached id f = record f { consumers = without (λ place. same_id place.0 id) f.consumers }

-- with those Consumers alone that are there
abbrev pub with_present : List Sink → FeedView → FeedView
with_present consumers f = record f { consumers = filter (λ place. present (λ c. c.id) consumers place.0) f.consumers }

abbrev pub router_of : List TransportAt → List FeedView → List Sink → RouterState
router_of transports feeds consumers = record { transports = transports; producers = map (λ f. f.source) feeds; consumers = consumers }

-- ---- what the tables look at

-- of a Producer
pub record Outline : Type 0 where
  pub id : Id
  pub transport : Id
  pub encodings : List Encoding
  pub consumers : List (Id × Id)

abbrev pub outline_of : FeedView → Outline
outline_of f = record { id = f.source.id; transport = f.source.transport; encodings = f.source.stream.params.encodings; consumers = f.consumers }

-- of a Consumer
pub record Outlet : Type 0 where
  pub id : Id
  pub transport : Id
  pub producer : Id

abbrev pub outlet_of : Sink → Outlet
outlet_of c = record { id = c.id; transport = c.transport; producer = c.producer }

-- the Consumers of a Producer, each with its transport
abbrev pub places_of : List Outlet → Id → List (Id × Id)
places_of consumers producer = map (λ c. (c.id, c.transport)) (filter (λ c. same_id c.producer producer) consumers)

-- an SSRC by the transport over which it comes
abbrev pub same_place : List ℕ × ℕ → List ℕ × ℕ → Bool
same_place a b = bytes_eq a.0 b.0 && (a.1 == b.1)

-- a Producer has this own SSRC on this transport
abbrev pub owns : Id → ℕ → Outline → Bool
owns transport ssrc p = same_id p.transport transport && is_own p.encodings ssrc

-- the Producer under an own SSRC of a transport
abbrev pub owner_in : List ((List ℕ × ℕ) × List ℕ) → Id → ℕ → Option (List ℕ)
owner_in ssrcs transport ssrc = lookup (same_place (transport.0, ssrc)) ssrcs

-- the tables tell what the Producers and the Consumers have
pub record AreTables (producers : List Outline) (consumers : List Outlet) (ssrcs : List ((List ℕ × ℕ) × List ℕ)) : Type 0 where
  pub producers_differ : AreDifferent (λ p. p.id) producers
  pub consumers_differ : AreDifferent (λ c. c.id) consumers
  -- each Producer has the list of its Consumers
  pub lists : AllByRecursion (λ p. p.consumers ≡ places_of consumers p.id) producers
  -- the Producer of each Consumer is there
  pub sources : AllByRecursion (λ c. present (λ p. p.id) producers c.producer ≡ true) consumers
  -- under each own SSRC stands its Producer
  pub leads : AllByRecursion (λ p. (ssrc : ℕ) → is_own p.encodings ssrc ≡ true → owner_in ssrcs p.transport ssrc ≡ Some p.id.0) producers
  -- and no other number stands there
  pub owners : (transport : Id) (ssrc : ℕ) → owner_in ssrcs transport ssrc ≡ option_map (λ p. p.id.0) (find (owns transport ssrc) producers)
  pub places_differ : IsDistinct same_place (map (λ e. e.0) ssrcs)
