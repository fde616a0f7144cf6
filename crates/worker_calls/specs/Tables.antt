-- How the tables of a worker stand to its lists. This project's own.
use Rattle.std.specs.Prelude.{◌≡◌, ℕ, ◌+◌, ◌≤◌, ◌&&◌, ◌==◌, List, Bool, length, map, bytes_eq, nat_eq, find, nat_lt, Vec, vec_len, vec_capacity, Option, Some, None}
use Rattle.std.specs.HashMap.{HashMap, get, hash_map_len, spare}
use Rattle.ms_base.specs.declared.id.Id.{Id}
use Rattle.worker_router.specs.State.{RouterState, same_id}
use Rattle.worker_calls.specs.State.{RouterAt, LinkAt, Place, ProducerKey, same_place}

-- the id of these bytes
abbrev pub id_of : List ℕ → Id
id_of bytes = record { 0 = bytes }

-- each Router stands under the bytes of its id
abbrev pub router_at : List ℕ × RouterState → RouterAt
router_at e = record { id = id_of e.0; router = e.1 }

abbrev pub routers_at : List (List ℕ × RouterState) → List RouterAt
routers_at entries = map router_at entries

-- the first of two, if it is there
abbrev pub first_of : {A : Type 0} → Option A → Option A → Option A
first_of (Some x) other = Some x
first_of None other = other

-- ---- room

-- a table of the earliest of n items has no more, and has room for each
pub record IsRoomyFor {K X S : Type 0} (n : ℕ) (table : HashMap K X S) : Type 0 where
  pub entries : hash_map_len table ≤ n
  pub room : n ≤ hash_map_len table + spare table

-- one more item needs no memory
abbrev pub has_place : {X Y : Type 0} → Vec X Y → Bool
has_place items = nat_lt (vec_len items) (vec_capacity items)

abbrev pub has_room : {X Y K Z S : Type 0} → Vec X Y → HashMap K Z S → Bool
has_room items table = nat_lt (length items.items) (hash_map_len table + spare table)

-- ---- links

pub record LinksView : Type 0 where
  pub links : List LinkAt
  pub has_room : Bool

-- a place by the ids of its Router and of its transport
abbrev pub ids_of : Place → List ℕ × List ℕ
ids_of place = (place.router.0, place.transport.0)

abbrev pub same_ids : List ℕ × List ℕ → List ℕ × List ℕ → Bool
same_ids a b = bytes_eq a.0 b.0 && bytes_eq a.1 b.1

-- the tables tell of each number, and of each place, the earliest link
pub record TellsLinks {S T : Type 0} (links : List LinkAt) (numbers : HashMap ℕ LinkAt S) (places : HashMap (List ℕ × List ℕ) LinkAt T) : Type 0 where
  pub by_number : (n : ℕ) → get nat_eq numbers n ≡ find (λ l. nat_eq l.link n) links
  pub by_place : (p : Place) → get same_ids places (ids_of p) ≡ find (λ l. same_place l.place p) links
  pub numbers_room : IsRoomyFor (length links) numbers
  pub places_room : IsRoomyFor (length links) places

-- ---- the Producers of direct transports

pub record DirectsView : Type 0 where
  pub keys : List ProducerKey
  pub has_room : Bool

-- the table tells of each id the earliest key
pub record TellsDirects {S : Type 0} (keys : List ProducerKey) (earliest : HashMap (List ℕ) ProducerKey S) : Type 0 where
  pub by_id : (id : Id) → get bytes_eq earliest id.0 ≡ find (λ key. same_id key.producer id) keys
  pub room : IsRoomyFor (length keys) earliest
