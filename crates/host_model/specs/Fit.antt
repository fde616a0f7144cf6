-- What holds of a host after each micro step of any journal, so that what it draws is new and fits. This project's own.
use Rattle.std.specs.Prelude.{◌≡◌, ◌≤◌, ◌<◌, ◌^◌, ◌*◌, ⊤, ℕ, ◌+◌, List, count_by, length, Bool, false, ◌&&◌, ◌==◌, nat_le, nat_lt, if◌then◌else◌, Ok}
use Rattle.std.specs.List.{AllByRecursion}
use Rattle.ms_base.specs.Id.{id_bytes}
use Rattle.ms_base.specs.declared.op.Op.{Op}
use Rattle.object_tree.specs.declared.object.Object.{Object}
use Rattle.object_tree.specs.Objects.{AreInOrder, is_producer}
use Rattle.host_requests.specs.declared.request.Request.{Request}
use Rattle.request_build.specs.declared.built.Draws.{Draws}
use Rattle.request_build.specs.Asks as asks
use Rattle.request_build.specs.Asks.{Ask}
use Rattle.request_build.specs.Built.{built}
use Rattle.request_build.specs.Known.{HasFew, HaveFew, Known}
use Rattle.request_build.specs.Laws.{DrawsFor}
use Rattle.host_model.specs.declared.due.Due.{Due}
use Rattle.host_model.specs.declared.due.Due.TheVariants as due
use Rattle.host_model.specs.State.{State, Tables, first_ssrc, waiting}

abbrev pub one_if : Bool → ℕ
one_if b = if b then 1 else 0

-- ---- serials are drawn once

abbrev pub has_serial : ℕ → Object → Bool
has_serial n o = o.serial.0 == n

-- an object of this serial is to be made
abbrev pub opens_serial : ℕ → Due → Bool
opens_serial n (due.Opens object keeps) = has_serial n object
opens_serial n (due.Turns paused) = false
opens_serial n due.Nothing = false

abbrev pub makes_serial : ℕ → Request Due → Bool
makes_serial n r = opens_serial n r.due

-- a serial was drawn
abbrev pub is_drawn : Draws → ℕ → Bool
is_drawn next n = nat_le 1 n && nat_lt n next.serial

-- A serial is that of one object at most, in the tree or still to be made by one of these requests, and only where it was
-- drawn.
abbrev pub EachDrawnOnce : List Object → List (Request Due) → Draws → Type 0
EachDrawnOnce objects requests next = (n : ℕ) → count_by (has_serial n) objects + count_by (makes_serial n) requests ≤ one_if (is_drawn next n)

-- ---- what is made has the id of its serial, and what is kept of it is within the limit on encodings

-- but for a Producer, which may be given one, an object has the id of its serial
abbrev pub HasOwnId : ℕ → Object → Type 0
HasOwnId seed o = is_producer o.kind ≡ false → o.id.0 ≡ id_bytes seed o.serial.0

abbrev pub IsFitDue : ℕ → Due → Type 0
IsFitDue seed (due.Opens object keeps) = HasOwnId seed object × HasFew keeps
IsFitDue seed (due.Turns paused) = ⊤
IsFitDue seed due.Nothing = ⊤

-- ---- all of these

-- The objects, the requests without a settlement, what is kept and what is drawn next fit together.
pub record Fits (objects : List Object) (requests : List (Request Due)) (tables : Tables) (next : Draws) : Type 0 where
  -- serials are drawn from 1 on
  pub from_one : 1 ≤ next.serial
  pub drawn_once : EachDrawnOnce objects requests next
  pub ascending : AreInOrder objects
  pub own_ids : AllByRecursion (HasOwnId next.seed) objects
  pub due : AllByRecursion (λ r. IsFitDue next.seed r.due) requests
  pub few : HaveFew tables.producers tables.consumers

pub record IsFit (s : State) : Type 0 where
  -- ids are made of 60 bits of the seed
  pub seed : s.next.seed < 2 ^ 60
  pub whole : Fits s.objects (waiting s.requests) s.tables s.next

-- ---- how much can be drawn: a call draws one serial and sixteen SSRCs at most

-- so much was drawn at most after so many calls, with this seed
pub record DrewFew (seed : ℕ) (next : Draws) (calls : ℕ) : Type 0 where
  pub same_seed : next.seed ≡ seed
  pub serials : next.serial ≤ calls + 1
  pub ssrcs : next.ssrc ≤ first_ssrc + 16 * calls

abbrev pub HasDrawn : ℕ → State → Type 0
HasDrawn seed s = DrewFew seed s.next (length s.calls)

-- ---- what is built fits: laws of the requests that calls come to

pub record BuildsFit : Type 0 where
  -- where it makes an object, it draws one serial, which is the object's, and at most sixteen SSRCs, and else nothing
  pub draws : (k : Known) (op : Op) (r : asks.Request) → HaveFew k.producers k.consumers → built k op ≡ Ok (Ask r) → DrawsFor r.makes k.next r.next
  pub few : (k : Known) (op : Op) (r : asks.Request) → HaveFew k.producers k.consumers → built k op ≡ Ok (Ask r) → HasFew r.keeps
