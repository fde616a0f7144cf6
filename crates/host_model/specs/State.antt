-- What the host knows: plain lists, of which nothing is taken out but an await that settles and what is kept of an object that closes. This project's own, after mediasoup's objects.
use Rattle.std.specs.Prelude.{ℕ, ◌+◌, List, [], ◌∷◌, ◌++◌, map, find, count_by, Bool, true, false, not, ◌&&◌, ◌||◌, ◌==◌, is_some, if◌then◌else◌, Option, Some, None, option_map, bytes_eq}
use Rattle.std.specs.List.{list_any}
use Rattle.ms_base.specs.declared.id.Id.{Id}
use Rattle.ms_base.specs.declared.keys.CallKey.{CallKey}
use Rattle.ms_base.specs.declared.keys.Serial.{Serial}
use Rattle.ms_base.specs.declared.keys.WorkerKey.{WorkerKey}
use Rattle.rtp_params.specs.declared.params.Caps.{Caps}
use Rattle.rtp_params.specs.declared.params.Params.{Params}
use Rattle.transcript.specs.declared.note.Note.{Note}
use Rattle.object_tree.specs.declared.object.Object.{Object}
use Rattle.object_tree.specs.Objects.{same_serial}
use Rattle.request_build.specs.declared.built.Draws.{Draws}
use Rattle.request_build.specs.declared.built.Keep.{Keep}
use Rattle.request_build.specs.declared.built.Keep.TheVariants as keep
use Rattle.request_build.specs.declared.built.Offer.{Offer}
use Rattle.request_build.specs.Offers.{is_offer_in}
use Rattle.host_awaits.specs.declared.entered.Await.{Await}
use Rattle.host_notes.specs.Keys.{same_worker}
use Rattle.host_requests.specs.declared.request.Request.{Request}
use Rattle.host_requests.specs.declared.request.Via.{Via}
use Rattle.host_requests.specs.declared.request.Via.TheVariants.{Channel, Start}
use Rattle.host_model.specs.declared.due.Due.{Due}
use Rattle.host_model.specs.declared.due.Due.TheVariants as due

-- A request that was issued.
pub record Issued : Type 0 where
  pub request : Request Due
  -- its response has come, or the object that it was issued under has closed
  pub settled : Bool

-- How far the latest worker of a slot is.
pub data Phase : Type 0 where
  -- its start has not been tried yet
  Wanted : Phase
  -- it was started
  Up : Phase
  -- its Worker has closed, and none comes after it
  Over : (died : Bool) → Phase

-- A place for worker processes, one generation after another.
pub record Slot : Type 0 where
  -- its number, from 1, and the generation of its latest worker
  pub key : WorkerKey
  -- the name of its Workers
  pub name : List ℕ
  -- how many restarts it has, and how many of them were used
  pub budget : ℕ
  pub used : ℕ
  pub phase : Phase
  -- its latest Worker
  pub worker : Serial

-- All that has come by the channel of a worker since it was up.
pub record Stream : Type 0 where
  pub worker : WorkerKey
  pub bytes : List ℕ

-- What is kept of the open objects, at their serials.
pub record Tables : Type 0 where
  -- of a Router the codecs that it can receive and send, without header extensions
  pub routers : List (ℕ × Caps)
  -- what a Producer offers
  pub producers : List (ℕ × Offer)
  -- what a Consumer receives
  pub consumers : List (ℕ × Params)
  -- whether an end of a pipe retransmits
  pub pipes : List (ℕ × Bool)

pub record State : Type 0 where
  -- the objects, open and closed, in ascending order of their serials
  pub objects : List Object
  pub tables : Tables
  -- the requests that were issued, in order, settled ones too
  pub requests : List Issued
  -- the calls and awaits of the lanes, in order
  pub calls : List CallKey
  -- the names that calls were to make which have come to another outcome than Done
  pub failed : List (List ℕ)
  -- the awaits that wait, in order
  pub awaits : List Await
  -- the slots, in order of their numbers
  pub slots : List Slot
  pub streams : List Stream
  -- what has followed, in order
  pub notes : List Note
  -- what is drawn next
  pub next : Draws
  -- whether the run has come to its end
  pub stopped : Bool

-- SSRCs are drawn from this one on
abbrev pub first_ssrc : ℕ
first_ssrc = 100000000

-- a host that has heard nothing
abbrev pub start : ℕ → State
start seed =
    record {
      objects = [];
      tables = record { routers = []; producers = []; consumers = []; pipes = [] };
      requests = [];
      calls = [];
      failed = [];
      awaits = [];
      slots = [];
      streams = [];
      notes = [];
      next = record { seed = seed; serial = 1; ssrc = first_ssrc };
      stopped = false;
    }

-- ---- keys

-- the key of a call: its lane, and its place among the lane's calls and awaits, from 1, of which there were so many before
abbrev pub call_key : ℕ → ℕ → CallKey
call_key lane before = record { lane = lane; place = before + 1 }

-- how many calls and awaits a lane has made
abbrev pub calls_of : List CallKey → ℕ → ℕ
calls_of calls lane = count_by (λ c. c.lane == lane) calls

abbrev pub next_call : List CallKey → ℕ → CallKey
next_call calls lane = call_key lane (calls_of calls lane)

abbrev pub as_serial : ℕ → Serial
as_serial n = record { 0 = n }

-- ---- requests

-- it has no settlement yet, and passes a test
abbrev pub waits_and : (Request Due → Bool) → Issued → Bool
waits_and test r = not r.settled && test r.request

-- those that have no settlement yet, in order
abbrev pub waiting : List Issued → List (Request Due)
waiting [] = []
waiting (r ∷ rs) = if r.settled then waiting rs else r.request ∷ waiting rs

-- the first of those that passes a test
abbrev pub waiting_for : (Request Due → Bool) → List Issued → Option (Request Due)
waiting_for test requests = find test (waiting requests)

abbrev pub settled_if : (Request Due → Bool) → Issued → Issued
settled_if test r = record r { settled = r.settled || test r.request }

-- the requests, with those settled that pass a test
abbrev pub settled_where : (Request Due → Bool) → List Issued → List Issued
settled_where test requests = map (settled_if test) requests

abbrev pub is_by : WorkerKey → Via → Bool
is_by worker (Channel to id) = same_worker to worker
is_by worker Start = false

-- how many were issued on a channel
abbrev pub issued : List Issued → WorkerKey → ℕ
issued requests worker = count_by (λ r. is_by worker r.request.via) requests

-- the requests with one more
abbrev pub with_request : Request Due → List Issued → List Issued
with_request request requests = requests ++ record { request = request; settled = false } ∷ []

-- ---- what is being made

-- the names of what a request is to make
abbrev pub names_of : Due → List (List ℕ)
names_of (due.Opens object keeps) = object.name ∷ []
names_of (due.Turns paused) = []
names_of due.Nothing = []

abbrev pub makes_named : List ℕ → Request Due → Bool
makes_named name r = list_any (bytes_eq name) (names_of r.due)

-- a request without a settlement is to make an object of this name
abbrev pub is_being_made : List Issued → List ℕ → Bool
is_being_made requests name = list_any (makes_named name) (waiting requests)

-- the Producer that is kept so has this id, in this Router
abbrev pub offers_as : Serial → Id → Keep → Bool
offers_as router id (keep.Producer offer) = is_offer_in router id offer
offers_as router id other = false

abbrev pub offers_due : Serial → Id → Due → Bool
offers_due router id (due.Opens object keeps) = offers_as router id keeps
offers_due router id (due.Turns paused) = false
offers_due router id due.Nothing = false

abbrev pub makes_producer : Serial → Id → Request Due → Bool
makes_producer router id r = offers_due router id r.due

-- a request without a settlement is to make a Producer of this id in this Router
abbrev pub is_being_offered : List Issued → Serial → Id → Bool
is_being_offered requests router id = list_any (makes_producer router id) (waiting requests)

-- ---- slots

abbrev pub is_up_phase : Phase → Bool
is_up_phase Wanted = false
is_up_phase Up = true
is_up_phase (Over died) = false

abbrev pub is_wanted_phase : Phase → Bool
is_wanted_phase Wanted = true
is_wanted_phase Up = false
is_wanted_phase (Over died) = false

-- the slot whose latest worker this is, where it is up
abbrev pub up_slot : List Slot → WorkerKey → Option Slot
up_slot slots worker = find (λ x. same_worker x.key worker && is_up_phase x.phase) slots

abbrev pub is_up : List Slot → WorkerKey → Bool
is_up slots worker = is_some (up_slot slots worker)

-- its start is wanted: it is the latest of its slot, and was not tried yet
abbrev pub is_wanted : List Slot → WorkerKey → Bool
is_wanted slots worker = list_any (λ x. same_worker x.key worker && is_wanted_phase x.phase) slots

-- the channel of a Worker: that of its process, while this is up
abbrev pub channel_of : List Slot → Serial → Option WorkerKey
channel_of slots serial = option_map (λ x. x.key) (find (λ x. same_serial x.worker serial && is_up_phase x.phase) slots)

abbrev pub up_if : WorkerKey → Slot → Slot
up_if worker x = record x { phase = if same_worker x.key worker then Up else x.phase }

abbrev pub with_up : WorkerKey → List Slot → List Slot
with_up worker slots = map (up_if worker) slots

-- ---- streams

abbrev pub bytes_in : Option Stream → List ℕ
bytes_in None = []
bytes_in (Some x) = x.bytes

-- all that has come from a worker
abbrev pub stream_of : List Stream → WorkerKey → List ℕ
stream_of streams worker = bytes_in (find (λ x. same_worker x.worker worker) streams)

-- the streams, with this one as it is now
abbrev pub with_stream : List Stream → WorkerKey → List ℕ → List Stream
with_stream [] worker bytes = record { worker = worker; bytes = bytes } ∷ []
with_stream (x ∷ xs) worker bytes =
    if same_worker x.worker worker then record x { bytes = bytes } ∷ xs else x ∷ with_stream xs worker bytes
