-- How the code keeps what the host knows: unsettled requests alone, counts by channel, by lane and by name, and which awaits are to
-- be looked at. This project's own.
use Rattle.std.specs.Prelude.{◌≡◌, ◌≤◌, ℕ, ◌+◌, ◌-◌, List, [], ◌∷◌, ◌++◌, length, map, Bool, false, not, ◌&&◌, count_by, nat_lt, bytes_eq, take, Option, Some, None, IsTrue, is_some}
use Rattle.std.specs.List.{AllByRecursion, list_any}
use Rattle.ms_base.specs.declared.id.Id.{Id}
use Rattle.ms_base.specs.declared.keys.Event.{Event}
use Rattle.ms_base.specs.declared.keys.Serial.{Serial}
use Rattle.ms_base.specs.declared.keys.WorkerKey.{WorkerKey}
use Rattle.rtp_params.specs.declared.params.Caps.{Caps}
use Rattle.rtp_params.specs.declared.params.Params.{Params}
use Rattle.transcript.specs.declared.note.Note.{Note}
use Rattle.object_tree.specs.declared.object.Object.{Object}
use Rattle.object_tree.specs.Objects.{is_open, is_producer, named, numbered, open_with_id}
use Rattle.host_awaits.specs.declared.entered.Await.{Await}
use Rattle.host_awaits.specs.Awaits.{tells_of, times_noted}
use Rattle.host_awaits.specs.Watching as watching
use Rattle.host_awaits.specs.Watching.{HasNoneYet, awaits_in, touched_by}
use Rattle.host_requests.specs.declared.request.Request.{Request}
use Rattle.host_requests.specs.Requests.{last_on}
use Rattle.request_build.specs.declared.built.Draws.{Draws}
use Rattle.request_build.specs.declared.built.Offer.{Offer}
use Rattle.request_build.specs.declared.names.Names.{Names}
use Rattle.request_build.specs.Counts as counts
use Rattle.request_build.specs.Counts.{one_if, times_named}
use Rattle.host_model.specs.declared.due.Due.{Due}
use Rattle.host_model.specs.State.{Slot, State, calls_of, issued, makes_named, makes_producer, names_of, offers_due, waiting}
use Rattle.host_model.specs.Step.{is_hopeless}
use Rattle.host_tables.specs.LookUps.{counted}
use Rattle.host_tables.specs.declared.tables.Tables.{Tables}

-- ---- what the host knows, look-up by look-up

pub record Seen : Type 0 where
  pub objects : List Object
  -- of open objects, under their serials
  pub routers : List (ℕ × Caps)
  pub producers : List (ℕ × Offer)
  pub consumers : List (ℕ × Params)
  pub pipes : List (ℕ × Bool)
  -- how many requests without a settlement are to make an object of a name, or a Producer of an id in a Router
  pub names : List ℕ → ℕ
  pub offered : Serial → Id → ℕ
  pub slots_made : ℕ
  pub stopped : Bool
  pub next : Draws
  -- the requests without a settlement
  pub waits : List (Request Due)
  -- how many requests were issued on a channel
  pub lasts : WorkerKey → ℕ
  -- how many calls and awaits a lane has made
  pub calls : ℕ → ℕ
  -- a call that was to make an object of a name has failed
  pub failed : List ℕ → Bool
  pub awaits : List Await
  -- how many notes there are of an event for objects of a name
  pub times : List ℕ → Event → ℕ
  pub slots : List Slot
  pub notes : List Note

-- as the tables tell it
abbrev pub seen_in : Tables → Seen
seen_in t =
    record {
      objects = t.tree;
      routers = t.kept.routers;
      producers = t.kept.producers;
      consumers = t.kept.consumers;
      pipes = t.kept.pipes;
      names = times_named t.kept.names;
      offered = counts.times_in t.kept.producer_ids;
      slots_made = t.kept.slots;
      stopped = t.kept.stopped;
      next = t.next;
      waits = t.requests.waiting;
      lasts = last_on t.requests;
      calls = counted t.calls;
      failed = λ name. nat_lt 0 (times_named t.failed name);
      awaits = awaits_in t.awaits;
      times = watching.times_in t.awaits;
      slots = t.slots.slots;
      notes = t.notes;
    }

-- as it is
abbrev pub seen_of : State → Seen
seen_of s =
    record {
      objects = s.objects;
      routers = s.tables.routers;
      producers = s.tables.producers;
      consumers = s.tables.consumers;
      pipes = s.tables.pipes;
      names = λ name. count_by (makes_named name) (waiting s.requests);
      offered = λ router id. count_by (makes_producer router id) (waiting s.requests);
      slots_made = length s.slots;
      stopped = s.stopped;
      next = s.next;
      waits = waiting s.requests;
      lasts = issued s.requests;
      calls = calls_of s.calls;
      failed = λ name. list_any (bytes_eq name) s.failed;
      awaits = s.awaits;
      times = times_noted s.notes;
      slots = s.slots;
      notes = s.notes;
    }

abbrev pub HasLookUps : State → Tables → Type 0
HasLookUps s t = seen_in t ≡ seen_of s

-- The tables go with what the host knows.
pub record IsKept (s : State) (t : Tables) : Type 0 where
  pub look_ups : HasLookUps s t
  -- an await of whose name nothing has changed has no outcome
  pub at_rest : AllByRecursion (HasNoneYet (times_noted s.notes) (is_hopeless s)) t.awaits.waiting

-- it takes each state that the tables kept to the one that they keep now
abbrev pub Moves : (State → State) → Tables → Tables → Type 0
Moves part before now = (s : State) → IsKept s before → IsKept (part s) now

-- What is shown is as it was: the notes of before stand first, and of the slots is shown what was shown.
pub record ShowsTheSame (before now : Tables) : Type 0 where
  pub notes : take (length before.notes) now.notes ≡ before.notes
  pub slots : now.slots.shown ≡ before.slots.shown

-- ---- what a part does to the tables

-- it is one of these names
abbrev pub is_one_of : List (List ℕ) → List ℕ → Bool
is_one_of names name = list_any (λ n. bytes_eq n name) names

-- one of these notes is of some event for an object of this name
abbrev pub is_told : List Note → List ℕ → Bool
is_told notes name = list_any (tells_of name) notes

-- these notes came, in order, and were counted; all else is as it was
pub record Hears (notes : List Note) (before now : Tables) : Type 0 where
  pub noted : now.notes ≡ before.notes ++ notes
  pub waiting : now.awaits.waiting ≡ map (touched_by (is_told notes)) before.awaits.waiting
  pub times : (name : List ℕ) (event : Event) → watching.times_in now.awaits name event ≡ watching.times_in before.awaits name event + times_noted notes name event
  pub others : now ≡ record before { awaits = now.awaits; notes = now.notes }

-- the awaits of these names were touched; all else is as it was but for the counts of what is being made
pub record Touches (names : List (List ℕ)) (before now : Tables) : Type 0 where
  pub waiting : now.awaits.waiting ≡ map (touched_by (is_one_of names)) before.awaits.waiting
  pub times : (name : List ℕ) (event : Event) → watching.times_in now.awaits name event ≡ watching.times_in before.awaits name event
  pub others : now ≡ record before { kept = record before.kept { names = now.kept.names; producer_ids = now.kept.producer_ids }; awaits = now.awaits }

-- what a request is to make is counted once more
pub record Expects (due : Due) (before now : Tables) : Type 0 where
  pub names : (name : List ℕ) → times_named now.kept.names name ≡ times_named before.kept.names name + one_if (is_one_of (names_of due) name)
  pub offered : (router : Serial) (id : Id) → counts.times_in now.kept.producer_ids router id ≡ counts.times_in before.kept.producer_ids router id + one_if (offers_due router id due)
  pub touches : Touches (names_of due) before now

-- what a request was to make is counted once less
pub record ExpectsNoMore (due : Due) (before now : Tables) : Type 0 where
  pub names : (name : List ℕ) → times_named now.kept.names name ≡ times_named before.kept.names name - one_if (is_one_of (names_of due) name)
  pub offered : (router : Serial) (id : Id) → counts.times_in now.kept.producer_ids router id ≡ counts.times_in before.kept.producer_ids router id - one_if (offers_due router id due)
  pub touches : Touches (names_of due) before now

-- one of these requests was to make an object of this name
abbrev pub is_made_by : List (Request Due) → List ℕ → Bool
is_made_by requests name = list_any (λ r. is_one_of (names_of r.due) name) requests

-- what each of these requests was to make is counted once less
pub record ExpectsNone (requests : List (Request Due)) (before now : Tables) : Type 0 where
  pub names : (name : List ℕ) → times_named now.kept.names name ≡ times_named before.kept.names name - count_by (makes_named name) requests
  pub offered : (router : Serial) (id : Id) → counts.times_in now.kept.producer_ids router id ≡ counts.times_in before.kept.producer_ids router id - count_by (makes_producer router id) requests
  pub waiting : now.awaits.waiting ≡ map (touched_by (is_made_by requests)) before.awaits.waiting
  pub times : (name : List ℕ) (event : Event) → watching.times_in now.awaits name event ≡ watching.times_in before.awaits name event
  pub others : now ≡ record before { kept = record before.kept { names = now.kept.names; producer_ids = now.kept.producer_ids }; awaits = now.awaits }

-- ---- how names stand, by the tables

-- nothing can come any more for a name: its latest object is closed, or it has none, none is being made and a call that was to make
-- one has failed
abbrev pub is_lost_of : Option Object → Names → Names → List ℕ → Bool
is_lost_of None being_made failed name = not (nat_lt 0 (times_named being_made name)) && nat_lt 0 (times_named failed name)
is_lost_of (Some o) being_made failed name = not (is_open o)

abbrev pub is_lost : List Object → Names → Names → List ℕ → Bool
is_lost objects being_made failed name = is_lost_of (named objects name) being_made failed name

-- ---- premises

-- no object has its serial, and no open one of its worker and kind its id, where that tells it apart
pub record IsNew (objects : List Object) (o : Object) : Type 0 where
  pub fresh : numbered objects o.serial ≡ None
  pub apart : is_producer o.kind ≡ false → open_with_id objects o.worker o.kind o.id ≡ None

-- each of these is the serial of an object
abbrev pub AreThere : List Object → List Serial → Type 0
AreThere objects serials = AllByRecursion (λ serial. IsTrue (is_some (numbered objects serial))) serials

-- each of these requests was issued under an object that is there
abbrev pub AreUnderThere : List Object → List (Request Due) → Type 0
AreUnderThere objects requests = AllByRecursion (λ r. IsTrue (is_some (numbered objects r.under))) requests

-- at most one of the requests passes a test
abbrev pub IsAlone : (Request Due → Bool) → List (Request Due) → Type 0
IsAlone test requests = count_by test requests ≤ 1

-- ---- parts of a turn, and of a settlement

abbrev pub noted_by : Option Note → List Note
noted_by None = []
noted_by (Some n) = n ∷ []

abbrev pub names_in : Option (List ℕ) → List (List ℕ)
names_in None = []
names_in (Some name) = name ∷ []
