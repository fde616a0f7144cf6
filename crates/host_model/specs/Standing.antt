-- Laws of what stands after a journal: of requests that wait, and of notes on objects. This project's own.
use Rattle.std.specs.Prelude.{◌≡◌, ℕ, List, [], ◌∷◌, filter, count_by, Bool, true, false, ◌&&◌, ◌||◌, ◌==◌, is_some, Option, Some, None}
use Rattle.std.specs.List.{AllByRecursion, list_any}
use Rattle.ms_base.specs.Kinds.{same_kind}
use Rattle.ms_base.specs.declared.keys.Kind.{Kind}
use Rattle.ms_base.specs.declared.keys.Kind.TheVariants as kind
use Rattle.ms_base.specs.declared.keys.Serial.{Serial}
use Rattle.transcript.specs.declared.note.Note.{Note}
use Rattle.transcript.specs.declared.note.Note.TheVariants as note
use Rattle.object_tree.specs.declared.object.Object.{Object}
use Rattle.object_tree.specs.Falls.{is_consumer}
use Rattle.object_tree.specs.Objects.{has_serial, is_open, is_producer, numbered}
use Rattle.host_requests.specs.declared.request.Request.{Request}
use Rattle.host_model.specs.declared.due.Due.{Due}
use Rattle.host_model.specs.Held.{is_open_of}
use Rattle.host_model.specs.State.{State, Phase, Wanted, Up, Over, Slot, channel_of, waiting}
use Rattle.host_model.specs.Changes.{opened}
use Rattle.host_model.specs.Laws.{is_open_at, is_shut}

-- ---- requests

-- the object that a request was issued under is in the tree, and open
abbrev pub IsUnderOpen : List Object → Request Due → Type 0
IsUnderOpen objects r = is_open_at objects r.under ≡ true

-- each request without a settlement was issued under an open object
abbrev pub WaitUnderOpen : State → Type 0
WaitUnderOpen s = AllByRecursion (IsUnderOpen s.objects) (waiting s.requests)

-- ---- notes of objects

-- a note says that the object of this serial has opened
abbrev pub opens : ℕ → Note → Bool
opens n (note.Open serial kind name id) = serial.0 == n
opens n other = false

abbrev pub times_opened : ℕ → List Note → ℕ
times_opened n notes = count_by (opens n) notes

abbrev pub opened_if_any : Option Object → List Note
opened_if_any None = []
opened_if_any (Some o) = opened o ∷ []

-- a serial has one `open` note where an object of it is in the tree, with the kind, the name and the id of that object, and
-- else none
abbrev pub EachOpensOnce : List Note → List Object → Type 0
EachOpensOnce notes objects = (serial : Serial) → filter (opens serial.0) notes ≡ opened_if_any (numbered objects serial)

-- ---- Workers

-- where it is an open Worker that runs, it has a channel
abbrev pub HasChannelIfRunning : List Slot → Object → Type 0
HasChannelIfRunning slots o = same_kind o.kind kind.Worker ≡ true → is_open o ≡ true → o.running ≡ true → is_some (channel_of slots o.serial) ≡ true

abbrev pub RunningHaveChannels : State → Type 0
RunningHaveChannels s = AllByRecursion (HasChannelIfRunning s.slots) s.objects

-- ---- slots

abbrev pub is_over_phase : Phase → Bool
is_over_phase Wanted = false
is_over_phase Up = false
is_over_phase (Over died) = true

-- a slot is over exactly where its latest Worker is closed
abbrev pub EndsWithWorker : List Object → Slot → Type 0
EndsWithWorker objects x = is_over_phase x.phase ≡ is_shut (numbered objects x.worker)

abbrev pub SlotsEndWithWorkers : State → Type 0
SlotsEndWithWorkers s = AllByRecursion (EndsWithWorker s.objects) s.slots

-- ---- what objects stand on

-- where an object is open, the Worker that it is in is open too
abbrev pub IsInOpenWorker : List Object → Object → Type 0
IsInOpenWorker objects o = is_open o ≡ true → is_open_of kind.Worker objects o.worker ≡ true

abbrev pub AreInOpenWorkers : State → Type 0
AreInOpenWorkers s = AllByRecursion (IsInOpenWorker s.objects) s.objects

abbrev pub is_transport : Kind → Bool
is_transport k = same_kind k kind.Plain || same_kind k kind.Pipe || same_kind k kind.Direct

-- an object of a kind stands on one of this kind
abbrev pub is_on_kind : Kind → Kind → Bool
is_on_kind kind.Worker on = false
is_on_kind kind.Router on = same_kind on kind.Worker
is_on_kind kind.Plain on = same_kind on kind.Router
is_on_kind kind.Pipe on = same_kind on kind.Router
is_on_kind kind.Direct on = same_kind on kind.Router
is_on_kind kind.Producer on = is_transport on
is_on_kind kind.Consumer on = is_transport on

-- what it stands on is in the tree, and of the kind for it; a Worker alone stands on nothing
abbrev pub IsOnKind : List Object → Kind → Option Serial → Type 0
IsOnKind objects of_kind None = same_kind of_kind kind.Worker ≡ true
IsOnKind objects of_kind (Some parent) = list_any (λ x. has_serial parent x && is_on_kind of_kind x.kind) objects ≡ true

-- the Producer that it names is in the tree, and a Consumer names one
abbrev pub IsOfProducer : List Object → Kind → Option Serial → Type 0
IsOfProducer objects of_kind None = is_consumer of_kind ≡ false
IsOfProducer objects of_kind (Some producer) = list_any (λ x. has_serial producer x && is_producer x.kind) objects ≡ true

pub record StandsByKind (objects : List Object) (o : Object) : Type 0 where
  pub on : IsOnKind objects o.kind o.parent
  pub producer : IsOfProducer objects o.kind o.producer

abbrev pub StandByKind : List Object → Type 0
StandByKind objects = AllByRecursion (StandsByKind objects) objects
