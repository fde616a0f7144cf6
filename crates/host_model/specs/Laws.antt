-- Laws of whole journals: of ids, calls and objects. They speak of what a host knows and notes. This project's own.
use Rattle.std.specs.Prelude.{◌≡◌, ◌≤◌, ◌+◌, ℕ, zero, suc, List, [], ◌∷◌, ◌++◌, length, map, filter, count_by, Bool, true, false, ◌&&◌, ◌==◌, nat_lt, is_some, if◌then◌else◌, flat_map, ⊤, Option, Some, None}
use Rattle.std.specs.List.{AllByRecursion, list_any}
use Rattle.serde_json.specs.Written.{compact_text}
use Rattle.ms_base.specs.declared.entry.Entry.{Entry}
use Rattle.ms_base.specs.declared.entry.Entry.TheVariants as entry
use Rattle.ms_base.specs.declared.keys.CallKey.{CallKey}
use Rattle.ms_base.specs.declared.keys.Serial.{Serial}
use Rattle.ms_base.specs.declared.keys.WorkerKey.{WorkerKey}
use Rattle.channel_msgs.specs.Json.{request_json}
use Rattle.channel_msgs.specs.View.{RequestView}
use Rattle.transcript.specs.declared.note.Note.{Note}
use Rattle.transcript.specs.declared.note.Note.TheVariants as note
use Rattle.object_tree.specs.declared.object.Object.{Object}
use Rattle.object_tree.specs.Objects.{has_serial, is_open, numbered}
use Rattle.pending_calls.specs.declared.waiting.Owner.{Owner}
use Rattle.pending_calls.specs.declared.waiting.Owner.TheVariants as owner
use Rattle.host_awaits.specs.declared.entered.Await.{Await}
use Rattle.host_notes.specs.Keys.{same_call, same_worker}
use Rattle.host_requests.specs.declared.request.Request.{Request}
use Rattle.host_requests.specs.declared.request.Via.{Via}
use Rattle.host_requests.specs.declared.request.Via.TheVariants.{Channel, Start}
use Rattle.host_requests.specs.Requests.{is_start_of}
use Rattle.request_build.specs.declared.built.Draws.{Draws}
use Rattle.request_build.specs.declared.built.Keep.{Keep}
use Rattle.host_model.specs.declared.due.Due.{Due}
use Rattle.host_model.specs.declared.due.Due.TheVariants as due
use Rattle.host_model.specs.Fit.{one_if}
use Rattle.host_model.specs.State.{State, Issued, as_serial, is_by, next_call, waiting}

-- the numbers from n on, so many of them
abbrev pub numbers_from : ℕ → ℕ → List ℕ
numbers_from n zero = []
numbers_from n (suc k) = n ∷ numbers_from (n + 1) k

-- ---- ids

abbrev pub id_in : Via → ℕ
id_in (Channel to id) = id
id_in Start = 0

-- the ids that went to a channel, in order
abbrev pub ids_to : WorkerKey → List Issued → List ℕ
ids_to worker requests = map (λ r. id_in r.request.via) (filter (λ r. is_by worker r.request.via) requests)

-- they are 1, 2, 3 and so on
abbrev pub AreNumbered : List Issued → Type 0
AreNumbered requests = (worker : WorkerKey) → ids_to worker requests ≡ numbers_from 1 (length (ids_to worker requests))

-- ---- payloads

-- the payloads that went to a channel, in order
abbrev pub payload_to : WorkerKey → Note → List (List ℕ)
payload_to worker (note.Sent to payload) = if same_worker to worker then payload ∷ [] else []
payload_to worker other = []

abbrev pub payloads_to : WorkerKey → List Note → List (List ℕ)
payloads_to worker notes = flat_map (payload_to worker) notes

-- it is the text of a request with this id
abbrev pub IsTextOf : ℕ → List ℕ → Type 0
IsTextOf id payload = (r : RequestView) × (payload ≡ compact_text (request_json r)) × (r.id ≡ id)

-- they are the texts of requests with the ids n, n + 1, n + 2 and so on
abbrev pub AreTextsFrom : ℕ → List (List ℕ) → Type 0
AreTextsFrom n [] = ⊤
AreTextsFrom n (payload ∷ payloads) = IsTextOf n payload × AreTextsFrom (n + 1) payloads

-- ---- calls

-- a note says that this call has settled
abbrev pub settles : CallKey → Note → Bool
settles key (note.Settled call outcome) = same_call call key
settles key other = false

abbrev pub owned_by : CallKey → Owner → Bool
owned_by key (owner.Call call) = same_call call key
owned_by key other = false

abbrev pub times_settled : CallKey → List Note → ℕ
times_settled key notes = count_by (settles key) notes

-- the requests of a call
abbrev pub requests_of : CallKey → List (Request Due) → ℕ
requests_of key requests = count_by (λ r. owned_by key r.owner) requests

abbrev pub awaits_of : CallKey → List Await → ℕ
awaits_of key awaits = count_by (λ a. same_call a.key key) awaits

abbrev pub times_entered : CallKey → List CallKey → ℕ
times_entered key calls = count_by (λ call. same_call call key) calls

-- each call and await that was entered has settled, or waits for the settlement of one request, or waits as an await; and for no
-- more than one of these
abbrev pub EachWaitsOrSettled : State → Type 0
EachWaitsOrSettled s =
    (key : CallKey) → times_settled key s.notes + requests_of key (waiting s.requests) + awaits_of key s.awaits ≡ times_entered key s.calls

-- the places of a lane's calls and awaits, in order
abbrev pub places_of : ℕ → List CallKey → List ℕ
places_of lane calls = map (λ c. c.place) (filter (λ c. c.lane == lane) calls)

-- they are 1, 2, 3 and so on
abbrev pub ArePlaced : List CallKey → Type 0
ArePlaced calls = (lane : ℕ) → places_of lane calls ≡ numbers_from 1 (length (places_of lane calls))

-- the keys of the calls and awaits of a journal, behind those before
abbrev pub keys_behind : List CallKey → List Entry → List CallKey
keys_behind before [] = before
keys_behind before (entry.Call lane op ∷ es) = keys_behind (before ++ next_call before lane ∷ []) es
keys_behind before (entry.Await lane name event count ∷ es) = keys_behind (before ++ next_call before lane ∷ []) es
keys_behind before (other ∷ es) = keys_behind before es

-- a Worker that was drawn has one call that waits for its start, at most, and one that wasn't has none
abbrev pub EachStartsOnce : List Issued → Draws → Type 0
EachStartsOnce requests next = (n : ℕ) → count_by (λ r. is_start_of (as_serial n) r.request) requests ≤ one_if (nat_lt n next.serial)

-- ---- objects

-- a note says that the object of this serial has closed
abbrev pub closes : ℕ → Note → Bool
closes n (note.Closed serial name reason) = serial.0 == n
closes n other = false

abbrev pub times_closed : ℕ → List Note → ℕ
times_closed n notes = count_by (closes n) notes

abbrev pub is_shut : Option Object → Bool
is_shut None = false
is_shut (Some o) = is_some o.closed

-- a serial has one `closed` note where its object is closed, and else none
abbrev pub EachClosesOnce : State → Type 0
EachClosesOnce s = (serial : Serial) → times_closed serial.0 s.notes ≡ one_if (is_shut (numbered s.objects serial))

-- an open object has this serial
abbrev pub is_open_at : List Object → Serial → Bool
is_open_at objects serial = list_any (λ x. has_serial serial x && is_open x) objects

-- where an object is open, what it stands on is open
abbrev pub IsOnOpen : List Object → Object → Type 0
IsOnOpen objects o = is_open o ≡ true → (parent : Serial) → o.parent ≡ Some parent → is_open_at objects parent ≡ true

abbrev pub AreOnOpen : List Object → Type 0
AreOnOpen objects = AllByRecursion (IsOnOpen objects) objects

-- what a request is to make stands on the open object that the request was issued under
abbrev pub IsDueOnOpen : List Object → Request Due → Type 0
IsDueOnOpen objects r = (object : Object) (keeps : Keep) → r.due ≡ due.Opens object keeps → (object.parent ≡ Some r.under) × (object.closed ≡ None) × (is_open_at objects r.under ≡ true)
