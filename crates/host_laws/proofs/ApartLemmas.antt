-- What a worker says neither looks at the streams nor changes them, and leaves the slots as they are.
use Rattle.std.proofs.Common.{◌≡◌, ℕ, List, [], ◌∷◌, ◌++◌, map, Bool, true, false, not, ◌&&◌, cond, ◌+◌, nat_lt, Option, Some, None, refl, sym, ap, ◌∙◌}
use Rattle.std.specs.List.{filter, find, list_any}
use Rattle.std.specs.Str.{bytes_eq}
use Rattle.std.proofs.lemmas.Bool.{and_parts}
use Rattle.serde_json.specs.Data.{Data}
use Rattle.ms_base.specs.Kinds.{same_kind}
use Rattle.ms_base.specs.declared.id.Id.{Id}
use Rattle.ms_base.specs.declared.keys.Kind.{Kind}
use Rattle.ms_base.specs.declared.keys.Kind.TheVariants as kind
use Rattle.ms_base.specs.declared.keys.Reason.{Reason}
use Rattle.ms_base.specs.declared.keys.Reason.TheVariants as reason
use Rattle.ms_base.specs.declared.keys.Serial.{Serial}
use Rattle.ms_base.specs.declared.keys.WorkerKey.{WorkerKey}
use Rattle.ms_base.specs.declared.outcome.Outcome.{Outcome}
use Rattle.ms_base.specs.declared.outcome.Outcome.TheVariants as outcome
use Rattle.channel_msgs.specs.Read.{max_id}
use Rattle.channel_msgs.specs.View.{MessageView, reply, notice, log, rtp, AnswerView, accepted, refused}
use Rattle.transcript.specs.declared.note.Note.TheVariants as note
use Rattle.object_tree.specs.declared.object.Mark.{Mark}
use Rattle.object_tree.specs.declared.object.Mark.TheVariants as mark
use Rattle.object_tree.specs.declared.object.Object.{Object}
use Rattle.object_tree.specs.Falls.{falls, is_among}
use Rattle.object_tree.specs.Objects.{has_id, is_open, marked, named, numbered, same_id, same_serial, with_mark}
use Rattle.pending_calls.specs.declared.waiting.Owner.{Owner}
use Rattle.pending_calls.specs.declared.waiting.Owner.TheVariants as owner
use Rattle.request_build.specs.declared.built.Keep.{Keep}
use Rattle.request_build.specs.Close.{close_asked}
use Rattle.request_build.specs.Columns.{is_there}
use Rattle.request_build.specs.Known.{above}
use Rattle.reply_contents.specs.Notices.{told_of}
use Rattle.reply_contents.specs.declared.notice.Told.{Told}
use Rattle.reply_contents.specs.declared.notice.Told.TheVariants as told
use Rattle.request_contents.specs.Methods.{ids_of, method_of}
use Rattle.worker_requests.specs.declared.asked.Asked.{Asked}
use Rattle.host_awaits.specs.Awaits.{settled_by, times_noted, waiting_by}
use Rattle.host_requests.specs.declared.request.Request.{Request}
use Rattle.host_requests.specs.Requests.{is_on, is_start_of, is_under}
use Rattle.host_model.specs.declared.due.Due.{Due}
use Rattle.host_model.specs.declared.due.Due.TheVariants as due
use Rattle.host_model.specs.Answer.{payload_of}
use Rattle.host_model.specs.Changes.{all_noted, noted, object_opened, owner_settled, request_issued, turn_notes, turned, turned_from}
use Rattle.host_model.specs.Falls.{all_closed, close_sent, close_sent_by, close_sent_to, close_sent_under, closes_sent, fallen, is_known, name_of, objects_closed, request_closed, requests_closed, with_over}
use Rattle.host_model.specs.State.{State, Slot, Stream, channel_of, is_being_made, issued, names_of, settled_where, up_slot, waiting, waiting_for}
use Rattle.host_model.specs.Step.{Says, accepted_by, bad_data, comes_out, falls_with_its_producer, heard, heard_by, if_found, is_given_up, is_hopeless, is_starting, learns, made, noticed, object_of, opened_by, packet_told, ran, replied_to, says_it_runs, settle_awaits, settled_note, settled_with, start_settled, step, stray, turns_with_its_producer}
use Rattle.host_model.specs.Workers.{HaveWorkers}
use Rattle.host_laws.proofs.StayLemmas.{slots-unfallen}

abbrev pub put_streams : List Stream → State → State
put_streams xs s = record s { streams = xs }

-- a change of a host that has no part in its channels, and under a premise leaves the slots as they are
pub record IsApart (Q : Type 0) (f : State → State) (s : State) : Type 0 where
  pub apart : (xs : List Stream) → f (put_streams xs s) ≡ put_streams xs (f s)
  pub slots : Q → (f s).slots ≡ s.slots

-- the streams stay
pub streams-stay : {Q : Type 0} (f : State → State) (s : State) → IsApart Q f s → (f s).streams ≡ s.streams
streams-stay f s h = ap (λ (t : State). t.streams) (h.apart s.streams)

-- ---- parts

abbrev pub asks_close : WorkerKey → Asked → Serial → State → State
asks_close channel asked parent t =
    request_issued channel owner.Close parent due.Nothing (payload_of (method_of asked) (ids_of asked) None (issued t.requests channel + 1)) t

-- what is found as a Consumer is none of the Workers
no-worker : (k : Kind) → same_kind kind.Consumer k ≡ true → same_kind k kind.Worker ≡ false
no-worker kind.Worker h = absurd cc
no-worker kind.Router h = refl
no-worker kind.Plain h = refl
no-worker kind.Pipe h = refl
no-worker kind.Direct h = refl
no-worker kind.Producer h = refl
no-worker kind.Consumer h = refl

find-passes : (p : Object → Bool) (xs : List Object) (o : Object) → find p xs ≡ Some o → p o ≡ true
find-passes p [] o e = absurd cc
find-passes p (x ∷ xs) o e = at (p x) refl e (find-passes p xs o)
  where
    at : (b : Bool) → p x ≡ b → cond b (Some x) (find p xs) ≡ Some o → (find p xs ≡ Some o → p o ≡ true) → p o ≡ true
    at true t here later = let same : x ≡ o = cc in sym (ap p same) ∙ t
    at false t there later = later there

-- ---- awaits settle

-- with the names that are given up
abbrev pub settle_with : (List ℕ → Bool) → State → State
settle_with hopeless s =
    record s {
      notes = s.notes ++ map settled_note (settled_by (times_noted s.notes) hopeless s.awaits);
      awaits = waiting_by (times_noted s.notes) hopeless s.awaits;
    }

-- which these are depends on objects, requests and failures alone
pub hopeless-same : (s t : State) → t.objects ≡ s.objects → t.requests ≡ s.requests → t.failed ≡ s.failed → is_hopeless t ≡ is_hopeless s
hopeless-same s t objects requests failed =
    λ i name. (ap (λ os. is_given_up t name (named os name)) objects ∙ given_up name (named s.objects name)) i
  where
    given_up : (name : List ℕ) (o : Option Object) → is_given_up t name o ≡ is_given_up s name o
    given_up name None = ap (λ rs. not (is_being_made rs name) && list_any (bytes_eq name) t.failed) requests ∙ ap (λ ns. not (is_being_made s.requests name) && list_any (bytes_eq name) ns) failed
    given_up name (Some o) = refl

-- ---- each change

module _ (Q : Type 0) where
  still-apart : (s : State) → IsApart Q (λ t. t) s
  still-apart s = record { apart = λ xs. refl; slots = λ q. refl }

  -- where a test decides
  either-apart : (b : Bool) (f g : State → State) (s : State) → IsApart Q f s → IsApart Q g s → IsApart Q (λ t. cond b (f t) (g t)) s
  either-apart true f g s h k = record { apart = h.apart; slots = h.slots }
  either-apart false f g s h k = record { apart = k.apart; slots = k.slots }

  -- ---- small changes

  owner-apart : (o : Owner) (outcome : Outcome) (names : List (List ℕ)) (s : State) → IsApart Q (owner_settled o outcome names) s
  owner-apart (owner.Call call) outcome names s = record { apart = λ xs. refl; slots = λ q. refl }
  owner-apart (owner.Job call part) outcome names s = record { apart = λ xs. refl; slots = λ q. refl }
  owner-apart owner.Close outcome names s = record { apart = λ xs. refl; slots = λ q. refl }
  owner-apart owner.Follow outcome names s = record { apart = λ xs. refl; slots = λ q. refl }

  turned_from-apart : (o : Option Object) (m : Mark) (s : State) → IsApart Q (turned_from o m) s
  turned_from-apart None m s = record { apart = λ xs. refl; slots = λ q. refl }
  turned_from-apart (Some o) m s =
      either-apart (is_open o) (λ t. all_noted (turn_notes o (marked m o)) (record t { objects = with_mark o.serial m t.objects })) (λ t. t) s
      (record { apart = λ xs. refl; slots = λ q. refl }) (still-apart s)

  turned-apart : (serial : Serial) (m : Mark) (s : State) → IsApart Q (turned serial m) s
  turned-apart serial m s = let by = turned_from-apart (numbered s.objects serial) m s in record { apart = by.apart; slots = by.slots }

  -- ---- what falls

  all_closed-apart : (rs : List (Request Due)) (s : State) → IsApart Q (all_closed rs) s
  all_closed-apart [] s = record { apart = λ xs. refl; slots = λ q. refl }
  all_closed-apart (r ∷ rs) s =
      let here = owner-apart r.owner (outcome.Closed (name_of s.objects r.under)) (names_of r.due) s in
      let later = all_closed-apart rs (request_closed r s) in
      record { apart = λ xs. ap (all_closed rs) (here.apart xs) ∙ later.apart xs; slots = λ q. later.slots q ∙ here.slots q }

  sent_by-apart : (channel : Option WorkerKey) (asked : Option Asked) (parent : Serial) (s : State) → IsApart Q (close_sent_by channel asked parent) s
  sent_by-apart (Some channel) (Some asked) parent s =
      let by = either-apart (nat_lt (issued s.requests channel) max_id) (asks_close channel asked parent) (λ t. t) s (record { apart = λ xs. refl; slots = λ q. refl }) (still-apart s) in
      record { apart = by.apart; slots = by.slots }
  sent_by-apart (Some channel) None parent s = record { apart = λ xs. refl; slots = λ q. refl }
  sent_by-apart None asked parent s = record { apart = λ xs. refl; slots = λ q. refl }

  sent_under-apart : (parent : Option Serial) (down : List Serial) (o : Object) (s : State) → IsApart Q (close_sent_under parent down o) s
  sent_under-apart None down o s = record { apart = λ xs. refl; slots = λ q. refl }
  sent_under-apart (Some parent) down o s =
      let sent = sent_by-apart (channel_of s.slots o.worker) (close_asked s.objects o) parent s in
      let by = either-apart (is_among down parent) (λ t. t) (close_sent_by (channel_of s.slots o.worker) (close_asked s.objects o) parent) s (still-apart s) sent in
      record { apart = by.apart; slots = by.slots }

  sent_to-apart : (o : Option Object) (down : List Serial) (s : State) → IsApart Q (close_sent_to o down) s
  sent_to-apart None down s = record { apart = λ xs. refl; slots = λ q. refl }
  sent_to-apart (Some o) down s = sent_under-apart o.parent down o s

  sent-apart : (down roots : List Serial) (why : Reason) (serial : Serial) (s : State) → IsApart Q (close_sent down roots why serial) s
  sent-apart down roots why serial s =
      let sent = sent_to-apart (numbered s.objects serial) down s in
      let by = either-apart (is_known why roots serial) (λ t. t) (close_sent_to (numbered s.objects serial) down) s (still-apart s) sent in
      record { apart = by.apart; slots = by.slots }

  all_sent-apart : (down roots : List Serial) (why : Reason) (serials : List Serial) (s : State) → IsApart Q (closes_sent down roots why serials) s
  all_sent-apart down roots why [] s = record { apart = λ xs. refl; slots = λ q. refl }
  all_sent-apart down roots why (serial ∷ serials) s =
      let here = sent-apart down roots why serial s in
      let later = all_sent-apart down roots why serials (close_sent down roots why serial s) in
      record { apart = λ xs. ap (closes_sent down roots why serials) (here.apart xs) ∙ later.apart xs; slots = λ q. later.slots q ∙ here.slots q }

  -- where no slot's Worker is among them
  pub fallen-apart : (roots : List Serial) (why : Reason) (s : State) → (Q → with_over (falls s.objects roots) why s.slots ≡ s.slots) → IsApart Q (fallen roots why) s
  fallen-apart roots why s stays =
      let down : List Serial = falls s.objects roots in
      let shut = objects_closed down roots why s in
      let under = filter (is_under down) (waiting shut.requests) in
      let settled = all_closed-apart under (record shut { requests = settled_where (is_under down) shut.requests }) in
      let sent = all_sent-apart down roots why down (requests_closed down shut) in
      record { apart = λ xs. ap (closes_sent down roots why down) (settled.apart xs) ∙ sent.apart xs; slots = λ q. sent.slots q ∙ settled.slots q ∙ stays q }

  -- ---- a reply

  opened_by-apart : (r : Request Due) (keeps : Keep) (o : Option Object) (s : State) → IsApart Q (opened_by r keeps o) s
  opened_by-apart r keeps None s = owner-apart r.owner bad_data (names_of r.due) s
  opened_by-apart r keeps (Some o) s = let by = owner-apart r.owner outcome.Done [] (object_opened o keeps s) in record { apart = by.apart; slots = by.slots }

  accepted-apart : (d : Due) (content : Option Data) (r : Request Due) (s : State) → IsApart Q (accepted_by d content r) s
  accepted-apart (due.Opens object keeps) content r s = opened_by-apart r keeps (made object object.kind content) s
  accepted-apart (due.Turns paused) content r s =
      let turn = turned-apart r.under (mark.Paused paused) s in
      let by = owner-apart r.owner outcome.Done [] (turned r.under (mark.Paused paused) s) in
      record { apart = λ xs. ap (owner_settled r.owner outcome.Done []) (turn.apart xs) ∙ by.apart xs; slots = λ q. by.slots q ∙ turn.slots q }
  accepted-apart due.Nothing content r s = owner-apart r.owner outcome.Done [] s

  settled-apart : (a : AnswerView) (r : Request Due) (s : State) → IsApart Q (settled_with a r) s
  settled-apart (accepted content) r s = accepted-apart r.due content r s
  settled-apart (refused error why) r s = owner-apart r.owner (outcome.Worker error why) (names_of r.due) s

  replied-apart : (r : Option (Request Due)) (worker : WorkerKey) (id : ℕ) (a : AnswerView) (s : State) → IsApart Q (replied_to r worker id a) s
  replied-apart None worker id a s = record { apart = λ xs. refl; slots = λ q. refl }
  replied-apart (Some r) worker id a s =
      let by = settled-apart a r (record s { requests = settled_where (is_on worker id) s.requests }) in
      record { apart = by.apart; slots = by.slots }

  -- ---- a notice

  stray-apart : (x : Slot) (s : State) → IsApart Q (stray x) s
  stray-apart x s = record { apart = λ xs. refl; slots = λ q. refl }

  start-apart : (r : Option (Request Due)) (s : State) → IsApart Q (start_settled r) s
  start-apart None s = record { apart = λ xs. refl; slots = λ q. refl }
  start-apart (Some r) s = owner-apart r.owner outcome.Done [] s

  ran-apart : (x : Slot) (s : State) → IsApart Q (ran x) s
  ran-apart x s =
      let by =
      start-apart (waiting_for (is_start_of x.worker) s.requests)
      (noted (note.Running x.name x.key.generation)
      (record s { objects = with_mark x.worker mark.Running s.objects; requests = settled_where (is_start_of x.worker) s.requests })) in
      record { apart = by.apart; slots = by.slots }

  runs-apart : (x : Slot) (s : State) → IsApart Q (says_it_runs x) s
  runs-apart x s =
      let by = either-apart (is_starting (numbered s.objects x.worker)) (ran x) (stray x) s (ran-apart x s) (stray-apart x s) in
      record { apart = by.apart; slots = by.slots }

  found-apart : (x : Slot) (change : Object → State → State) (o : Option Object) (s : State) → ((c : Object) → o ≡ Some c → IsApart Q (change c) s) → IsApart Q (if_found x change o) s
  found-apart x change None s h = record { apart = λ xs. refl; slots = λ q. refl }
  found-apart x change (Some o) s h = h o refl

  pub settle-apart : (s : State) → IsApart Q settle_awaits s
  settle-apart s =
      record { apart = λ xs. ap (λ hopeless. settle_with hopeless (put_streams xs s)) (hopeless-same s (put_streams xs s) refl refl refl); slots = λ q. refl }

-- ---- what is said, where each slot has its Worker

module _ (s : State) where
  -- the premise is that each slot has its Worker in the tree
  abbrev IsApartHere : (State → State) → Type 0
  IsApartHere f = IsApart (HaveWorkers s) f s

  consumer-falls : (x : Slot) (id : Id) (c : Object) → object_of x kind.Consumer id s ≡ Some c → IsApartHere (falls_with_its_producer c)
  consumer-falls x id c found =
      let passes = find-passes (λ o. is_open o && has_id x.worker kind.Consumer id o) s.objects c found in
      let has = (and_parts (is_open c) (has_id x.worker kind.Consumer id c) passes).1 in
      let both = and_parts (same_serial x.worker c.worker && same_kind kind.Consumer c.kind) (same_id id c.id) has in
      let consumes = (and_parts (same_serial x.worker c.worker) (same_kind kind.Consumer c.kind) both.0).1 in
      let by =
      fallen-apart (HaveWorkers s) (c.serial ∷ []) reason.ProducerClose s
      (λ h. slots-unfallen s h (λ o. is_open o && has_id x.worker kind.Consumer id o) c found (no-worker c.kind consumes) reason.ProducerClose) in
      record { apart = by.apart; slots = by.slots }

  noticed-apart : (x : Slot) (t : Told) → IsApartHere (noticed x t)
  noticed-apart x told.Running = runs-apart (HaveWorkers s) x s
  noticed-apart x (told.ProducerClosed id) =
      let by = found-apart (HaveWorkers s) x falls_with_its_producer (object_of x kind.Consumer id s) s (consumer-falls x id) in
      record { apart = by.apart; slots = by.slots }
  noticed-apart x (told.ProducerPaused id) =
      let by = found-apart (HaveWorkers s) x (turns_with_its_producer true) (object_of x kind.Consumer id s) s (λ c e. turned-apart (HaveWorkers s) c.serial (mark.ProducerPaused true) s) in
      record { apart = by.apart; slots = by.slots }
  noticed-apart x (told.ProducerResumed id) =
      let by = found-apart (HaveWorkers s) x (turns_with_its_producer false) (object_of x kind.Consumer id s) s (λ c e. turned-apart (HaveWorkers s) c.serial (mark.ProducerPaused false) s) in
      record { apart = by.apart; slots = by.slots }
  noticed-apart x (told.TupleLearnt id tuple) =
      let by = found-apart (HaveWorkers s) x (learns tuple) (object_of x kind.Plain id s) s (λ c e. record { apart = λ xs. refl; slots = λ q. refl }) in
      record { apart = by.apart; slots = by.slots }
  noticed-apart x told.Other = record { apart = λ xs. refl; slots = λ q. refl }

  packet-apart : (x : Slot) (packet : List ℕ) (o : Option Object) → IsApartHere (packet_told x packet o)
  packet-apart x packet None = record { apart = λ xs. refl; slots = λ q. refl }
  packet-apart x packet (Some o) =
      let by = either-apart (HaveWorkers s) (is_there kind.Direct (above s.objects o)) (comes_out packet o) (stray x) s (record { apart = λ xs. refl; slots = λ q. refl }) (stray-apart (HaveWorkers s) x s) in
      record { apart = by.apart; slots = by.slots }

  heard-apart : (x : Slot) (said : Option MessageView) → IsApartHere (heard x said)
  heard-apart x None = record { apart = λ xs. refl; slots = λ q. refl }
  heard-apart x (Some (reply r)) =
      let by = replied-apart (HaveWorkers s) (waiting_for (is_on x.key r.id) s.requests) x.key r.id r.answer s in
      record { apart = by.apart; slots = by.slots }
  heard-apart x (Some (notice n)) = noticed-apart x (told_of n)
  heard-apart x (Some (log level text)) = record { apart = λ xs. refl; slots = λ q. refl }
  heard-apart x (Some (rtp id packet)) = let by = packet-apart x packet (object_of x kind.Consumer id s) in record { apart = by.apart; slots = by.slots }

  heard_by-apart : (x : Option Slot) (said : Option MessageView) → IsApartHere (heard_by x said)
  heard_by-apart None said = record { apart = λ xs. refl; slots = λ q. refl }
  heard_by-apart (Some x) said = heard-apart x said

pub says-apart : (s : State) (worker : WorkerKey) (said : Option MessageView) → IsApart (HaveWorkers s) (λ t. step t (Says worker said)) s
says-apart s worker said =
    let here = heard_by-apart s (up_slot s.slots worker) said in
    let after = settle-apart (HaveWorkers s) (heard_by (up_slot s.slots worker) said s) in
    record { apart = λ xs. ap settle_awaits (here.apart xs) ∙ after.apart xs; slots = λ q. after.slots q ∙ here.slots q }
