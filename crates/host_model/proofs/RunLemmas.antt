-- Each open Worker that runs has a channel: through each part of a micro step.
use Rattle.std.proofs.Common.{◌≡◌, ℕ, List, [], ◌∷◌, ◌++◌, map, nat_lt, ◌+◌, Bool, true, false, ◌&&◌, ◌||◌, cond, Option, Some, None, refl, sym, ap, ◌∙◌, subst}
use Rattle.std.specs.Bool.{⊤}
use Rattle.std.specs.List.{AllByRecursion, filter, find, list_any}
use Rattle.std.specs.Option.{is_some, option_map}
use Rattle.std.specs.Prelude.{IfSome}
use Rattle.std.proofs.lemmas.Bool.{and_parts, true≢false}
use Rattle.serde_json.specs.Data.{Data}
use Rattle.ms_base.specs.declared.keys.CallKey.{CallKey}
use Rattle.ms_base.specs.Kinds.{same_kind}
use Rattle.ms_base.specs.declared.keys.Kind.{Kind}
use Rattle.ms_base.specs.declared.keys.Kind.TheVariants as kind
use Rattle.ms_base.specs.declared.keys.Reason.{Reason}
use Rattle.ms_base.specs.declared.keys.Reason.TheVariants as reason
use Rattle.ms_base.specs.declared.keys.Serial.{Serial}
use Rattle.ms_base.specs.declared.keys.WorkerKey.{WorkerKey}
use Rattle.ms_base.specs.declared.op.Op.{Op}
use Rattle.ms_base.specs.declared.outcome.Outcome.{Outcome}
use Rattle.ms_base.specs.declared.outcome.Outcome.TheVariants as outcome
use Rattle.channel_msgs.specs.Read.{max_id}
use Rattle.channel_msgs.specs.View.{MessageView, reply, notice, log, rtp, AnswerView, accepted, refused}
use Rattle.object_tree.specs.declared.object.Mark.{Mark}
use Rattle.object_tree.specs.declared.object.Mark.TheVariants as mark
use Rattle.object_tree.specs.declared.object.Object.{Object}
use Rattle.object_tree.specs.Falls.{closed_by, closed_if, falls, is_among, reason_of}
use Rattle.object_tree.specs.Objects.{has_serial, is_open, marked, numbered, same_serial, with_mark}
use Rattle.pending_calls.specs.declared.waiting.Owner.{Owner}
use Rattle.pending_calls.specs.declared.waiting.Owner.TheVariants as owner
use Rattle.request_build.specs.declared.built.Keep.{Keep}
use Rattle.request_build.specs.Asks as asks
use Rattle.request_build.specs.Close.{close_asked}
use Rattle.request_build.specs.Columns.{is_there}
use Rattle.request_build.specs.Known.{Known, above}
use Rattle.request_build.specs.Laws.{IsNewUnder}
use Rattle.reply_contents.specs.Notices.{told_of}
use Rattle.reply_contents.specs.declared.notice.Told.{Told}
use Rattle.reply_contents.specs.declared.notice.Told.TheVariants as told
use Rattle.request_contents.specs.Methods.{ids_of, method_of}
use Rattle.worker_requests.specs.declared.asked.Asked.{Asked}
use Rattle.host_requests.specs.declared.request.Request.{Request}
use Rattle.host_requests.specs.Requests.{is_on, is_start_of, is_under}
use Rattle.host_model.specs.declared.due.Due.{Due}
use Rattle.host_model.specs.declared.due.Due.TheVariants as due
use Rattle.host_model.specs.State.{State, Slot, Issued, as_serial, channel_of, is_up_phase, up_if, issued, names_of, next_call, settled_where, start, up_slot, waiting, waiting_for, with_request}
use Rattle.host_model.specs.State as phase
use Rattle.host_notes.specs.Keys.{same_worker}
use Rattle.host_model.specs.Answer.{Answer, Refuses, AddsWorker, Issues, Closes, Tells, Sends, answer, known, payload_of}
use Rattle.host_model.specs.Changes.{all_noted, new_request, object_opened, owner_settled, request_issued, turn_notes, turned, turned_from}
use Rattle.host_model.specs.Falls.{all_closed, close_sent, close_sent_by, close_sent_to, close_sent_under, closes_sent, fallen, is_death, is_known, over_if, objects_closed, request_closed, requests_closed}
use Rattle.host_model.specs.Run.{Journal, state_of}
use Rattle.host_model.specs.Standing.{HasChannelIfRunning, RunningHaveChannels}
use Rattle.host_model.specs.Step.{Micro, Calls, Awaits, Starting, Comes, Says, Breaks, accepted_by, answered, bad_data, comes_out, due_by, due_of, heard, heard_by, hear, if_found, is_starting, made, new_slot, new_worker, noticed, object_of, opened_by, packet_told, ran, replied_to, settled_with, start_request, start_settled, step, stray, turn_of}
use Rattle.host_model.proofs.Along.{along}
use Rattle.host_model.proofs.Changes.{Change, Going, IsMadeIfAny, going, has_key, made-is, once-entered, step-is, still, both, notes, slots, streams, settles_call, awaits, asks_by, wants, asks_to_close, takes, takes_none, opens, settles_taken, marks, falls_with, settles_awaits}
use Rattle.host_model.proofs.Counts.{all-append, all-each, all-found, all-mapped, same-itself}
use Rattle.host_model.proofs.FallLemmas.{serial-from}
use Rattle.host_model.proofs.FitLemmas.{open-more, open_of}
use Rattle.host_model.proofs.Objects.{all-with_object}
use Rattle.host_model.proofs.Waiting.{all-fallen, all-settled, all-taken}
use Rattle.host_model.proofs.WorkerLemmas.{BuildsNew}

-- ---- slots

abbrev is_up_at : Serial → Slot → Bool
is_up_at serial x = same_serial x.worker serial && is_up_phase x.phase

any-found : (q : Slot → Bool) (xs : List Slot) → is_some (option_map (λ (x : Slot). x.key) (find q xs)) ≡ list_any q xs
any-found q [] = refl
any-found q (x ∷ xs) = at (q x) (any-found q xs)
  where
    at : (b : Bool) → is_some (option_map (λ (y : Slot). y.key) (find q xs)) ≡ list_any q xs
        → is_some (option_map (λ (y : Slot). y.key) (cond b (Some x) (find q xs))) ≡ (b || list_any q xs)
    at true h = refl
    at false h = h

any-kept : (q : Slot → Bool) (f : Slot → Slot) → ((x : Slot) → q x ≡ true → q (f x) ≡ true) → (xs : List Slot) → list_any q xs ≡ true → list_any q (map f xs) ≡ true
any-kept q f keeps [] h = absurd (true≢false (sym h))
any-kept q f keeps (x ∷ xs) h = at (q x) refl h (any-kept q f keeps xs)
  where
    later : (b : Bool) → list_any q (map f xs) ≡ true → (b || list_any q (map f xs)) ≡ true
    later true k = refl
    later false k = k

    at : (b : Bool) → q x ≡ b → (b || list_any q xs) ≡ true → (list_any q xs ≡ true → list_any q (map f xs) ≡ true) → (q (f x) || list_any q (map f xs)) ≡ true
    at true e t rest = ap (λ b. b || list_any q (map f xs)) (keeps x e)
    at false e t rest = later (q (f x)) (rest t)

any-front : (q : Slot → Bool) (xs ys : List Slot) → list_any q xs ≡ true → list_any q (xs ++ ys) ≡ true
any-front q [] ys h = absurd (true≢false (sym h))
any-front q (x ∷ xs) ys h = at (q x) h (any-front q xs ys)
  where
    at : (b : Bool) → (b || list_any q xs) ≡ true → (list_any q xs ≡ true → list_any q (xs ++ ys) ≡ true) → (b || list_any q (xs ++ ys)) ≡ true
    at true t rest = refl
    at false t rest = rest t

-- ---- Workers that run have a slot that is up

abbrev IsUp : List Slot → Serial → Type 0
IsUp xs serial = list_any (is_up_at serial) xs ≡ true

abbrev IsUpIfRunning : List Slot → Object → Type 0
IsUpIfRunning xs o = same_kind o.kind kind.Worker ≡ true → is_open o ≡ true → o.running ≡ true → IsUp xs o.serial

abbrev AreUp : List Slot → List Object → Type 0
AreUp xs os = AllByRecursion (IsUpIfRunning xs) os

abbrev RunUp : State → Type 0
RunUp s = AreUp s.slots s.objects

up-slots : (xs ys : List Slot) (os : List Object) → ((serial : Serial) → IsUp xs serial → IsUp ys serial) → AreUp xs os → AreUp ys os
up-slots xs ys os more h = all-each (IsUpIfRunning xs) (IsUpIfRunning ys) (λ o k w p r. more o.serial (k w p r)) os h

up-started : (worker : WorkerKey) (serial : Serial) (x : Slot) → is_up_at serial x ≡ true → is_up_at serial (up_if worker x) ≡ true
up-started worker serial x t = at (same_worker x.key worker)
  where
    at : (b : Bool) → (same_serial x.worker serial && is_up_phase (cond b phase.Up x.phase)) ≡ true
    at true = ap (λ b. b && true) (and_parts (same_serial x.worker serial) (is_up_phase x.phase) t).0
    at false = t

up-over : (down : List Serial) (why : Reason) (serial : Serial) → is_among down serial ≡ false → (x : Slot) → is_up_at serial x ≡ true → is_up_at serial (over_if down why x) ≡ true
up-over down why serial apart x t =
    let own : x.worker ≡ serial = serial-from x.worker serial (and_parts (same_serial x.worker serial) (is_up_phase x.phase) t).0 in
    ap (λ b. same_serial x.worker serial && is_up_phase (cond b (phase.Over (is_death why)) x.phase)) (ap (is_among down) own ∙ apart) ∙ t

up-fell : (objects : List Object) (down roots : List Serial) (why : Reason) (xs : List Slot) (o : Object) → IsUpIfRunning xs o
    → IsUpIfRunning (map (over_if down why) xs) (closed_if objects down roots why o)
up-fell objects down roots why xs o h = at (is_open o && is_among down o.serial) refl
  where
    at : (b : Bool) → (is_open o && is_among down o.serial) ≡ b
        → IsUpIfRunning (map (over_if down why) xs) (cond b (closed_by (reason_of objects down roots why o) o) o)
    at true e = λ w p r. absurd (true≢false (sym p))
    at false e =
        λ w p r.
        any-kept (is_up_at o.serial) (over_if down why) (up-over down why o.serial (sym (ap (λ b. b && is_among down o.serial) p) ∙ e)) xs (h w p r)

-- a mark that tells that a Worker runs is that of one that is up
abbrev IsMarkOf : List Slot → Serial → Mark → Type 0
IsMarkOf xs serial mark.Running = IsUp xs serial
IsMarkOf xs serial other = ⊤

up-mark : (xs : List Slot) (serial : Serial) (m : Mark) → IsMarkOf xs serial m → (o : Object) → o.serial ≡ serial → IsUpIfRunning xs o → IsUpIfRunning xs (marked m o)
up-mark xs serial mark.Running up o own h = λ w p r. subst (IsUp xs) (sym own) up
up-mark xs serial (mark.Paused b) up o own h = h
up-mark xs serial (mark.ProducerPaused b) up o own h = h
up-mark xs serial (mark.Far far) up o own h = h

up-marked : (xs : List Slot) (serial : Serial) (m : Mark) → IsMarkOf xs serial m → (os : List Object) → AreUp xs os → AreUp xs (with_mark serial m os)
up-marked xs serial m up os h = all-mapped (IsUpIfRunning xs) (IsUpIfRunning xs) (λ o. cond (has_serial serial o) (marked m o) o) (λ o k. at o k (has_serial serial o) refl) os h
  where
    at : (o : Object) → IsUpIfRunning xs o → (b : Bool) → has_serial serial o ≡ b → IsUpIfRunning xs (cond b (marked m o) o)
    at o k true e = up-mark xs serial m up o (serial-from o.serial serial e) k
    at o k false e = k

up-owner : (s : State) (o : Owner) (outcome : Outcome) (names : List (List ℕ)) → RunUp s → RunUp (owner_settled o outcome names s)
up-owner s (owner.Call call) outcome names h = h
up-owner s (owner.Job call part) outcome names h = h
up-owner s owner.Close outcome names h = h
up-owner s owner.Follow outcome names h = h

-- ---- falls

up-closed : (rs : List (Request Due)) (s : State) → RunUp s → RunUp (all_closed rs s)
up-closed [] s h = h
up-closed (r ∷ rs) s h = up-closed rs (request_closed r s) (up-owner s r.owner _ (names_of r.due) h)

up-sent_by : (channel : Option WorkerKey) (asked : Option Asked) (parent : Serial) (s : State) → RunUp s → RunUp (close_sent_by channel asked parent s)
up-sent_by (Some channel) (Some asked) parent s h = at (nat_lt (issued s.requests channel) max_id)
  where
    at : (b : Bool)
        → RunUp (cond b (request_issued channel owner.Close parent due.Nothing (payload_of (method_of asked) (ids_of asked) None (issued s.requests channel + 1)) s) s)
    at true = h
    at false = h
up-sent_by (Some channel) None parent s h = h
up-sent_by None asked parent s h = h

up-unless : (b : Bool) (s t : State) → RunUp s → RunUp t → RunUp (cond b s t)
up-unless true s t h k = h
up-unless false s t h k = k

up-sent_under : (parent : Option Serial) (down : List Serial) (o : Object) (s : State) → RunUp s → RunUp (close_sent_under parent down o s)
up-sent_under None down o s h = h
up-sent_under (Some parent) down o s h =
    up-unless (is_among down parent) s (close_sent_by (channel_of s.slots o.worker) (close_asked s.objects o) parent s) h
    (up-sent_by (channel_of s.slots o.worker) (close_asked s.objects o) parent s h)

up-sent_to : (o : Option Object) (down : List Serial) (s : State) → RunUp s → RunUp (close_sent_to o down s)
up-sent_to None down s h = h
up-sent_to (Some o) down s h = up-sent_under o.parent down o s h

up-closes : (down roots : List Serial) (why : Reason) (serials : List Serial) (s : State) → RunUp s → RunUp (closes_sent down roots why serials s)
up-closes down roots why [] s h = h
up-closes down roots why (serial ∷ serials) s h =
    up-closes down roots why serials (close_sent down roots why serial s)
    (up-unless (is_known why roots serial) s (close_sent_to (numbered s.objects serial) down s) h (up-sent_to (numbered s.objects serial) down s h))

up-fallen : (roots : List Serial) (why : Reason) (s : State) → RunUp s → RunUp (fallen roots why s)
up-fallen roots why s h =
    let down : List Serial = falls s.objects roots in
    let closed = objects_closed down roots why s in
    up-closes down roots why down (requests_closed down closed)
    (up-closed (filter (is_under down) (waiting s.requests)) (record closed { requests = settled_where (is_under down) s.requests })
    (all-mapped (IsUpIfRunning s.slots) (IsUpIfRunning (map (over_if down why) s.slots)) (closed_if s.objects down roots why) (up-fell s.objects down roots why s.slots) s.objects h))

-- ---- calls

up-closed_if : (b : Bool) (serial : Serial) (s : State) → RunUp s → RunUp (cond b (fallen (serial ∷ []) reason.Close s) s)
up-closed_if true serial s h = up-fallen (serial ∷ []) reason.Close s h
up-closed_if false serial s h = h

up-answered : (s : State) (call : CallKey) (op : Op) (a : Answer) → RunUp s → RunUp (answered call op a s)
up-answered s call op (Refuses outcome) h = h
up-answered s call op (AddsWorker name budget) h =
    let more : List Slot = s.slots ++ new_slot s name budget ∷ [] in
    all-with_object (IsUpIfRunning more) (new_worker s name) s.objects (λ w p r. absurd (true≢false (sym r)))
    (up-slots s.slots more s.objects (λ serial k. any-front (is_up_at serial) s.slots (new_slot s name budget ∷ []) k) h)
up-answered s call op (Issues r channel payload) h = h
up-answered s call op (Closes object) h = up-closed_if (is_open object) object.serial s h
up-answered s call op (Tells told) h = h
up-answered s call op (Sends channel producer packet) h = h

-- ---- what is to be made is no Worker

abbrev IsNoWorkerDue : Due → Type 0
IsNoWorkerDue (due.Opens object keeps) = same_kind object.kind kind.Worker ≡ false
IsNoWorkerDue (due.Turns paused) = ⊤
IsNoWorkerDue due.Nothing = ⊤

abbrev AreNoWorkers : List (Request Due) → Type 0
AreNoWorkers rs = AllByRecursion (λ (r : Request Due). IsNoWorkerDue r.due) rs

abbrev NoWorkersOn : Going → Type 0
NoWorkersOn g = AreNoWorkers (open_of g.taken g.state.requests)

no_worker-due : (k : Known) (r : asks.Request) (turn : Option Bool) (makes : Option Object) (keeps : Keep) → IfSome makes (IsNewUnder k.objects r.under)
    → IsNoWorkerDue (due_of turn makes keeps)
no_worker-due k r turn (Some o) keeps h = h.kind
no_worker-due k r (Some paused) None keeps h = tt
no_worker-due k r None None keeps h = tt

no_workers-asked : (taken : List (Request Due)) (rs : List Issued) (r : Request Due) → IsNoWorkerDue r.due → AreNoWorkers (open_of taken rs) → AreNoWorkers (open_of taken (with_request r rs))
no_workers-asked taken rs r due h =
    subst AreNoWorkers (sym (open-more taken rs r)) (all-append (λ (q : Request Due). IsNoWorkerDue q.due) (open_of taken rs) (r ∷ []) h (due, tt))

no_workers-owner : (calls : List CallKey) (taken : List (Request Due)) (s : State) (o : Owner) (outcome : Outcome) (names : List (List ℕ)) → NoWorkersOn (going calls taken s)
    → NoWorkersOn (going calls taken (owner_settled o outcome names s))
no_workers-owner calls taken s (owner.Call call) outcome names h = h
no_workers-owner calls taken s (owner.Job call part) outcome names h = h
no_workers-owner calls taken s owner.Close outcome names h = h
no_workers-owner calls taken s owner.Follow outcome names h = h

no_workers-change : BuildsNew → {g h : Going} → Change g h → NoWorkersOn g → NoWorkersOn h
no_workers-change b still w = w
no_workers-change b (both x y) w = no_workers-change b y (no_workers-change b x w)
no_workers-change b (notes ns plain) w = w
no_workers-change b (slots worker) w = w
no_workers-change b (streams xs) w = w
no_workers-change b (settles_call call outcome names) w = w
no_workers-change b (awaits a) w = w
no_workers-change b (asks_by {calls} {taken} {s} call op r channel payload is) w =
    no_workers-asked taken s.requests (new_request channel (issued s.requests channel + 1) (owner.Call call) r.under (due_by op r))
    (no_worker-due (known s) r (turn_of op) r.makes r.keeps (b (known s) op r is.built_is)) w
no_workers-change b (wants {calls} {taken} {s} call name budget) w = no_workers-asked taken s.requests (start_request call (as_serial s.next.serial)) tt w
no_workers-change b (asks_to_close {calls} {taken} {s} channel parent asked left) w =
    no_workers-asked taken s.requests (new_request channel (issued s.requests channel + 1) owner.Close parent due.Nothing) tt w
no_workers-change b (takes {calls} {taken} {s} key r e) w = all-taken (λ (q : Request Due). IsNoWorkerDue q.due) s.requests (has_key key) taken r e w
no_workers-change b (takes_none {calls} {taken} {s} key e) w = all-settled (λ (q : Request Due). IsNoWorkerDue q.due) s.requests (has_key key) taken w
no_workers-change b (opens {calls} {taken} {s} r object keeps o is same closed) w = (tt, w.1)
no_workers-change b (settles_taken {calls} {taken} {s} r outcome names) w = no_workers-owner calls taken s r.owner outcome names w.1
no_workers-change b (marks serial m keeps) w = w
no_workers-change b (falls_with {calls} {s} roots why) w =
    let down : List Serial = falls s.objects roots in
    all-fallen (λ (q : Request Due). IsNoWorkerDue q.due) (λ (q : Request Due). IsNoWorkerDue q.due) s.requests (is_under down) (λ r k e. k) (λ r. tt) w
no_workers-change b settles_awaits w = w

-- ---- what a worker says

-- a mark that doesn't tell that a Worker runs
abbrev IsQuietMark : Mark → Type 0
IsQuietMark mark.Running = ⊥
IsQuietMark other = ⊤

quiet-mark : (xs : List Slot) (serial : Serial) (m : Mark) → IsQuietMark m → IsMarkOf xs serial m
quiet-mark xs serial mark.Running quiet = absurd quiet
quiet-mark xs serial other quiet = tt

up-turned_from : (s : State) (m : Mark) → IsQuietMark m → (o : Option Object) → RunUp s → RunUp (turned_from o m s)
up-turned_from s m quiet None h = h
up-turned_from s m quiet (Some o) h = at (is_open o)
  where
    at : (b : Bool) → RunUp (cond b (all_noted (turn_notes o (marked m o)) (record s { objects = with_mark o.serial m s.objects })) s)
    at true = up-marked s.slots o.serial m (quiet-mark s.slots o.serial m quiet) s.objects h
    at false = h

up-turned : (s : State) (serial : Serial) (m : Mark) → IsQuietMark m → RunUp s → RunUp (turned serial m s)
up-turned s serial m quiet h = up-turned_from s m quiet (numbered s.objects serial) h

up-opened_by : (s : State) (r : Request Due) (object : Object) (keeps : Keep) → same_kind object.kind kind.Worker ≡ false → (o : Option Object) → IsMadeIfAny object o → RunUp s → RunUp (opened_by r keeps o s)
up-opened_by s r object keeps none None is h = up-owner s r.owner bad_data (names_of r.due) h
up-opened_by s r object keeps none (Some o) is h =
    up-owner (object_opened o keeps s) r.owner outcome.Done []
    (all-with_object (IsUpIfRunning s.slots) o s.objects
    (λ w p q. absurd (true≢false (sym w ∙ ap (λ (k : Kind). same_kind k kind.Worker) is.alike.kind ∙ none))) h)

up-accepted : (s : State) (r : Request Due) (content : Option Data) (d : Due) → IsNoWorkerDue d → RunUp s → RunUp (accepted_by d content r s)
up-accepted s r content (due.Opens object keeps) none h = up-opened_by s r object keeps none (made object object.kind content) (made-is object object.kind content) h
up-accepted s r content (due.Turns paused) none h =
    up-owner (turned r.under (mark.Paused paused) s) r.owner outcome.Done [] (up-turned s r.under (mark.Paused paused) tt h)
up-accepted s r content due.Nothing none h = up-owner s r.owner outcome.Done [] h

up-settled_with : (s : State) (r : Request Due) (a : AnswerView) → IsNoWorkerDue r.due → RunUp s → RunUp (settled_with a r s)
up-settled_with s r (accepted content) none h = up-accepted s r content r.due none h
up-settled_with s r (refused error why) none h = up-owner s r.owner (outcome.Worker error why) (names_of r.due) h

up-replied : (s : State) (worker : WorkerKey) (id : ℕ) (a : AnswerView) (r : Option (Request Due)) → waiting_for (is_on worker id) s.requests ≡ r → AreNoWorkers (waiting s.requests) → RunUp s → RunUp (replied_to r worker id a s)
up-replied s worker id a None e due h = h
up-replied s worker id a (Some r) e due h =
    up-settled_with (record s { requests = settled_where (is_on worker id) s.requests }) r a
    (all-found (λ (q : Request Due). IsNoWorkerDue q.due) (is_on worker id) (waiting s.requests) r due e) h

up-start_settled : (s : State) (r : Option (Request Due)) → RunUp s → RunUp (start_settled r s)
up-start_settled s None h = h
up-start_settled s (Some r) h = up-owner s r.owner outcome.Done [] h

up-says_it_runs : (s : State) (x : Slot) (b : Bool) → IsUp s.slots x.worker → RunUp s → RunUp (cond b (ran x s) (stray x s))
up-says_it_runs s x true up h =
    up-start_settled _ (waiting_for (is_start_of x.worker) s.requests)
    (up-marked s.slots x.worker mark.Running up s.objects h)
up-says_it_runs s x false up h = h

up-if_found : (s : State) (x : Slot) (change : Object → State → State) → ((o : Object) → RunUp (change o s)) → (o : Option Object) → RunUp s
    → RunUp (if_found x change o s)
up-if_found s x change here None h = h
up-if_found s x change here (Some o) h = here o

up-packet : (s : State) (x : Slot) (packet : List ℕ) (o : Option Object) → RunUp s → RunUp (packet_told x packet o s)
up-packet s x packet None h = h
up-packet s x packet (Some o) h = at (is_there kind.Direct (above s.objects o))
  where
    at : (b : Bool) → RunUp (cond b (comes_out packet o s) (stray x s))
    at true = h
    at false = h

up-noticed : (s : State) (x : Slot) (t : Told) → IsUp s.slots x.worker → RunUp s → RunUp (noticed x t s)
up-noticed s x told.Running up h = up-says_it_runs s x (is_starting (numbered s.objects x.worker)) up h
up-noticed s x (told.ProducerClosed id) up h = up-if_found s x _ (λ o. up-fallen (o.serial ∷ []) reason.ProducerClose s h) (object_of x kind.Consumer id s) h
up-noticed s x (told.ProducerPaused id) up h = up-if_found s x _ (λ o. up-turned s o.serial (mark.ProducerPaused true) tt h) (object_of x kind.Consumer id s) h
up-noticed s x (told.ProducerResumed id) up h = up-if_found s x _ (λ o. up-turned s o.serial (mark.ProducerPaused false) tt h) (object_of x kind.Consumer id s) h
up-noticed s x (told.TupleLearnt id tuple) up h = up-if_found s x _ (λ o. h) (object_of x kind.Plain id s) h
up-noticed s x told.Other up h = h

up-heard : (s : State) (x : Slot) (said : Option MessageView) → IsUp s.slots x.worker → AreNoWorkers (waiting s.requests) → RunUp s → RunUp (heard x said s)
up-heard s x None up due h = h
up-heard s x (Some (reply r)) up due h = up-replied s x.key r.id r.answer (waiting_for (is_on x.key r.id) s.requests) refl due h
up-heard s x (Some (notice n)) up due h = up-noticed s x (told_of n) up h
up-heard s x (Some (log level text)) up due h = h
up-heard s x (Some (rtp id packet)) up due h = up-packet s x packet (object_of x kind.Consumer id s) h

-- the slot that is found is up
found-up : (worker : WorkerKey) (xs : List Slot) (x : Slot) → up_slot xs worker ≡ Some x → IsUp xs x.worker
found-up worker [] x e = absurd cc
found-up worker (y ∷ ys) x e = at (same_worker y.key worker && is_up_phase y.phase) refl e (found-up worker ys x)
  where
    later : (b : Bool) → IsUp ys x.worker → (b || list_any (is_up_at x.worker) ys) ≡ true
    later true k = refl
    later false k = k

    at : (b : Bool) → (same_worker y.key worker && is_up_phase y.phase) ≡ b → cond b (Some y) (up_slot ys worker) ≡ Some x → (up_slot ys worker ≡ Some x → IsUp ys x.worker)
        → IsUp (y ∷ ys) x.worker
    at true t here rest =
        let same : y ≡ x = cc in
        let up : is_up_phase y.phase ≡ true = (and_parts (same_worker y.key worker) (is_up_phase y.phase) t).1 in
        let own : is_up_at x.worker y ≡ true = ap (λ (z : Slot). same_serial y.worker z.worker && is_up_phase y.phase) (sym same) ∙ ap (λ b. b && is_up_phase y.phase) (same-itself y.worker.0) ∙ up in
        ap (λ b. b || list_any (is_up_at x.worker) ys) own
    at false t there rest = later (is_up_at x.worker y) (rest there)

up-heard_by : (s : State) (worker : WorkerKey) (x : Option Slot) (said : Option MessageView) → up_slot s.slots worker ≡ x → AreNoWorkers (waiting s.requests) → RunUp s → RunUp (heard_by x said s)
up-heard_by s worker None said e due h = h
up-heard_by s worker (Some x) said e due h = up-heard s x said (found-up worker s.slots x e) due h

-- ---- each micro step

up-hear : (s : State) (m : Micro) → AreNoWorkers (waiting s.requests) → RunUp s → RunUp (hear s m)
up-hear s (Calls lane op) due h = up-answered (record s { calls = s.calls ++ next_call s.calls lane ∷ [] }) (next_call s.calls lane) op (answer s op) h
up-hear s (Awaits lane name event count) due h = h
up-hear s (Starting worker) due h =
    up-slots s.slots (map (up_if worker) s.slots) s.objects (λ serial k. any-kept (is_up_at serial) (up_if worker) (up-started worker serial) s.slots k) h
up-hear s (Comes worker bytes) due h = h
up-hear s (Says worker said) due h = up-heard_by s worker (up_slot s.slots worker) said refl due h
up-hear s (Breaks worker) due h = h

module _ (b : BuildsNew) where
  abbrev Running : State → Type 0
  Running s = AreNoWorkers (waiting s.requests) × RunUp s

  running-step : (s : State) (m : Micro) → Running s → Running (step s m)
  running-step s m h =
      let st = step-is s m in
      (no_workers-change b st.change (once-entered NoWorkersOn s (λ lane. h.0) (λ worker. h.0) h.0 m st.start st.entered), up-hear s m h.0 h.1)

  pub running-up : (j : Journal) → RunningHaveChannels (state_of j)
  running-up j =
      all-each (IsUpIfRunning (state_of j).slots) (HasChannelIfRunning (state_of j).slots)
      (λ o k w p r. any-found (is_up_at o.serial) (state_of j).slots ∙ k w p r) (state_of j).objects (along Running running-step (start j.seed) j.entries (tt, tt)).1
