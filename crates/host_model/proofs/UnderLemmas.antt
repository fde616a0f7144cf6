-- Each request that waits was issued under an open object: through each part of a micro step.
use Rattle.std.proofs.Common.{◌≡◌, ℕ, List, [], ◌∷◌, ◌++◌, map, nat_lt, ◌+◌, Bool, true, false, ◌&&◌, ◌||◌, cond, Option, Some, None, refl, sym, ap, ◌∙◌, subst, arith}
use Rattle.std.specs.Bool.{⊤}
use Rattle.std.specs.List.{AllByRecursion, filter, list_any}
use Rattle.std.specs.Option.{option_map}
use Rattle.std.proofs.lemmas.Bool.Decides.{nat_tests}
use Rattle.serde_json.specs.Data.{Data}
use Rattle.ms_base.specs.declared.keys.CallKey.{CallKey}
use Rattle.ms_base.specs.declared.keys.Kind.TheVariants as kind
use Rattle.ms_base.specs.declared.keys.Reason.{Reason}
use Rattle.ms_base.specs.declared.keys.Reason.TheVariants as reason
use Rattle.ms_base.specs.declared.keys.Serial.{Serial}
use Rattle.ms_base.specs.declared.keys.WorkerKey.{WorkerKey}
use Rattle.ms_base.specs.declared.op.Op.{Op}
use Rattle.ms_base.specs.declared.outcome.Outcome.{Outcome}
use Rattle.ms_base.specs.declared.outcome.Outcome.TheVariants as outcome
use Rattle.channel_msgs.specs.Read.{max_id}
use Rattle.channel_msgs.specs.View.{MessageView, reply, notice, log, rtp, AnswerView, accepted, refused}
use Rattle.object_tree.specs.declared.object.Mark.{Mark}
use Rattle.object_tree.specs.declared.object.Mark.TheVariants as mark
use Rattle.object_tree.specs.declared.object.Object.{Object}
use Rattle.object_tree.specs.Falls.{closed_by, falls, is_among}
use Rattle.object_tree.specs.Objects.{AreInOrder, has_serial, is_open, marked, numbered, same_serial, with_mark, with_object}
use Rattle.pending_calls.specs.declared.waiting.Owner.{Owner}
use Rattle.pending_calls.specs.declared.waiting.Owner.TheVariants as owner
use Rattle.request_build.specs.declared.built.Keep.{Keep}
use Rattle.request_build.specs.Built.{built}
use Rattle.request_build.specs.Close.{close_asked}
use Rattle.request_build.specs.Columns.{is_there}
use Rattle.request_build.specs.Known.{above}
use Rattle.reply_contents.specs.Notices.{told_of}
use Rattle.reply_contents.specs.declared.notice.Told.{Told}
use Rattle.reply_contents.specs.declared.notice.Told.TheVariants as told
use Rattle.request_contents.specs.Methods.{ids_of, method_of}
use Rattle.worker_requests.specs.declared.asked.Asked.{Asked}
use Rattle.host_requests.specs.declared.request.Request.{Request}
use Rattle.host_requests.specs.Requests.{is_on, is_start_of, is_under}
use Rattle.host_model.specs.declared.due.Due.{Due}
use Rattle.host_model.specs.declared.due.Due.TheVariants as due
use Rattle.host_model.specs.State.{State, Slot, Issued, channel_of, issued, names_of, next_call, settled_where, start, up_slot, waiting, waiting_for, with_request}
use Rattle.host_model.specs.Answer.{Answer, Refuses, AddsWorker, Issues, Closes, Tells, Sends, answer, known, payload_of}
use Rattle.host_model.specs.Changes.{all_noted, new_request, object_opened, owner_settled, request_issued, turn_notes, turned, turned_from}
use Rattle.host_model.specs.Falls.{all_closed, close_sent, close_sent_by, close_sent_to, close_sent_under, closes_sent, fallen, is_known, objects_closed, request_closed, requests_closed}
use Rattle.host_model.specs.Fit.{BuildsFit}
use Rattle.host_model.specs.Laws.{AreOnOpen, IsOnOpen, is_open_at}
use Rattle.host_model.specs.Run.{Journal, state_of}
use Rattle.host_model.specs.Standing.{IsUnderOpen, WaitUnderOpen}
use Rattle.host_model.specs.Step.{Micro, Calls, Awaits, Starting, Comes, Says, Breaks, accepted_by, answered, bad_data, comes_out, due_by, heard, heard_by, hear, if_found, is_starting, made, new_worker, noticed, object_of, opened_by, packet_told, ran, replied_to, settled_with, start_request, start_settled, step, stray}
use Rattle.host_model.proofs.Along.{along}
use Rattle.host_model.proofs.BuiltLemmas.{request-stands}
use Rattle.host_model.proofs.Changes.{IsFrom, answered-from, from-entered}
use Rattle.host_model.proofs.CloseLemmas.{AreTidy, tidy-start, tidy-step}
use Rattle.host_model.proofs.Counts.{all-append, all-each, same-itself}
use Rattle.host_model.proofs.FallLemmas.{FallsAreWhole, after_fall, all-both, all-numbered, any-mapped, any-with_object, falls_here, is_the_open, numbered-mapped, own-with_object, there-fallen, why_of}
use Rattle.host_model.proofs.Waiting.{all-others, all-settled, waiting-more, waiting-settled}

abbrev AreUnder : List Object → List Issued → Type 0
AreUnder xs rs = AllByRecursion (IsUnderOpen xs) (waiting rs)

-- ---- requests and objects that come, and objects that are changed

under-asked : (xs : List Object) (rs : List Issued) (r : Request Due) → IsUnderOpen xs r → AreUnder xs rs → AreUnder xs (with_request r rs)
under-asked xs rs r one h =
    subst (AllByRecursion (IsUnderOpen xs)) (sym (waiting-more rs r)) (all-append (IsUnderOpen xs) (waiting rs) (r ∷ []) h (one, tt))

under-settled : (xs : List Object) (rs : List Issued) (test : Request Due → Bool) → AreUnder xs rs → AreUnder xs (settled_where test rs)
under-settled xs rs test h = all-settled (IsUnderOpen xs) rs test [] h

under-opened : (o : Object) (xs : List Object) (rs : List Issued) → AreUnder xs rs → AreUnder (with_object o xs) rs
under-opened o xs rs h = all-each (IsUnderOpen xs) (IsUnderOpen (with_object o xs)) (λ r k. any-with_object (is_the_open r.under) o xs k) (waiting rs) h

open-marked : (m : Mark) (serial : Serial) (o : Object) → is_the_open serial (marked m o) ≡ is_the_open serial o
open-marked mark.Running serial o = refl
open-marked (mark.Paused b) serial o = refl
open-marked (mark.ProducerPaused b) serial o = refl
open-marked (mark.Far far) serial o = refl

open-chosen : (m : Mark) (serial : Serial) (o : Object) (b : Bool) → is_the_open serial (cond b (marked m o) o) ≡ is_the_open serial o
open-chosen m serial o true = open-marked m serial o
open-chosen m serial o false = refl

under-marked : (at : Serial) (m : Mark) (xs : List Object) (rs : List Issued) → AreUnder xs rs → AreUnder (with_mark at m xs) rs
under-marked at m xs rs h =
    all-each (IsUnderOpen xs) (IsUnderOpen (with_mark at m xs))
    (λ r k. any-mapped (is_the_open r.under) (λ o. cond (has_serial at o) (marked m o) o) (λ o. open-chosen m r.under o (has_serial at o)) xs ∙ k) (waiting rs) h

under-owner : (s : State) (o : Owner) (outcome : Outcome) (names : List (List ℕ)) → WaitUnderOpen s → WaitUnderOpen (owner_settled o outcome names s)
under-owner s (owner.Call call) outcome names h = h
under-owner s (owner.Job call part) outcome names h = h
under-owner s owner.Close outcome names h = h
under-owner s owner.Follow outcome names h = h

-- ---- falls

serial-turned : (a b : Serial) → same_serial a b ≡ same_serial b a
serial-turned a b = grind (arith, nat_tests)

among-turned : (serials : List Serial) (serial : Serial) → list_any (λ s. same_serial serial s) serials ≡ is_among serials serial
among-turned [] serial = refl
among-turned (s ∷ ss) serial = (λ i. (serial-turned serial s i) || (among-turned ss serial i))

-- the requests of a state with these objects
abbrev UnderIn : List Object → State → Type 0
UnderIn ys s = (s.objects ≡ ys) × AreUnder ys s.requests

under_in-owner : (ys : List Object) (s : State) (o : Owner) (outcome : Outcome) (names : List (List ℕ)) → UnderIn ys s → UnderIn ys (owner_settled o outcome names s)
under_in-owner ys s (owner.Call call) outcome names h = h
under_in-owner ys s (owner.Job call part) outcome names h = h
under_in-owner ys s owner.Close outcome names h = h
under_in-owner ys s owner.Follow outcome names h = h

under_in-closed : (ys : List Object) (rs : List (Request Due)) (s : State) → UnderIn ys s → UnderIn ys (all_closed rs s)
under_in-closed ys [] s h = h
under_in-closed ys (r ∷ rs) s h = under_in-closed ys rs (request_closed r s) (under_in-owner ys s r.owner _ (names_of r.due) h)

-- what an object stands on is open, unless it is among the fallen
abbrev StandsOn : List Object → List Serial → Option Serial → Type 0
StandsOn ys down parent = (p : Serial) → parent ≡ Some p → is_among down p ≡ false → is_open_at ys p ≡ true

abbrev StandsIfAny : List Object → List Serial → Option Object → Type 0
StandsIfAny ys down None = ⊤
StandsIfAny ys down (Some o) = StandsOn ys down o.parent

module _ (ys : List Object) (down : List Serial) where
  sent_by-under : (channel : Option WorkerKey) (asked : Option Asked) (parent : Serial) (s : State) → is_open_at ys parent ≡ true → UnderIn ys s
      → UnderIn ys (close_sent_by channel asked parent s)
  sent_by-under (Some channel) (Some asked) parent s stands h = at (nat_lt (issued s.requests channel) max_id)
    where
      at : (b : Bool)
          → UnderIn ys (cond b (request_issued channel owner.Close parent due.Nothing (payload_of (method_of asked) (ids_of asked) None (issued s.requests channel + 1)) s) s)
      at true = (h.0, under-asked ys s.requests (new_request channel (issued s.requests channel + 1) owner.Close parent due.Nothing) stands h.1)
      at false = h
  sent_by-under (Some channel) None parent s stands h = h
  sent_by-under None asked parent s stands h = h

  sent_under-under : (parent : Option Serial) (o : Object) (s : State) → StandsOn ys down parent → UnderIn ys s → UnderIn ys (close_sent_under parent down o s)
  sent_under-under None o s stands h = h
  sent_under-under (Some parent) o s stands h = at (is_among down parent) refl
    where
      at : (b : Bool) → is_among down parent ≡ b → UnderIn ys (cond b s (close_sent_by (channel_of s.slots o.worker) (close_asked s.objects o) parent s))
      at true e = h
      at false e = sent_by-under (channel_of s.slots o.worker) (close_asked s.objects o) parent s (stands parent refl e) h

  sent_to-under : (o : Option Object) (s : State) → StandsIfAny ys down o → UnderIn ys s → UnderIn ys (close_sent_to o down s)
  sent_to-under None s stands h = h
  sent_to-under (Some o) s stands h = sent_under-under o.parent o s stands h

  sent-under : (roots : List Serial) (why : Reason) (serial : Serial) (s : State) → StandsIfAny ys down (numbered ys serial) → UnderIn ys s
      → UnderIn ys (close_sent down roots why serial s)
  sent-under roots why serial s stands h = at (is_known why roots serial)
    where
      at : (b : Bool) → UnderIn ys (cond b s (close_sent_to (numbered s.objects serial) down s))
      at true = h
      at false = sent_to-under (numbered s.objects serial) s (subst (λ xs. StandsIfAny ys down (numbered xs serial)) (sym h.0) stands) h

  closes-under : (roots : List Serial) (why : Reason) (serials : List Serial) (s : State) → AllByRecursion (λ (n : Serial). StandsIfAny ys down (numbered ys n)) serials → UnderIn ys s
      → UnderIn ys (closes_sent down roots why serials s)
  closes-under roots why [] s stands h = h
  closes-under roots why (serial ∷ serials) s stands h =
      closes-under roots why serials (close_sent down roots why serial s) stands.1 (sent-under roots why serial s stands.0 h)

module _ (whole : FallsAreWhole) (roots : List Serial) (why : Reason) (s : State) (rising : AreInOrder s.objects) (on_open : AreOnOpen s.objects) where
  abbrev down : List Serial
  down = falls s.objects roots

  abbrev later : List Object
  later = map (after_fall whole s.objects roots why) s.objects

  stays-there : (serial : Serial) → is_open_at s.objects serial ≡ true → is_among down serial ≡ false → is_open_at later serial ≡ true
  stays-there serial h apart = there-fallen whole s.objects roots why serial h (among-turned down serial ∙ apart)

  -- an object that falls was open, and so was what it stands on
  abbrev Was : Object → Type 0
  Was x = (numbered s.objects x.serial ≡ Some x) × IsOnOpen s.objects x

  parent-stands : (x : Object) → Was x → falls_here whole s.objects roots why x ≡ true → StandsIfAny later down (numbered later x.serial)
  parent-stands x was t =
      subst (StandsIfAny later down)
      (sym (numbered-mapped (after_fall whole s.objects roots why) (λ y. serial-kept y (falls_here whole s.objects roots why y)) s.objects x.serial ∙ ap (option_map (after_fall whole s.objects roots why)) was.0))
      (λ p is apart. stays-there p (was.1 (whole.opened s.objects roots x t) p (parent-kept x (falls_here whole s.objects roots why x) p is)) apart)
    where
      serial-kept : (y : Object) (b : Bool) → (cond b (closed_by (why_of whole s.objects roots why y) y) y).serial ≡ y.serial
      serial-kept y true = refl
      serial-kept y false = refl

      parent-kept : (y : Object) (b : Bool) (p : Serial) → (cond b (closed_by (why_of whole s.objects roots why y) y) y).parent ≡ Some p → y.parent ≡ Some p
      parent-kept y true p e = e
      parent-kept y false p e = e

  abbrev AllStand : List Object → Type 0
  AllStand xs = AllByRecursion (λ (n : Serial). StandsIfAny later down (numbered later n)) (map (λ (y : Object). y.serial) xs)

  parents-stand : (zs : List Object) → AllByRecursion Was zs → AllStand (filter (falls_here whole s.objects roots why) zs)
  parents-stand [] h = tt
  parents-stand (z ∷ zs) h = at (falls_here whole s.objects roots why z) refl (parents-stand zs h.1)
    where
      at : (b : Bool) → falls_here whole s.objects roots why z ≡ b → AllStand (filter (falls_here whole s.objects roots why) zs)
          → AllStand (cond b (z ∷ filter (falls_here whole s.objects roots why) zs) (filter (falls_here whole s.objects roots why) zs))
      at true t rest = (parent-stands z h.0 t, rest)
      at false t rest = rest

  under-fallen : WaitUnderOpen s → WaitUnderOpen (fallen roots why s)
  under-fallen h =
      let settled : AreUnder later (settled_where (is_under down) s.requests) =
      subst (AllByRecursion (IsUnderOpen later)) (sym (waiting-settled (is_under down) s.requests))
      (all-others (IsUnderOpen s.objects) (IsUnderOpen later) (is_under down) (λ r k apart. there-fallen whole s.objects roots why r.under k apart) (waiting s.requests) h) in
      let closed = objects_closed down roots why s in
      let rest = under_in-closed later (filter (is_under down) (waiting s.requests)) (record closed { requests = settled_where (is_under down) s.requests })
      (whole.exactly s.objects roots why rising, settled) in
      let was = all-both (λ (x : Object). numbered s.objects x.serial ≡ Some x) (IsOnOpen s.objects) Was s.objects (λ x a b. (a, b)) (all-numbered s.objects rising) on_open in
      let end = closes-under later down roots why down (requests_closed down closed) (parents-stand s.objects was) rest in
      subst (λ xs. AreUnder xs (fallen roots why s).requests) (sym end.0) end.1

-- ---- calls

module _ (whole : FallsAreWhole) (s : State) (rising : AreInOrder s.objects) (on_open : AreOnOpen s.objects) where
  under-closed : (b : Bool) (serial : Serial) → WaitUnderOpen s → WaitUnderOpen (cond b (fallen (serial ∷ []) reason.Close s) s)
  under-closed true serial h = under-fallen whole (serial ∷ []) reason.Close s rising on_open h
  under-closed false serial h = h

  under-answered : (call : CallKey) (op : Op) (a : Answer) → IsFrom s op a → WaitUnderOpen s → WaitUnderOpen (answered call op a s)
  under-answered call op (Refuses outcome) from h = h
  under-answered call op (AddsWorker name budget) from h =
      let worker = new_worker s name in
      under-asked (with_object worker s.objects) s.requests (start_request call worker.serial)
      (own-with_object (is_the_open worker.serial) worker (ap (λ b. b && true) (same-itself s.next.serial)) s.objects) (under-opened worker s.objects s.requests h)
  under-answered call op (Issues r channel payload) from h =
      under-asked s.objects s.requests (new_request channel (issued s.requests channel + 1) (owner.Call call) r.under (due_by op r))
      (request-stands (known s) op r from.built_is).on_open h
  under-answered call op (Closes object) from h = under-closed (is_open object) object.serial h
  under-answered call op (Tells told) from h = h
  under-answered call op (Sends channel producer packet) from h = h

-- ---- what a worker says

under-turned_from : (s : State) (m : Mark) (o : Option Object) → WaitUnderOpen s → WaitUnderOpen (turned_from o m s)
under-turned_from s m None h = h
under-turned_from s m (Some o) h = at (is_open o)
  where
    at : (b : Bool) → WaitUnderOpen (cond b (all_noted (turn_notes o (marked m o)) (record s { objects = with_mark o.serial m s.objects })) s)
    at true = under-marked o.serial m s.objects s.requests h
    at false = h

under-turned : (s : State) (serial : Serial) (m : Mark) → WaitUnderOpen s → WaitUnderOpen (turned serial m s)
under-turned s serial m h = under-turned_from s m (numbered s.objects serial) h

under-opened_by : (s : State) (r : Request Due) (keeps : Keep) (o : Option Object) → WaitUnderOpen s → WaitUnderOpen (opened_by r keeps o s)
under-opened_by s r keeps None h = under-owner s r.owner bad_data (names_of r.due) h
under-opened_by s r keeps (Some o) h = under-owner (object_opened o keeps s) r.owner outcome.Done [] (under-opened o s.objects s.requests h)

under-accepted : (s : State) (r : Request Due) (content : Option Data) (d : Due) → WaitUnderOpen s → WaitUnderOpen (accepted_by d content r s)
under-accepted s r content (due.Opens object keeps) h = under-opened_by s r keeps (made object object.kind content) h
under-accepted s r content (due.Turns paused) h =
    under-owner (turned r.under (mark.Paused paused) s) r.owner outcome.Done [] (under-turned s r.under (mark.Paused paused) h)
under-accepted s r content due.Nothing h = under-owner s r.owner outcome.Done [] h

under-settled_with : (s : State) (r : Request Due) (a : AnswerView) → WaitUnderOpen s → WaitUnderOpen (settled_with a r s)
under-settled_with s r (accepted content) h = under-accepted s r content r.due h
under-settled_with s r (refused error why) h = under-owner s r.owner (outcome.Worker error why) (names_of r.due) h

under-replied : (s : State) (worker : WorkerKey) (id : ℕ) (a : AnswerView) (r : Option (Request Due)) → WaitUnderOpen s → WaitUnderOpen (replied_to r worker id a s)
under-replied s worker id a None h = h
under-replied s worker id a (Some r) h =
    under-settled_with (record s { requests = settled_where (is_on worker id) s.requests }) r a (under-settled s.objects s.requests (is_on worker id) h)

under-start_settled : (s : State) (r : Option (Request Due)) → WaitUnderOpen s → WaitUnderOpen (start_settled r s)
under-start_settled s None h = h
under-start_settled s (Some r) h = under-owner s r.owner outcome.Done [] h

under-says_it_runs : (s : State) (x : Slot) (b : Bool) → WaitUnderOpen s → WaitUnderOpen (cond b (ran x s) (stray x s))
under-says_it_runs s x true h =
    under-start_settled _ (waiting_for (is_start_of x.worker) s.requests)
    (under-marked x.worker mark.Running s.objects (settled_where (is_start_of x.worker) s.requests) (under-settled s.objects s.requests (is_start_of x.worker) h))
under-says_it_runs s x false h = h

under-if_found : (s : State) (x : Slot) (change : Object → State → State) → ((o : Object) → WaitUnderOpen (change o s)) → (o : Option Object) → WaitUnderOpen s
    → WaitUnderOpen (if_found x change o s)
under-if_found s x change here None h = h
under-if_found s x change here (Some o) h = here o

under-packet : (s : State) (x : Slot) (packet : List ℕ) (o : Option Object) → WaitUnderOpen s → WaitUnderOpen (packet_told x packet o s)
under-packet s x packet None h = h
under-packet s x packet (Some o) h = at (is_there kind.Direct (above s.objects o))
  where
    at : (b : Bool) → WaitUnderOpen (cond b (comes_out packet o s) (stray x s))
    at true = h
    at false = h

module _ (whole : FallsAreWhole) (s : State) (rising : AreInOrder s.objects) (on_open : AreOnOpen s.objects) where
  under-noticed : (x : Slot) (t : Told) → WaitUnderOpen s → WaitUnderOpen (noticed x t s)
  under-noticed x told.Running h = under-says_it_runs s x (is_starting (numbered s.objects x.worker)) h
  under-noticed x (told.ProducerClosed id) h =
      under-if_found s x _ (λ o. under-fallen whole (o.serial ∷ []) reason.ProducerClose s rising on_open h) (object_of x kind.Consumer id s) h
  under-noticed x (told.ProducerPaused id) h = under-if_found s x _ (λ o. under-turned s o.serial (mark.ProducerPaused true) h) (object_of x kind.Consumer id s) h
  under-noticed x (told.ProducerResumed id) h = under-if_found s x _ (λ o. under-turned s o.serial (mark.ProducerPaused false) h) (object_of x kind.Consumer id s) h
  under-noticed x (told.TupleLearnt id tuple) h = under-if_found s x _ (λ o. h) (object_of x kind.Plain id s) h
  under-noticed x told.Other h = h

  under-heard : (x : Slot) (said : Option MessageView) → WaitUnderOpen s → WaitUnderOpen (heard x said s)
  under-heard x None h = h
  under-heard x (Some (reply r)) h = under-replied s x.key r.id r.answer (waiting_for (is_on x.key r.id) s.requests) h
  under-heard x (Some (notice n)) h = under-noticed x (told_of n) h
  under-heard x (Some (log level text)) h = h
  under-heard x (Some (rtp id packet)) h = under-packet s x packet (object_of x kind.Consumer id s) h

  under-heard_by : (x : Option Slot) (said : Option MessageView) → WaitUnderOpen s → WaitUnderOpen (heard_by x said s)
  under-heard_by None said h = h
  under-heard_by (Some x) said h = under-heard x said h

  -- ---- each micro step

  under-hear : (m : Micro) → WaitUnderOpen s → WaitUnderOpen (hear s m)
  under-hear (Calls lane op) h =
      let calls = s.calls ++ next_call s.calls lane ∷ [] in
      under-answered whole (record s { calls = calls }) rising on_open (next_call s.calls lane) op (answer s op)
      (from-entered s calls op (answer s op) (answered-from s op (built (known s) op) refl)) h
  under-hear (Awaits lane name event count) h = h
  under-hear (Starting worker) h = h
  under-hear (Comes worker bytes) h = h
  under-hear (Says worker said) h = under-heard_by (up_slot s.slots worker) said h
  under-hear (Breaks worker) h = h

module _ (b : BuildsFit) (whole : FallsAreWhole) where
  abbrev Stands : State → Type 0
  Stands s = AreTidy b whole s × WaitUnderOpen s

  stands-step : (s : State) (m : Micro) → Stands s → Stands (step s m)
  stands-step s m h = (tidy-step b whole s m h.0, under-hear whole s h.0.0.ascending h.0.1.stands m h.1)

  pub under-after : (j : Journal) → WaitUnderOpen (state_of j)
  under-after j = (along Stands stands-step (start j.seed) j.entries (tidy-start b whole j.seed, tt)).1
