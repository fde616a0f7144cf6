-- How a worker is served event by event: what holds of all events so far.
use Rattle.std.proofs.Common.{◌≡◌, ℕ, List, [], ◌∷◌, ◌++◌, map, Bool, false, Option, Some, None, Ok, Err, refl, sym, ap, subst, ◌∙◌, append_assoc}
use Rattle.std.proofs.lemmas.List.{append-nil}
use Rattle.channel_frames.specs.Frames.{frame, frames, rest_of, new_frames, begins_too_long}
use Rattle.channel_frames.specs.Reading.{Reading, unstarted}
use Rattle.ms_devices.specs.Told.{Tells, AddsOne}
use Rattle.ms_devices.specs.declared.events.GivenEvent.{GivenEvent}
use Rattle.ms_devices.specs.declared.events.GivenEvent.TheVariants as given
use Rattle.ms_devices.specs.declared.events.OutCall.{OutCall}
use Rattle.ms_devices.specs.declared.events.OutCall.TheVariants as call
use Rattle.worker_calls.specs.Requests.{notify}
use Rattle.worker_calls.specs.State.{Worker, idle}
use Rattle.worker_engine.specs.Outside.{call_of, unanswered}
use Rattle.worker_engine.specs.Run.{Event, payload, datagram}
use Rattle.worker_requests.specs.declared.notice.WorkerNotice.TheVariants.{Running}
use Rattle.worker_requests.specs.Said.{notice_payload}
use Rattle.worker_serve.specs.Hearing.{FrameLaws, IsReadTo, IsTrueOf, channel_bytes, events_at}
use Rattle.worker_serve.specs.Sending.{AddsBy, CountsTo, Goes, IsCut, IsNoBreak, ServedTo, Serves}
use Rattle.worker_serve.specs.ServeEnds.{GivenBy, MadeBy, ReadsBy, WritesBy, end_of}
use Rattle.worker_serve.specs.Serving.{AreHeard, IsBegun, IsCutShort, IsOutput, IsToTheEnd, IsUnbroken, answers_in, events_behind, events_of, is_waiting, stream_of}
use Rattle.worker_serve.specs.declared.fault.ServeFault.{ServeFault}
use Rattle.worker_serve.specs.declared.fault.ServeFault.TheVariants as fault
use Rattle.worker_serve.proofs.EventLemmas.{all_heard, served_then, serves_nothing, serves_then}
use Rattle.worker_serve.proofs.SendingLemmas.{adds_so, tells_so, tells_then}

-- ---- one event more

stream-more : (events : List GivenEvent) (e : GivenEvent) → stream_of (events ++ e ∷ []) ≡ stream_of events ++ channel_bytes e
stream-more [] (given.Channel bytes) = append-nil bytes
stream-more [] (given.Datagram link from packet) = refl
stream-more [] given.End = refl
stream-more (given.Channel bytes ∷ later) e = ap (λ (x : List ℕ). bytes ++ x) (stream-more later e) ∙ sym (append_assoc bytes (stream_of later) (channel_bytes e))
stream-more (given.Datagram link from packet ∷ later) e = stream-more later e
stream-more (given.End ∷ later) e = stream-more later e

events-more :
    FrameLaws → (stream : List ℕ) (events : List GivenEvent) (e : GivenEvent)
    → events_behind stream (events ++ e ∷ []) ≡ events_behind stream events ++ events_at (rest_of (stream ++ stream_of events)) e
events-more laws stream [] (given.Channel bytes) =
    append-nil (map payload (new_frames stream bytes))
    ∙ (ap (λ (ps : List (List ℕ)). map payload ps) (laws.fresh stream bytes) ∙ ap (λ (x : List ℕ). map payload (frames (rest_of x ++ bytes))) (sym (append-nil stream)))
events-more laws stream [] (given.Datagram link from packet) = refl
events-more laws stream [] given.End = refl
events-more laws stream (given.Channel bytes ∷ later) e =
    let first = map payload (new_frames stream bytes) in
    let behind = events_behind (stream ++ bytes) later in
    ap (λ (x : List Event). first ++ x) (events-more laws (stream ++ bytes) later e)
    ∙ (ap (λ (x : List ℕ). first ++ (behind ++ events_at (rest_of x) e)) (append_assoc stream bytes (stream_of later))
    ∙ sym (append_assoc first behind (events_at (rest_of (stream ++ (bytes ++ stream_of later))) e)))
events-more laws stream (given.Datagram link from packet ∷ later) e = ap (λ (x : List Event). datagram link from packet ∷ x) (events-more laws stream later e)
events-more laws stream (given.End ∷ later) e = events-more laws stream later e

-- ---- what is heard so far

-- all that was given so far is read
abbrev pub HasRead : Reading → List GivenEvent → Type 0
HasRead r events = IsReadTo r (stream_of events)

unread-is : FrameLaws → (r : Reading) (stream : List ℕ) → IsReadTo r stream → r.unread ≡ rest_of stream
unread-is laws r stream read = sym (laws.no_frames r.unread read.none_left) ∙ ap (λ (x : Reading). x.unread) read.same

new-events : FrameLaws → (r : Reading) (events : List GivenEvent) (e : GivenEvent) → HasRead r events → events_of (events ++ e ∷ []) ≡ events_of events ++ events_at r.unread e
new-events laws r events e read =
    events-more laws [] events e ∙ ap (λ (x : List ℕ). events_of events ++ events_at x e) (sym (unread-is laws r (stream_of events) read))

-- the next event is read
pub read_more :
    (r s : Reading) (e : GivenEvent) → ((stream : List ℕ) → IsReadTo r stream → IsReadTo s (stream ++ channel_bytes e))
    → (events : List GivenEvent) → HasRead r events → HasRead s (events ++ e ∷ [])
read_more r s e read events so-far = subst (IsReadTo s) (sym (stream-more events e)) (read (stream_of events) so-far)

-- ---- what is served so far

-- the call by which the worker says that it runs
abbrev pub running : OutCall
running = call_of (notify Running)

-- all that was given so far is served, and the worker is left in this state
pub record HasServed (w : Worker) (events : List GivenEvent) (calls : List OutCall) : Type 0 where
  pub later : List OutCall
  pub calls_are : calls ≡ running ∷ later
  pub served : Serves idle (events_of events) w later

-- what the next event adds
pub served_more :
    FrameLaws → (w v : Worker) (r : Reading) (e : GivenEvent) (events : List GivenEvent) (calls added : List OutCall)
    → HasRead r events → HasServed w events calls → (is_waiting w ≡ false → Serves w (events_at r.unread e) v added) → HasServed v (events ++ e ∷ []) (calls ++ added)
served_more laws w v r e events calls added read so-far next =
    record {
      later = so-far.later ++ added;
      calls_are = ap (λ (x : List OutCall). x ++ added) so-far.calls_are;
      served =
          subst (λ (es : List Event). Serves idle es v (so-far.later ++ added)) (sym (new-events laws r events e read))
          (serves_then idle w v (events_of events) (events_at r.unread e) so-far.later added so-far.served (next so-far.served.answered));
    }

heard-running : (given : List Event) (calls later : List OutCall) (events : List Event) → calls ≡ running ∷ later → AreHeard idle given later events → AreHeard idle given calls events
heard-running given calls later events is heard =
    record { given_is = heard.given_is; answers_are = heard.answers_are ∙ ap answers_in (sym is); in_step = heard.in_step }

-- it is the output
pub output_is : (w : Worker) (events : List GivenEvent) (calls : List OutCall) → HasServed w events calls → IsOutput events calls
output_is w events calls so-far =
    let s = so-far.served in
    record {
      events = s.events;
      heard = heard-running (events_of events) calls so-far.later s.events so-far.calls_are s.heard;
      answered = ap is_waiting (sym s.state) ∙ s.answered;
      output = ap (λ (x : List OutCall). map unanswered x) so-far.calls_are ∙ ap (λ (x : List OutCall). running ∷ x) s.sent;
    }

begun-by :
    (f : ServeFault) (events : List GivenEvent) (calls later : List OutCall) (is : calls ≡ running ∷ later) (c : IsCut f idle (events_of events) later) → IsBegun events calls c.events
begun-by f events calls later is c =
    record { first = c.first; rest = c.rest; given_is = c.given_is; heard = heard-running c.first calls later c.events is c.heard }

-- where a fault ended it
made-by :
    (f : ServeFault) (events : List GivenEvent) (calls later : List OutCall) → calls ≡ running ∷ later → ServedTo f idle (events_of events) later → MadeBy (end_of f) events calls
made-by fault.Write events calls later is c =
    record {
      events = c.events;
      begun = begun-by fault.Write events calls later is c;
      made = running ∷ c.sent.made;
      bytes = c.sent.bytes;
      later = c.sent.later;
      output = ap (λ (x : List OutCall). running ∷ x) c.sent.whole_is;
      calls_are = ap (λ (x : List OutCall). map unanswered x) is ∙ ap (λ (x : List OutCall). running ∷ x) c.sent.calls_are;
    }
made-by (fault.TooLong place told) events calls later is c = output_is c.0 events calls (record { later = later; calls_are = is; served = c.1 })
made-by fault.NoMemory events calls later is c =
    record {
      events = c.events;
      begun = begun-by fault.NoMemory events calls later is c;
      later = c.sent.0;
      output = ap (λ (x : List OutCall). running ∷ x) c.sent.1 ∙ ap (λ (x : List OutCall). map unanswered x ++ c.sent.0) (sym is);
    }

pub output_stops :
    FrameLaws → (f : ServeFault) (w : Worker) (r : Reading) (e : GivenEvent) (events : List GivenEvent) (calls added : List OutCall)
    → HasRead r events → HasServed w events calls → (is_waiting w ≡ false → ServedTo f w (events_at r.unread e) added) → MadeBy (end_of f) (events ++ e ∷ []) (calls ++ added)
output_stops laws f w r e events calls added read so-far next =
    made-by f (events ++ e ∷ []) (calls ++ added) (so-far.later ++ added) (ap (λ (x : List OutCall). x ++ added) so-far.calls_are)
    (subst (λ (es : List Event). ServedTo f idle es (so-far.later ++ added)) (sym (new-events laws r events e read))
    (served_then f idle w (events_of events) (events_at r.unread e) so-far.later added so-far.served (next so-far.served.answered)))

-- what was given where a fault ends it
pub given_stops :
    (f : ServeFault) (r : Reading) (e : GivenEvent) → ((stream : List ℕ) → IsReadTo r stream → IsTrueOf (stream ++ channel_bytes e) f)
    → (events : List GivenEvent) → HasRead r events → GivenBy (end_of f) (events ++ e ∷ [])
given_stops fault.Write r e break events read = tt
given_stops (fault.TooLong place told) r e break events read =
    subst (λ (s : List ℕ). IsTrueOf s (fault.TooLong place told)) (sym (stream-more events e)) (break (stream_of events) read)
given_stops fault.NoMemory r e break events read = tt

pub output_short : (w : Worker) (events : List GivenEvent) (calls : List OutCall) → HasServed w events calls → IsCutShort events calls
output_short w events calls so-far =
    made-by fault.NoMemory events calls so-far.later so-far.calls_are (all_heard idle w (events_of events) so-far.later so-far.served)

-- ---- the beginning

pub read_nothing : FrameLaws → (r : Reading) → r ≡ unstarted → HasRead r []
read_nothing laws r unread =
    subst (λ (x : Reading). IsReadTo x []) (sym unread) (record { none_left = laws.none; same = refl; unbroken = ap begins_too_long laws.no_rest })

-- a call on the channel tells no answer
channel-is : (c : OutCall) (bytes : List ℕ) (failed : Bool) → unanswered c ≡ call.Channel bytes failed → c ≡ call.Channel bytes failed
channel-is (call.Bind link ip port) bytes failed is = absurd cc
channel-is (call.Shut link) bytes failed is = absurd cc
channel-is (call.Channel b f) bytes failed is = is
channel-is (call.Datagram link to packet f) bytes failed is = absurd cc

running-is : (added : List OutCall) → map unanswered added ≡ running ∷ [] → added ≡ running ∷ []
running-is [] is = absurd cc
running-is (c ∷ []) is =
    let one : unanswered c ≡ running = cc in
    ap (λ (x : OutCall). x ∷ []) (channel-is c (frame (notice_payload Running)) false one)
running-is (c ∷ d ∷ more) is = absurd cc

-- the worker has said that it runs
pub served_nothing : (w : Worker) → w ≡ idle → (added : List OutCall) → Goes (Ok (tt {0})) (running ∷ []) added → HasServed w [] added
served_nothing w is added goes =
    record { later = []; calls_are = running-is added goes.sent; served = subst (λ (x : Worker). Serves idle [] x []) (sym is) (serves_nothing idle refl) }

pub started_all : (T : Type 0) (x : T) (before now : Option (List OutCall)) → Tells (AddsBy (Goes (Ok x) (running ∷ []))) before now → Tells (AddsBy (Goes (Ok (tt {0})) (running ∷ []))) before now
started_all T x before now sent =
    adds_so (Goes (Ok x) (running ∷ [])) (Goes (Ok (tt {0})) (running ∷ [])) (λ a goes. record { sent = goes.sent; no_answers = goes.no_answers }) before now sent

pub started_cut :
    (T : Type 0) (f : ServeFault) (before now : Option (List OutCall)) → Tells (AddsBy (Goes {T = T} (Err f) (running ∷ []))) before now
    → Tells (AddsBy (Goes {T = Unit {0}} (Err f) (running ∷ []))) before now
started_cut T f before now sent =
    adds_so (Goes {T = T} (Err f) (running ∷ [])) (Goes {T = Unit {0}} (Err f) (running ∷ [])) (λ a goes. record { sent = goes.sent; no_answers = goes.no_answers }) before now sent

pub start_given : (f : ServeFault) → IsNoBreak f → GivenBy (end_of f) []
start_given fault.Write none = tt
start_given (fault.TooLong place told) none = absurd none
start_given fault.NoMemory none = tt

begun-nothing : (added : List OutCall) → answers_in added ≡ [] → IsBegun [] added []
begun-nothing added none =
    record { first = []; rest = []; given_is = refl; heard = record { given_is = refl; answers_are = sym none; in_step = tt } }

-- it can't say that
pub start_made : (f : ServeFault) → IsNoBreak f → (added : List OutCall) → Goes {T = Unit {0}} (Err f) (running ∷ []) added → MadeBy (end_of f) [] added
start_made fault.Write none added goes =
    record {
      events = [];
      begun = begun-nothing added goes.no_answers;
      made = goes.sent.made;
      bytes = goes.sent.bytes;
      later = goes.sent.later;
      output = goes.sent.whole_is;
      calls_are = goes.sent.calls_are;
    }
start_made (fault.TooLong place told) none added goes = absurd none
start_made fault.NoMemory none added goes =
    record { events = []; begun = begun-nothing added goes.no_answers; later = goes.sent.0; output = goes.sent.1 }

-- ---- as far as it is told

abbrev pub SinceOf :
    (List GivenEvent → Type 0) → (List GivenEvent → List OutCall → Type 0) → Option (List OutCall) → Option (List OutCall)
    → List GivenEvent → List GivenEvent → Type 0
SinceOf given sent made all had has = (events : List GivenEvent) × (has ≡ had ++ events) × given events × Tells (AddsBy (sent events)) made all

pub since_so :
    (G H : List GivenEvent → Type 0) → ((events : List GivenEvent) → G events → H events) → (R S : List GivenEvent → List OutCall → Type 0)
    → ((events : List GivenEvent) (calls : List OutCall) → R events calls → S events calls)
    → (had has : Option (List GivenEvent)) (made all : Option (List OutCall)) → Tells (SinceOf G R made all) had has → Tells (SinceOf H S made all) had has
since_so G H given R S so had has made all p =
    tells_so (SinceOf G R made all) (SinceOf H S made all)
    (λ x y u. (u.0, u.1, given u.0 u.2, tells_so (AddsBy (R u.0)) (AddsBy (S u.0)) (λ a b v. (v.0, v.1, so u.0 v.0 v.2)) made all u.3)) had has p

pub since_still :
    (G : List GivenEvent → Type 0) (R : List GivenEvent → List OutCall → Type 0) (had has now : Option (List GivenEvent)) (made all : Option (List OutCall))
    → Tells (SinceOf G R made all) had has → Tells (λ x y. y ≡ x) has now → Tells (SinceOf G R made all) had now
since_still G R had has now made all p q =
    tells_then (SinceOf G R made all) (λ x y. y ≡ x) (SinceOf G R made all) (λ x y z u is. (u.0, is ∙ u.1, u.2, u.3)) had has now p q

pub since_more :
    (G H : List GivenEvent → Type 0) (R S : List GivenEvent → List OutCall → Type 0) (Q : List OutCall → Type 0) (e : GivenEvent)
    → ((events : List GivenEvent) → G events → H (events ++ e ∷ []))
    → ((events : List GivenEvent) (calls added : List OutCall) → G events → R events calls → Q added → S (events ++ e ∷ []) (calls ++ added))
    → (had has now : Option (List GivenEvent)) (made between all : Option (List OutCall))
    → Tells (SinceOf G R made between) had has → Tells (AddsOne e) has now → Tells (AddsBy Q) between all → Tells (SinceOf H S made all) had now
since_more G H R S Q e given more had has now made between all p q r =
    tells_then (SinceOf G R made between) (AddsOne e) (SinceOf H S made all)
    (λ x y z u is. (
      u.0 ++ e ∷ [],
      is ∙ (ap (λ (es : List GivenEvent). es ++ e ∷ []) u.1 ∙ append_assoc x u.0 (e ∷ [])),
      given u.0 u.2,
      tells_then (AddsBy (R u.0)) (AddsBy Q) (AddsBy (S (u.0 ++ e ∷ [])))
          (λ a b c v w. (v.0 ++ w.0, w.1 ∙ (ap (λ (cs : List OutCall). cs ++ w.0) v.1 ∙ append_assoc a v.0 w.0), more u.0 v.0 w.0 u.2 v.2 w.2)) made between all u.3 r,
    )) had has now p q

-- nothing was given yet
pub since_start :
    (H : List GivenEvent → Type 0) (S : List GivenEvent → List OutCall → Type 0) (Q : List OutCall → Type 0) → H []
    → ((added : List OutCall) → Q added → S [] added) → (had : Option (List GivenEvent)) (made all : Option (List OutCall))
    → Tells (AddsBy Q) made all → Tells (SinceOf H S made all) had had
since_start H S Q given so None made all p = tt
since_start H S Q given so (Some had) made all p =
    ([], sym (append-nil had), given, tells_so (AddsBy Q) (AddsBy (S [])) (λ a b v. (v.0, v.1, so v.0 v.2)) made all p)

-- ---- the counts, by why it ended

pub stopped_unread : (f : ServeFault) (before now : ℕ) → now ≡ before → ReadsBy (end_of f) before now
stopped_unread fault.Write before now is = is
stopped_unread (fault.TooLong place told) before now is = is
stopped_unread fault.NoMemory before now is = is

pub stopped_written : (f : ServeFault) (before now : ℕ) → CountsTo f before now → WritesBy (end_of f) before now
stopped_written fault.Write before now is = is
stopped_written (fault.TooLong place told) before now is = is
stopped_written fault.NoMemory before now is = is

-- ---- what a worker that serves has served

pub read_unbroken : (r : Reading) (events : List GivenEvent) → HasRead r events → IsUnbroken events
read_unbroken r events read = read.unbroken

pub read_to_the_end : (r : Reading) (events : List GivenEvent) (e : GivenEvent) → e ≡ given.End → HasRead r (events ++ e ∷ []) → IsToTheEnd (events ++ e ∷ [])
read_to_the_end r events e is read =
    record { unbroken = read.unbroken; ended = (events, ap (λ (x : GivenEvent). events ++ x ∷ []) is) }
