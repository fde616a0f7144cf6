-- What holds of every list of events.
use Rattle.std.specs.Prelude.{◌≡◌, List, ◌++◌, true, map, Some, None, option_map}
use Rattle.std.specs.List.{AllByRecursion}
use Rattle.pipe_consumer.specs.Emits.{pipe_emits}
use Rattle.pipe_consumer.specs.Streams.{sent, streams_after}
use Rattle.worker_router.specs.State.{Sink, consumer_of}
use Rattle.worker_calls.specs.State.{RouterAt, Worker, router_of}
use Rattle.worker_engine.specs.Run.{Event, after, after_all, worker_after, out, out_from}
use Rattle.worker_engine.specs.Emits.{ConsumerKey, IsOfBytes, ssrcs_of, sink_at, IsMadeBy, FlagsAreTheirs, calls_from, stays, emits_from, told_at, router_at, emitted_in}

-- What a Consumer emits over events through which it stays is what its streams send by the calls that the events are to it.
abbrev pub EmitsAreOfTheCalls : Type 0
EmitsAreOfTheCalls =
    (before later : List Event) (key : ConsumerKey) (c : Sink) → sink_at (worker_after before) key ≡ Some c → stays (worker_after before) later key ≡ true →
    emits_from (worker_after before) later key ≡ map (λ one. one.1) (sent c.streams (calls_from (worker_after before) later key))

-- Its streams behind the events are those behind these calls.
abbrev pub StreamsAreOfTheCalls : Type 0
StreamsAreOfTheCalls =
    (before later : List Event) (key : ConsumerKey) (c : Sink) → sink_at (worker_after before) key ≡ Some c → stays (worker_after before) later key ≡ true →
    option_map (λ d. d.streams) (sink_at (after_all (worker_after before) later) key)
    ≡ Some (streams_after c.streams (calls_from (worker_after before) later key))

-- By an event there goes out what is told, and then what each Consumer emits, addressed, in order of making.
abbrev pub OutIsTheEmissions : Type 0
OutIsTheEmissions =
    (before : List Event) (e : Event) →
    out (worker_after before) e ≡ told_at (worker_after before) e ++ emitted_in (worker_after before) e (router_at (worker_after before) e)

-- A Consumer that is there behind an event and wasn't before it was made by it: it begins with what the event asks for.
abbrev pub NewConsumersBegin : Type 0
NewConsumersBegin =
    (before : List Event) (e : Event) (key : ConsumerKey) (c : Sink) → sink_at (worker_after before) key ≡ None → sink_at (after (worker_after before) e) key ≡ Some c →
    IsMadeBy e key c

-- Behind any events a Consumer is told connected exactly where its transport is, and its Producer's pause exactly where that is paused.
abbrev pub FlagsAreTheObjects : Type 0
FlagsAreTheObjects =
    (events : List Event) (key : ConsumerKey) (r : RouterAt) (c : Sink) → router_of (worker_after events) key.router ≡ Some r →
    consumer_of r.router key.consumer ≡ Some c → FlagsAreTheirs r.router.transports r.router.producers c

-- From the event that made it on, a Consumer emits what its parameters, mapped SSRCs and first flags make of all the calls that the
-- events are to it: the packets of its stretches, rewritten, under the output numbers of all stretches.
abbrev pub ConsumersEmitTheirStretches : Type 0
ConsumersEmitTheirStretches =
    (before later : List Event) (e : Event) (key : ConsumerKey) (c : Sink) → sink_at (after (worker_after before) e) key ≡ Some c →
    stays (after (worker_after before) e) later key ≡ true → AllByRecursion IsOfBytes later → (made : IsMadeBy e key c) →
    emits_from (after (worker_after before) e) later key
    ≡ map (λ one. one.1) (pipe_emits made.content.params (ssrcs_of made.content) c.flags (calls_from (after (worker_after before) e) later key))

-- What goes out in one run and then in another is what goes out in both, and the state is that of both.
abbrev pub OutGoesOn : Type 0
OutGoesOn = (w : Worker) (before later : List Event) → out_from w (before ++ later) ≡ out_from w before ++ out_from (after_all w before) later

abbrev pub AfterGoesOn : Type 0
AfterGoesOn = (w : Worker) (before later : List Event) → after_all w (before ++ later) ≡ after_all (after_all w before) later
