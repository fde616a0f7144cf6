-- What a Consumer emits over events is what its streams send by the calls that the events are to it.
use Rattle.std.proofs.Common.{◌≡◌, ℕ, List, [], ◌∷◌, ◌++◌, ◌&&◌, Bool, true, false, cond, map, Option, Some, None, is_some, option_map, refl, sym, ap, subst, ◌∙◌}
use Rattle.std.specs.Bool.{⊤}
use Rattle.std.specs.List.{cons_option}
use Rattle.ms_base.specs.declared.id.Id.{Id}
use Rattle.ms_base.specs.declared.tuple.Tuple.{Tuple}
use Rattle.channel_msgs.specs.Packet.{packet_in}
use Rattle.channel_msgs.specs.View.{RequestView}
use Rattle.rtp_packet.specs.Packet.{Fields}
use Rattle.simple_consumer.specs.Sending.{Offer, Sending}
use Rattle.simple_consumer.specs.Calls.{Call, set_flags, pass}
use Rattle.pipe_consumer.specs.Streams.{passed_by, behind_offer, behind_setting, streams_after, sent, sent_for}
use Rattle.worker_router.specs.State.{Sink, same_id, consumer_of, is_of}
use Rattle.worker_calls.specs.State.{LinkAt, RouterAt, Worker, router_of, place_of, idle}
use Rattle.worker_engine.specs.Packets.{Received, parsed, offer_of, offered_to, with_offered, after_received, after_parsed}
use Rattle.worker_engine.specs.Run.{Event, payload, datagram, bound, after, after_all, after_payload, worker_after}
use Rattle.worker_engine.specs.Emits.{ConsumerKey, FlagsAreTheirs, IsMadeBy, sink_at, request_by, request_at, settled, settled_parsed, settled_payload, received_at, received_parsed, received_payload, is_offered, calls_of, calls_at, calls_from, stays, emitted_by, emits_from}
use Rattle.worker_engine.proofs.Ids.{same-is, found-passes, found-holds}
use Rattle.worker_engine.proofs.Flagged.{flagged-offered}
use Rattle.worker_engine.proofs.Sinks.{IsSet, find-change, sound-offered}
use Rattle.worker_engine.proofs.Settled.{IsSound, AllSound, Steps, sink_by, with_state, find-changed, steps-settled}

-- ---- an event, and then the packet that it brings

after-payload : (w : Worker) (p : Option (Id × List ℕ)) (bytes : List ℕ) → after_payload w p bytes ≡ after_received (settled_payload w p bytes) (received_payload w p)
after-payload w None bytes = refl
after-payload w (Some p) bytes = refl

after-parsed : (w : Worker) (l : Option LinkAt) (from : Tuple) (packet : List ℕ) (f : Option Fields)
    → after_parsed w l from packet f ≡ after_received (settled_parsed w l from f) (received_parsed w l from packet f)
after-parsed w None from packet f = refl
after-parsed w (Some l) from packet None = refl
after-parsed w (Some l) from packet (Some f) = refl

after-is : (w : Worker) (e : Event) → after w e ≡ after_received (settled w e) (received_at w e)
after-is w (payload bytes) = after-payload w (packet_in bytes) bytes
after-is w (datagram link from packet) = after-parsed w (place_of w link) from packet (parsed packet)
after-is w (bound port) = refl

-- ---- the Consumer of a key behind a packet that is passed on

abbrev offered_by : ConsumerKey → Option Received → Sink → Sink
offered_by key None c = c
offered_by key (Some got) c = cond (is_offered key got c) (offered_to (offer_of got) c) c

module _ (h : Worker) (got : Received) where
  abbrev o : Offer
  o = offer_of got

  abbrev passed_on : RouterAt → RouterAt
  passed_on r = cond (same_id r.id got.router) (with_state r (with_offered got.producer.id o r.router)) r

  in-router : (id : Id) (r : RouterAt) (b : Bool)
      → consumer_of (cond b (with_state r (with_offered got.producer.id o r.router)) r).router id
      ≡ option_map (λ c. cond (b && is_of got.producer.id c) (offered_to o c) c) (consumer_of r.router id)
  in-router id r true = find-change (is_of got.producer.id) (offered_to o) (λ c. refl) id r.router.consumers
  in-router id r false = sym (same-option (consumer_of r.router id))
    where
      same-option : (s : Option Sink) → option_map (λ (c : Sink). c) s ≡ s
      same-option None = refl
      same-option (Some c) = refl

  in-found : (key : ConsumerKey) (s : Option RouterAt) → router_of h key.router ≡ s → sink_by (option_map passed_on s) key.consumer ≡ option_map (offered_by key (Some got)) (sink_by s key.consumer)
  in-found key None e = refl
  in-found key (Some r) e =
      let own : r.id ≡ key.router = same-is r.id key.router (found-passes (λ (x : RouterAt). same_id x.id key.router) h.routers r e) in
      ap (λ (i : Id). consumer_of (cond (same_id i got.router) (with_state r (with_offered got.producer.id o r.router)) r).router key.consumer) own
      ∙ in-router key.consumer r (same_id key.router got.router)

  sink-received : (key : ConsumerKey) → sink_at (after_received h (Some got)) key ≡ option_map (offered_by key (Some got)) (sink_at h key)
  sink-received key =
      ap (λ (s : Option RouterAt). sink_by s key.consumer) (find-changed got.router (with_offered got.producer.id o) h.routers key.router)
      ∙ in-found key (router_of h key.router) refl

  -- each Router stays sound
  sound-by : (r : RouterAt) (b : Bool) → IsSound r.router → IsSound (cond b (with_state r (with_offered got.producer.id o r.router)) r).router
  sound-by r true s = record {
    sinks = sound-offered r.router.consumers s.sinks (is_of got.producer.id) o;
    flagged = flagged-offered r.router.transports r.router.producers r.router.consumers s.flagged (is_of got.producer.id) o;
  }
  sound-by r false s = s

  sound-found : (s : Option RouterAt) → ((r : RouterAt) → s ≡ Some r → IsSound r.router) → (r : RouterAt) → option_map passed_on s ≡ Some r → IsSound r.router
  sound-found None h r e = cc
  sound-found (Some x) h r e =
      let same : passed_on x ≡ r = cc in
      subst (λ (y : RouterAt). IsSound y.router) same (sound-by x (same_id x.id got.router) (h x refl))

  sound-received : AllSound h.routers → AllSound (after_received h (Some got)).routers
  sound-received s id r e =
      sound-found (router_of h id) (s id) r (sym (find-changed got.router (with_offered got.producer.id o) h.routers id) ∙ e)

same-sink : (s : Option Sink) → option_map (λ (c : Sink). c) s ≡ s
same-sink None = refl
same-sink (Some c) = refl

sink-behind : (h : Worker) (got : Option Received) (key : ConsumerKey) → sink_at (after_received h got) key ≡ option_map (offered_by key got) (sink_at h key)
sink-behind h None key = sym (same-sink (sink_at h key))
sink-behind h (Some got) key = sink-received h got key

sound-behind : (h : Worker) (got : Option Received) → AllSound h.routers → AllSound (after_received h got).routers
sound-behind h None s = s
sound-behind h (Some got) s = sound-received h got s

-- ---- event by event

-- of a new Consumer nothing is asked
pub settled-steps : (w : Worker) → AllSound w.routers → (e : Event) → Steps (λ key d. ⊤) w.routers (settled w e).routers
settled-steps w s e = steps-settled (λ key d. ⊤) w s e (λ r is ids asks c has flags paused. tt)

pub sound-after : (w : Worker) (e : Event) → AllSound w.routers → AllSound (after w e).routers
sound-after w e s = subst (λ (x : Worker). AllSound x.routers) (sym (after-is w e)) (sound-behind (settled w e) (received_at w e) (settled-steps w s e).sound)

pub sound-all : (w : Worker) (events : List Event) → AllSound w.routers → AllSound (after_all w events).routers
sound-all w [] s = s
sound-all w (e ∷ es) s = sound-all (after w e) es (sound-after w e s)

pub sound-idle : AllSound idle.routers
sound-idle id r e = cc

-- the Consumer that is there once an event has settled, and what becomes of it
pub record Settles (w : Worker) (e : Event) (key : ConsumerKey) (c d : Sink) : Type 0 where
  pub own : Sink
  pub there : sink_at (settled w e) key ≡ Some own
  pub set : IsSet c own
  pub is : offered_by key (received_at w e) own ≡ d

settles-by : (w : Worker) (e : Event) (key : ConsumerKey) (c d : Sink) → AllSound w.routers → sink_at w key ≡ Some c → (s : Option Sink) → sink_at (settled w e) key ≡ s
    → option_map (offered_by key (received_at w e)) s ≡ Some d → Settles w e key c d
settles-by w e key c d sound there None at g = cc
settles-by w e key c d sound there (Some x) at g = record {
  own = x;
  there = at;
  set = (settled-steps w sound e).goes key c x there at;
  is = cc;
}

settles : (w : Worker) (e : Event) (key : ConsumerKey) (c d : Sink) → AllSound w.routers → sink_at w key ≡ Some c → sink_at (after w e) key ≡ Some d → Settles w e key c d
settles w e key c d sound there g =
    settles-by w e key c d sound there (sink_at (settled w e) key) refl
    (sym (ap (λ (x : Worker). sink_at x key) (after-is w e) ∙ sink-behind (settled w e) (received_at w e) key) ∙ g)

-- ---- one Consumer and an event, over what it was and the packet

abbrev packets : List (ℕ × List ℕ) → List (List ℕ)
packets all = map (λ one. one.1) all

-- the streams behind its calls, and what is sent by them and by later ones
record Emits (key : ConsumerKey) (got : Option Received) (c own d : Sink) : Type 0 where
  streams : d.streams ≡ streams_after c.streams (calls_of key got (Some d))
  sends : (later : List Call) → packets (sent c.streams (calls_of key got (Some d) ++ later)) ≡ cons_option (emitted_by key got (Some own)) (packets (sent d.streams later))

sent-one : (ssrc : ℕ) (p : Option (List ℕ)) (rest : List (ℕ × List ℕ)) → packets (cons_option (option_map (sent_for ssrc) p) rest) ≡ cons_option p (packets rest)
sent-one ssrc None rest = refl
sent-one ssrc (Some p) rest = refl

module _ (key : ConsumerKey) (got : Received) (c own : Sink) (set : IsSet c own) where
  abbrev behind : Bool → Sink
  behind b = cond b (offered_to (offer_of got) own) own

  abbrev one_offer : Bool → List Call
  one_offer b = cond b (pass (offer_of got) ∷ []) []

  calls-are : (b : Bool) → calls_of key (Some got) (Some (behind b)) ≡ set_flags own.flags ∷ one_offer (is_offered key got own)
  calls-are true = refl
  calls-are false = refl

  streams-by : (b : Bool) → (behind b).streams ≡ streams_after c.streams (set_flags own.flags ∷ one_offer b)
  streams-by true = ap (λ (ss : List Sending). behind_offer ss (offer_of got)) set
  streams-by false = set

  sends-by : (b : Bool) (later : List Call)
      → packets (sent c.streams (set_flags own.flags ∷ one_offer b ++ later)) ≡ cons_option (cond b (passed_by own.streams (offer_of got)) None) (packets (sent (behind b).streams later))
  sends-by true later =
      ap (λ (ss : List Sending). packets (sent ss (pass (offer_of got) ∷ later))) (sym set)
      ∙ sent-one (offer_of got).mapped.ssrc (passed_by own.streams (offer_of got)) (sent (behind_offer own.streams (offer_of got)) later)
  sends-by false later = ap (λ (ss : List Sending). packets (sent ss later)) (sym set)

  emits-packet : Emits key (Some got) c own (offered_by key (Some got) own)
  emits-packet =
      let b : Bool = is_offered key got own in
      record {
        streams = streams-by b ∙ ap (streams_after c.streams) (sym (calls-are b));
        sends = λ later. ap (λ (calls : List Call). packets (sent c.streams (calls ++ later))) (calls-are b) ∙ sends-by b later;
      }

emits-one : (key : ConsumerKey) (got : Option Received) (c own : Sink) → IsSet c own → Emits key got c own (offered_by key got own)
emits-one key None c own set = record { streams = set; sends = λ later. ap (λ (ss : List Sending). packets (sent ss later)) (sym set) }
emits-one key (Some got) c own set = emits-packet key got c own set

-- ---- along a list of events

streams-append : (ss : List Sending) (calls more : List Call) → streams_after ss (calls ++ more) ≡ streams_after (streams_after ss calls) more
streams-append ss [] more = refl
streams-append ss (set_flags f ∷ calls) more = streams-append (behind_setting f ss) calls more
streams-append ss (pass o ∷ calls) more = streams-append (behind_offer ss o) calls more

abbrev streams_at : Option Sink → Option (List Sending)
streams_at s = option_map (λ d. d.streams) s

pub record IsOfTheCalls (w : Worker) (later : List Event) (key : ConsumerKey) (c : Sink) : Type 0 where
  pub emits : emits_from w later key ≡ packets (sent c.streams (calls_from w later key))
  pub streams : streams_at (sink_at (after_all w later) key) ≡ Some (streams_after c.streams (calls_from w later key))

module _ (w : Worker) (e : Event) (es : List Event) (key : ConsumerKey) (c : Sink) (sound : AllSound w.routers) (there : sink_at w key ≡ Some c) where
  abbrev got : Option Received
  got = received_at w e

  abbrev more : List Call
  more = calls_from (after w e) es key

  goes-on : (d : Sink) → sink_at (after w e) key ≡ Some d → IsOfTheCalls (after w e) es key d → IsOfTheCalls w (e ∷ es) key c
  goes-on d at next =
      let s : Settles w e key c d = settles w e key c d sound there at in
      let one : Emits key got c s.own d = subst (Emits key got c s.own) s.is (emits-one key got c s.own s.set) in
      let calls : calls_at w e key ≡ calls_of key got (Some d) = ap (calls_of key got) at in
      record {
        emits =
            ap (λ (x : Option Sink). cons_option (emitted_by key got x) (emits_from (after w e) es key)) s.there
            ∙ (ap (cons_option (emitted_by key got (Some s.own))) next.emits
            ∙ (sym (one.sends more) ∙ ap (λ (x : List Call). packets (sent c.streams (x ++ more))) (sym calls)));
        streams =
            next.streams
            ∙ ap Some (ap (λ (ss : List Sending). streams_after ss more) one.streams
            ∙ (sym (streams-append c.streams (calls_of key got (Some d)) more) ∙ ap (λ (x : List Call). streams_after c.streams (x ++ more)) (sym calls)));
      }

  stays-by : (s : Option Sink) (rest : Bool) → sink_at (after w e) key ≡ s → is_some s && rest ≡ true
      → ((d : Sink) → sink_at (after w e) key ≡ Some d → rest ≡ true → IsOfTheCalls (after w e) es key d) → IsOfTheCalls w (e ∷ es) key c
  stays-by None rest at t next = cc
  stays-by (Some d) rest at t next = goes-on d at (next d at t)

pub is-of-the-calls : (w : Worker) (later : List Event) (key : ConsumerKey) (c : Sink) → AllSound w.routers → sink_at w key ≡ Some c → stays w later key ≡ true → IsOfTheCalls w later key c
is-of-the-calls w [] key c sound there t = record { emits = refl; streams = ap streams_at there }
is-of-the-calls w (e ∷ es) key c sound there t =
    stays-by w e es key c sound there (sink_at (after w e) key) (stays (after w e) es key) refl t
    (λ d at more. is-of-the-calls (after w e) es key d (sound-after w e sound) at more)

pub sound-events : (events : List Event) → AllSound (worker_after events).routers
sound-events events = sound-all idle events sound-idle

-- ---- what is new

request-alone : (w : Worker) (p : Option (Id × List ℕ)) (bytes : List ℕ) (r : RequestView) → request_by p bytes ≡ Some r → received_payload w p ≡ None
request-alone w None bytes r e = refl
request-alone w (Some p) bytes r e = cc

-- a request brings no packet
no-packet : (w : Worker) (e : Event) (r : RequestView) → request_at e ≡ Some r → received_at w e ≡ None
no-packet w (payload bytes) r is = request-alone w (packet_in bytes) bytes r is
no-packet w (datagram link from packet) r is = cc
no-packet w (bound port) r is = cc

steps-made : (w : Worker) → AllSound w.routers → (e : Event) → Steps (IsMadeBy e) w.routers (settled w e).routers
steps-made w s e =
    steps-settled (IsMadeBy e) w s e
    (λ r is ids asks c has flags paused.
    record { request = r; ids = ids; content = c; is_event = is; asks = asks; has = has; own_key = refl; new = refl; paused = paused })

made-by : (w : Worker) (e : Event) (key : ConsumerKey) (d : Sink) → AllSound w.routers → sink_at w key ≡ None → (s : Option Sink) → sink_at (settled w e) key ≡ s
    → option_map (offered_by key (received_at w e)) s ≡ Some d → IsMadeBy e key d
made-by w e key d sound gone None at g = cc
made-by w e key d sound gone (Some x) at g =
    let made : IsMadeBy e key x = (steps-made w sound e).begins key x gone at in
    let is : offered_by key (received_at w e) x ≡ d = cc in
    subst (IsMadeBy e key) (sym (ap (λ (got : Option Received). offered_by key got x) (no-packet w e made.request made.is_event)) ∙ is) made

pub is-made-by : (w : Worker) (e : Event) (key : ConsumerKey) (d : Sink) → AllSound w.routers → sink_at w key ≡ None → sink_at (after w e) key ≡ Some d → IsMadeBy e key d
is-made-by w e key d sound gone g =
    made-by w e key d sound gone (sink_at (settled w e) key) refl
    (sym (ap (λ (x : Worker). sink_at x key) (after-is w e) ∙ sink-behind (settled w e) (received_at w e) key) ∙ g)

-- ---- flags

pub flags-are : (w : Worker) (key : ConsumerKey) (r : RouterAt) (c : Sink) → AllSound w.routers → router_of w key.router ≡ Some r → consumer_of r.router key.consumer ≡ Some c
    → FlagsAreTheirs r.router.transports r.router.producers c
flags-are w key r c sound at there =
    found-holds (λ (x : Sink). same_id x.id key.consumer) (FlagsAreTheirs r.router.transports r.router.producers) r.router.consumers c (sound key.router r at).flagged there
