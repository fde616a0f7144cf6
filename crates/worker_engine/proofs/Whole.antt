-- What a Consumer emits from its making on is what its whole list of calls emits.
use Rattle.std.proofs.Common.{◌≡◌, ℕ, ◌<◌, ◌+◌, ◌==◌, List, [], ◌∷◌, ◌++◌, length, take, drop, Bool, true, false, cond, map, Option, Some, None, is_some, option_map, option_and_then, refl, sym, ap, subst, ◌∙◌, suc}
use Rattle.std.specs.Prelude.{nat_le}
use Rattle.std.specs.List.{AllByRecursion}
use Rattle.std.proofs.lemmas.List.{get_or-drop}
use Rattle.ms_base.specs.declared.id.Id.{Id}
use Rattle.ms_base.specs.declared.tuple.Tuple.{Tuple}
use Rattle.channel_msgs.specs.Packet.{packet_in, packet_behind}
use Rattle.ms_base.specs.Id.{id_of_text}
use Rattle.rtp_packet.specs.Fault.{fault_of, Parses}
use Rattle.rtp_packet.specs.Packet.{AreBytes, Fields}
use Rattle.rtp_packet.specs.declared.fault.RtpFault.{RtpFault}
use Rattle.rtp_extension.specs.declared.mapped.Mapped.{Mapped}
use Rattle.simple_consumer.specs.Calls.{Call, set_flags, pass, ArePackets}
use Rattle.pipe_consumer.specs.Emits.{pipe_emits}
use Rattle.pipe_consumer.specs.Laws.{EmissionsAreOfTheWholeList}
use Rattle.pipe_consumer.specs.Streams.{sent}
use Rattle.worker_router.specs.State.{Source, Sink, producer_of}
use Rattle.worker_router.specs.Calls.{receives, receiver}
use Rattle.worker_calls.specs.State.{LinkAt, ProducerKey, RouterAt, Worker, router_of, place_of, direct_of}
use Rattle.worker_engine.specs.Packets.{Received, parsed, max_packet, received_as, received_by_key, received_direct, received_at_place, received_if, accept_in, is_taken, heard_at, offer_of}
use Rattle.worker_engine.specs.Run.{Event, payload, datagram, bound, after}
use Rattle.worker_engine.specs.Emits.{ConsumerKey, IsMadeBy, IsOfBytes, ssrcs_of, sink_at, received_at, received_parsed, received_payload, is_offered, calls_of, calls_at, calls_from, stays, emits_from}
use Rattle.worker_engine.proofs.Settled.{AllSound}
use Rattle.worker_engine.proofs.Emitted.{is-of-the-calls, sound-after}

-- ---- the packet that was received

-- what comes of a value that is there
via : {A : Type 0} (Q : Type 0) (g : A → Option Received) (got : Received) → ((a : A) → g a ≡ Some got → Q) → (o : Option A) → option_and_then g o ≡ Some got → Q
via Q g got so None e = cc
via Q g got so (Some a) e = so a e

abbrev IsOf : List ℕ → Received → Type 0
IsOf packet got = got.packet ≡ packet

mapped-is : (k : Id) (packet : List ℕ) (p : Source) (m : Option Mapped) (got : Received)
    → option_map (λ x. record { router = k; producer = p; mapped = x; packet = packet }) m ≡ Some got → IsOf packet got
mapped-is k packet p None got e = cc
mapped-is k packet p (Some x) got e =
    let made : Received = record { router = k; producer = p; mapped = x; packet = packet } in
    let same : made ≡ got = cc in
    ap (λ (r : Received). r.packet) (sym same)

within-is : (packet : List ℕ) (b : Bool) (found : Option Received) (got : Received) → cond b found None ≡ Some got → found ≡ Some got
within-is packet true found got e = e
within-is packet false found got e = cc

parses-by : (packet : List ℕ) (o : Option RtpFault) (g : Fields) (f : Fields) → cond (is_some o) None (Some g) ≡ Some f → o ≡ None
parses-by packet None g f e = refl
parses-by packet (Some x) g f e = cc

parses : (packet : List ℕ) (f : Fields) → parsed packet ≡ Some f → Parses packet
parses packet f e = parses-by packet (fault_of packet) _ f e

key-is : (w : Worker) (packet : List ℕ) (f : Fields) (got : Received) (key : ProducerKey) → received_by_key w packet key f ≡ Some got → IsOf packet got
key-is w packet f got key e =
    via (IsOf packet got) (λ (r : RouterAt). option_and_then (received_as key.router packet f) (producer_of r.router key.producer)) got
    (λ r g. via (IsOf packet got) (received_as key.router packet f) got (λ p h. mapped-is key.router packet p (receives f p) got h) (producer_of r.router key.producer) g)
    (router_of w key.router) e

pub record IsParsed (packet : List ℕ) (got : Received) : Type 0 where
  pub same : IsOf packet got
  pub parses : Parses packet

direct-by : (w : Worker) (id : Id) (packet : List ℕ) (o : Option Fields) → parsed packet ≡ o → (got : Received)
    → option_and_then (λ f. option_and_then (λ key. received_by_key w packet key f) (direct_of w id)) o ≡ Some got → IsParsed packet got
direct-by w id packet None is got e = cc
direct-by w id packet (Some f) is got e = record {
  same = via (IsOf packet got) (λ (key : ProducerKey). received_by_key w packet key f) got (λ key g. key-is w packet f got key g) (direct_of w id) e;
  parses = parses packet f is;
}

direct-is : (w : Worker) (id : Id) (packet : List ℕ) (got : Received) → received_direct w id packet ≡ Some got → IsParsed packet got
unfolding received_direct
direct-is w id packet got e = direct-by w id packet (parsed packet) refl got (within-is packet (nat_le (length packet) max_packet) _ got e)

placed-is : (w : Worker) (l : LinkAt) (packet : List ℕ) (f : Fields) (got : Received) → received_at_place w l.place packet f ≡ Some got → IsOf packet got
placed-is w l packet f got e =
    via (IsOf packet got) (λ (r : RouterAt). option_and_then (received_as l.place.router packet f) (receiver r.router l.place.transport f)) got
    (λ r g. via (IsOf packet got) (received_as l.place.router packet f) got (λ p h. mapped-is l.place.router packet p (receives f p) got h) (receiver r.router l.place.transport f) g)
    (router_of w l.place.router) e

taken-is : (w : Worker) (l : LinkAt) (packet : List ℕ) (f : Fields) (got : Received) (b : Bool) → received_if b w l.place packet f ≡ Some got → IsOf packet got
taken-is w l packet f got true e = placed-is w l packet f got (within-is packet (nat_le (length packet) max_packet) _ got e)
taken-is w l packet f got false e = cc

datagram-is : (w : Worker) (l : Option LinkAt) (from : Tuple) (packet : List ℕ) (o : Option Fields) → parsed packet ≡ o → (got : Received)
    → received_parsed w l from packet o ≡ Some got → IsParsed packet got
datagram-is w None from packet o is got e = cc
datagram-is w (Some l) from packet None is got e = cc
datagram-is w (Some l) from packet (Some f) is got e = record {
  same = taken-is (heard_at w l.place from) l packet f got (is_taken (accept_in w l.place from)) e;
  parses = parses packet f is;
}

-- ---- bytes

drop-bytes : (n : ℕ) (bytes : List ℕ) → AreBytes bytes → AreBytes (drop n bytes)
drop-bytes n bytes are i = subst (λ (b : ℕ). b < 256) (sym (get_or-drop n bytes i 0)) (are (n + i))

behind-by : (rest : List ℕ) (o : Option (List ℕ)) (p : Id × List ℕ) → option_map (λ id. (record { 0 = id }, drop 36 rest)) o ≡ Some p → p.1 ≡ drop 36 rest
behind-by rest None p e = cc
behind-by rest (Some id) p e =
    let made : Id × List ℕ = (record { 0 = id }, drop 36 rest) in
    let same : made ≡ p = cc in
    ap (λ (x : Id × List ℕ). x.1) (sym same)

letter-by : (rest : List ℕ) (b : Bool) (p : Id × List ℕ) → AreBytes rest → cond b (packet_behind rest) None ≡ Some p → AreBytes p.1
letter-by rest true p are e = subst AreBytes (sym (behind-by rest (id_of_text (take 36 rest)) p e)) (drop-bytes 36 rest are)
letter-by rest false p are e = cc

packet-bytes : (bytes : List ℕ) → AreBytes bytes → (p : Id × List ℕ) → packet_in bytes ≡ Some p → AreBytes p.1
unfolding packet_in
packet-bytes [] are p e = cc
packet-bytes (c ∷ rest) are p e = letter-by rest (c == 82) p (λ i. are (suc i)) e

-- ---- what a Consumer is offered is a packet

record IsGood (got : Received) : Type 0 where
  bytes : AreBytes got.packet
  parses : Parses got.packet

good-by : (packet : List ℕ) (got : Received) → AreBytes packet → IsParsed packet got → IsGood got
good-by packet got are is = record { bytes = subst AreBytes (sym is.same) are; parses = subst Parses (sym is.same) is.parses }

payload-good : (w : Worker) (bytes : List ℕ) → AreBytes bytes → (o : Option (Id × List ℕ)) → packet_in bytes ≡ o → (got : Received) → received_payload w o ≡ Some got → IsGood got
payload-good w bytes are None is got e = cc
payload-good w bytes are (Some p) is got e = good-by p.1 got (packet-bytes bytes are p is) (direct-is w p.0 p.1 got e)

received-good : (w : Worker) (e : Event) → IsOfBytes e → (got : Received) → received_at w e ≡ Some got → IsGood got
received-good w (payload bytes) are got g = payload-good w bytes are (packet_in bytes) refl got g
received-good w (datagram link from packet) are got g = good-by packet got are (datagram-is w (place_of w link) from packet (parsed packet) refl got g)
received-good w (bound port) are got g = cc

passes-by : (got : Received) (b : Bool) → IsGood got → ArePackets (cond b (pass (offer_of got) ∷ []) [])
passes-by got true good = (good.bytes, good.parses, tt)
passes-by got false good = tt

calls-by : (key : ConsumerKey) (o : Option Received) (s : Option Sink) → ((got : Received) → o ≡ Some got → IsGood got) → ArePackets (calls_of key o s)
calls-by key o None good = tt
calls-by key None (Some c) good = tt
calls-by key (Some got) (Some c) good = passes-by got (is_offered key got c) (good got refl)

both-packets : (calls more : List Call) → ArePackets calls → ArePackets more → ArePackets (calls ++ more)
both-packets [] more a b = b
both-packets (set_flags f ∷ calls) more a b = both-packets calls more a b
both-packets (pass o ∷ calls) more a b = (a.0, a.1, both-packets calls more a.2 b)

packets-from : (w : Worker) (later : List Event) (key : ConsumerKey) → AllByRecursion IsOfBytes later → ArePackets (calls_from w later key)
packets-from w [] key all = tt
packets-from w (e ∷ es) key all =
    both-packets (calls_at w e key) (calls_from (after w e) es key) (calls-by key (received_at w e) (sink_at (after w e) key) (received-good w e all.0))
    (packets-from (after w e) es key all.1)

-- ---- from its making on

pub emits-whole : EmissionsAreOfTheWholeList → (w : Worker) (later : List Event) (e : Event) (key : ConsumerKey) (c : Sink) → AllSound w.routers → sink_at (after w e) key ≡ Some c
    → stays (after w e) later key ≡ true → AllByRecursion IsOfBytes later → (made : IsMadeBy e key c)
    → emits_from (after w e) later key ≡ map (λ one. one.1) (pipe_emits made.content.params (ssrcs_of made.content) c.flags (calls_from (after w e) later key))
emits-whole law w later e key c sound there stay bytes made =
    let calls : List Call = calls_from (after w e) later key in
    (is-of-the-calls (after w e) later key c (sound-after w e sound) there stay).emits
    ∙ ap (λ (all : List (ℕ × List ℕ)). map (λ one. one.1) all)
    (ap (λ (x : Sink). sent x.streams calls) made.new ∙ law made.content.params (ssrcs_of made.content) c.flags calls (packets-from (after w e) later key bytes))
