-- How one payload is served: a packet, or a request with the acts that it comes to.
use Rattle.std.proofs.Common.{◌≡◌, ℕ, List, [], ◌∷◌, All, map, Option, Some, None, Result, Ok, Err, OnOk, true, take, refl, sym, ap, subst, ◌∙◌}
use Rattle.ms_base.specs.declared.id.Id.{Id}
use Rattle.ms_base.specs.declared.tuple.Tuple.{Tuple}
use Rattle.channel_msgs.specs.Packet.{packet_in}
use Rattle.ms_devices.specs.Outside.{event_of}
use Rattle.ms_devices.specs.Told.{Tells}
use Rattle.ms_devices.specs.declared.events.InEvent.{InEvent}
use Rattle.ms_devices.specs.declared.events.InEvent.TheVariants as answer
use Rattle.ms_devices.specs.declared.events.OutCall.{OutCall}
use Rattle.rtp_params.specs.Readable.{Each}
use Rattle.worker_calls.specs.Acts.{outgoing, IsShort}
use Rattle.worker_calls.specs.Requests.{Outgoing, bind}
use Rattle.worker_calls.specs.State.{Worker}
use Rattle.worker_calls.specs.declared.act.Act.{Act}
use Rattle.worker_calls.specs.declared.act.Act.TheVariants as act
use Rattle.worker_engine.specs.Forwarding.{after_from, out_by}
use Rattle.worker_engine.specs.Outside.{call_of}
use Rattle.worker_engine.specs.Run.{payload, datagram, after, out, after_payload, out_payload}
use Rattle.worker_engine.specs.declared.act.PacketFrom.TheVariants as from
use Rattle.worker_serve.specs.Hearing.{events_at}
use Rattle.worker_serve.specs.Sending.{AddsBy, Goes, IsSayable, Opens, ServedBy, act_call, asked_in}
use Rattle.worker_serve.specs.Serving.{is_waiting}
use Rattle.worker_serve.specs.declared.carry_out.Asked.{Asked}
use Rattle.worker_serve.specs.declared.fault.ServeFault.{ServeFault}
use Rattle.worker_serve.proofs.BindLemmas.{AreNoBinds, Asks, asks, asks_not, packet_waits, payload_asks}
use Rattle.worker_serve.proofs.EventLemmas.{serves_bound, serves_one}
use Rattle.worker_serve.proofs.HearingLemmas.{nothing_served}
use Rattle.worker_serve.proofs.SendingLemmas.{acts_as_calls, acts_sayable, adds_so}

-- ---- acts

first-asked : (acts : List Act) (link : ℕ) (ip : List ℕ) → map outgoing acts ≡ bind link ip ∷ [] → asked_in acts ≡ None → ⊥
first-asked [] link ip is none = cc
first-asked (act.Say bytes ∷ acts) link ip is none = cc
first-asked (act.Bind l i ∷ acts) link ip is none = cc
first-asked (act.Shut l ∷ acts) link ip is none = cc

none-asked : (acts : List Act) (asked : Asked) → asked_in acts ≡ Some asked → AreNoBinds (map outgoing acts) → ⊥
none-asked [] asked is none = cc
none-asked (act.Say bytes ∷ acts) asked is none = cc
none-asked (act.Bind l i ∷ acts) asked is none = none.0
none-asked (act.Shut l ∷ acts) asked is none = cc

asked-alone :
    (acts : List Act) (asked : Asked) (link : ℕ) (ip : List ℕ) → asked_in acts ≡ Some asked → map outgoing acts ≡ bind link ip ∷ []
    → map outgoing acts ≡ bind asked.link asked.ip ∷ []
asked-alone [] asked link ip one is = absurd cc
asked-alone (act.Say bytes ∷ acts) asked link ip one is = absurd cc
asked-alone (act.Bind l i ∷ acts) asked link ip one is =
    let same : Some (record { link = l; ip = i }) ≡ Some asked = one in
    let this : record { link = l; ip = i } ≡ asked = cc in
    let rest : map outgoing acts ≡ [] = cc in
    ap (λ (x : List Outgoing). bind l i ∷ x) rest ∙ ap (λ (a : Asked). bind a.link a.ip ∷ []) this
asked-alone (act.Shut l ∷ acts) asked link ip one is = absurd cc

sayable-by :
    (acts : List Act) (w v : Worker) (outs : List Outgoing) → map outgoing acts ≡ outs → asked_in acts ≡ None → Asks w v outs → Each IsShort outs → All IsSayable acts
sayable-by acts w v outs is none (asks link ip alone waits) short = absurd (first-asked acts link ip (is ∙ alone) none)
sayable-by acts w v outs is none (asks_not no_binds same) short = acts_sayable acts (subst AreNoBinds (sym is) no_binds) (subst (Each IsShort) (sym is) short)

-- none of the acts of a request that asks for no link does
pub request_sayable :
    (acts : List Act) (w : Worker) (bytes : List ℕ) → map outgoing acts ≡ out_payload w None bytes → asked_in acts ≡ None
    → Each IsShort (out_payload w None bytes) → All IsSayable acts
request_sayable acts w bytes is none short = sayable-by acts w (after_payload w None bytes) (out_payload w None bytes) is none (payload_asks w bytes) short

-- ---- requests

on-ok : {P : Type 0} (r : Result (Unit {0}) ServeFault) → P → OnOk r P
on-ok (Ok x) p = p
on-ok (Err e) p = tt

waits-by : (acts : List Act) (w v : Worker) (outs : List Outgoing) → map outgoing acts ≡ outs → asked_in acts ≡ None → Asks w v outs → is_waiting v ≡ is_waiting w
waits-by acts w v outs is none (asks link ip alone waits) = absurd (first-asked acts link ip (is ∙ alone) none)
waits-by acts w v outs is none (asks_not no_binds same) = same

-- one that asks for no link
pub request_served :
    (r : Result (Unit {0}) ServeFault) (w left : Worker) (bytes : List ℕ) (acts : List Act) (before now : Option (List OutCall)) → packet_in bytes ≡ None
    → map outgoing acts ≡ out_payload w None bytes → asked_in acts ≡ None → left ≡ after_payload w None bytes
    → Tells (AddsBy (Goes r (map act_call acts))) before now → Tells (AddsBy (ServedBy r w (payload bytes ∷ []) left)) before now
request_served r w left bytes acts before now none is no_link state sent =
    let state_is : after_payload w None bytes ≡ after w (payload bytes) = ap (λ (p : Option (Id × List ℕ)). after_payload w p bytes) (sym none) in
    let outs_are : out_payload w None bytes ≡ out w (payload bytes) = ap (λ (p : Option (Id × List ℕ)). out_payload w p bytes) (sym none) in
    adds_so (Goes r (map act_call acts)) (ServedBy r w (payload bytes ∷ []) left)
    (λ calls goes. serves_one r w left (payload bytes) calls refl refl refl
    (ap is_waiting (sym state_is) ∙ waits-by acts w (after_payload w None bytes) (out_payload w None bytes) is no_link (payload_asks w bytes))
    (on-ok r (state ∙ state_is))
    (subst (λ (x : List OutCall). Goes r x calls) (acts_as_calls acts (out w (payload bytes)) (is ∙ outs_are)) goes)) before now sent

alone-by :
    (acts : List Act) (asked : Asked) (w v : Worker) (outs : List Outgoing) → map outgoing acts ≡ outs → asked_in acts ≡ Some asked → Asks w v outs
    → (outs ≡ bind asked.link asked.ip ∷ []) × (is_waiting v ≡ true)
alone-by acts asked w v outs is one (asks link ip alone waits) = (sym is ∙ asked-alone acts asked link ip one (is ∙ alone), waits)
alone-by acts asked w v outs is one (asks_not no_binds same) = absurd (none-asked acts asked one (subst AreNoBinds (sym is) no_binds))

-- one that asks for a link
pub link_served :
    (r : Result (Unit {0}) ServeFault) (w v left : Worker) (bytes : List ℕ) (acts : List Act) (asked : Asked) (before now : Option (List OutCall)) → packet_in bytes ≡ None
    → map outgoing acts ≡ out_payload w None bytes → asked_in acts ≡ Some asked → v ≡ after_payload w None bytes
    → Tells (AddsBy (Opens r v asked left)) before now → Tells (AddsBy (ServedBy r w (payload bytes ∷ []) left)) before now
link_served r w v left bytes acts asked before now none is one state sent =
    let state_is : after_payload w None bytes ≡ after w (payload bytes) = ap (λ (p : Option (Id × List ℕ)). after_payload w p bytes) (sym none) in
    let outs_are : out_payload w None bytes ≡ out w (payload bytes) = ap (λ (p : Option (Id × List ℕ)). out_payload w p bytes) (sym none) in
    let alone = alone-by acts asked w (after_payload w None bytes) (out_payload w None bytes) is one (payload_asks w bytes) in
    adds_so (Opens r v asked left) (ServedBy r w (payload bytes ∷ []) left)
    (λ calls opens. serves_bound r w left bytes asked calls (sym outs_are ∙ alone.0) (ap is_waiting (sym state_is) ∙ alone.1)
    (subst (λ (x : Worker). Opens r x asked left calls) (state ∙ state_is) opens)) before now sent

-- ---- packets

-- a payload that is a packet
pub direct_served :
    (r : Result (Unit {0}) ServeFault) (w left : Worker) (bytes : List ℕ) (id : Id) (packet : List ℕ) (before now : Option (List OutCall)) → Some (id, packet) ≡ packet_in bytes
    → OnOk r (left ≡ after_from w (from.Direct id) packet) → Tells (AddsBy (Goes r (map call_of (out_by w (from.Direct id) packet)))) before now
    → Tells (AddsBy (ServedBy r w (payload bytes ∷ []) left)) before now
direct_served r w left bytes id packet before now is state sent =
    let state_is : after_payload w (Some (id, packet)) bytes ≡ after w (payload bytes) = ap (λ (p : Option (Id × List ℕ)). after_payload w p bytes) is in
    let outs_are : out_payload w (Some (id, packet)) bytes ≡ out w (payload bytes) = ap (λ (p : Option (Id × List ℕ)). out_payload w p bytes) is in
    adds_so (Goes r (map call_of (out_by w (from.Direct id) packet))) (ServedBy r w (payload bytes ∷ []) left)
    (λ calls goes. serves_one r w left (payload bytes) calls refl refl refl (ap is_waiting (sym state_is) ∙ packet_waits w (from.Direct id) packet)
    (subst (λ (x : Worker). OnOk r (left ≡ x)) state_is state)
    (subst (λ (x : List Outgoing). Goes r (map call_of x) calls) outs_are goes)) before now sent

-- a datagram
pub datagram_served :
    (r : Result (Unit {0}) ServeFault) (w left : Worker) (link : ℕ) (tuple : Tuple) (packet : List ℕ) (before now : Option (List OutCall))
    → OnOk r (left ≡ after_from w (from.Link link tuple) packet) → Tells (AddsBy (Goes r (map call_of (out_by w (from.Link link tuple) packet)))) before now
    → Tells (AddsBy (ServedBy r w (datagram link tuple packet ∷ []) left)) before now
datagram_served r w left link tuple packet before now state sent =
    adds_so (Goes r (map call_of (out_by w (from.Link link tuple) packet))) (ServedBy r w (datagram link tuple packet ∷ []) left)
    (λ calls goes. serves_one r w left (datagram link tuple packet) calls refl refl refl (packet_waits w (from.Link link tuple) packet) state goes) before now sent

-- ---- events of an inbox

pub datagram_event :
    (r : Result (Unit {0}) ServeFault) (w left : Worker) (unread : List ℕ) (event : InEvent) (place : List ℕ) (link : ℕ) (tuple : Tuple) (len : ℕ) (before now : Option (List OutCall))
    → event ≡ answer.Datagram link tuple len → OnOk r (left ≡ after_from w (from.Link link tuple) (take len place))
    → Tells (AddsBy (Goes r (map call_of (out_by w (from.Link link tuple) (take len place))))) before now
    → Tells (AddsBy (ServedBy r w (events_at unread (event_of event place)) left)) before now
datagram_event r w left unread event place link tuple len before now is state sent =
    subst (λ (e : InEvent). Tells (AddsBy (ServedBy r w (events_at unread (event_of e place)) left)) before now) (sym is)
    (datagram_served r w left link tuple (take len place) before now state sent)

pub end_event :
    (w : Worker) (unread : List ℕ) (event : InEvent) (place : List ℕ) (told : Option (List OutCall)) → event ≡ answer.End
    → Tells (AddsBy (ServedBy (Ok (tt {0})) w (events_at unread (event_of event place)) w)) told told
end_event w unread event place told is =
    subst (λ (e : InEvent). Tells (AddsBy (ServedBy (Ok (tt {0})) w (events_at unread (event_of e place)) w)) told told) (sym is) (nothing_served w told)
