-- A packet that came, and what is heard of it.
use Rattle.std.proofs.Common.{◌≡◌, ℕ, List, [], ◌++◌, Bool, true, cond, Option, Some, None, Result, Ok, Err, is_some, option_map, option_and_then, refl, sym, ap, ◌∙◌}
use Rattle.std.specs.Prelude.{OnErr}
use Rattle.ms_base.specs.declared.id.Id.{Id}
use Rattle.ms_base.specs.declared.tuple.Tuple.{Tuple}
use Rattle.rtp_packet.specs.declared.fault.RtpFault.{RtpFault}
use Rattle.rtp_packet.specs.Fault.{fault_of}
use Rattle.rtp_packet.specs.Packet.{Fields}
use Rattle.rtp_packet.specs.Reading.{fields_of}
use Rattle.worker_calls.specs.declared.place.Place.{Place}
use Rattle.worker_calls.specs.State.{Worker, LinkAt, place_of, direct_of}
use Rattle.worker_engine.specs.declared.act.PacketFrom.{PacketFrom}
use Rattle.worker_engine.specs.declared.act.PacketFrom.TheVariants as from
use Rattle.worker_engine.specs.Packets.{Received, parsed, if_within, received_by_key, received_direct, accept_in, heard_at, is_taken, received_at_place, received_if, told_learnt, emissions_of, after_received, after_parsed, out_parsed}
use Rattle.worker_engine.specs.Forwarding.{after_from, out_by}
use Rattle.worker_engine.proofs.Received.{none-within}

-- ---- what doesn't parse

pub not-parsed : (packet : List ℕ) (e : RtpFault) → Some e ≡ fault_of packet → parsed packet ≡ None
not-parsed packet e is = ap (λ (o : Option RtpFault). cond (is_some o) None (Some (fields_of packet))) (sym is)

pub is-parsed : (packet : List ℕ) → None ≡ fault_of packet → parsed packet ≡ Some (fields_of packet)
is-parsed packet is = ap (λ (o : Option RtpFault). cond (is_some o) None (Some (fields_of packet))) (sym is)

dropped-after : (w : Worker) (o : Option LinkAt) (t : Tuple) (packet : List ℕ) → after_parsed w o t packet None ≡ w
dropped-after w None t packet = refl
dropped-after w (Some l) t packet = refl

dropped-out : (w : Worker) (o : Option LinkAt) (t : Tuple) (packet : List ℕ) → out_parsed w o t packet None ≡ []
dropped-out w None t packet = refl
dropped-out w (Some l) t packet = refl

abbrev received_by : Worker → Id → List ℕ → Fields → Option Received
received_by w id packet f = option_and_then (λ key. received_by_key w packet key f) (direct_of w id)

direct-none : (w : Worker) (id : Id) (packet : List ℕ) → parsed packet ≡ None → received_direct w id packet ≡ None
unfolding received_direct
direct-none w id packet none = ap (λ (o : Option Fields). if_within packet (option_and_then (received_by w id packet) o)) none ∙ none-within packet None refl

pub direct-is : (w : Worker) (id : Id) (packet : List ℕ) (f : Fields) → parsed packet ≡ Some f → received_direct w id packet ≡ if_within packet (received_by w id packet f)
unfolding received_direct
direct-is w id packet f some = ap (λ (o : Option Fields). if_within packet (option_and_then (received_by w id packet) o)) some

pub dropped-state : (w : Worker) (came : PacketFrom) (packet : List ℕ) → parsed packet ≡ None → w ≡ after_from w came packet
dropped-state w (from.Link link t) packet none =
    sym (ap (after_parsed w (place_of w link) t packet) none ∙ dropped-after w (place_of w link) t packet)
dropped-state w (from.Direct id) packet none = sym (ap (after_received w) (direct-none w id packet none))

pub dropped-outs : (w : Worker) (came : PacketFrom) (packet : List ℕ) → parsed packet ≡ None → out_by w came packet ≡ []
dropped-outs w (from.Link link t) packet none = ap (out_parsed w (place_of w link) t packet) none ∙ dropped-out w (place_of w link) t packet
dropped-outs w (from.Direct id) packet none = ap (emissions_of w) (direct-none w id packet none)

-- ---- what came for a link

pub taken-is : (w : Worker) (at : Place) (t : Tuple) (packet : List ℕ) (f : Fields) (taken : Bool) → taken ≡ is_taken (accept_in w at t) → taken ≡ true
    → received_if (is_taken (accept_in w at t)) (heard_at w at t) at packet f ≡ if_within packet (received_at_place (heard_at w at t) at packet f)
taken-is w at t packet f taken is e = ap (λ b. received_if b (heard_at w at t) at packet f) (sym is ∙ e)

pub datagram-outs : (w : Worker) (o : Option LinkAt) (at : Place) (t : Tuple) (packet : List ℕ) (f : Fields) → Some at ≡ option_map (λ (l : LinkAt). l.place) o
    → out_parsed w o t packet (Some f)
    ≡ told_learnt (accept_in w at t) at t ++ emissions_of (heard_at w at t) (received_if (is_taken (accept_in w at t)) (heard_at w at t) at packet f)
datagram-outs w None at t packet f e = absurd cc
datagram-outs w (Some l) at t packet f e =
    let same : l.place ≡ at = cc in
    ap (λ (p : Place). told_learnt (accept_in w p t) p t ++ emissions_of (heard_at w p t) (received_if (is_taken (accept_in w p t)) (heard_at w p t) p packet f)) same

pub on-err-any : {T E : Type 0} (r : Result T E) (P : Type 0) → P → OnErr r P
on-err-any (Ok x) P p = tt
on-err-any (Err e) P p = p
