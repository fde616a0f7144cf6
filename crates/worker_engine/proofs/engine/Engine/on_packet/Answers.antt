use Rattle.std.proofs.Common.{◌≡◌, ℕ, List, Some, map, sym, ap, subst, ◌∙◌}
use Rattle.std.specs.Prelude.{OnOk, OnErr}
use Rattle.rtp_packet.specs.Packet.{Fields}
use Rattle.worker_calls.specs.State.{Worker}
use Rattle.worker_calls.specs.Requests.{Outgoing}
use Rattle.worker_engine.specs.Outside.{call_of, Made, StopsAtAFault}
use Rattle.worker_engine.specs.declared.act.PacketFrom.{PacketFrom}
use Rattle.worker_engine.specs.Packets.{parsed, after_received, emissions_of}
use Rattle.worker_engine.specs.Forwarding.{after_from, out_by}
use Rattle.worker_engine.proofs.Calls.{made-none}
use Rattle.worker_engine.proofs.Heard.{not-parsed, is-parsed, dropped-state, dropped-outs, direct-is}
use Rattle.worker_engine.proofs.engine.Engine.on_packet.Goals as goal

pub returns-in_default-clause-state : goal.returns-in_default-clause-state
returns-in_default-clause-state g c =
    dropped-state c.args.self.now c.args.from c.args.packet.now (not-parsed c.args.packet.now c.in_default.field-0 c.in_default.ensures.fault)

pub returns-in_default-clause-told : goal.returns-in_default-clause-told
returns-in_default-clause-told g c =
    subst (λ (t : List Outgoing). Made (map call_of t) (g.O.Outbox.link_faults c.args.outbox.now) (g.O.Outbox.link_faults c.args.outbox.now) (g.O.Outbox.calls c.args.outbox.now) (g.O.Outbox.calls c.args.outbox.now))
    (sym (dropped-outs c.args.self.now c.args.from c.args.packet.now (not-parsed c.args.packet.now c.in_default.field-0 c.in_default.ensures.fault)))
    (made-none (g.O.Outbox.link_faults c.args.outbox.now) (g.O.Outbox.calls c.args.outbox.now))

pub returns-in-Direct-clause-state : goal.returns-in-Direct-clause-state
returns-in-Direct-clause-state g c =
    let w : Worker = c.args.self.now in
    let packet : List ℕ = c.args.packet.now in
    let f : Fields = c.in-Ok.view in
    let reads : parsed packet ≡ Some f = is-parsed packet c.in-Ok.ensures.fault ∙ ap Some (sym c.in-Ok.ensures.places) in
    subst (λ (v : Worker). OnOk c.on_direct.result (c.on_direct.new.self ≡ v))
    (ap (after_received w) (sym (direct-is w c.in-Direct.id packet f reads)) ∙ sym (ap (λ (s : PacketFrom). after_from w s packet) c.in-Direct.is))
    c.on_direct.ensures.state

pub returns-in-Direct-clause-told : goal.returns-in-Direct-clause-told
returns-in-Direct-clause-told g c =
    let w : Worker = c.args.self.now in
    let packet : List ℕ = c.args.packet.now in
    let f : Fields = c.in-Ok.view in
    let reads : parsed packet ≡ Some f = is-parsed packet c.in-Ok.ensures.fault ∙ ap Some (sym c.in-Ok.ensures.places) in
    subst (λ (t : List Outgoing). OnOk c.on_direct.result (Made (map call_of t) (g.O.Outbox.link_faults c.args.outbox.now) (g.O.Outbox.link_faults c.on_direct.new.outbox) (g.O.Outbox.calls c.args.outbox.now) (g.O.Outbox.calls c.on_direct.new.outbox)))
    (ap (emissions_of w) (sym (direct-is w c.in-Direct.id packet f reads)) ∙ sym (ap (λ (s : PacketFrom). out_by w s packet) c.in-Direct.is))
    c.on_direct.ensures.told

pub returns-in-Direct-clause-err : goal.returns-in-Direct-clause-err
returns-in-Direct-clause-err g c =
    let w : Worker = c.args.self.now in
    let packet : List ℕ = c.args.packet.now in
    let f : Fields = c.in-Ok.view in
    let reads : parsed packet ≡ Some f = is-parsed packet c.in-Ok.ensures.fault ∙ ap Some (sym c.in-Ok.ensures.places) in
    subst (λ (t : List Outgoing). OnErr c.on_direct.result (StopsAtAFault t (g.O.Outbox.link_faults c.args.outbox.now) (g.O.Outbox.link_faults c.on_direct.new.outbox) (g.O.Outbox.calls c.args.outbox.now) (g.O.Outbox.calls c.on_direct.new.outbox)))
    (ap (emissions_of w) (sym (direct-is w c.in-Direct.id packet f reads)) ∙ sym (ap (λ (s : PacketFrom). out_by w s packet) c.in-Direct.is))
    c.on_direct.ensures.err
