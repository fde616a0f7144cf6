use Rattle.std.proofs.Common.{◌≡◌, ℕ, List, ◌++◌, Option, Some, map, option_map, sym, ap, subst, ◌∙◌}
use Rattle.std.specs.Prelude.{OnOk, OnErr, option_copied}
use Rattle.rtp_packet.specs.Packet.{Fields}
use Rattle.worker_calls.specs.declared.place.Place.{Place}
use Rattle.worker_calls.specs.State.{Worker, LinkAt, place_of}
use Rattle.worker_calls.specs.Requests.{Outgoing}
use Rattle.worker_engine.specs.Outside.{call_of, Made, StopsAtAFault}
use Rattle.worker_engine.specs.Packets.{accept_in, heard_at, is_taken, if_within, received_at_place, received_if, told_learnt, emissions_of, out_parsed}
use Rattle.worker_engine.specs.Forwarding.{Incoming, out_served}
use Rattle.worker_engine.proofs.Calls.{outs-then, stops-before, stops-behind, on-ok-map, on-err-map}
use Rattle.worker_engine.proofs.Heard.{datagram-outs, taken-is, on-err-any}
use Rattle.worker_engine.proofs.engine.Engine.on_datagram.Goals as goal

pub returns-in_err-hear-clause-err : goal.returns-in_err-hear-clause-err
returns-in_err-hear-clause-err g c =
    let w : Worker = c.args.self.now in
    let at : Place = record { router = c.in-Some.at.router; transport = c.in-Some.at.transport } in
    let packet : List ℕ = c.args.packet.now in
    let f : Fields = c.args.view.now in
    let hw : Worker = heard_at w at c.args.from in
    let told : List Outgoing = told_learnt (accept_in w at c.args.from) at c.args.from in
    let emitted : List Outgoing = emissions_of hw (received_if (is_taken (accept_in w at c.args.from)) hw at packet f) in
    let outs : out_parsed w (place_of w c.args.link) c.args.from packet (Some f) ≡ told ++ emitted =
    datagram-outs w (place_of w c.args.link) at c.args.from packet f
    (c.in-Some.ensures ∙ ap (λ (v : Worker). option_map (λ (l : LinkAt). l.place) (place_of v c.args.link)) c.self.view_is) in
    on-err-any c.from_residual.result
    (StopsAtAFault (out_parsed w (place_of w c.args.link) c.args.from packet (Some f)) (g.O.Outbox.link_faults c.args.outbox.now) (g.O.Outbox.link_faults c.hear.new.outbox) (g.O.Outbox.calls c.args.outbox.now) (g.O.Outbox.calls c.hear.new.outbox))
    (subst (λ (t : List Outgoing). StopsAtAFault t (g.O.Outbox.link_faults c.args.outbox.now) (g.O.Outbox.link_faults c.hear.new.outbox) (g.O.Outbox.calls c.args.outbox.now) (g.O.Outbox.calls c.hear.new.outbox)) (sym outs)
    (stops-before told emitted (g.O.Outbox.link_faults c.args.outbox.now) (g.O.Outbox.link_faults c.hear.new.outbox) (g.O.Outbox.calls c.args.outbox.now) (g.O.Outbox.calls c.hear.new.outbox) c.in_err-hear.ensures.err))

pub returns-clause-told : goal.returns-clause-told
returns-clause-told g c =
    let w : Worker = c.args.self.now in
    let at : Place = record { router = c.in-Some.at.router; transport = c.in-Some.at.transport } in
    let packet : List ℕ = c.args.packet.now in
    let f : Fields = c.args.view.now in
    let hw : Worker = heard_at w at c.args.from in
    let told : List Outgoing = told_learnt (accept_in w at c.args.from) at c.args.from in
    let emitted : List Outgoing = emissions_of hw (received_if (is_taken (accept_in w at c.args.from)) hw at packet f) in
    let outs : out_parsed w (place_of w c.args.link) c.args.from packet (Some f) ≡ told ++ emitted =
    datagram-outs w (place_of w c.args.link) at c.args.from packet f
    (c.in-Some.ensures ∙ ap (λ (v : Worker). option_map (λ (l : LinkAt). l.place) (place_of v c.args.link)) c.self.view_is) in
    let goes : out_served (option_copied c.as_ref.result) c.hear.new.self ≡ emitted =
    ap (λ (o : Option Incoming). out_served o c.hear.new.self) c.as_ref.ensures.value
    ∙ (ap (out_served c.received_at-incoming.result) (sym c.self-2.view_is)
    ∙ (c.received_at-incoming.ensures.outs
    ∙ (ap (λ (v : Worker). emissions_of v (if_within packet (received_at_place v at packet f))) (c.self-2.view_is ∙ c.hear.ensures.state)
    ∙ ap (emissions_of hw) (sym (taken-is w at c.args.from packet f c.in_ok-hear.field-0 c.in_ok-hear.ensures.taken c.if-not-branch.false))))) in
    subst (λ (t : List Outgoing). OnOk c.serve.result (Made (map call_of t) (g.O.Outbox.link_faults c.args.outbox.now) (g.O.Outbox.link_faults c.serve.new.outbox) (g.O.Outbox.calls c.args.outbox.now) (g.O.Outbox.calls c.serve.new.outbox))) (sym outs)
    (on-ok-map (Made (map call_of emitted) (g.O.Outbox.link_faults c.hear.new.outbox) (g.O.Outbox.link_faults c.serve.new.outbox) (g.O.Outbox.calls c.hear.new.outbox) (g.O.Outbox.calls c.serve.new.outbox))
    (Made (map call_of (told ++ emitted)) (g.O.Outbox.link_faults c.args.outbox.now) (g.O.Outbox.link_faults c.serve.new.outbox) (g.O.Outbox.calls c.args.outbox.now) (g.O.Outbox.calls c.serve.new.outbox)) c.serve.result
    (λ made. outs-then told emitted (g.O.Outbox.link_faults c.args.outbox.now) (g.O.Outbox.link_faults c.hear.new.outbox) (g.O.Outbox.link_faults c.serve.new.outbox)
    (g.O.Outbox.calls c.args.outbox.now) (g.O.Outbox.calls c.hear.new.outbox) (g.O.Outbox.calls c.serve.new.outbox) c.in_ok-hear.ensures.told made)
    (subst (λ (t : List Outgoing). OnOk c.serve.result (Made (map call_of t) (g.O.Outbox.link_faults c.hear.new.outbox) (g.O.Outbox.link_faults c.serve.new.outbox) (g.O.Outbox.calls c.hear.new.outbox) (g.O.Outbox.calls c.serve.new.outbox))) goes c.serve.ensures.told))

pub returns-clause-err : goal.returns-clause-err
returns-clause-err g c =
    let w : Worker = c.args.self.now in
    let at : Place = record { router = c.in-Some.at.router; transport = c.in-Some.at.transport } in
    let packet : List ℕ = c.args.packet.now in
    let f : Fields = c.args.view.now in
    let hw : Worker = heard_at w at c.args.from in
    let told : List Outgoing = told_learnt (accept_in w at c.args.from) at c.args.from in
    let emitted : List Outgoing = emissions_of hw (received_if (is_taken (accept_in w at c.args.from)) hw at packet f) in
    let outs : out_parsed w (place_of w c.args.link) c.args.from packet (Some f) ≡ told ++ emitted =
    datagram-outs w (place_of w c.args.link) at c.args.from packet f
    (c.in-Some.ensures ∙ ap (λ (v : Worker). option_map (λ (l : LinkAt). l.place) (place_of v c.args.link)) c.self.view_is) in
    let goes : out_served (option_copied c.as_ref.result) c.hear.new.self ≡ emitted =
    ap (λ (o : Option Incoming). out_served o c.hear.new.self) c.as_ref.ensures.value
    ∙ (ap (out_served c.received_at-incoming.result) (sym c.self-2.view_is)
    ∙ (c.received_at-incoming.ensures.outs
    ∙ (ap (λ (v : Worker). emissions_of v (if_within packet (received_at_place v at packet f))) (c.self-2.view_is ∙ c.hear.ensures.state)
    ∙ ap (emissions_of hw) (sym (taken-is w at c.args.from packet f c.in_ok-hear.field-0 c.in_ok-hear.ensures.taken c.if-not-branch.false))))) in
    subst (λ (t : List Outgoing). OnErr c.serve.result (StopsAtAFault t (g.O.Outbox.link_faults c.args.outbox.now) (g.O.Outbox.link_faults c.serve.new.outbox) (g.O.Outbox.calls c.args.outbox.now) (g.O.Outbox.calls c.serve.new.outbox))) (sym outs)
    (on-err-map (StopsAtAFault emitted (g.O.Outbox.link_faults c.hear.new.outbox) (g.O.Outbox.link_faults c.serve.new.outbox) (g.O.Outbox.calls c.hear.new.outbox) (g.O.Outbox.calls c.serve.new.outbox))
    (StopsAtAFault (told ++ emitted) (g.O.Outbox.link_faults c.args.outbox.now) (g.O.Outbox.link_faults c.serve.new.outbox) (g.O.Outbox.calls c.args.outbox.now) (g.O.Outbox.calls c.serve.new.outbox)) c.serve.result
    (λ stop. stops-behind told emitted (g.O.Outbox.link_faults c.args.outbox.now) (g.O.Outbox.link_faults c.hear.new.outbox) (g.O.Outbox.link_faults c.serve.new.outbox)
    (g.O.Outbox.calls c.args.outbox.now) (g.O.Outbox.calls c.hear.new.outbox) (g.O.Outbox.calls c.serve.new.outbox) c.in_ok-hear.ensures.told stop)
    (subst (λ (t : List Outgoing). OnErr c.serve.result (StopsAtAFault t (g.O.Outbox.link_faults c.hear.new.outbox) (g.O.Outbox.link_faults c.serve.new.outbox) (g.O.Outbox.calls c.hear.new.outbox) (g.O.Outbox.calls c.serve.new.outbox))) goes c.serve.ensures.err))
