use Rattle.std.proofs.Common.{List, Option, map, option_and_then, sym, ap, subst, ◌∙◌}
use Rattle.std.specs.Prelude.{OnOk}
use Rattle.worker_calls.specs.State.{Worker, direct_of}
use Rattle.worker_calls.specs.Requests.{Outgoing}
use Rattle.worker_engine.specs.Outside.{call_of, Made}
use Rattle.worker_engine.specs.Packets.{emissions_of, if_within, received_by_key}
use Rattle.worker_engine.specs.Forwarding.{Incoming, out_served}
use Rattle.worker_engine.proofs.engine.Engine.on_direct.Goals as goal

pub returns-clause-told : goal.returns-clause-told
returns-clause-told g c =
    subst (λ (t : List Outgoing). OnOk c.serve.result (Made (map call_of t) (g.O.Outbox.link_faults c.args.outbox.now) (g.O.Outbox.link_faults c.serve.new.outbox) (g.O.Outbox.calls c.args.outbox.now) (g.O.Outbox.calls c.serve.new.outbox)))
    (ap (λ (o : Option Incoming). out_served o c.args.self.now) c.as_ref.ensures.value
    ∙ (ap (out_served c.received_directly-incoming.result) (sym c.self.view_is)
    ∙ (c.received_directly-incoming.ensures.outs
    ∙ ap (λ (w : Worker). emissions_of w (if_within c.args.packet.now (option_and_then (λ key. received_by_key w c.args.packet.now key c.args.view.now) (direct_of w c.args.id)))) c.self.view_is)))
    c.serve.ensures.told
