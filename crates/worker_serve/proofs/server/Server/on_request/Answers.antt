use Rattle.std.proofs.Common.{◌≡◌, ◌++◌, List, None, map, sym, ap, ◌∙◌}
use Rattle.rtp_params.specs.Readable.{Each}
use Rattle.worker_calls.specs.Acts.{outgoing, IsShort}
use Rattle.worker_calls.specs.declared.act.Act.{Act}
use Rattle.worker_engine.specs.Run.{after_payload, out_payload}
use Rattle.worker_serve.specs.Sending.{asked_in}
use Rattle.worker_serve.proofs.PayloadLemmas.{link_served, request_sayable, request_served}
use Rattle.worker_serve.proofs.SendingLemmas.{ok_here}
use Rattle.worker_serve.proofs.server.Server.on_request.Goals as goal

pub carry_out-requires : goal.carry_out-requires
carry_out-requires g c =
    let w = c.args.self.now.engine in
    let bytes = c.args.bytes.now in
    let outs = out_payload w None bytes in
    let items = c.on_payload.new.into.items in
    let had = c.clear.new.self.items in
    let given : map outgoing items ≡ map outgoing had ++ outs =
    ok_here (map outgoing items ≡ map outgoing had ++ outs) c.on_payload.result c.if-is_err.ensures.value c.on_payload.ensures.acts in
    let short : Each IsShort outs = ok_here (Each IsShort outs) c.on_payload.result c.if-is_err.ensures.value c.on_payload.ensures.short in
    let acts = c.as_slice-in-None.result.now in
    let are : map outgoing acts ≡ outs =
    ap (λ (x : List Act). map outgoing x) c.as_slice-in-None.ensures.value ∙ (given ∙ ap (λ (x : List Act). map outgoing x ++ outs) c.clear.ensures.items) in
    let none : asked_in acts ≡ None =
    ap asked_in (c.as_slice-in-None.ensures.value ∙ sym c.as_slice.ensures.value) ∙ sym c.in-None.ensures in
    request_sayable acts w bytes are none short

pub returns-in-None-clause-sent : goal.returns-in-None-clause-sent
returns-in-None-clause-sent g c =
    let w = c.args.self.now.engine in
    let bytes = c.args.bytes.now in
    let outs = out_payload w None bytes in
    let items = c.on_payload.new.into.items in
    let had = c.clear.new.self.items in
    let given : map outgoing items ≡ map outgoing had ++ outs =
    ok_here (map outgoing items ≡ map outgoing had ++ outs) c.on_payload.result c.if-is_err.ensures.value c.on_payload.ensures.acts in
    let left = c.on_payload.new.self in
    let state : left ≡ after_payload w None bytes =
    ok_here (left ≡ after_payload w None bytes) c.on_payload.result c.if-is_err.ensures.value c.on_payload.ensures.state in
    let acts = c.as_slice-in-None.result.now in
    let are : map outgoing acts ≡ outs =
    ap (λ (x : List Act). map outgoing x) c.as_slice-in-None.ensures.value ∙ (given ∙ ap (λ (x : List Act). map outgoing x ++ outs) c.clear.ensures.items) in
    let none : asked_in acts ≡ None =
    ap asked_in (c.as_slice-in-None.ensures.value ∙ sym c.as_slice.ensures.value) ∙ sym c.in-None.ensures in
    request_served c.carry_out.result w left bytes acts (g.O.Outbox.calls c.args.outbox.now) (g.O.Outbox.calls c.carry_out.new.outbox)
    c.requires are none state c.carry_out.ensures.sent

pub returns-in-Some-clause-sent : goal.returns-in-Some-clause-sent
returns-in-Some-clause-sent g c =
    let w = c.args.self.now.engine in
    let bytes = c.args.bytes.now in
    let outs = out_payload w None bytes in
    let items = c.on_payload.new.into.items in
    let had = c.clear.new.self.items in
    let given : map outgoing items ≡ map outgoing had ++ outs =
    ok_here (map outgoing items ≡ map outgoing had ++ outs) c.on_payload.result c.if-is_err.ensures.value c.on_payload.ensures.acts in
    let v = c.on_payload.new.self in
    let state : v ≡ after_payload w None bytes =
    ok_here (v ≡ after_payload w None bytes) c.on_payload.result c.if-is_err.ensures.value c.on_payload.ensures.state in
    let acts = c.as_slice.result.now in
    let are : map outgoing acts ≡ outs =
    ap (λ (x : List Act). map outgoing x) c.as_slice.ensures.value ∙ (given ∙ ap (λ (x : List Act). map outgoing x ++ outs) c.clear.ensures.items) in
    link_served c.open.result w v c.open.new.self.engine bytes acts c.in-Some.asked (g.O.Outbox.calls c.args.outbox.now) (g.O.Outbox.calls c.open.new.outbox)
    c.requires are (sym c.in-Some.ensures) state c.open.ensures.sent
