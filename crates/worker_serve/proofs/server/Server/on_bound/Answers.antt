use Rattle.std.proofs.Common.{◌≡◌, ◌++◌, List, map, ap, ◌∙◌}
use Rattle.worker_calls.specs.Acts.{outgoing}
use Rattle.worker_calls.specs.Requests.{out_bound}
use Rattle.worker_calls.specs.declared.act.Act.{Act}
use Rattle.worker_serve.proofs.SendingLemmas.{acts_go, ok_here}
use Rattle.worker_serve.proofs.server.Server.on_bound.Goals as goal

pub returns-clause-sent : goal.returns-clause-sent
returns-clause-sent g c =
    let outs = out_bound c.args.self.now.engine c.args.port in
    let had = c.clear.new.self.items in
    let given : map outgoing c.on_bound.new.into.items ≡ map outgoing had ++ outs =
    ok_here (map outgoing c.on_bound.new.into.items ≡ map outgoing had ++ outs) c.on_bound.result c.if-is_err.ensures.value c.on_bound.ensures.acts in
    let acts = c.as_slice.result.now in
    let are : map outgoing acts ≡ outs =
    ap (λ (x : List Act). map outgoing x) c.as_slice.ensures.value ∙ (given ∙ ap (λ (x : List Act). map outgoing x ++ outs) c.clear.ensures.items) in
    acts_go c.carry_out.result acts outs (g.O.Outbox.calls c.args.outbox.now) (g.O.Outbox.calls c.carry_out.new.outbox) are c.carry_out.ensures.sent
