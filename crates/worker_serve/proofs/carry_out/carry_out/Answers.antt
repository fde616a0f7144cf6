use Rattle.std.proofs.Common.{◌+◌, [], ◌∷◌, ◌∙◌, drop, map, List, subst}
use Rattle.std.proofs.Math.ListN.{drop_of_length-le}
use Rattle.std.proofs.lemmas.Result.{err_from_is_err_and}
use Rattle.ms_devices.specs.Told.{Tells}
use Rattle.worker_calls.specs.declared.act.Act.{Act}
use Rattle.worker_serve.specs.Sending.{AddsBy, act_call}
use Rattle.worker_serve.proofs.SendingLemmas.{Left, drop_step, sent_cut, sent_more, sent_all}
use Rattle.worker_serve.proofs.carry_out.carry_out.Goals as goal

pub returns-in_err-carry_out_one-clause-sent : goal.returns-in_err-carry_out_one-clause-sent
returns-in_err-carry_out_one-clause-sent g c =
    let acts = c.args.acts.now in
    let i = c.loop-act.act-index in
    let x = c.act-item.result in
    let f = c.in_err-carry_out_one.field-0.0 in
    let before = subst (λ (ys : List Act). Tells (AddsBy (Left (map act_call acts) (map act_call ys))) (g.O.Outbox.calls c.args.outbox.now) (g.O.Outbox.calls c.loop-act.outbox))
    (drop_step acts i x c.loop-act-test.true c.act-item.is) c.loop-act.invariant.sent in
    let p = err_from_is_err_and c.from_residual.result c.from_residual.ensures.1 in
    rw (p.1, p.2) (sent_cut f (map act_call acts) (act_call x ∷ []) (map act_call (drop (i + 1) acts))
    (g.O.Outbox.calls c.args.outbox.now) (g.O.Outbox.calls c.loop-act.outbox) (g.O.Outbox.calls c.carry_out_one.new.outbox)
    c.in_err-carry_out_one.ensures.no_break before c.in_err-carry_out_one.ensures.sent)

pub loop-act-preserved : goal.loop-act-preserved
loop-act-preserved g c =
    let acts = c.args.acts.now in
    let i = c.loop-act.act-index in
    let x = c.act-item.result in
    let before = subst (λ (ys : List Act). Tells (AddsBy (Left (map act_call acts) (map act_call ys))) (g.O.Outbox.calls c.args.outbox.now) (g.O.Outbox.calls c.loop-act.outbox))
    (drop_step acts i x c.loop-act-test.true c.act-item.is) c.loop-act.invariant.sent in
    record {
      sent =
          sent_more tt (map act_call acts) (act_call x ∷ []) (map act_call (drop (i + 1) acts))
          (g.O.Outbox.calls c.args.outbox.now) (g.O.Outbox.calls c.loop-act.outbox) (g.O.Outbox.calls c.carry_out_one.new.outbox)
          before c.in_ok-carry_out_one.ensures.sent;
      counts = c.in_ok-carry_out_one.ensures.counts ∙ c.loop-act.invariant.counts;
      links = c.in_ok-carry_out_one.ensures.links ∙ c.loop-act.invariant.links;
    }

pub returns-clause-sent : goal.returns-clause-sent
returns-clause-sent g c =
    let acts = c.args.acts.now in
    sent_all tt (map act_call acts) (g.O.Outbox.calls c.args.outbox.now) (g.O.Outbox.calls c.loop-act.outbox)
    (subst (λ (ys : List Act). Tells (AddsBy (Left (map act_call acts) (map act_call ys))) (g.O.Outbox.calls c.args.outbox.now) (g.O.Outbox.calls c.loop-act.outbox))
    (drop_of_length-le acts c.loop-act-test.false) c.loop-act.invariant.sent)
