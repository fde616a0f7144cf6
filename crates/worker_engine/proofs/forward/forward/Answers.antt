use Rattle.std.proofs.Common.{◌≡◌, ℕ, ◌+◌, ◌<◌, ◌++◌, List, Option, length, map, drop, sym, ap, subst, ◌∙◌, arith}
use Rattle.std.proofs.lemmas.List.{append-nil}
use Rattle.ms_base.specs.declared.id.Id.{Id}
use Rattle.worker_calls.specs.Requests.{Outgoing}
use Rattle.worker_calls.specs.State.{Worker}
use Rattle.worker_engine.specs.Outside.{call_of, Made, StopsAtAFault}
use Rattle.worker_engine.specs.Forwarding.{Incoming, targets, behind_one, behind_each, out_one, out_each, listed}
use Rattle.worker_engine.proofs.Calls.{outs-then}
use Rattle.worker_engine.proofs.Heard.{on-err-any}
use Rattle.worker_engine.proofs.Steps.{targets-kept, left-state, next-outs, stops-here, place-in, end-state, end-outs}
use Rattle.worker_engine.proofs.Sends.{sent-one}
use Rattle.worker_engine.proofs.forward.forward.Goals as goal

pub loop-passed-smaller : goal.loop-passed-smaller
loop-passed-smaller g c =
    let i : Incoming = c.args.incoming.now in
    let w : Worker = c.loop-passed.worker in
    let ts : List (Id × Id) = targets i c.args.worker.now in
    let to : Id × Id = (c.in-Some.passed.consumer, c.in-Some.passed.transport) in
    let kept : length (targets i c.send.new.worker) ≡ length (targets i w) =
    ap (λ (v : Worker). length (targets i v)) (c.send.ensures.state ∙ c.in-Some.ensures.state) ∙ ap length (targets-kept i to.0 w)
    in
    let inside : c.loop-passed.place < length (targets i w) = place-in i ts c.loop-passed.place to w c.loop-passed.invariant.same c.in-Some.ensures.to in
    omega arith

pub loop-passed-preserved : goal.loop-passed-preserved
loop-passed-preserved g c =
    let i : Incoming = c.args.incoming.now in
    let w : Worker = c.loop-passed.worker in
    let place : ℕ = c.loop-passed.place in
    let ts : List (Id × Id) = targets i c.args.worker.now in
    let to : Id × Id = (c.in-Some.passed.consumer, c.in-Some.passed.transport) in
    let whole : List Outgoing = out_each i ts c.args.worker.now in
    let state : c.send.new.worker ≡ behind_one i to.0 w = c.send.ensures.state ∙ c.in-Some.ensures.state in
    record {
      same = ap (targets i) state ∙ (targets-kept i to.0 w ∙ c.loop-passed.invariant.same);
      state = ap (λ (v : Worker). behind_each i (drop (place + 1) ts) v) state
          ∙ (left-state i ts place to w c.loop-passed.invariant.same c.in-Some.ensures.to ∙ c.loop-passed.invariant.state);
      sent = c.loop-passed.invariant.sent ++ listed (out_one i to w);
      outs = ap (λ (v : Worker). (c.loop-passed.invariant.sent ++ listed (out_one i to w)) ++ out_each i (drop (place + 1) ts) v) state
          ∙ next-outs i ts place to w c.loop-passed.invariant.same c.in-Some.ensures.to c.loop-passed.invariant.sent whole c.loop-passed.invariant.outs;
      made = outs-then c.loop-passed.invariant.sent (listed (out_one i to w))
          (g.O.Outbox.link_faults c.args.outbox.now) (g.O.Outbox.link_faults c.loop-passed.outbox) (g.O.Outbox.link_faults c.send.new.outbox)
          (g.O.Outbox.calls c.args.outbox.now) (g.O.Outbox.calls c.loop-passed.outbox) (g.O.Outbox.calls c.send.new.outbox)
          c.loop-passed.invariant.made
          (subst (λ (o : Option Outgoing). Made (map call_of (listed o)) (g.O.Outbox.link_faults c.loop-passed.outbox) (g.O.Outbox.link_faults c.send.new.outbox) (g.O.Outbox.calls c.loop-passed.outbox) (g.O.Outbox.calls c.send.new.outbox))
          (sent-one i c.in-Some.passed (drop 41 c.pass.new.buffer) w c.pass.new.worker c.in-Some.ensures.state c.in-Some.ensures.remote c.in-Some.ensures.packet) c.in_ok-send.ensures.told);
      channel = c.in_ok-send.ensures.cause.still ∙ c.loop-passed.invariant.channel;
      links = omega (arith, c.send.ensures.links);
    }

pub returns-in_err-send-clause-err : goal.returns-in_err-send-clause-err
returns-in_err-send-clause-err g c =
    let i : Incoming = c.args.incoming.now in
    let w : Worker = c.loop-passed.worker in
    let ts : List (Id × Id) = targets i c.args.worker.now in
    let to : Id × Id = (c.in-Some.passed.consumer, c.in-Some.passed.transport) in
    let whole : List Outgoing = out_each i ts c.args.worker.now in
    on-err-any c.from_residual.result
    (StopsAtAFault whole (g.O.Outbox.link_faults c.args.outbox.now) (g.O.Outbox.link_faults c.send.new.outbox) (g.O.Outbox.calls c.args.outbox.now) (g.O.Outbox.calls c.send.new.outbox))
    (stops-here i ts c.loop-passed.place to w c.loop-passed.invariant.same c.in-Some.ensures.to c.loop-passed.invariant.sent whole
    (g.O.Outbox.link_faults c.args.outbox.now) (g.O.Outbox.link_faults c.loop-passed.outbox) (g.O.Outbox.link_faults c.send.new.outbox)
    (g.O.Outbox.calls c.args.outbox.now) (g.O.Outbox.calls c.loop-passed.outbox) (g.O.Outbox.calls c.send.new.outbox)
    c.loop-passed.invariant.outs c.loop-passed.invariant.made
    (subst (λ (o : Option Outgoing). StopsAtAFault (listed o) (g.O.Outbox.link_faults c.loop-passed.outbox) (g.O.Outbox.link_faults c.send.new.outbox) (g.O.Outbox.calls c.loop-passed.outbox) (g.O.Outbox.calls c.send.new.outbox))
    (sent-one i c.in-Some.passed (drop 41 c.pass.new.buffer) w c.pass.new.worker c.in-Some.ensures.state c.in-Some.ensures.remote c.in-Some.ensures.packet) c.in_err-send.ensures.err))

pub returns-clause-state : goal.returns-clause-state
returns-clause-state g c =
    let i : Incoming = c.args.incoming.now in
    let ts : List (Id × Id) = targets i c.args.worker.now in
    c.in_default.ensures.none
    ∙ (sym (end-state i ts c.loop-passed.place c.loop-passed.worker c.loop-passed.invariant.same c.in_default.ensures.to) ∙ c.loop-passed.invariant.state)

pub returns-clause-told : goal.returns-clause-told
returns-clause-told g c =
    let i : Incoming = c.args.incoming.now in
    let ts : List (Id × Id) = targets i c.args.worker.now in
    let whole : List Outgoing = out_each i ts c.args.worker.now in
    let all : c.loop-passed.invariant.sent ≡ whole =
    sym (append-nil c.loop-passed.invariant.sent)
    ∙ end-outs i ts c.loop-passed.place c.loop-passed.worker c.loop-passed.invariant.same c.in_default.ensures.to c.loop-passed.invariant.sent whole c.loop-passed.invariant.outs in
    subst (λ (t : List Outgoing). Made (map call_of t) (g.O.Outbox.link_faults c.args.outbox.now) (g.O.Outbox.link_faults c.loop-passed.outbox)
    (g.O.Outbox.calls c.args.outbox.now) (g.O.Outbox.calls c.loop-passed.outbox)) all c.loop-passed.invariant.made
