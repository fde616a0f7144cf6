use Rattle.std.proofs.Common.{◌≡◌, ◌∷◌, ◌++◌, ℕ, List, Option, Ok, Err, map, refl, sym, ap, ◌∙◌, option_to_list}
use Rattle.std.proofs.lemmas.Result.{err_from_is_err_and}
use Rattle.channel_frames.specs.Frames.{frames}
use Rattle.channel_frames.specs.Reading.{drained}
use Rattle.worker_engine.specs.Run.{payload}
use Rattle.worker_serve.proofs.HearingLemmas.{no_part, part_all, part_cut, part_more, part_till}
use Rattle.worker_serve.proofs.SendingLemmas.{links_at_rest, links_then}
use Rattle.worker_serve.proofs.server.Server.on_payloads.Goals as goal

pub loop-payload-init : goal.loop-payload-init
loop-payload-init g c =
    let calls = g.O.Outbox.calls in
    record {
      sent = no_part c.args.self.now.engine (map payload (frames c.args.self.now.reader.unread)) (calls c.args.outbox.now);
      drained = refl;
      counts = refl;
      links = links_at_rest (g.O.Outbox.link_faults c.args.outbox.now) (calls c.args.outbox.now);
    }

-- no further payload can be had
pub returns-in_err-payload-clause-sent : goal.returns-in_err-payload-clause-sent
returns-in_err-payload-clause-sent g c =
    let all = map payload (frames c.args.self.now.reader.unread) in
    let p = err_from_is_err_and c.from_residual.result c.from_residual.ensures.1 in
    rw (p.1, p.2) (part_till c.in_err-payload.field-0.0 c.args.self.now.engine c.loop-payload.self.engine all c.loop-payload.self.reader
    (g.O.Outbox.calls c.args.outbox.now) (g.O.Outbox.calls c.loop-payload.outbox)
    (λ is. c.in_err-payload.ensures.no_write (ap Err is)) (λ place told is. c.in_err-payload.ensures.too_long place told (ap Err is))
    c.loop-payload.invariant.sent)

-- a call failed, or memory ran out
pub returns-in_err-on_payload-clause-sent : goal.returns-in_err-on_payload-clause-sent
returns-in_err-on_payload-clause-sent g c =
    let all = map payload (frames c.args.self.now.reader.unread) in
    let left = frames c.next_payload.new.reader.unread in
    let is : frames c.loop-payload.self.reader.unread ≡ c.as_slice.result.now ∷ left =
    c.in_ok-payload.ensures.found ∙ (ap (λ (o : Option (List ℕ)). option_to_list o ++ left) c.in-Some.is ∙ ap (λ (x : List ℕ). x ∷ left) (sym c.as_slice.ensures)) in
    let p = err_from_is_err_and c.from_residual-in_err-on_payload.result c.from_residual-in_err-on_payload.ensures.1 in
    rw (p.1, p.2) (part_cut c.in_err-on_payload.field-0.0 c.args.self.now.engine c.loop-payload.self.engine c.on_payload.new.self.engine all
    (frames c.loop-payload.self.reader.unread) left c.as_slice.result.now
    (g.O.Outbox.calls c.args.outbox.now) (g.O.Outbox.calls c.loop-payload.outbox) (g.O.Outbox.calls c.on_payload.new.outbox)
    c.in_err-on_payload.ensures.no_break is c.loop-payload.invariant.sent c.in_err-on_payload.ensures.sent)

pub returns-in_err-on_payload-clause-links : goal.returns-in_err-on_payload-clause-links
returns-in_err-on_payload-clause-links g c =
    let count = g.O.Outbox.link_faults in
    let calls = g.O.Outbox.calls in
    links_then (count c.args.outbox.now) (count c.loop-payload.outbox) (count c.on_payload.new.outbox)
    (calls c.args.outbox.now) (calls c.loop-payload.outbox) (calls c.on_payload.new.outbox) c.loop-payload.invariant.links c.on_payload.ensures.links

pub loop-payload-preserved : goal.loop-payload-preserved
loop-payload-preserved g c =
    let all = frames c.loop-payload.self.reader.unread in
    let left = frames c.on_payload.new.self.reader.unread in
    let one = c.as_slice.result.now in
    let kept : frames c.next_payload.new.reader.unread ≡ left = ap (λ r. frames r.unread) (sym c.in_ok-on_payload.ensures.reader) in
    let is : all ≡ one ∷ left =
    c.in_ok-payload.ensures.found
    ∙ (ap (λ (o : Option (List ℕ)). option_to_list o ++ frames c.next_payload.new.reader.unread) c.in-Some.is
    ∙ (ap (λ (x : List ℕ). x ∷ frames c.next_payload.new.reader.unread) (sym c.as_slice.ensures) ∙ ap (λ (xs : List (List ℕ)). one ∷ xs) kept)) in
    let count = g.O.Outbox.link_faults in
    let calls = g.O.Outbox.calls in
    record {
      sent =
          part_more c.args.self.now.engine c.loop-payload.self.engine c.on_payload.new.self.engine (map payload (frames c.args.self.now.reader.unread)) all left one
          (calls c.args.outbox.now) (calls c.loop-payload.outbox) (calls c.on_payload.new.outbox) is c.loop-payload.invariant.sent c.in_ok-on_payload.ensures.sent;
      drained = ap drained c.in_ok-on_payload.ensures.reader ∙ (c.in_ok-payload.ensures.drained ∙ c.loop-payload.invariant.drained);
      counts = c.in_ok-on_payload.ensures.counts ∙ c.loop-payload.invariant.counts;
      links =
          links_then (count c.args.outbox.now) (count c.loop-payload.outbox) (count c.on_payload.new.outbox)
          (calls c.args.outbox.now) (calls c.loop-payload.outbox) (calls c.on_payload.new.outbox) c.loop-payload.invariant.links c.on_payload.ensures.links;
    }

-- all are served
pub returns-clause-sent : goal.returns-clause-sent
returns-clause-sent g c =
    let left = frames c.next_payload.new.reader.unread in
    part_all c.args.self.now.engine c.loop-payload.self.engine (map payload (frames c.args.self.now.reader.unread)) (frames c.loop-payload.self.reader.unread)
    (g.O.Outbox.calls c.args.outbox.now) (g.O.Outbox.calls c.loop-payload.outbox)
    (c.in_ok-payload.ensures.found ∙ (ap (λ (o : Option (List ℕ)). option_to_list o ++ left) c.in_default.is ∙ (c.in_ok-payload.ensures.none (ap Ok c.in_default.is)).0))
    c.loop-payload.invariant.sent
