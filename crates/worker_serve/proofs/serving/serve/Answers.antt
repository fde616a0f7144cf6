use Rattle.std.proofs.Common.{◌∷◌, ◌++◌, [], ℕ, Ok, Err, length, refl, ap, subst, ◌∙◌}
use Rattle.ms_devices.specs.Causes.{Rose}
use Rattle.ms_devices.specs.Outside.{event_of}
use Rattle.ms_devices.specs.declared.events.InEvent.{InEvent}
use Rattle.worker_serve.specs.Hearing.{events_at}
use Rattle.worker_serve.specs.Sending.{Goes, ServedBy}
use Rattle.worker_serve.specs.ServeEnds.{GivenBy, MadeBy, end_of}
use Rattle.worker_serve.specs.Serving.{IsAny, IsCutShort, IsOutput, IsToTheEnd, IsUnbroken}
use Rattle.worker_serve.proofs.SendingLemmas.{counts_behind, links_same, links_then}
use Rattle.worker_serve.proofs.ServeLemmas.{HasRead, HasServed, given_stops, output_is, output_short, output_stops, read_more, read_nothing, read_to_the_end, read_unbroken, running, served_more, served_nothing, since_more, since_so, since_start, since_still, start_given, start_made, started_all, started_cut, stopped_unread, stopped_written}
use Rattle.worker_serve.proofs.serving.serve.Goals as goal

-- it can't say that it runs
pub returns-in-Err : goal.returns-in-Err
returns-in-Err g c =
    let f = c.in-Err.fault in
    let faults = g.O.Outbox.channel_faults in
    let count = g.O.Outbox.link_faults in
    let calls = g.O.Outbox.calls in
    rw c.from.ensures (record {
      served =
          since_start (GivenBy (end_of f)) (MadeBy (end_of f)) (Goes {T = Unit {0}} (Err f) (running ∷ [])) (start_given f c.in-Err.ensures.no_break)
          (start_made f c.in-Err.ensures.no_break) (g.I.Inbox.given c.args.inbox.now) (calls c.args.outbox.now) (calls c.started.new.outbox) (started_cut _ f (calls c.args.outbox.now) (calls c.started.new.outbox) c.in-Err.ensures.sent);
      reads = stopped_unread f (g.I.Inbox.faults c.args.inbox.now) (g.I.Inbox.faults c.args.inbox.now) refl;
      writes = stopped_written f (faults c.args.outbox.now) (faults c.started.new.outbox) c.in-Err.ensures.counts;
      links = links_same (Goes {T = _} (Err f) (running ∷ [])) (count c.args.outbox.now) (count c.started.new.outbox) (calls c.args.outbox.now) (calls c.started.new.outbox) c.in-Err.ensures.links c.in-Err.ensures.sent;
    })

pub loop-init : goal.loop-init
loop-init g c =
    let w = c.in-Ok-started.server.engine in
    let r = c.in-Ok-started.server.reader in
    let count = g.O.Outbox.link_faults in
    let calls = g.O.Outbox.calls in
    record {
      served =
          since_start (HasRead r) (HasServed w) (Goes (Ok (tt {0})) (running ∷ []))
          (read_nothing c.laws.ensures r c.in-Ok-started.ensures.reader) (served_nothing w c.in-Ok-started.ensures.engine)
          (g.I.Inbox.given c.args.inbox.now) (calls c.args.outbox.now) (calls c.started.new.outbox) (started_all _ c.in-Ok-started.server (calls c.args.outbox.now) (calls c.started.new.outbox) c.in-Ok-started.ensures.sent);
      read = refl;
      channel = c.in-Ok-started.ensures.counts;
      links = links_same (Goes (Ok c.in-Ok-started.server) (running ∷ [])) (count c.args.outbox.now) (count c.started.new.outbox) (calls c.args.outbox.now) (calls c.started.new.outbox) c.in-Ok-started.ensures.links c.in-Ok-started.ensures.sent;
      room = ap length c.as_mut_slice-place.ensures.value ∙ c.in-Ok.ensures;
    }

-- the inbox failed
pub returns-in_default-next : goal.returns-in_default-next
returns-in_default-next g c =
    let w = c.loop.server.engine in
    let r = c.loop.server.reader in
    let given = g.I.Inbox.given in
    let calls = g.O.Outbox.calls in
    record {
      served =
          since_so (HasRead r) IsUnbroken (read_unbroken r) (HasServed w) IsOutput (output_is w) (given c.args.inbox.now) (given c.next.new.self)
          (calls c.args.outbox.now) (calls c.loop.outbox)
          (since_still (HasRead r) (HasServed w) (given c.args.inbox.now) (given c.loop.inbox) (given c.next.new.self)
          (calls c.args.outbox.now) (calls c.loop.outbox) c.loop.invariant.served c.in_default-next.ensures.err);
      reads = subst (λ (n : ℕ). Rose n (g.I.Inbox.faults c.next.new.self)) c.loop.invariant.read c.in_default-next.ensures.cause.rose;
      writes = c.loop.invariant.channel;
      links = c.loop.invariant.links;
    }

-- the event is not served to its end
pub returns-in-Err-on_event : goal.returns-in-Err-on_event
returns-in-Err-on_event g c =
    let f = c.in-Err-on_event.fault in
    let w = c.loop.server.engine in
    let r = c.loop.server.reader in
    let v = c.on_event.new.self.engine in
    let e = event_of c.in-Ok-next.event c.next.new.into in
    let given = g.I.Inbox.given in
    let calls = g.O.Outbox.calls in
    let faults = g.O.Outbox.channel_faults in
    let count = g.O.Outbox.link_faults in
    rw c.from-in-Err-on_event.ensures (record {
      served =
          since_more (HasRead r) (GivenBy (end_of f)) (HasServed w) (MadeBy (end_of f)) (ServedBy {T = Unit {0}} (Err f) w (events_at r.unread e) v) e
          (given_stops f r e c.in-Err-on_event.ensures.too_long) (λ events made added. output_stops c.laws.ensures f w r e events made added)
          (given c.args.inbox.now) (given c.loop.inbox) (given c.next.new.self) (calls c.args.outbox.now) (calls c.loop.outbox) (calls c.on_event.new.outbox)
          c.loop.invariant.served c.in-Ok-next.ensures.given c.in-Err-on_event.ensures.sent;
      reads = stopped_unread f (g.I.Inbox.faults c.args.inbox.now) (g.I.Inbox.faults c.next.new.self) (c.in-Ok-next.ensures.cause.still ∙ c.loop.invariant.read);
      writes =
          stopped_written f (faults c.args.outbox.now) (faults c.on_event.new.outbox)
          (counts_behind f (faults c.args.outbox.now) (faults c.loop.outbox) (faults c.on_event.new.outbox) c.loop.invariant.channel c.in-Err-on_event.ensures.counts);
      links =
          links_then (count c.args.outbox.now) (count c.loop.outbox) (count c.on_event.new.outbox) (calls c.args.outbox.now) (calls c.loop.outbox) (calls c.on_event.new.outbox)
          c.loop.invariant.links c.on_event.ensures.links;
    })

-- the end came
pub returns-in-End : goal.returns-in-End
returns-in-End g c =
    let laws = c.laws.ensures in
    let w = c.loop.server.engine in
    let r = c.loop.server.reader in
    let e = event_of c.in-Ok-next.event c.next.new.into in
    let v = c.on_event.new.self.engine in
    let s = c.on_event.new.self.reader in
    let at_end = ap (λ (x : InEvent). event_of x c.next.new.into) c.in-End.is in
    let heard = c.in_default-on_event.ensures in
    let given = g.I.Inbox.given in
    let calls = g.O.Outbox.calls in
    let count = g.O.Outbox.link_faults in
    record {
      served =
          since_more (HasRead r) IsToTheEnd (HasServed w) IsOutput (ServedBy (Ok (tt {0})) w (events_at r.unread e) v) e
          (λ events so-far. read_to_the_end s events e at_end (read_more r s e heard.read events so-far))
          (λ events made added read so-far next. output_is v (events ++ e ∷ []) (made ++ added) (served_more laws w v r e events made added read so-far next))
          (given c.args.inbox.now) (given c.loop.inbox) (given c.next.new.self)
          (calls c.args.outbox.now) (calls c.loop.outbox) (calls c.on_event.new.outbox) c.loop.invariant.served c.in-Ok-next.ensures.given heard.sent;
      reads = c.in-Ok-next.ensures.cause.still ∙ c.loop.invariant.read;
      writes = heard.counts ∙ c.loop.invariant.channel;
      links =
          links_then (count c.args.outbox.now) (count c.loop.outbox) (count c.on_event.new.outbox) (calls c.args.outbox.now) (calls c.loop.outbox) (calls c.on_event.new.outbox)
          c.loop.invariant.links c.on_event.ensures.links;
    }

pub loop-preserved : goal.loop-preserved
loop-preserved g c =
    let laws = c.laws.ensures in
    let w = c.loop.server.engine in
    let r = c.loop.server.reader in
    let e = event_of c.in-Ok-next.event c.next.new.into in
    let v = c.on_event.new.self.engine in
    let s = c.on_event.new.self.reader in
    let heard = c.in_default-on_event.ensures in
    let given = g.I.Inbox.given in
    let calls = g.O.Outbox.calls in
    let count = g.O.Outbox.link_faults in
    record {
      served =
          since_more (HasRead r) (HasRead s) (HasServed w) (HasServed v) (ServedBy (Ok (tt {0})) w (events_at r.unread e) v) e
          (read_more r s e heard.read) (served_more laws w v r e)
          (given c.args.inbox.now) (given c.loop.inbox) (given c.next.new.self) (calls c.args.outbox.now) (calls c.loop.outbox) (calls c.on_event.new.outbox)
          c.loop.invariant.served c.in-Ok-next.ensures.given heard.sent;
      read = c.in-Ok-next.ensures.cause.still ∙ c.loop.invariant.read;
      channel = heard.counts ∙ c.loop.invariant.channel;
      links =
          links_then (count c.args.outbox.now) (count c.loop.outbox) (count c.on_event.new.outbox) (calls c.args.outbox.now) (calls c.loop.outbox) (calls c.on_event.new.outbox)
          c.loop.invariant.links c.on_event.ensures.links;
      room = c.next.auto.into ∙ c.loop.invariant.room;
    }

-- too many events came
pub returns : goal.returns
returns g c =
    let w = c.loop.server.engine in
    let r = c.loop.server.reader in
    record {
      served =
          since_so (HasRead r) IsAny (λ events read. tt) (HasServed w) IsCutShort (output_short w) (g.I.Inbox.given c.args.inbox.now) (g.I.Inbox.given c.loop.inbox)
          (g.O.Outbox.calls c.args.outbox.now) (g.O.Outbox.calls c.loop.outbox) c.loop.invariant.served;
      reads = c.loop.invariant.read;
      writes = c.loop.invariant.channel;
      links = c.loop.invariant.links;
    }
