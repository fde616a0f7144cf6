use Rattle.std.proofs.Common.{inl, inr, refl, get_or, [], Global}
use Rattle.worker_play.specs.Reading.{IsEventLine}
use Rattle.worker_play.proofs.EventLemmas.{no_ports, no_event_line}
use Rattle.worker_play.proofs.LineLemmas.{other_at, zip_more}
use Rattle.worker_play.proofs.script.read_lines.Goals as goal

pub returns-in-Err-Bad-clause-bad : goal.returns-in-Err-Bad-clause-bad
returns-in-Err-Bad-clause-bad c =
    rw c.in-Some.ensures.cases.0 (inl (refl, no_ports Global c.in-Some.first.now.now c.in-Err-Bad.field-0 c.in-Err-Bad.field-0-is c.in-Err-Bad.ensures))

pub returns-in-Err-Bad-read_event_line-clause-bad : goal.returns-in-Err-Bad-read_event_line-clause-bad
returns-in-Err-Bad-read_event_line-clause-bad c =
    let none = no_event_line (get_or c.in-Some.rest.now c.loop-count.count (record { ref_ptr = (0, 0); now = [] })).now c.in-Err-Bad-read_event_line.field-0 c.in-Err-Bad-read_event_line.field-0-is c.in-Err-Bad-read_event_line.ensures in
    rw c.in-Some.ensures.cases.0 (inr (
      c.in-Ok.answers.items,
      c.loop-count.count,
      c.in-Ok.ensures,
      other_at c.in-Some.rest.now c.loop-count.count (record { ref_ptr = (0, 0); now = [] }) c.loop-count.events.items c.loop-count-test.true c.loop-count.invariant none,
      refl,
    ))

pub loop-count-preserved : goal.loop-count-preserved
loop-count-preserved c =
    zip_more IsEventLine c.in-Some.rest.now c.loop-count.count _ c.loop-count.events.items c.push.new.self.items c.in-Ok-read_event_line.event
    c.loop-count-test.true c.loop-count.invariant c.in-Ok-read_event_line.ensures c.in_ok-push-in-Ok-read_event_line.ensures.items
