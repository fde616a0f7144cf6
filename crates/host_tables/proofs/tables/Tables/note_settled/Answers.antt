use Rattle.host_tables.proofs.Awaiting.{hears-settled}
use Rattle.host_tables.proofs.Parts.{hears-none}
use Rattle.host_tables.proofs.ShownLemmas.{shown-itself, shown-then}
use Rattle.host_tables.proofs.tables.Tables.note_settled.Goals as goal

pub loop-call-init : goal.loop-call-init
loop-call-init c = record { heard = hears-none c.args.self.now; shown = shown-itself c.args.self.now }

pub loop-call-preserved : goal.loop-call-preserved
loop-call-preserved c =
    record {
      heard = hears-settled c.loop-call.yielded (c.in-Some.call, c.in-Some.outcome) c.args.self.now c.loop-call.self c.note.new.self c.loop-call.invariant.heard c.in_ok-note.ensures.heard;
      shown = shown-then c.args.self.now c.loop-call.self c.note.new.self c.loop-call.invariant.shown c.note.ensures.shown;
    }

pub returns-in_err-note-clause-shown : goal.returns-in_err-note-clause-shown
returns-in_err-note-clause-shown c = shown-then c.args.self.now c.loop-call.self c.note.new.self c.loop-call.invariant.shown c.note.ensures.shown
