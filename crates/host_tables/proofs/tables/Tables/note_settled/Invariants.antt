use Rattle.std.proofs.Common.{map}
use Rattle.host_model.specs.Step.{settled_note}
use Rattle.host_tables.specs.Kept.{Hears, ShowsTheSame}
use Rattle.host_tables.proofs.tables.Tables.note_settled.Given as goal

-- those so far were noted
abbrev pub invariant-loop-call : goal.invariant-loop-call
invariant-loop-call l = record {
  heard : Hears (map settled_note l.yielded) l.initial.self l.self;
  shown : ShowsTheSame l.initial.self l.self;
}
