use Rattle.std.proofs.Common.{take}
use Rattle.host_tables.specs.Kept.{ExpectsNone, ShowsTheSame}
use Rattle.host_tables.proofs.tables.Tables.expect_none.Given as goal

-- those so far aren't being made
abbrev pub invariant-loop-request : goal.invariant-loop-request
invariant-loop-request l = record {
  none : ExpectsNone (take l.request-index l.requests) l.initial.self l.self;
  shown : ShowsTheSame l.initial.self l.self;
}
