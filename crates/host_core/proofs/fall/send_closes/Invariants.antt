use Rattle.std.proofs.Common.{◌∷◌, [], take}
use Rattle.host_model.specs.Falls.{closes_sent}
use Rattle.host_tables.specs.Kept.{Moves, ShowsTheSame}
use Rattle.host_core.proofs.fall.send_closes.Given as goal

-- the workers of those so far are asked
abbrev pub invariant-loop-serial : goal.invariant-loop-serial
invariant-loop-serial l = record {
  sent : Moves (closes_sent l.fallen (l.root ∷ []) l.reason (take l.serial-index l.fallen)) l.initial.tables l.tables;
  shown : ShowsTheSame l.initial.tables l.tables;
}
