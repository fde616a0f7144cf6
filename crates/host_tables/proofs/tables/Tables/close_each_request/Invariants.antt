use Rattle.std.proofs.Common.{◌≡◌, take}
use Rattle.host_model.specs.Falls.{all_closed}
use Rattle.host_tables.specs.Kept.{Moves, ShowsTheSame}
use Rattle.host_tables.proofs.tables.Tables.close_each_request.Given as goal

-- the calls of those so far have settled
abbrev pub invariant-loop-request : goal.invariant-loop-request
invariant-loop-request l = record {
  closed : Moves (all_closed (take l.request-index l.requests)) l.initial.self l.self;
  tree : l.self.tree ≡ l.initial.self.tree;
  shown : ShowsTheSame l.initial.self l.self;
}
