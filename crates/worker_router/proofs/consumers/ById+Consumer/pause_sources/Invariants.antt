use Rattle.std.proofs.Common.{◌≡◌, bytes_eq, drop, map}
use Rattle.std.specs.List.{IsDistinct}
use Rattle.worker_router.specs.Calls.{change, pause_source_of}
use Rattle.worker_router.specs.Tables.{ids_in, is_listed, outlet_of}
use Rattle.worker_router.proofs.consumers.ById+Consumer.pause_sources.Given as goal

-- once those of what is left are told, all are
abbrev pub invariant-loop-listed : goal.invariant-loop-listed
invariant-loop-listed l = record {
  different : IsDistinct bytes_eq (ids_in (drop l.listed-index l.own));
  state : change (is_listed (drop l.listed-index l.own)) (pause_source_of l.paused) l.self ≡ change (is_listed l.own) (pause_source_of l.paused) l.initial.self;
  outlets : map outlet_of l.self ≡ map outlet_of l.initial.self;
}
