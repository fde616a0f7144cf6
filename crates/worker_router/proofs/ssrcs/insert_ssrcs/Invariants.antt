use Rattle.std.proofs.Common.{◌≡◌, ◌≤◌, ◌&&◌, ℕ, Some, cond, drop, length}
use Rattle.std.specs.List.{IsDistinct}
use Rattle.indexmap.specs.IndexMap.{keys, spare}
use Rattle.ms_base.specs.declared.id.Id.{Id}
use Rattle.rtp_params.specs.Encodings.{is_own}
use Rattle.worker_router.specs.State.{same_id}
use Rattle.worker_router.specs.Tables.{owner_in, same_place}
use Rattle.worker_router.proofs.ssrcs.insert_ssrcs.Given as goal

-- with what is left the table comes to what it is to have, and there is room for it
abbrev pub invariant-loop-encoding : goal.invariant-loop-encoding
invariant-loop-encoding l =
    record {
      table : (t : Id) (s : ℕ)
          → cond (same_id l.transport t && is_own (drop l.encoding-index l.encodings) s) (Some l.id.0) (owner_in l.ssrcs.entries t s)
          ≡ cond (same_id l.transport t && is_own l.encodings s) (Some l.id.0) (owner_in l.initial.ssrcs.entries t s);
      room : length (drop l.encoding-index l.encodings) ≤ spare l.ssrcs;
      different : IsDistinct same_place (keys l.ssrcs);
    }
