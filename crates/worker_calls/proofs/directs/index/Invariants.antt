use Rattle.std.proofs.Common.{◌≡◌, ◌≤◌, ◌+◌, length, find, bytes_eq, drop}
use Rattle.std.specs.HashMap.{get, spare, hash_map_len}
use Rattle.ms_base.specs.declared.id.Id.{Id}
use Rattle.worker_router.specs.State.{same_id}
use Rattle.worker_calls.specs.Tables.{first_of}
use Rattle.worker_calls.proofs.directs.index.Given as goal

-- with what is left the table comes to what it is to have, and there is room for it
abbrev pub invariant-loop-key : goal.invariant-loop-key
invariant-loop-key l =
    record {
      table : (id : Id) → first_of (get bytes_eq l.table id.0) (find (λ key. same_id key.producer id) (drop l.key-index l.keys)) ≡ find (λ key. same_id key.producer id) l.keys;
      entries : hash_map_len l.table + length (drop l.key-index l.keys) ≤ length l.keys;
      room : length l.keys ≤ hash_map_len l.table + spare l.table;
    }
