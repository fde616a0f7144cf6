use Rattle.std.proofs.Common.{◌≡◌, ◌≤◌, ◌+◌, length, find, drop}
use Rattle.std.specs.HashMap.{get, spare, hash_map_len}
use Rattle.worker_calls.specs.State.{same_place}
use Rattle.worker_calls.specs.Tables.{first_of, same_ids, ids_of}
use Rattle.worker_calls.specs.declared.place.Place.{Place}
use Rattle.worker_calls.proofs.links.index_places.Given as goal

-- with what is left the table comes to what it is to have, and there is room for it
abbrev pub invariant-loop-link : goal.invariant-loop-link
invariant-loop-link l =
    record {
      table : (p : Place) → first_of (get same_ids l.table (ids_of p)) (find (λ k. same_place k.place p) (drop l.link-index l.links)) ≡ find (λ k. same_place k.place p) l.links;
      entries : hash_map_len l.table + length (drop l.link-index l.links) ≤ length l.links;
      room : length l.links ≤ hash_map_len l.table + spare l.table;
    }
