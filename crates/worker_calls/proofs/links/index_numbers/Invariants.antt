use Rattle.std.proofs.Common.{◌≡◌, ℕ, ◌≤◌, ◌+◌, length, find, nat_eq, drop}
use Rattle.std.specs.HashMap.{get, spare, hash_map_len}
use Rattle.worker_calls.specs.Tables.{first_of}
use Rattle.worker_calls.proofs.links.index_numbers.Given as goal

-- with what is left the table comes to what it is to have, and there is room for it
abbrev pub invariant-loop-link : goal.invariant-loop-link
invariant-loop-link l =
    record {
      table : (n : ℕ) → first_of (get nat_eq l.table n) (find (λ k. nat_eq k.link n) (drop l.link-index l.links)) ≡ find (λ k. nat_eq k.link n) l.links;
      entries : hash_map_len l.table + length (drop l.link-index l.links) ≤ length l.links;
      room : length l.links ≤ hash_map_len l.table + spare l.table;
    }
