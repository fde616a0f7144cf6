use Rattle.std.proofs.Common.{ℕ, List, ap}
use Rattle.std.specs.Map.{lookup}
use Rattle.worker_calls.specs.State.{LinkAt}
use Rattle.worker_calls.specs.Tables.{same_ids, ids_of}
use Rattle.worker_calls.proofs.links.room_for_places.Goals as goal

pub returns-clause-table : goal.returns-clause-table
returns-clause-table c p = ap (λ (es : List ((List ℕ × List ℕ) × LinkAt)). lookup (same_ids (ids_of p)) es) c.reserve.ensures.entries
