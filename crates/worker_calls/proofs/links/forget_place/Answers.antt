use Rattle.std.proofs.Common.{◌≡◌, ◌+◌, ℕ, List, None, Option, cond, is_some, ap, sym, ◌∙◌}
use Rattle.std.specs.HashMap.{get, hash_map_len}
use Rattle.worker_calls.specs.State.{LinkAt}
use Rattle.worker_calls.specs.Tables.{same_ids, ids_of}
use Rattle.worker_calls.proofs.links.forget_place.Goals as goal

pub returns-clause-table : goal.returns-clause-table
returns-clause-table c p =
    c.swap_remove-forgotten.ensures.updates.0 (ids_of p)
    ∙ ap (λ (k : List ℕ × List ℕ). cond (same_ids k (ids_of p)) None (get same_ids c.args.table.now (ids_of p))) c.ids_of.ensures

pub returns-clause-entries : goal.returns-clause-entries
returns-clause-entries c =
    ap (λ (k : List ℕ × List ℕ). hash_map_len c.swap_remove-forgotten.new.self + cond (is_some (get same_ids c.args.table.now k)) 1 0) (sym c.ids_of.ensures)
    ∙ (ap (λ (o : Option LinkAt). hash_map_len c.swap_remove-forgotten.new.self + cond (is_some o) 1 0) (sym c.swap_remove-forgotten.ensures.value)
    ∙ c.swap_remove-forgotten.ensures.len)
