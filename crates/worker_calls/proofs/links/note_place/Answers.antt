use Rattle.std.proofs.Common.{◌≡◌, List, ℕ, true, cond, Option, Some, None, ap, sym, ◌∙◌}
use Rattle.std.specs.HashMap.{get}
use Rattle.worker_calls.specs.State.{LinkAt, same_place}
use Rattle.worker_calls.specs.Tables.{same_ids, ids_of}
use Rattle.worker_calls.proofs.TableLemmas.{noted-now, none-of, same-ids}
use Rattle.worker_calls.proofs.links.note_place.Goals as goal

pub returns-clause-table : goal.returns-clause-table
returns-clause-table c p =
    let link : LinkAt = c.args.link in
    let key : c.ids_of-ids.result ≡ ids_of link.place = c.ids_of-ids.ensures ∙ ap (λ (l : LinkAt). ids_of l.place) c.link.view_is in
    let free : get same_ids c.args.table.now c.ids_of-ids.result ≡ None =
    none-of (get same_ids c.args.table.now c.ids_of-ids.result) (sym c.contains_key.ensures ∙ c.if-contains_key.false)
    in
    noted-now (get same_ids c.insert.new.self (ids_of p)) (get same_ids c.args.table.now (ids_of p)) (same_place link.place p) link
    (λ t. ap (get same_ids c.args.table.now) (sym (same-ids link.place p t)) ∙ (ap (get same_ids c.args.table.now) (sym key) ∙ free))
    (c.in-Ok.ensures.updates.0 (ids_of p)
    ∙ ap (λ (k : List ℕ × List ℕ). cond (same_ids k (ids_of p)) (Some link) (get same_ids c.args.table.now (ids_of p))) key)
