use Rattle.std.proofs.Common.{bytes_eq, option_and_then, slice_get, ap, sym, ◌∙◌}
use Rattle.std.proofs.lemmas.Map.Made.{lookup_key_passes}
use Rattle.worker_calls.proofs.PlaceLemmas.{stands-at, stands-by, none-by}
use Rattle.worker_calls.proofs.routers.Routers.index_of.Goals as goal

pub returns-then-eq : goal.returns-then-eq
returns-then-eq c =
    stands-at c.args.id c.self.inside.routers c.args.self.now c.self.view_is c.self.inside.lent c.in-Some.key.now c.in-Some._router.now
    c.in-Some.ensures.entry c.if-eq.ensures c.in-Some.ensures.value

pub returns-in_err-index : goal.returns-in_err-index
returns-in_err-index c =
    ap (option_and_then (slice_get c.args.self.now)) c.from_residual.ensures
    ∙ none-by c.args.id c.self.inside.routers c.args.self.now c.self.view_is c.in_err-index.ensures.value

pub returns : goal.returns
returns c =
    stands-by c.args.id c.self.inside.routers c.args.self.now c.self.view_is c.in_ok-index.index c.in_ok-index._key.now c.in_ok-index._router.now
    c.in_ok-index.ensures.entry
    (lookup_key_passes (bytes_eq c.args.id.0) c.self.inside.routers.entries c.in_ok-index._key.now (sym c.in_ok-index.ensures.key))
    c.in_ok-index.ensures.value
