use Rattle.std.proofs.Common.{◌≡◌, Option, Some, option_map, ap, ◌∙◌, find}
use Rattle.std.specs.HashMap.{get}
use Rattle.worker_calls.specs.State.{LinkAt, same_place}
use Rattle.worker_calls.specs.Tables.{LinksView, same_ids, ids_of}
use Rattle.worker_calls.proofs.links.Links.link_near.Goals as goal
use Rattle.worker_calls.proofs.links.Links.link_near.Goals.{After-place_near}

told : (c : After-place_near) → get same_ids c.self.inside.by_place c.ids_of.result ≡ find (λ (l : LinkAt). same_place l.place c.args.place) c.args.self.now.links
told c =
    ap (get same_ids c.self.inside.by_place) c.ids_of.ensures
    ∙ (c.self.invariant.by_place c.args.place ∙ ap (λ (v : LinksView). find (λ (l : LinkAt). same_place l.place c.args.place) v.links) c.self.view_is)

pub returns-in_err-link : goal.returns-in_err-link
returns-in_err-link c =
    c.from_residual.ensures ∙ ap (option_map (λ (l : LinkAt). l.link)) (c.in_err-link.ensures ∙ told (goal.at.returns-in_err-link c).After-place_near)

pub returns : goal.returns
returns c =
    ap (λ (l : LinkAt). Some l.link) c.link.view_is
    ∙ ap (option_map (λ (l : LinkAt). l.link)) (c.in_ok-link.ensures ∙ told (goal.at.returns c).After-place_near)
