use Rattle.std.proofs.Common.{◌≡◌, ◌+◌, length, List, Some, false, rules, not, nat_eq, is_some, filter, find, refl, sym, ap, subst, ◌∙◌}
use Rattle.std.proofs.lemmas.Fn.{filter_same}
use Rattle.std.specs.HashMap.{get}
use Rattle.worker_calls.specs.State.{LinkAt, same_place}
use Rattle.worker_calls.specs.Tables.{LinksView, TellsLinks, ids_of, same_ids}
use Rattle.worker_calls.proofs.LinkLemmas.{left, none-left, popped}
use Rattle.worker_calls.proofs.links.Links.remove_at.Goals as goal
use Rattle.worker_calls.proofs.links.Links.remove_at.Goals.{After-retain}

kept : (c : After-retain) → c.retain.new.self.items ≡ left c.args.place c.self.inside.links.items
kept c = filter_same _ (λ (l : LinkAt). not (same_place l.place c.args.place)) _ (λ x b f' k. search rules) _ _ c.retain.ensures.filtered

as-seen : (c : After-retain) → c.retain.new.self.items ≡ left c.args.place c.args.self.now.links
as-seen c = kept c ∙ ap (λ (v : LinksView). left c.args.place v.links) c.self.view_is

pub returns-in_default : goal.returns-in_default
returns-in_default c =
    sym
    (none-left c.args.place c.args.self.now.links
    (ap (λ (v : LinksView). find (λ (l : LinkAt). same_place l.place c.args.place) v.links) (sym c.self.view_is)
    ∙ (sym (c.self.invariant.by_place c.args.place) ∙ sym c.in_default.ensures)))

pub returns-then-not-has_number : goal.returns-then-not-has_number
returns-then-not-has_number c = as-seen (goal.at.returns-then-not-has_number c).After-retain

pub returns-else-links-before : goal.returns-else-links-before
returns-else-links-before c = as-seen (goal.at.returns-else-links-before c).After-retain

pub invariant_of-self : goal.invariant_of-self
invariant_of-self c =
    let link : LinkAt = record { link = c.link.inside.number; place = c.link.inside.place } in
    let items : c.retain.new.self.items ≡ left c.args.place c.self.inside.links.items = kept (goal.at.invariant_of-self c).After-retain in
    let seen : c.as_slice-links.result.now ≡ left c.args.place c.self.inside.links.items = c.as_slice-links.ensures.value ∙ items in
    let one : length (left c.args.place c.self.inside.links.items) + 1 ≡ length c.self.inside.links.items =
    ap (λ (ls : List LinkAt). length ls + 1) (sym seen) ∙ (c.if-links-before.true ∙ (c.len-before.ensures ∙ c.self.inside.links.ok.0))
    in
    let free : is_some (find (λ (l : LinkAt). nat_eq l.link link.link) (left c.args.place c.self.inside.links.items)) ≡ false =
    ap (λ (ls : List LinkAt). is_some (find (λ (l : LinkAt). nat_eq l.link link.link) ls)) (sym seen) ∙ (sym c.has_number.ensures ∙ c.if-not-has_number.true)
    in
    subst (λ (ls : List LinkAt). TellsLinks ls c.forget_number.new.table c.forget_place.new.table) (sym items)
    (popped c.self.inside.links.items c.self.inside.by_number c.forget_number.new.table c.self.inside.by_place c.forget_place.new.table c.args.place link c.self.invariant
    (ap Some c.link.view_is ∙ c.in-Some.ensures) one free
    c.forget_number.ensures.table c.forget_number.ensures.entries c.forget_number.ensures.room c.forget_place.ensures.table c.forget_place.ensures.entries c.forget_place.ensures.room)
