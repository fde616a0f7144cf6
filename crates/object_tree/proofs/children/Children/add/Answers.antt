use Rattle.std.proofs.Common.{[], ◌∷◌, nat_eq, Some, cond, ap, ◌∙◌, rules}
use Rattle.std.specs.HashMap as hash
use Rattle.object_tree.specs.Tables.{items_of, is_listed}
use Rattle.object_tree.proofs.TableLemmas.{grown, listed-longer}
use Rattle.object_tree.proofs.children.Children.add.Goals as goal

pub returns-in_err-push-in-Some-clause-stay : goal.returns-in_err-push-in-Some-clause-stay
returns-in_err-push-in-Some-clause-stay c =
    grown (λ q. hash.get nat_eq c.args.self.now.serials q) (λ q. hash.get nat_eq (c.get_mut.follows.lender c.push.new.self) q) c.args.parent c.push.new.self
    (λ q. ((c.get_mut.follows.holds c.push.new.self).3 (search rules)).0 q)
    (λ s h. ap (λ l. is_listed l s) c.in_err-push-in-Some.ensures.items ∙ (ap (λ o. is_listed (items_of o) s) c.in-Some.ensures.value ∙ h))

pub returns-in_ok-push-in-Some-clause-stay : goal.returns-in_ok-push-in-Some-clause-stay
returns-in_ok-push-in-Some-clause-stay c =
    grown (λ q. hash.get nat_eq c.args.self.now.serials q) (λ q. hash.get nat_eq (c.get_mut.follows.lender c.push.new.self) q) c.args.parent c.push.new.self
    (λ q. ((c.get_mut.follows.holds c.push.new.self).3 (search rules)).0 q)
    (λ s h.
    ap (λ l. is_listed l s) c.in_ok-push-in-Some.ensures.items
    ∙ listed-longer c.in-Some.serials.now.items (c.args.child ∷ []) s (ap (λ o. is_listed (items_of o) s) c.in-Some.ensures.value ∙ h))

pub returns-in_ok-insert-in-None-clause-stay : goal.returns-in_ok-insert-in-None-clause-stay
returns-in_ok-insert-in-None-clause-stay c =
    grown (λ q. hash.get nat_eq c.args.self.now.serials q) (λ q. hash.get nat_eq c.insert.new.self q) c.args.parent c.push-in-None.new.self
    (λ q.
    c.in_ok-insert-in-None.ensures.updates.0 q
    ∙ ap (λ m. cond (nat_eq c.args.parent q) (Some c.push-in-None.new.self) (hash.get nat_eq m q)) c.get_mut.follows.holds-at-none)
    (λ s h. absurd (let none = ap (λ o. is_listed (items_of o) s) c.in-None.ensures.value ∙ h in cc))
