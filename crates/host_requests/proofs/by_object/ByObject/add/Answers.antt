use Rattle.std.proofs.Common.{nat_eq, Some, cond, ap, ◌∙◌, rules}
use Rattle.std.specs.HashMap as hash
use Rattle.std.specs.BTreeSet.{insert_key}
use Rattle.std.specs.Ordering.{nat_cmp}
use Rattle.host_requests.specs.Places.{keys_in}
use Rattle.host_requests.proofs.TableLemmas.{changed, on-err, unchanged}
use Rattle.host_requests.proofs.by_object.ByObject.add.Goals as goal

pub returns-in_err-insert-in-Some-clause-err : goal.returns-in_err-insert-in-Some-clause-err
returns-in_err-insert-in-Some-clause-err c =
    on-err _ _ (unchanged (λ q. hash.get nat_eq c.args.self.now.numbers q) (λ q. hash.get nat_eq (c.get_mut.follows.lender c.insert.new.self) q) c.args.object (Some c.insert.new.self)
    (λ q. ((c.get_mut.follows.holds c.insert.new.self).3 (search rules)).0 q) (c.in_err-insert-in-Some.ensures.err ∙ ap keys_in c.in-Some.ensures.value))

pub returns-in_ok-insert-in-None-2-clause-ok : goal.returns-in_ok-insert-in-None-2-clause-ok
returns-in_ok-insert-in-None-2-clause-ok c =
    changed (λ q. hash.get nat_eq c.args.self.now.numbers q) (λ q. hash.get nat_eq c.insert-in-None-2.new.self q) c.args.object (Some c.insert-in-None.new.self)
    (λ q.
    c.in_ok-insert-in-None-2.ensures.updates.0 q
    ∙ ap (λ m. cond (nat_eq c.args.object q) (Some c.insert-in-None.new.self) (hash.get nat_eq m q)) c.get_mut.follows.holds-at-none)
    (λ ns. insert_key nat_cmp ns c.args.number)
    (c.in_ok-insert-in-None.ensures.keys ∙ ap (λ ns. insert_key nat_cmp ns c.args.number) (c.new-numbers.ensures.empty ∙ ap keys_in c.in-None.ensures.value))
