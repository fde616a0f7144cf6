use Rattle.std.proofs.Common.{ℕ, List, ap, subst, sym, ◌∙◌, rules}
use Rattle.object_tree.specs.Tables.{AreOrdered, IsEndPlace, has_end}
use Rattle.object_tree.proofs.EndLemmas.{ordered-inserted, end-stays-inserted}
use Rattle.object_tree.proofs.ends.insert.Goals as goal

pub returns-clause-ordered : goal.returns-clause-ordered
returns-clause-ordered c =
    subst AreOrdered (sym c.in_ok-insert.ensures.items)
    (ordered-inserted c.args.pairs.now.items c.end_of-place.result c.args.at c.args.serial c.requires (search rules)
    (subst (λ (ps : List (ℕ × ℕ)). IsEndPlace c.args.at ps c.end_of-place.result) c.as_slice.ensures.value c.end_of-place.ensures.point))

pub returns-clause-stay : goal.returns-clause-stay
returns-clause-stay c = λ a s h.
    ap (λ ps. has_end ps a s) c.in_ok-insert.ensures.items ∙ end-stays-inserted c.args.pairs.now.items c.end_of-place.result (c.args.at, c.args.serial) a s h
