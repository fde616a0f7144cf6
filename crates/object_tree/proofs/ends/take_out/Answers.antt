use Rattle.std.proofs.Common.{ℕ, ◌≡◌, ◌<◌, length, get_or, ap, subst, sym, ◌∙◌, rules}
use Rattle.object_tree.specs.Tables.{has_end}
use Rattle.object_tree.proofs.EndLemmas.{end-stays-removed}
use Rattle.object_tree.proofs.ends.take_out.Goals as goal

pub returns-in-Some-clause-stay : goal.returns-in-Some-clause-stay
returns-in-Some-clause-stay c = λ a s other h.
    let e : ℕ × ℕ = (c.args.at, c.args.serial) in
    let pairs = c.args.pairs.now.items in
    let within : c.in-Some.place < length pairs = search rules in
    let is : e ≡ get_or pairs c.in-Some.place e = sym (subst (λ ps. get_or ps c.in-Some.place e ≡ e) c.as_slice.ensures.value c.in-Some.ensures.found.1) in
    ap (λ ps. has_end ps a s) c.remove.ensures.items ∙ end-stays-removed pairs c.in-Some.place e a s within is other h
