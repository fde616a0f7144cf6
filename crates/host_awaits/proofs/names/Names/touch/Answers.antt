use Rattle.std.proofs.Common.{◌≡◌, ℕ, List, [], Some, ap, ◌∙◌, rules}
use Rattle.std.specs.BTreeMap.{get_by_text}
use Rattle.host_awaits.specs.Names.{numbers_of}
use Rattle.host_awaits.proofs.NameLemmas.{for_err, put, changed, unchanged}
use Rattle.host_awaits.proofs.names.Names.touch.Goals as goal

pub returns-in_err-append-in-Some-clause-err : goal.returns-in_err-append-in-Some-clause-err
returns-in_err-append-in-Some-clause-err c =
    let w = c.append.new.other in
    let names = c.args.self.now.resting in
    let new = c.get_mut.follows.lender w in
    let after = put names new c.as_str.result.now c.args.name.now c.as_str.ensures.value w ((c.get_mut.follows.holds w).3 (search rules)) in
    let was : Some c.in-Some.numbers.now ≡ get_by_text names c.args.name.now = c.in-Some.ensures.value ∙ ap (get_by_text names) c.as_str.ensures.value in
    for_err c.from_residual.result
    (unchanged (get_by_text names) (get_by_text new) c.args.name.now w after numbers_of (c.in_err-append-in-Some.ensures.other_items ∙ ap numbers_of was))

pub returns-in_ok-append-in-Some-clause-resting : goal.returns-in_ok-append-in-Some-clause-resting
returns-in_ok-append-in-Some-clause-resting c =
    let w = c.append.new.other in
    let names = c.args.self.now.resting in
    let new = c.get_mut.follows.lender w in
    let after = put names new c.as_str.result.now c.args.name.now c.as_str.ensures.value w ((c.get_mut.follows.holds w).3 (search rules)) in
    changed (get_by_text names) (get_by_text new) c.args.name.now w after numbers_of (λ (numbers : List ℕ). []) c.in_ok-append-in-Some.ensures.other_items
