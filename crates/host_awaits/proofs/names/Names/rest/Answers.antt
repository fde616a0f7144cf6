use Rattle.std.proofs.Common.{◌≡◌, ◌∷◌, [], ◌++◌, Some, None, List, ℕ, cond, bytes_eq, ap, ◌∙◌, rules}
use Rattle.std.specs.String.{string_bytes}
use Rattle.std.specs.BTreeMap.{get_by_text}
use Rattle.host_awaits.specs.Names.{numbers_of}
use Rattle.host_awaits.proofs.NameLemmas.{for_err, put, changed, unchanged}
use Rattle.host_awaits.proofs.names.Names.rest.Goals as goal

pub returns-in_err-push-in-Some-clause-err : goal.returns-in_err-push-in-Some-clause-err
returns-in_err-push-in-Some-clause-err c =
    let w = c.push.new.self in
    let names = c.args.self.now.resting in
    let new = c.get_mut.follows.lender w in
    let after = put names new c.as_str.result.now c.args.name.now c.as_str.ensures.value w ((c.get_mut.follows.holds w).3 (search rules)) in
    let was : Some c.in-Some.numbers.now ≡ get_by_text names c.args.name.now = c.in-Some.ensures.value ∙ ap (get_by_text names) c.as_str.ensures.value in
    for_err c.from_residual.result
    (unchanged (get_by_text names) (get_by_text new) c.args.name.now w after numbers_of (c.in_err-push-in-Some.ensures.items ∙ ap numbers_of was))

pub returns-in_ok-push-in-Some-clause-resting : goal.returns-in_ok-push-in-Some-clause-resting
returns-in_ok-push-in-Some-clause-resting c =
    let w = c.push.new.self in
    let names = c.args.self.now.resting in
    let new = c.get_mut.follows.lender w in
    let after = put names new c.as_str.result.now c.args.name.now c.as_str.ensures.value w ((c.get_mut.follows.holds w).3 (search rules)) in
    let was : Some c.in-Some.numbers.now ≡ get_by_text names c.args.name.now = c.in-Some.ensures.value ∙ ap (get_by_text names) c.as_str.ensures.value in
    changed (get_by_text names) (get_by_text new) c.args.name.now w after numbers_of (λ (numbers : List ℕ). numbers ++ c.args.number ∷ [])
    (c.in_ok-push-in-Some.ensures.items ∙ ap (λ o. numbers_of o ++ c.args.number ∷ []) was)

pub returns-in_ok-insert-in-None-clause-resting : goal.returns-in_ok-insert-in-None-clause-resting
returns-in_ok-insert-in-None-clause-resting c =
    let names = c.args.self.now.resting in
    let none : None ≡ get_by_text names c.args.name.now = c.in-None.ensures.value ∙ ap (get_by_text names) c.as_str.ensures.value in
    let after = put c.get_mut.follows.lender-at-none c.insert.new.self (string_bytes c.in_ok-key-in-None.key) c.args.name.now (c.in_ok-key-in-None.ensures.ok ∙ c.as_str-in-None.ensures.value) c.push-in-None.new.self c.in_ok-insert-in-None.ensures.updates in
    changed (get_by_text names) (get_by_text c.insert.new.self) c.args.name.now c.push-in-None.new.self
    (λ n. after n ∙ ap (λ m. cond (bytes_eq c.args.name.now n) (Some c.push-in-None.new.self) (get_by_text m n)) c.get_mut.follows.holds-at-none)
    numbers_of (λ (numbers : List ℕ). numbers ++ c.args.number ∷ [])
    (c.in_ok-push-in-None.ensures.items ∙ (ap (λ (l : List ℕ). l ++ c.args.number ∷ []) c.new-numbers.ensures.items ∙ ap (λ o. numbers_of o ++ c.args.number ∷ []) none))
