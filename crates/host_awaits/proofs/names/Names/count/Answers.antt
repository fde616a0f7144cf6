use Rattle.std.proofs.Common.{◌≡◌, ◌+◌, ℕ, Some, None, cond, bytes_eq, ap, ◌∙◌, rules}
use Rattle.std.proofs.lemmas.Result.{on_ok_weaker}
use Rattle.std.specs.BTreeMap.{get_by_text}
use Rattle.std.specs.String.{string_bytes}
use Rattle.host_awaits.specs.Awaits.{same_event}
use Rattle.host_awaits.specs.Names.{times_of}
use Rattle.host_awaits.proofs.NameLemmas.{cond-and, put, changed}
use Rattle.host_awaits.proofs.names.Names.count.Goals as goal

pub returns-in-Some-clause-noted : goal.returns-in-Some-clause-noted
returns-in-Some-clause-noted c =
    let w = c.raise.new.self in
    let names = c.args.self.now.times in
    let new = c.get_mut.follows.lender w in
    let after = put names new c.as_str.result.now c.args.name.now c.as_str.ensures.value w ((c.get_mut.follows.holds w).3 (search rules)) in
    let was : Some c.in-Some.times.now ≡ get_by_text names c.args.name.now = c.in-Some.ensures.value ∙ ap (get_by_text names) c.as_str.ensures.value in
    on_ok_weaker c.raise.result
    (λ counted of e.
    changed (get_by_text names) (get_by_text new) c.args.name.now w after (λ o. times_of o e)
    (λ (n : ℕ). cond (same_event c.args.event e) (n + 1) n)
    (counted e ∙ ap (λ o. cond (same_event c.args.event e) (times_of o e + 1) (times_of o e)) was) of
    ∙ cond-and (bytes_eq c.args.name.now of) (same_event c.args.event e) (times_of (get_by_text names of) e + 1) (times_of (get_by_text names of) e))
    c.raise.ensures

pub returns-in_ok-insert-in-None-clause-noted : goal.returns-in_ok-insert-in-None-clause-noted
returns-in_ok-insert-in-None-clause-noted c =
    let w = c.raise-in-None.new.self in
    let names = c.args.self.now.times in
    let none : None ≡ get_by_text names c.args.name.now = c.in-None.ensures.value ∙ ap (get_by_text names) c.as_str.ensures.value in
    let after = put c.get_mut.follows.lender-at-none c.insert.new.self (string_bytes c.in_ok-key-in-None.key) c.args.name.now (c.in_ok-key-in-None.ensures.ok ∙ c.as_str-in-None.ensures.value) w c.in_ok-insert-in-None.ensures.updates in
    λ of e.
    changed (get_by_text names) (get_by_text c.insert.new.self) c.args.name.now w
    (λ n. after n ∙ ap (λ m. cond (bytes_eq c.args.name.now n) (Some w) (get_by_text m n)) c.get_mut.follows.holds-at-none)
    (λ o. times_of o e)
    (λ (n : ℕ). cond (same_event c.args.event e) (n + 1) n)
    (c.in_ok-raise-in-None.ensures e ∙ ap (λ (n : ℕ). cond (same_event c.args.event e) (n + 1) n) (c.new-times.ensures e ∙ ap (λ o. times_of o e) none)) of
    ∙ cond-and (bytes_eq c.args.name.now of) (same_event c.args.event e) (times_of (get_by_text names of) e + 1) (times_of (get_by_text names of) e)
