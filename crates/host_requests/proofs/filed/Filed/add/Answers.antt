use Rattle.std.proofs.Common.{[], ◌∷◌, ◌++◌, nat_cmp, subst, sym, ap, ◌∙◌}
use Rattle.std.specs.BTreeMap.{insert_entry}
use Rattle.host_requests.specs.Kept.{outlines}
use Rattle.host_requests.specs.Places.{IsNext, Outline}
use Rattle.host_requests.proofs.FiledLemmas.{filed-added, filed-entries, filed-restored}
use Rattle.host_requests.proofs.NumberLemmas.{lookup-last}
use Rattle.host_requests.proofs.filed.Filed.add.Goals as goal

pub invariant_of-self-in-Ok : goal.invariant_of-self-in-Ok
invariant_of-self-in-Ok g c =
    let next = subst (λ es. IsNext c.args.number c.args.request.via (outlines es)) (sym c.self.view_is) c.requires in
    filed-added c.args.number c.args.request c.self.inside.requests.entries c.insert.new.self.entries next (c.in-Ok.ensures.entries ∙ ap (insert_entry nat_cmp c.self.inside.requests.entries c.args.number) c.in_ok-request.ensures) c.add.new.self c.insert.ensures.ordered
    (c.in_ok-add.ensures.ok (outlines c.self.inside.requests.entries) c.self.invariant.placed next)

pub returns-in-Ok-clause-ok : goal.returns-in-Ok-clause-ok
returns-in-Ok-clause-ok g c =
    let next = subst (λ es. IsNext c.args.number c.args.request.via (outlines es)) (sym c.self.view_is) c.requires in
    filed-entries c.args.number c.args.request c.self.inside.requests.entries c.insert.new.self.entries next (c.in-Ok.ensures.entries ∙ ap (insert_entry nat_cmp c.self.inside.requests.entries c.args.number) c.in_ok-request.ensures)
    ∙ ap (λ es. es ++ (c.args.number, c.args.request) ∷ []) c.self.view_is

pub invariant_of-self-in-Err : goal.invariant_of-self-in-Err
invariant_of-self-in-Err g c =
    let next = subst (λ es. IsNext c.args.number c.args.request.via (outlines es)) (sym c.self.view_is) c.requires in
    let os = outlines c.self.inside.requests.entries in
    let own : Outline = (c.args.request.via, c.args.request.under) in
    filed-restored c.args.number c.args.request c.self.inside.requests.entries c.insert.new.self.entries c.self.inside.places c.remove.new.self next c.in-Err.ensures.err
    (c.remove.ensures (os ++ (c.args.number, own) ∷ []) (lookup-last c.args.number own os next.above) (c.in_ok-add.ensures.ok os c.self.invariant.placed next)) c.self.invariant
