use Rattle.std.proofs.Common.{refl, ap, ◌∙◌}
use Rattle.script_text.specs.Script.{onto_last}
use Rattle.script_text.proofs.Rows.{last_place, on_ok, set_last}
use Rattle.script_text.proofs.script.Lanes.push_step.Goals as goal

pub returns-clause-ok : goal.returns-clause-ok
returns-clause-ok c =
    let lanes = c.self.inside.items.items in
    let some = c.in-Some.ensures.variant.0 refl in
    on_ok c.push.result _ _
    (λ pushed. set_last c.args.step lanes _ c.in-Some.lane.now c.push.new.self (last_place _ lanes c.self.inside.items.ok.0 some) c.in-Some.ensures.value pushed ∙ ap (onto_last c.args.step) c.self.view_is)
    c.push.ensures.ok
