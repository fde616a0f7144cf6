use Rattle.std.proofs.Common.{◌≡◌, [], ◌∷◌, false, true, Some, None, rules, sym, ap, ◌∙◌, subst}
use Rattle.std.proofs.lemmas.Result.{on_ok_weaker}
use Rattle.object_tree.specs.declared.object.Object.{Object}
use Rattle.object_tree.specs.Objects.{is_open}
use Rattle.host_tables.specs.Kept.{noted_by}
use Rattle.host_tables.proofs.Opening.{not_turned-moves, turned-moves}
use Rattle.host_tables.proofs.Parts.{hears-none}
use Rattle.host_tables.proofs.tables.Tables.turn.Goals as goal

pub returns-in_default-clause-ok : goal.returns-in_default-clause-ok
returns-in_default-clause-ok c = not_turned-moves c.args.self.now c.args.serial c.args.mark None c.in_default.ensures.found (λ o e. absurd cc)

pub returns-then-is_some-clause-ok : goal.returns-then-is_some-clause-ok
returns-then-is_some-clause-ok c =
    let shut : is_open c.in-Some.object.now ≡ false = search rules in
    not_turned-moves c.args.self.now c.args.serial c.args.mark (Some c.in-Some.object.now) c.in-Some.ensures.found
    (λ o e. let here : c.in-Some.object.now ≡ o = cc in subst (λ (x : Object). is_open x ≡ false) here shut)

pub returns-in-Some-note-clause-ok : goal.returns-in-Some-note-clause-ok
returns-in-Some-note-clause-ok c =
    let open_now : is_open c.in-Some.object.now ≡ true = search rules in
    on_ok_weaker c.note.result
    (turned-moves c.args.self.now c.note.new.self c.args.serial c.args.mark c.in-Some.object.now (c.in-Some-note.note ∷ []) c.mark.new.self c.in-Some.ensures.found open_now c.mark.ensures
    (sym (ap noted_by c.in-Some-note.is) ∙ c.in_ok-note.ensures.noted))
    c.note.ensures.heard

pub returns-in-None-clause-ok : goal.returns-in-None-clause-ok
returns-in-None-clause-ok c =
    let open_now : is_open c.in-Some.object.now ≡ true = search rules in
    turned-moves c.args.self.now _ c.args.serial c.args.mark c.in-Some.object.now [] c.mark.new.self c.in-Some.ensures.found open_now c.mark.ensures
    (sym (ap noted_by c.in-None.is) ∙ c.in_ok-note.ensures.noted) (hears-none _)
