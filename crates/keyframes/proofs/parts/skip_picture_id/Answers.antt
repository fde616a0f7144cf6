use Rattle.std.proofs.Common.{◌+◌, refl, ◌∙◌, ap, sym}
use Rattle.std.specs.Option.{option_and_then}
use Rattle.std.proofs.lemmas.Option.{slice_get_past, slice_get_read}
use Rattle.keyframes.specs.Fields.{bit}
use Rattle.keyframes.specs.Places.{behind}
use Rattle.keyframes.specs.Reading.{behind_picture_id}
use Rattle.keyframes.proofs.Places.{bool_is_bit, behind_no_picture_id, behind_a_picture_id}
use Rattle.keyframes.proofs.parts.skip_picture_id.Goals as goal

pub returns-in-None-clause-place : goal.returns-in-None-clause-place
returns-in-None-clause-place c =
    let none = slice_get_past c.args.payload.now c.args.at c.in-None.ensures.lookup.3 in
    behind_no_picture_id c.args.at c.args.payload.now none
    ∙ ap (λ t. option_and_then (behind_picture_id t) (behind c.args.at c.args.payload.now)) (sym c.if-not-there.false)

pub returns-in-Some-clause-place : goal.returns-in-Some-clause-place
returns-in-Some-clause-place c =
    let first = slice_get_read c.args.payload.now _ c.args.at c.in-Some.first.now refl c.in-Some.ensures.lookup.3.0 (c.in-Some.ensures.lookup.3.1 c.in-Some.first.now) in
    ap (λ n. behind (c.args.at + 1 + n) c.args.payload.now) (c.from.ensures ∙ bool_is_bit c.has.result ∙ ap bit c.has.ensures)
    ∙ behind_a_picture_id c.args.at c.in-Some.first.now c.args.payload.now first
    ∙ ap (λ t. option_and_then (behind_picture_id t) (behind c.args.at c.args.payload.now)) (sym c.if-not-there.false)
