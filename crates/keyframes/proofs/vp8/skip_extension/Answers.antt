use Rattle.std.proofs.Common.{◌+◌, refl, ◌∙◌, ap, sym}
use Rattle.std.specs.Option.{option_and_then}
use Rattle.std.proofs.lemmas.Option.{slice_get_read}
use Rattle.keyframes.specs.Fields.{bit}
use Rattle.keyframes.specs.Places.{behind}
use Rattle.keyframes.specs.Reading.{is_set, behind_picture_id, behind_extension}
use Rattle.keyframes.proofs.Places.{bool_is_bit, behind_an_extension}
use Rattle.keyframes.proofs.vp8.skip_extension.Goals as goal

pub returns : goal.returns
returns c =
    let payload = c.args.payload.now in
    let flags = slice_get_read payload _ 1 c.in-Some.flags.now refl c.in-Some.ensures.lookup.3.0 (c.in-Some.ensures.lookup.3.1 c.in-Some.flags.now) in
    let id = c.skip_picture_id-at.ensures.place ∙ ap (λ t. option_and_then (behind_picture_id t) (behind 2 payload)) c.has.ensures in
    let index = c.from.ensures ∙ bool_is_bit c.has-2.result ∙ ap bit c.has-2.ensures in
    let layer = c.from-2.ensures ∙ bool_is_bit c.has_layer.result ∙ ap bit c.has_layer.ensures in
    ap (λ n. behind (c.skip_picture_id-at.result + n + c.from-2.result) payload) index
    ∙ ap (λ n. behind (c.skip_picture_id-at.result + bit (is_set c.in-Some.flags.now 0x40) + n) payload) layer
    ∙ behind_an_extension c.in-Some.flags.now c.skip_picture_id-at.result payload flags id
    ∙ ap (λ t. option_and_then (behind_extension t) (behind 1 payload)) (sym c.if-not-there.false)
