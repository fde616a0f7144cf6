use Rattle.std.proofs.Common.{not, refl, ◌∙◌, ap, sym}
use Rattle.std.proofs.lemmas.Option.{slice_get_past, slice_get_read}
use Rattle.keyframes.proofs.Places.{clear_of, begins_without-behind}
use Rattle.keyframes.proofs.parts.is_clear.Goals as goal

pub returns-in-None : goal.returns-in-None
returns-in-None c =
    let none = slice_get_past c.args.payload.now c.args.at c.in-None.ensures.lookup.3 in
    sym (begins_without-behind c.args.flags c.args.at c.args.payload.now ∙ ap (clear_of c.args.flags) none)

pub returns-in-Some : goal.returns-in-Some
returns-in-Some c =
    let byte = slice_get_read c.args.payload.now _ c.args.at c.in-Some.byte.now refl c.in-Some.ensures.lookup.3.0 (c.in-Some.ensures.lookup.3.1 c.in-Some.byte.now) in
    ap not c.has.ensures ∙ sym (begins_without-behind c.args.flags c.args.at c.args.payload.now ∙ ap (clear_of c.args.flags) byte)
