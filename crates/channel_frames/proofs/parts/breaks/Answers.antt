use Rattle.std.proofs.Common.{◌+◌, ◌-◌, length, arith, refl, ◌∙◌}
use Rattle.channel_frames.proofs.Front.{unbroken-short, broken-over, unbroken-partial, broken-behind}
use Rattle.channel_frames.proofs.parts.breaks.Goals as goal

pub returns-in-None : goal.returns-in-None
returns-in-None c = unbroken-short c.args.rest.now c.args.bytes.now c.in-None.ensures

pub returns-in-Some : goal.returns-in-Some
returns-in-Some c = broken-over c.args.rest.now c.args.bytes.now c.in-Some.length c.in-Some.ensures.0 c.in-Some.ensures.1 (omega arith)

pub returns-in-Some-2 : goal.returns-in-Some-2
returns-in-Some-2 c = unbroken-partial c.args.rest.now c.args.bytes.now c.in-Some.length c.in-Some.ensures.1 (omega arith) (omega arith)

pub returns-in-Some-3 : goal.returns-in-Some-3
returns-in-Some-3 c =
    c.is_broken.ensures
    ∙ broken-behind c.args.rest.now c.args.bytes.now c.in-Some.length (4 + c.in-Some.length - length c.args.rest.now) c.requires c.in-Some.ensures.1 (omega arith) (omega arith) refl
