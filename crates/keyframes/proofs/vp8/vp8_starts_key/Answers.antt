use Rattle.std.proofs.Common.{sym, ◌∙◌, arith}
use Rattle.keyframes.proofs.Pieces.{bytes_of_slice}
use Rattle.keyframes.proofs.Vp8Grammar.{vp8-read, vp8-spelled}
use Rattle.keyframes.proofs.vp8.vp8_starts_key.Goals as goal

pub returns-clause-grammar : goal.returns-clause-grammar
returns-clause-grammar c =
    let are = bytes_of_slice c.args.payload.now (λ i. omega (arith, c.type_inv.payload i)) in (
      λ yes. vp8-read c.args.payload.now are (sym c.reads_key_start.ensures ∙ yes),
      λ h. c.reads_key_start.ensures ∙ vp8-spelled c.args.payload.now h,
    )
