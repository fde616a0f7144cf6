use Rattle.std.proofs.Common.{sym, ◌∙◌, arith}
use Rattle.keyframes.proofs.Pieces.{bytes_of_slice}
use Rattle.keyframes.proofs.Vp9Grammar.{vp9-read, vp9-spelled}
use Rattle.keyframes.proofs.vp9.vp9_starts_key.Goals as goal

pub returns-clause-grammar : goal.returns-clause-grammar
returns-clause-grammar c =
    let are = bytes_of_slice c.args.payload.now (λ i. omega (arith, c.type_inv.payload i)) in (
      λ yes. vp9-read c.args.payload.now are (sym c.reads_key_start.ensures ∙ yes),
      λ h. c.reads_key_start.ensures ∙ vp9-spelled c.args.payload.now h,
    )
