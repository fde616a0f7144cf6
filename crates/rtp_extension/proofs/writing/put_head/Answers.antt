use Rattle.std.proofs.Common.{◌≡◌, ℕ, List, ◌++◌, length, ap, ◌∙◌, subst, arith}
use Rattle.byteorder.specs.Endian.{big_bytes}
use Rattle.rtp_extension.specs.Viewing.{Wrote}
use Rattle.rtp_extension.proofs.Writes.{wrote_then}
use Rattle.rtp_extension.proofs.writing.put_head.Goals as goal

pub returns : goal.returns
returns c =
    let bytes : c.to_be_bytes.result ++ c.to_be_bytes-2.result ≡ big_bytes 2 c.args.profile ++ big_bytes 2 c.args.count =
    ap (λ (xs : List ℕ). xs ++ c.to_be_bytes-2.result) c.to_be_bytes.ensures ∙ ap (λ (xs : List ℕ). big_bytes 2 c.args.profile ++ xs) c.to_be_bytes-2.ensures in
    subst (λ (xs : List ℕ). Wrote xs c.args.into.now c.put.new.into c.args.at c.put.result) bytes
    (wrote_then c.to_be_bytes.result c.to_be_bytes-2.result c.args.into.now c.put-at.new.into c.put.new.into c.args.at c.put-at.result c.put.result
    (omega (arith, ap length c.to_be_bytes.ensures)) c.put-at.ensures c.put.ensures)
