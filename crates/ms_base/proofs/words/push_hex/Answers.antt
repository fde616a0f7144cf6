use Rattle.std.proofs.Common.{ℕ, ap, slice_index}
use Rattle.hex.specs.Hex.{lower_digits}
use Rattle.ms_base.proofs.HexLemmas.{hex_more, hex_of_none}
use Rattle.ms_base.proofs.words.push_hex.Goals as goal

pub loop-byte-init : goal.loop-byte-init
loop-byte-init c = hex_of_none _

pub loop-byte-preserved : goal.loop-byte-preserved
loop-byte-preserved c =
    let digit = λ (k : ℕ). slice_index lower_digits k in
    hex_more c.args.bytes.now _ _ _ _ c.loop-byte.byte-index _ _ c.loop-byte-test.true c.loop-byte.invariant c.in_ok-push.ensures.ok
    c.in_ok-push-2.ensures.ok (ap digit c.from.ensures) (ap digit c.from-in-loop-byte.ensures)
