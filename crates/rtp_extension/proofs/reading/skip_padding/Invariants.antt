use Rattle.std.proofs.Common.{◌≡◌, length}
use Rattle.rtp_extension.specs.declared.form.Form.{Form}
use Rattle.rtp_extension.specs.Reading.{elements_in}
use Rattle.rtp_extension.proofs.reading.skip_padding.Given as goal

abbrev pub invariant-loop-behind : goal.invariant-loop-behind
invariant-loop-behind l = (form : Form) → elements_in form l.left ≡ elements_in form l.bytes

abbrev pub decreases-loop-behind : goal.decreases-loop-behind
decreases-loop-behind l = length l.left
