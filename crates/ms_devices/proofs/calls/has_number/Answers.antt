use Rattle.std.proofs.Common.{arith}
use Rattle.ms_devices.proofs.CallLemmas.{far_is_not_to_fail}
use Rattle.ms_devices.proofs.calls.has_number.Goals as goal

pub returns-clause-far : goal.returns-clause-far
returns-clause-far c = far_is_not_to_fail _ (λ k within. let fits = c.type_inv.fails k in omega arith)
