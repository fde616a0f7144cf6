use Rattle.std.proofs.Common.{arith}
use Rattle.std.proofs.lemmas.Bool.Decides.{nat_tests}
use Rattle.pending_calls.specs.Pending.{has_id}
use Rattle.pending_calls.proofs.LawLemmas.{find-filter_other}
use Rattle.pending_calls.proofs.laws.requests_are_settled_apart.Goals as goal

pub returns : goal.returns
returns c = λ waiting id other apart. find-filter_other (has_id id) (has_id other) (λ w t. grind (arith, nat_tests)) waiting
