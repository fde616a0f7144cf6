use Rattle.std.proofs.Common.{◌≤◌, length, sym}
use Rattle.request_build.proofs.KeptLemmas.{looked_up}
use Rattle.request_build.proofs.builder.Builder.offer.Goals as goal

pub returns-in-Some-clause-few : goal.returns-in-Some-clause-few
returns-in-Some-clause-few c = looked_up (λ o. length o.params.encodings ≤ 8) _ _ _ c.self.invariant.few.producers (sym c.in-Some.ensures)
