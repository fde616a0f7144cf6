use Rattle.std.proofs.Common.{◌≤◌, length, subst, sym}
use Rattle.rtp_params.specs.declared.params.Params.{Params}
use Rattle.request_build.proofs.KeptLemmas.{looked_up}
use Rattle.request_build.proofs.builder.Builder.received.Goals as goal

pub returns-in-Some-clause-few : goal.returns-in-Some-clause-few
returns-in-Some-clause-few c =
    subst (λ (p : Params). length p.encodings ≤ 8) (sym c.deref.ensures)
    (looked_up (λ p. length p.encodings ≤ 8) _ _ _ c.self.invariant.few.consumers (sym c.in-Some.ensures))
