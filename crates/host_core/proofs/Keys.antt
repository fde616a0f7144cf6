-- Keys and numbers that a test finds to be the same.
use Rattle.std.proofs.Common.{◌≡◌, ℕ, true, ◌&&◌, ◌==◌, ap, ◌∙◌, arith}
use Rattle.std.proofs.lemmas.Bool.{eqb-true, and_parts}
use Rattle.std.proofs.lemmas.Bool.Decides.{nat_tests}
use Rattle.ms_base.specs.declared.keys.WorkerKey.{WorkerKey}
use Rattle.host_notes.specs.Keys.{same_worker}

pub same-itself : (n : ℕ) → (n == n) ≡ true
same-itself n = grind (arith, nat_tests)

pub worker-itself : (a : WorkerKey) → same_worker a a ≡ true
worker-itself a = ap (λ b. b && (a.generation == a.generation)) (same-itself a.slot) ∙ same-itself a.generation

pub worker-same : (a b : WorkerKey) → same_worker a b ≡ true → a ≡ b
worker-same a b h =
    let parts = and_parts (a.slot == b.slot) (a.generation == b.generation) h in
    let slot = eqb-true a.slot b.slot parts.0 in
    let generation = eqb-true a.generation b.generation parts.1 in
    λ i. record { slot = slot i; generation = generation i }
