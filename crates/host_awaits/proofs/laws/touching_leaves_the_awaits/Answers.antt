use Rattle.host_awaits.proofs.LawLemmas.{awaits-looked-at, awaits-touched}
use Rattle.host_awaits.proofs.laws.touching_leaves_the_awaits.Goals as goal

pub returns : goal.returns
returns c = record { touched = awaits-touched; looked_at = awaits-looked-at }
