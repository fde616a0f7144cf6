use Rattle.host_awaits.proofs.LawLemmas.{none-changed, none-entered, none-heard, none-left}
use Rattle.host_awaits.proofs.laws.untouched_awaits_have_no_outcome.Goals as goal

pub returns : goal.returns
returns c = record { settled = none-left; heard = none-heard; entered = none-entered; changed = none-changed }
