use Rattle.seq_manager.proofs.GoingOn.{answers-append}
use Rattle.seq_manager.proofs.laws.calls_go_on_from_the_state.Goals as goal

pub returns : goal.returns
returns c = answers-append
