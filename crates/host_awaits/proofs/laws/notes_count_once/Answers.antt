use Rattle.host_awaits.proofs.LawLemmas.{noted-once}
use Rattle.host_awaits.proofs.laws.notes_count_once.Goals as goal

pub returns : goal.returns
returns c = noted-once
