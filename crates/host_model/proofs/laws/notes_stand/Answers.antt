use Rattle.host_model.proofs.NoteLemmas.{notes-stand}
use Rattle.host_model.proofs.laws.notes_stand.Goals as goal

pub returns : goal.returns
returns c = notes-stand
