use Rattle.host_laws.proofs.TraceLemmas.{lines-last, notes-last, state-last}
use Rattle.host_laws.proofs.laws.journals_go_on.Goals as goal

pub returns-clause-state : goal.returns-clause-state
returns-clause-state c = state-last

pub returns-clause-notes : goal.returns-clause-notes
returns-clause-notes c = notes-last c.notes_stand.ensures

pub returns-clause-lines : goal.returns-clause-lines
returns-clause-lines c = lines-last c.notes_stand.ensures
