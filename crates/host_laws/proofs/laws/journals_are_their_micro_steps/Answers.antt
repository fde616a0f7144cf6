use Rattle.host_laws.proofs.TraceLemmas.{at-trace, before-trace, notes-trace, state-trace}
use Rattle.host_model.specs.Sound.{IsSound}
use Rattle.host_model.specs.State.{start}
use Rattle.host_laws.proofs.laws.journals_are_their_micro_steps.Goals as goal

pub returns-clause-state : goal.returns-clause-state
returns-clause-state c = λ j. state-trace (start j.seed) j.entries

pub returns-clause-notes : goal.returns-clause-notes
returns-clause-notes c = λ j. notes-trace c.notes_stand.ensures (start j.seed) j.entries

pub returns-clause-before : goal.returns-clause-before
returns-clause-before c = λ j. before-trace (start j.seed) j.entries

pub returns-clause-sound : goal.returns-clause-sound
returns-clause-sound c =
    λ j i t h.
    at-trace (IsSound j.seed) (c.hosts_are_sound.ensures.step j.seed) (start j.seed) (c.hosts_are_sound.ensures.start j.seed h) j.entries i t
