use Rattle.host_laws.proofs.CutLemmas.{cuts-frames, lines-cut, state-cut}
use Rattle.host_laws.proofs.laws.cuts_are_not_heard.Goals as goal

pub returns-clause-state : goal.returns-clause-state
returns-clause-state c =
    state-cut c.slots_have_workers.ensures.step c.slots_have_workers.ensures.start
    (cuts-frames c.frames_of_a_cut_stream.ensures.payloads c.frames_of_a_cut_stream.ensures.fresh)

pub returns-clause-lines : goal.returns-clause-lines
returns-clause-lines c =
    lines-cut c.slots_have_workers.ensures.step c.slots_have_workers.ensures.start
    (cuts-frames c.frames_of_a_cut_stream.ensures.payloads c.frames_of_a_cut_stream.ensures.fresh)
