use Rattle.channel_frames.proofs.CallLemmas.{drained-whole, drained-next, drained-end, drained-piece}
use Rattle.channel_frames.proofs.laws.readings_go_on_from_what_is_left.Goals as goal

pub returns-clause-whole : goal.returns-clause-whole
returns-clause-whole c = drained-whole

pub returns-clause-next : goal.returns-clause-next
returns-clause-next c = drained-next

pub returns-clause-end : goal.returns-clause-end
returns-clause-end c = drained-end

pub returns-clause-piece : goal.returns-clause-piece
returns-clause-piece c = drained-piece
