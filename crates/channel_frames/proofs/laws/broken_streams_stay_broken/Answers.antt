use Rattle.channel_frames.proofs.BreakLemmas.{stays_broken}
use Rattle.channel_frames.proofs.CallLemmas.{last_answer}
use Rattle.channel_frames.proofs.laws.broken_streams_stay_broken.Goals as goal

pub returns-clause-stream : goal.returns-clause-stream
returns-clause-stream c = stays_broken

pub returns-clause-answer : goal.returns-clause-answer
returns-clause-answer c = last_answer
