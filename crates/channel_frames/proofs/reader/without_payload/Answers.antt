use Rattle.channel_frames.proofs.ReaderLemmas.{breaks-here, ends-here}
use Rattle.channel_frames.proofs.reader.without_payload.Goals as goal

pub returns-in-Some : goal.returns-in-Some
returns-in-Some c = breaks-here c.args.place c.in-Some.length c.args.unread.now c.requires c.in-Some.ensures.0 c.in-Some.ensures.1

pub returns-in-None : goal.returns-in-None
returns-in-None c = ends-here c.args.place c.args.unread.now c.requires c.in-None.ensures
