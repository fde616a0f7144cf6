use Rattle.std.proofs.Common.{refl}
use Rattle.worker_play.proofs.EventLemmas.{channel_event, datagram_event}
use Rattle.worker_play.proofs.line.read_event.Goals as goal

pub returns-then-is_word : goal.returns-then-is_word
returns-then-is_word c =
    rw c.in-Some.ensures.cases.0 (channel_event c.in-Some.kind.now.now _ c.read_channel.result (c.if-is_word.ensures.0 refl) c.read_channel.ensures)

pub returns-then-is_word-2 : goal.returns-then-is_word-2
returns-then-is_word-2 c =
    rw c.in-Some.ensures.cases.0 (datagram_event c.in-Some.kind.now.now _ c.read_datagram.result (c.if-is_word-2.ensures.0 refl) c.read_datagram.ensures)
