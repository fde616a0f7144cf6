use Rattle.std.proofs.Common.{refl}
use Rattle.worker_play.proofs.EventLemmas.{ports_read}
use Rattle.worker_play.proofs.line.read_ports.Goals as goal

pub returns-then-is_word : goal.returns-then-is_word
returns-then-is_word c =
    rw c.in-Some.ensures.cases.0 (ports_read c.in-Some.kind.now.now _ c.read_answers.result (c.if-is_word.ensures.0 refl) c.read_answers.ensures)
