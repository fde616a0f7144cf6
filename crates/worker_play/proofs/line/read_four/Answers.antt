use Rattle.worker_play.proofs.EventLemmas.{no_address}
use Rattle.worker_play.proofs.line.read_four.Goals as goal

pub returns-in_default-read_ip : goal.returns-in_default-read_ip
returns-in_default-read_ip c = no_address c.args.link.now c.args.ip.now c.args.port.now c.args.hex.now c.in_default-read_ip.ensures
