use Rattle.std.proofs.Common.{option_map}
use Rattle.std.proofs.lemmas.Result.{on_ok_weaker}
use Rattle.serde_json.specs.View.{view}
use Rattle.host_core.proofs.ReplyLemmas.{opens-moves}
use Rattle.host_core.proofs.reply.accept.Goals as goal

pub returns-in-Opens-clause-ok : goal.returns-in-Opens-clause-ok
returns-in-Opens-clause-ok c =
    on_ok_weaker c.open_made.result
    (opens-moves c.args.tables.now c.open_made.new.tables c.args.request c.in-Opens.object c.in-Opens.keeps (option_map view c.args.content.now) c.in-Opens.is)
    c.open_made.ensures.ok
