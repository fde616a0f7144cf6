use Rattle.script_text.proofs.Cuts.{await_other}
use Rattle.script_text.proofs.call.read_await.Goals as goal

pub returns-in-None : goal.returns-in-None
returns-in-None c = await_other _ c.in-None.ensures
