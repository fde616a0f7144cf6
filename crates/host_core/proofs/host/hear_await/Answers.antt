use Rattle.std.proofs.lemmas.Result.{on_ok_weaker}
use Rattle.host_core.proofs.host.hear_await.Goals as goal

pub returns-clause-ok : goal.returns-clause-ok
returns-clause-ok c = on_ok_weaker c.settle_awaits.result (λ settles seed s sound k. settles _ (c.in_ok-add_await.ensures.ok s k)) c.settle_awaits.ensures.ok
