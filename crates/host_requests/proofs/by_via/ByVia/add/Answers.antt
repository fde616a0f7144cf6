use Rattle.std.proofs.Common.{refl}
use Rattle.std.proofs.lemmas.Result.{on_ok_weaker}
use Rattle.host_requests.proofs.TableLemmas.{by-via-answer-added, by-via-start-added}
use Rattle.host_requests.proofs.by_via.ByVia.add.Goals as goal

pub returns-in_ok-insert-in-Channel-clause-ok : goal.returns-in_ok-insert-in-Channel-clause-ok
returns-in_ok-insert-in-Channel-clause-ok c = λ os h next.
    by-via-answer-added c.args.self.now (record c.args.self.now { ids = c.insert.new.self }) c.args.number c.args.via c.args.under os c.in-Channel.worker c.in-Channel.id c.in-Channel.is refl
    (λ q. c.in_ok-insert-in-Channel.ensures.updates.0 q) h next

pub returns-in-Start-clause-ok : goal.returns-in-Start-clause-ok
returns-in-Start-clause-ok c =
    on_ok_weaker c.add.result
    (λ put os h next. by-via-start-added c.args.self.now (record c.args.self.now { starts = c.add.new.self }) c.args.number c.args.via c.args.under os c.in-Start.is refl put h next)
    c.add.ensures.ok
