use Rattle.std.proofs.Common.{refl}
use Rattle.host_requests.proofs.TableLemmas.{by-via-answer-removed, by-via-start-removed}
use Rattle.host_requests.proofs.by_via.ByVia.remove.Goals as goal

pub returns-in-Channel : goal.returns-in-Channel
returns-in-Channel c = λ os found h.
    by-via-answer-removed c.args.self.now (record c.args.self.now { ids = c.remove.new.self }) c.args.number c.args.via c.args.under os c.in-Channel.worker c.in-Channel.id c.in-Channel.is refl
    (λ q. c.remove.ensures.updates.0 q) found h

pub returns-in-Start : goal.returns-in-Start
returns-in-Start c = λ os found h.
    by-via-start-removed c.args.self.now (record c.args.self.now { starts = c.remove-in-Start.new.self }) c.args.number c.args.via c.args.under os c.in-Start.is refl
    c.remove-in-Start.ensures found h
