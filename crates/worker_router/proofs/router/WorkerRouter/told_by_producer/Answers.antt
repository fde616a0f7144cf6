use Rattle.std.proofs.Common.{sym, ap, ◌∙◌}
use Rattle.std.specs.Option.{option_map}
use Rattle.worker_router.specs.Calls.{missing}
use Rattle.worker_router.proofs.RouterLemmas.{source, source-at, ids-of}
use Rattle.worker_router.proofs.router.WorkerRouter.told_by_producer.Goals as goal

pub returns-in_default-clause-fault : goal.returns-in_default-clause-fault
returns-in_default-clause-fault c = sym (ap missing (ap (option_map source) c.in_default.ensures ∙ source-at c.args.self.now c.self.inside.transports c.self.inside.producers c.self.inside.consumers c.self.view_is c.args.id))

pub returns-clause-fault : goal.returns-clause-fault
returns-clause-fault c = sym (ap missing (ap (option_map source) c.in-Some.ensures ∙ source-at c.args.self.now c.self.inside.transports c.self.inside.producers c.self.inside.consumers c.self.view_is c.args.id))

pub returns-clause-told : goal.returns-clause-told
returns-clause-told c = c.in_ok-consumer_ids.ensures ∙ ids-of c.args.self.now c.self.inside.transports c.self.inside.producers c.self.inside.consumers c.self.view_is c.self.inside.ssrcs.entries c.self.invariant c.args.id c.in-Some.feed.now (sym c.in-Some.ensures)
