use Rattle.worker_router.proofs.CloseLemmas.{transport-closed}
use Rattle.worker_router.proofs.router.WorkerRouter.remove_transport.Goals as goal

pub invariant_of-self : goal.invariant_of-self
invariant_of-self c = (transport-closed c.args.self.now c.self.inside.transports c.self.inside.producers c.self.inside.consumers c.self.view_is c.self.inside.ssrcs.entries c.self.invariant c.args.id c.remove.new.self c.remove_over.new.self c.keep_tables.new.producers c.remove_over-2.new.self c.keep_tables.new.consumers c.keep_tables.new.ssrcs.entries c.remove.ensures.state c.remove_over.ensures.state c.remove_over.ensures.different c.remove_over-2.ensures.state c.keep_tables.ensures.consumers c.keep_tables.ensures.producers c.keep_tables.ensures.consumers_differ c.keep_tables.ensures.ssrcs c.keep_tables.ensures.places_differ).0

pub returns : goal.returns
returns c = (transport-closed c.args.self.now c.self.inside.transports c.self.inside.producers c.self.inside.consumers c.self.view_is c.self.inside.ssrcs.entries c.self.invariant c.args.id c.remove.new.self c.remove_over.new.self c.keep_tables.new.producers c.remove_over-2.new.self c.keep_tables.new.consumers c.keep_tables.new.ssrcs.entries c.remove.ensures.state c.remove_over.ensures.state c.remove_over.ensures.different c.remove_over-2.ensures.state c.keep_tables.ensures.consumers c.keep_tables.ensures.producers c.keep_tables.ensures.consumers_differ c.keep_tables.ensures.ssrcs c.keep_tables.ensures.places_differ).1
