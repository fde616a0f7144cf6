use Rattle.worker_router.proofs.CloseLemmas.{producer-closed}
use Rattle.worker_router.proofs.router.WorkerRouter.remove_producer.Goals as goal

pub invariant_of-self : goal.invariant_of-self
invariant_of-self c = (producer-closed c.args.self.now c.self.inside.transports c.self.inside.producers c.self.inside.consumers c.self.view_is c.self.inside.ssrcs.entries c.self.invariant c.args.id c.remove.new.self c.remove_of.new.self c.keep_owned.new.ssrcs.entries c.remove.ensures.state c.remove.ensures.different c.remove_of.ensures.state c.remove_of.ensures.different c.keep_owned.ensures.kept c.keep_owned.ensures.different).0

pub returns : goal.returns
returns c = (producer-closed c.args.self.now c.self.inside.transports c.self.inside.producers c.self.inside.consumers c.self.view_is c.self.inside.ssrcs.entries c.self.invariant c.args.id c.remove.new.self c.remove_of.new.self c.keep_owned.new.ssrcs.entries c.remove.ensures.state c.remove.ensures.different c.remove_of.ensures.state c.remove_of.ensures.different c.keep_owned.ensures.kept c.keep_owned.ensures.different).1
