use Rattle.std.proofs.Common.{◌∙◌}
use Rattle.worker_router.proofs.RouterLemmas.{clash-is}
use Rattle.worker_router.proofs.router.WorkerRouter.clashes.Goals as goal

pub returns : goal.returns
returns c = c.has_ssrc_of.ensures ∙ clash-is c.args.self.now c.self.inside.transports c.self.inside.producers c.self.inside.consumers c.self.view_is c.self.inside.ssrcs.entries c.self.invariant c.args.transport c.args.encodings.now
