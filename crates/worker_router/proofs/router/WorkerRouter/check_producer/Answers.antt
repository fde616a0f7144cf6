use Rattle.std.proofs.Common.{is_some, ap, ◌∙◌}
use Rattle.worker_router.specs.Calls.{clashes}
use Rattle.worker_router.proofs.RouterLemmas.{producer-fault, source-there, transport-at}
use Rattle.worker_router.proofs.router.WorkerRouter.check_producer.Goals as goal

pub returns-then-has : goal.returns-then-has
returns-then-has c =
    let there = c.if-not-has.ensures ∙ ap is_some (transport-at c.args.self.now c.self.inside.transports c.self.inside.producers c.self.inside.consumers c.self.view_is c.args.transport) in
    let taken = c.if-has.ensures ∙ source-there c.args.self.now c.self.inside.transports c.self.inside.producers c.self.inside.consumers c.self.view_is c.args.id in
    (λ j. producer-fault (there j) (taken j) (clashes c.args.self.now c.args.transport c.args.encodings.now))

pub returns-then-clashes : goal.returns-then-clashes
returns-then-clashes c =
    let there = c.if-not-has.ensures ∙ ap is_some (transport-at c.args.self.now c.self.inside.transports c.self.inside.producers c.self.inside.consumers c.self.view_is c.args.transport) in
    let taken = c.if-has.ensures ∙ source-there c.args.self.now c.self.inside.transports c.self.inside.producers c.self.inside.consumers c.self.view_is c.args.id in
    let clash = c.if-clashes.ensures in
    (λ j. producer-fault (there j) (taken j) (clash j))

pub returns : goal.returns
returns c =
    let there = c.if-not-has.ensures ∙ ap is_some (transport-at c.args.self.now c.self.inside.transports c.self.inside.producers c.self.inside.consumers c.self.view_is c.args.transport) in
    let taken = c.if-has.ensures ∙ source-there c.args.self.now c.self.inside.transports c.self.inside.producers c.self.inside.consumers c.self.view_is c.args.id in
    let clash = c.if-clashes.ensures in
    (λ j. producer-fault (there j) (taken j) (clash j))
