use Rattle.std.proofs.Common.{◌≡◌, None, Some, rules, slice_get, ap, ◌∙◌}
use Rattle.std.specs.Option.{option_and_then}
use Rattle.worker_router.specs.Tables.{FeedView}
use Rattle.worker_router.proofs.RouterLemmas.{consumers-at}
use Rattle.worker_router.proofs.router.WorkerRouter.consumers_of.Goals as goal

pub returns-in_err-feed-clause-value : goal.returns-in_err-feed-clause-value
returns-in_err-feed-clause-value c =
    let none : c.from_residual.result ≡ None = search rules in
    none ∙ (ap (option_and_then (λ (f : FeedView). slice_get f.consumers c.args.place)) c.in_err-feed.ensures ∙ consumers-at c.args.self.now c.self.inside.transports c.self.inside.producers c.self.inside.consumers c.self.view_is c.self.inside.ssrcs.entries c.self.invariant c.args.producer c.args.place)

pub returns-in_err-listed-clause-value : goal.returns-in_err-listed-clause-value
returns-in_err-listed-clause-value c =
    let none : c.from_residual-in_err-listed.result ≡ None = search rules in
    none ∙ (c.in_err-listed.ensures.value ∙ (ap (option_and_then (λ (f : FeedView). slice_get f.consumers c.args.place)) c.in_ok-feed.ensures ∙ consumers-at c.args.self.now c.self.inside.transports c.self.inside.producers c.self.inside.consumers c.self.view_is c.self.inside.ssrcs.entries c.self.invariant c.args.producer c.args.place))

pub returns-clause-value : goal.returns-clause-value
returns-clause-value c =
    let to : (c.consumer.result, c.transport.result) ≡ c.in_ok-listed.listed.now = (λ j. (c.consumer.ensures j, c.transport.ensures j)) in
    ap Some to ∙ (c.in_ok-listed.ensures.value ∙ (ap (option_and_then (λ (f : FeedView). slice_get f.consumers c.args.place)) c.in_ok-feed.ensures ∙ consumers-at c.args.self.now c.self.inside.transports c.self.inside.producers c.self.inside.consumers c.self.view_is c.self.inside.ssrcs.entries c.self.invariant c.args.producer c.args.place))
