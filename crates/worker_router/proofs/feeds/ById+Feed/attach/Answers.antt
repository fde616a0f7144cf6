use Rattle.std.proofs.Common.{[], ◌∷◌, ◌++◌, refl, sym}
use Rattle.worker_router.specs.Tables.{FeedView}
use Rattle.worker_router.proofs.ByIdLemmas.{nobody, lent-under, lent-ok, lent-err}
use Rattle.worker_router.proofs.feeds.ById+Feed.attach.Goals as goal

pub returns-in_default-clause-ok : goal.returns-in_default-clause-ok
returns-in_default-clause-ok c =
    nobody (λ (f : FeedView). f.source.id) (λ f. record f { consumers = f.consumers ++ (c.args.consumer, c.args.transport) ∷ [] }) c.args.producer c.self.inside.items c.get_mut.follows.lender-at-none c.args.self.now c.self.invariant.keys c.self.view_is c.in_default.ensures.value c.get_mut.follows.holds-at-none

pub invariant_of-self-2 : goal.invariant_of-self-2
invariant_of-self-2 c =
    record {
      keys = lent-under (λ (f : FeedView). f.source.id) (λ f. record f { consumers = f.consumers ++ (c.args.consumer, c.args.transport) ∷ [] }) c.args.producer c.self.inside.items (c.get_mut.follows.lender c.attach.new.self) c.args.self.now c.in-Some.feed.now c.attach.new.self c.self.invariant.keys c.self.view_is c.get_mut.ensures.unique (sym c.in-Some.ensures.value) (c.get_mut.follows.holds c.attach.new.self).0 c.attach.result (λ y. refl) c.attach.ensures.ok c.attach.ensures.err;
      different = (c.get_mut.follows.holds c.attach.new.self).4;
    }

pub returns-clause-ok : goal.returns-clause-ok
returns-clause-ok c = lent-ok (λ (f : FeedView). f.source.id) (λ f. record f { consumers = f.consumers ++ (c.args.consumer, c.args.transport) ∷ [] }) c.args.producer c.self.inside.items (c.get_mut.follows.lender c.attach.new.self) c.args.self.now c.in-Some.feed.now c.attach.new.self c.self.invariant.keys c.self.view_is c.get_mut.ensures.unique (sym c.in-Some.ensures.value) (c.get_mut.follows.holds c.attach.new.self).0 c.attach.result (λ y. refl) c.attach.ensures.ok c.attach.ensures.err

pub returns-clause-err : goal.returns-clause-err
returns-clause-err c = lent-err (λ (f : FeedView). f.source.id) (λ f. record f { consumers = f.consumers ++ (c.args.consumer, c.args.transport) ∷ [] }) c.args.producer c.self.inside.items (c.get_mut.follows.lender c.attach.new.self) c.args.self.now c.in-Some.feed.now c.attach.new.self c.self.invariant.keys c.self.view_is c.get_mut.ensures.unique (sym c.in-Some.ensures.value) (c.get_mut.follows.holds c.attach.new.self).0 c.attach.result (λ y. refl) c.attach.ensures.ok c.attach.ensures.err
