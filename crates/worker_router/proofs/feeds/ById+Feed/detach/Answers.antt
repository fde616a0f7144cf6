use Rattle.std.proofs.Common.{sym, ap}
use Rattle.worker_router.specs.Tables.{FeedView, detached}
use Rattle.worker_router.proofs.ByIdLemmas.{nobody, written, written-under}
use Rattle.worker_router.proofs.feeds.ById+Feed.detach.Goals as goal

pub returns-in_default : goal.returns-in_default
returns-in_default c =
    nobody (λ (f : FeedView). f.source.id) (detached c.args.consumer) c.args.producer c.self.inside.items c.get_mut.follows.lender-at-none c.args.self.now c.self.invariant.keys c.self.view_is c.in_default.ensures.value c.get_mut.follows.holds-at-none

pub invariant_of-self-2 : goal.invariant_of-self-2
invariant_of-self-2 c =
    record {
      keys = written-under (λ (f : FeedView). f.source.id) (detached c.args.consumer) c.args.producer c.self.inside.items (c.get_mut.follows.lender c.detach.new.self) c.args.self.now c.in-Some.feed.now c.detach.new.self c.self.invariant.keys c.self.view_is c.get_mut.ensures.unique (sym c.in-Some.ensures.value) (c.get_mut.follows.holds c.detach.new.self).0 (ap (λ (f : FeedView). f.source.id.0) c.detach.ensures);
      different = (c.get_mut.follows.holds c.detach.new.self).4;
    }

pub returns : goal.returns
returns c = written (λ (f : FeedView). f.source.id) (detached c.args.consumer) c.args.producer c.self.inside.items (c.get_mut.follows.lender c.detach.new.self) c.args.self.now c.in-Some.feed.now c.detach.new.self c.self.invariant.keys c.self.view_is c.get_mut.ensures.unique (sym c.in-Some.ensures.value) (c.get_mut.follows.holds c.detach.new.self).0 c.detach.ensures
