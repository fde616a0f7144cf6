use Rattle.std.proofs.Common.{sym, ap}
use Rattle.worker_router.specs.Tables.{FeedView}
use Rattle.worker_router.proofs.ByIdLemmas.{written-same, written-under}
use Rattle.worker_router.proofs.feeds.ById+Feed.note_move.Goals as goal

pub invariant_of-self-2 : goal.invariant_of-self-2
invariant_of-self-2 c =
    record {
      keys = written-under (λ (f : FeedView). f.source.id) (λ f. f) c.args.producer c.self.inside.items (c.get_mut.follows.lender c.note.new.self) c.args.self.now c.in-Some.feed.now c.note.new.self c.self.invariant.keys c.self.view_is c.get_mut.ensures.unique (sym c.in-Some.ensures.value) (c.get_mut.follows.holds c.note.new.self).0 (ap (λ (f : FeedView). f.source.id.0) c.note.ensures);
      different = (c.get_mut.follows.holds c.note.new.self).4;
    }

pub returns : goal.returns
returns c = written-same (λ (f : FeedView). f.source.id) (λ f. f) c.args.producer c.self.inside.items (c.get_mut.follows.lender c.note.new.self) c.args.self.now c.in-Some.feed.now c.note.new.self c.self.invariant.keys c.self.view_is c.get_mut.ensures.unique (sym c.in-Some.ensures.value) (c.get_mut.follows.holds c.note.new.self).0 c.note.ensures
