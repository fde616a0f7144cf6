use Rattle.std.proofs.Common.{ap}
use Rattle.worker_router.specs.Tables.{FeedView}
use Rattle.worker_router.proofs.PlaceLemmas.{kept-at, same-at}
use Rattle.worker_router.proofs.feeds.ById+Feed.note_number.Goals as goal

pub invariant_of-self-2 : goal.invariant_of-self-2
invariant_of-self-2 c =
    kept-at (λ (f : FeedView). f.source.id) c.args.producer c.self.inside.items c.args.self.now c.self.invariant.keys c.self.view_is c.in-Some.index c.in-Some.ensures c.get_index_mut.ensures.unique c.in-Some-get_index_mut.feed.now c.note_number.new.self
    c.in-Some-get_index_mut.ensures.value (ap (λ (f : FeedView). f.source.id.0) c.note_number.ensures)

pub returns : goal.returns
returns c =
    same-at (λ (f : FeedView). f.source.id) c.args.producer c.self.inside.items c.args.self.now c.self.invariant.keys c.self.view_is c.in-Some.index c.in-Some.ensures c.get_index_mut.ensures.unique c.in-Some-get_index_mut.feed.now c.note_number.new.self
    c.in-Some-get_index_mut.ensures.value c.note_number.ensures
