use Rattle.std.proofs.Common.{rules, refl}
use Rattle.std.proofs.lemmas.Map.Made.{map_same_pairs}
use Rattle.worker_router.specs.Tables.{FeedView, with_present}
use Rattle.worker_router.proofs.ByIdLemmas.{rewritten}
use Rattle.worker_router.proofs.feeds.ById+Feed.keep_present.Goals as goal

pub invariant_of-self : goal.invariant_of-self
invariant_of-self c =
    let put = map_same_pairs _ (with_present c.args.consumers.now) _ (λ k v b w f t. search rules) c.self.inside.items.entries c.retain.new.self.entries c.retain.ensures.filtered in
    record { keys = (rewritten (λ (f : FeedView). f.source.id) (with_present c.args.consumers.now) (λ f. refl) c.self.inside.items c.retain.new.self c.args.self.now c.self.invariant.keys c.self.view_is put).0; different = c.retain.ensures.unique }

pub returns : goal.returns
returns c =
    let put = map_same_pairs _ (with_present c.args.consumers.now) _ (λ k v b w f t. search rules) c.self.inside.items.entries c.retain.new.self.entries c.retain.ensures.filtered in
    (rewritten (λ (f : FeedView). f.source.id) (with_present c.args.consumers.now) (λ f. refl) c.self.inside.items c.retain.new.self c.args.self.now c.self.invariant.keys c.self.view_is put).1
