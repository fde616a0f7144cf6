use Rattle.std.proofs.Common.{rules}
use Rattle.std.proofs.lemmas.Map.Made.{filter_same_pairs}
use Rattle.worker_router.specs.Tables.{FeedView, present, id_of}
use Rattle.worker_router.proofs.ssrcs.keep_owned.Goals as goal

pub returns-clause-kept : goal.returns-clause-kept
returns-clause-kept c =
    filter_same_pairs _ (λ e. present (λ (f : FeedView). f.source.id) c.args.producers.now (id_of e.1)) _ (λ k v b w f t. search rules) c.args.ssrcs.now.entries c.retain.new.self.entries c.retain.ensures.filtered
