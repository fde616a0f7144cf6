use Rattle.std.proofs.Common.{refl, map, sym, ap, ◌∙◌}
use Rattle.worker_router.specs.Calls.{set_paused}
use Rattle.worker_router.specs.State.{same_id}
use Rattle.worker_router.specs.Tables.{FeedView, outline_of}
use Rattle.worker_router.proofs.ListLemmas.{map-change}
use Rattle.worker_router.proofs.ByIdLemmas.{nobody, written, written-under}
use Rattle.worker_router.proofs.feeds.ById+Feed.set_paused.Goals as goal

pub returns-in_default-clause-state : goal.returns-in_default-clause-state
returns-in_default-clause-state c =
    nobody (λ (f : FeedView). f.source.id) (λ f. record f { source = set_paused c.args.paused f.source }) c.args.id c.self.inside.items c.get_mut.follows.lender-at-none c.args.self.now c.self.invariant.keys c.self.view_is c.in_default.ensures.value c.get_mut.follows.holds-at-none

pub invariant_of-self-2 : goal.invariant_of-self-2
invariant_of-self-2 c =
    record {
      keys = written-under (λ (f : FeedView). f.source.id) (λ f. record f { source = set_paused c.args.paused f.source }) c.args.id c.self.inside.items (c.get_mut.follows.lender c.set_paused.new.self) c.args.self.now c.in-Some.feed.now c.set_paused.new.self c.self.invariant.keys c.self.view_is c.get_mut.ensures.unique (sym c.in-Some.ensures.value) (c.get_mut.follows.holds c.set_paused.new.self).0 (ap (λ (f : FeedView). f.source.id.0) c.set_paused.ensures);
      different = (c.get_mut.follows.holds c.set_paused.new.self).4;
    }

pub returns-clause-state : goal.returns-clause-state
returns-clause-state c = written (λ (f : FeedView). f.source.id) (λ f. record f { source = set_paused c.args.paused f.source }) c.args.id c.self.inside.items (c.get_mut.follows.lender c.set_paused.new.self) c.args.self.now c.in-Some.feed.now c.set_paused.new.self c.self.invariant.keys c.self.view_is c.get_mut.ensures.unique (sym c.in-Some.ensures.value) (c.get_mut.follows.holds c.set_paused.new.self).0 c.set_paused.ensures

pub returns-clause-outlines : goal.returns-clause-outlines
returns-clause-outlines c =
    ap (map outline_of) (written (λ (f : FeedView). f.source.id) (λ f. record f { source = set_paused c.args.paused f.source }) c.args.id c.self.inside.items (c.get_mut.follows.lender c.set_paused.new.self) c.args.self.now c.in-Some.feed.now c.set_paused.new.self c.self.invariant.keys c.self.view_is c.get_mut.ensures.unique (sym c.in-Some.ensures.value) (c.get_mut.follows.holds c.set_paused.new.self).0 c.set_paused.ensures)
    ∙ map-change outline_of (λ f. same_id f.source.id c.args.id) (λ f. record f { source = set_paused c.args.paused f.source }) (λ f. refl) c.args.self.now
