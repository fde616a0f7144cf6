use Rattle.std.proofs.Common.{Option, Some, List, bytes_eq, find, map, sym, ap, subst, ◌∙◌}
use Rattle.std.specs.List.{IsDistinct}
use Rattle.std.specs.Option.{option_map}
use Rattle.ms_base.specs.declared.id.Id.{Id}
use Rattle.worker_router.specs.State.{RouterState, Source, producer_of, same_id}
use Rattle.worker_router.specs.Calls.{change, differs, or_missing, pause_source_of, set_paused, with_producer_paused}
use Rattle.worker_router.specs.Tables.{FeedView, ids_in, is_listed}
use Rattle.worker_router.proofs.AddLemmas.{pause-answer}
use Rattle.worker_router.proofs.RouterLemmas.{listed-own, own-differ, source, source-at, source-change}
use Rattle.worker_router.proofs.router.WorkerRouter.set_producer_paused.Goals as goal

pub pause_sources-requires : goal.pause_sources-requires
pause_sources-requires c =
    subst (λ (l : List (Id × Id)). IsDistinct bytes_eq (ids_in l)) (sym c.consumers.ensures)
    (own-differ c.args.self.now c.self.inside.transports c.self.inside.producers c.self.inside.consumers c.self.view_is c.self.inside.ssrcs.entries c.self.invariant c.args.id c.in-Some.feed.now (sym c.in-Some.ensures))

pub returns-in_default-clause-answer : goal.returns-in_default-clause-answer
returns-in_default-clause-answer c =
    ap (λ (o : Option Source). or_missing (option_map (λ (p : Source). differs c.args.paused p.stream.paused) o)) (ap (option_map source) c.in_default.ensures ∙ source-at c.args.self.now c.self.inside.transports c.self.inside.producers c.self.inside.consumers c.self.view_is c.args.id)

pub returns-clause-answer : goal.returns-clause-answer
returns-clause-answer c =
    pause-answer c.args.paused c.is_paused-before.result (find (λ (f : FeedView). same_id f.source.id c.args.id) c.self.inside.producers) (producer_of c.args.self.now c.args.id) (ap Some c.is_paused-before.ensures ∙ ap (option_map (λ (f : FeedView). f.source.stream.paused)) c.in-Some.ensures) (source-at c.args.self.now c.self.inside.transports c.self.inside.producers c.self.inside.consumers c.self.view_is c.args.id)

pub returns-clause-ok : goal.returns-clause-ok
returns-clause-ok c =
    let feeds = c.set_paused.ensures.state in
    let sources = source-change (λ p. same_id p.id c.args.id) (set_paused c.args.paused) c.self.inside.producers in
    let own = listed-own c.args.self.now c.self.inside.transports c.self.inside.producers c.self.inside.consumers c.self.view_is c.self.inside.ssrcs.entries c.self.invariant c.args.id c.in-Some.feed.now (sym c.in-Some.ensures) (pause_source_of c.args.paused) in
    let sinks = c.pause_sources.ensures.state ∙ (ap (λ l. change (is_listed l) (pause_source_of c.args.paused) c.self.inside.consumers) c.consumers.ensures ∙ own) in
    (λ j. record { transports = c.self.inside.transports; producers = (ap (map source) feeds ∙ sources) j; consumers = sinks j }) ∙ ap (λ (q : RouterState). with_producer_paused q c.args.id c.args.paused) c.self.view_is
