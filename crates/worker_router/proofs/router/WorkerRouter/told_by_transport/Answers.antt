use Rattle.std.proofs.Common.{◌≡◌, ◌∷◌, ◌&&◌, ◌++◌, cond, not, filter, map, Bool, List, ap, sym, ◌∙◌}
use Rattle.worker_router.specs.State.{RouterState, Sink, goes_over}
use Rattle.worker_router.specs.Calls.{comes_by}
use Rattle.worker_router.proofs.router.WorkerRouter.told_by_transport.Goals as goal

pub loop-consumer-init : goal.loop-consumer-init
loop-consumer-init c =
    let test : Sink → Bool = λ s. comes_by c.args.self.now c.args.id s && not (goes_over c.args.id s) in
    let none = c.new-told.ensures.items in
    let all = c.into_iter-consumer-iterator.ensures.into_iter_gives ∙ (c.values-consumer-items.ensures.rest ∙ (ap (λ i. i.consumers) c.self-inside.view_is ∙ ap (λ (q : RouterState). q.consumers) c.self.view_is)) in
    (λ j. none j ++ map (λ (s : Sink). s.id) (filter test (all j)))

pub loop-consumer-preserved : goal.loop-consumer-preserved
loop-consumer-preserved c =
    let test : Sink → Bool = λ s. comes_by c.args.self.now c.args.id s && not (goes_over c.args.id s) in
    let step : filter test c.next.new.self ≡ filter test c.loop-consumer.consumer-iterator =
    sym (ap (filter test) c.in-Some.ensures.steps ∙ ap (λ b. cond b (c.in-Some.consumer.now ∷ filter test c.next.new.self) (filter test c.next.new.self)) (sym c.if-is_told.ensures))
    in
    ap (λ (l : List Sink). c.loop-consumer.told.items ++ map (λ (s : Sink). s.id) l) step ∙ c.loop-consumer.invariant
