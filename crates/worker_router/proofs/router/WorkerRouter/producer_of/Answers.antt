use Rattle.std.proofs.Common.{sym, ap, ◌∙◌}
use Rattle.std.specs.Option.{option_map}
use Rattle.rtp_extension.specs.declared.mapped.Mapped.{Mapped}
use Rattle.worker_router.specs.Tables.{id_of, owner_in}
use Rattle.worker_router.proofs.TableLemmas.{no-map, no-value}
use Rattle.worker_router.proofs.RouterLemmas.{const-some, receiver-none, receiver-some, some-back}
use Rattle.worker_router.proofs.router.WorkerRouter.producer_of.Goals as goal

pub returns-in_default : goal.returns-in_default
returns-in_default c =
    receiver-none c.args.self.now c.self.inside.transports c.self.inside.producers c.self.inside.consumers c.self.view_is c.self.inside.ssrcs.entries c.self.invariant c.args.transport c.args.view.now (no-map id_of (owner_in c.self.inside.ssrcs.entries c.args.transport c.args.view.now.ssrc) (sym (c.in_default.ensures ∙ ap (λ s. option_map id_of (owner_in c.self.inside.ssrcs.entries c.args.transport s)) c.ssrc.ensures)))

pub returns-then-is_none : goal.returns-then-is_none
returns-then-is_none c =
    let owned = receiver-some c.args.self.now c.self.inside.transports c.self.inside.producers c.self.inside.consumers c.self.view_is c.self.inside.ssrcs.entries c.self.invariant c.args.transport c.args.view.now c.in-Some.id (some-back (owner_in c.self.inside.ssrcs.entries c.args.transport c.args.view.now.ssrc) c.in-Some.id (c.in-Some.ensures ∙ ap (λ s. option_map id_of (owner_in c.self.inside.ssrcs.entries c.args.transport s)) c.ssrc.ensures)) in
    sym (owned ∙ ap (option_map (λ (m : Mapped). c.in-Some.id)) (sym c.receive.ensures.received ∙ no-value c.receive.result c.if-is_none.ensures))

pub returns : goal.returns
returns c =
    let owned = receiver-some c.args.self.now c.self.inside.transports c.self.inside.producers c.self.inside.consumers c.self.view_is c.self.inside.ssrcs.entries c.self.invariant c.args.transport c.args.view.now c.in-Some.id (some-back (owner_in c.self.inside.ssrcs.entries c.args.transport c.args.view.now.ssrc) c.in-Some.id (c.in-Some.ensures ∙ ap (λ s. option_map id_of (owner_in c.self.inside.ssrcs.entries c.args.transport s)) c.ssrc.ensures)) in
    sym (owned ∙ (ap (option_map (λ (m : Mapped). c.in-Some.id)) (sym c.receive.ensures.received) ∙ const-some c.receive.result c.in-Some.id c.if-is_none.ensures))
