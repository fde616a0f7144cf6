use Rattle.std.proofs.Common.{not, rules, subst, bytes_eq}
use Rattle.std.proofs.lemmas.Map.Made.{filter_same_pairs}
use Rattle.std.specs.List.{IsDistinct}
use Rattle.worker_router.specs.State.{Sink, is_of}
use Rattle.worker_router.proofs.ByIdLemmas.{retained}
use Rattle.worker_router.proofs.consumers.ById+Consumer.remove_of.Goals as goal

pub invariant_of-self : goal.invariant_of-self
invariant_of-self c =
    let put = filter_same_pairs _ (λ e. not (is_of c.args.producer e.1)) _ (λ k v b w f t. search rules) c.self.inside.items.entries c.retain.new.self.entries c.retain.ensures.filtered in
    record {
      keys = (retained (λ (s : Sink). s.id) (λ s. not (is_of c.args.producer s)) c.self.inside.items c.retain.new.self c.args.self.now c.self.invariant.keys c.self.view_is put).0;
      different = c.retain.ensures.unique;
    }

pub returns-clause-state : goal.returns-clause-state
returns-clause-state c =
    let put = filter_same_pairs _ (λ e. not (is_of c.args.producer e.1)) _ (λ k v b w f t. search rules) c.self.inside.items.entries c.retain.new.self.entries c.retain.ensures.filtered in
    (retained (λ (s : Sink). s.id) (λ s. not (is_of c.args.producer s)) c.self.inside.items c.retain.new.self c.args.self.now c.self.invariant.keys c.self.view_is put).1

pub returns-clause-different : goal.returns-clause-different
returns-clause-different c =
    let put = filter_same_pairs _ (λ e. not (is_of c.args.producer e.1)) _ (λ k v b w f t. search rules) c.self.inside.items.entries c.retain.new.self.entries c.retain.ensures.filtered in
    subst (IsDistinct bytes_eq) (retained (λ (s : Sink). s.id) (λ s. not (is_of c.args.producer s)) c.self.inside.items c.retain.new.self c.args.self.now c.self.invariant.keys c.self.view_is put).0 c.retain.ensures.unique
