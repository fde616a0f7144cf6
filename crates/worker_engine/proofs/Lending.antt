-- A Router that was lent by its id.
use Rattle.std.proofs.Common.{◌≡◌, List, [], ◌∷◌, Bool, true, false, cond, Option, Some, None, refl, sym, ap, ◌∙◌}
use Rattle.std.specs.Option.{OnSome}
use Rattle.std.specs.List.{find, AllByRecursion}
use Rattle.ms_base.specs.declared.id.Id.{Id}
use Rattle.std.specs.Prelude.{IfSome, IfNone}
use Rattle.worker_router.specs.State.{RouterState, same_id}
use Rattle.worker_router.specs.Calls.{behind_pass, change}
use Rattle.worker_router.specs.declared.packets.Passed.{Passed}
use Rattle.worker_calls.specs.Plans.{at}
use Rattle.worker_calls.specs.State.{Worker, RouterAt, router_of, change_router}
use Rattle.worker_engine.specs.Forwarding.{Incoming, behind_one}
use Rattle.worker_engine.proofs.Ids.{change-none, change-same, Differ}

none-by : {A : Type 0} (p : A → Bool) (b : Bool) (x : A) (xs : List A) → p x ≡ b → (find p xs ≡ None → AllByRecursion (λ y. p y ≡ false) xs) → cond b (Some x) (find p xs) ≡ None
    → AllByRecursion (λ y. p y ≡ false) (x ∷ xs)
none-by p true x xs t rest e = absurd cc
none-by p false x xs t rest e = (t, rest e)

none-found : {A : Type 0} (p : A → Bool) (xs : List A) → find p xs ≡ None → AllByRecursion (λ x. p x ≡ false) xs
none-found p [] e = tt
none-found p (x ∷ xs) e = none-by p (p x) x xs refl (none-found p xs) e

abbrev with_routers : Worker → List RouterAt → Worker
with_routers w rs = record w { routers = rs }

-- where no Router has the id nothing changes
pub none-changed : (k : Id) (f : RouterState → RouterState) (w : Worker) → None ≡ router_of w k → w ≡ change_router k f w
none-changed k f w none =
    sym (ap (with_routers w) (change-none (λ (r : RouterAt). same_id r.id k) (λ r. record r { router = f r.router }) w.routers (none-found (λ (r : RouterAt). same_id r.id k) w.routers (sym none))))

-- what is put back is the change of what was lent
pub lent-changed : (k : Id) (f : RouterState → RouterState) (w : Worker) (r s : RouterState) → Differ (λ (x : RouterAt). x.id) w.routers → Some (at k r) ≡ router_of w k → s ≡ f r
    → change_router k (λ _. s) w ≡ change_router k f w
lent-changed k f w r s differ found e =
    ap (with_routers w) (change-same (λ (x : RouterAt). x.id) (λ x. record x { router = s }) (λ x. record x { router = f x.router }) k w.routers (at k r) differ (sym found) (ap (at k) e))

-- what was lent and comes back as it was is no change
change-nothing : (k : Id) (rs : List RouterAt) → change (λ r. same_id r.id k) (λ r. r) rs ≡ rs
change-nothing k [] = refl
change-nothing k (r ∷ rs) = let rest = change-nothing k rs in ap (λ x. x ∷ change (λ r. same_id r.id k) (λ r. r) rs) (either (same_id r.id k)) ∙ ap (λ xs. r ∷ xs) rest
  where
    either : (b : Bool) → cond b r r ≡ r
    either true = refl
    either false = refl

pub lent-same : (k : Id) (w : Worker) (r s : RouterState) → Differ (λ (x : RouterAt). x.id) w.routers → Some (at k r) ≡ router_of w k → s ≡ r → change_router k (λ _. s) w ≡ w
lent-same k w r s differ found e =
    ap (with_routers w) (change-same (λ (x : RouterAt). x.id) (λ x. record x { router = s }) (λ x. x) k w.routers (at k r) differ (sym found) (ap (at k) e) ∙ change-nothing k w.routers)

module _ (i : Incoming) (w v : Worker) (r s : RouterState) (differ : Differ (λ (x : RouterAt). x.id) w.routers) (found : Some (at i.router r) ≡ router_of w i.router)
    (back : v ≡ change_router i.router (λ _. s) w) where
  -- the worker behind a Consumer that was given the packet
  pub passed-state : (o : Option Passed) → IfSome o (λ p. s ≡ behind_pass r p.consumer i.mapped i.packet) → IfSome o (λ p. v ≡ behind_one i p.consumer w)
  passed-state None h = tt
  passed-state (Some p) h = back ∙ lent-changed i.router (λ (q : RouterState). behind_pass q p.consumer i.mapped i.packet) w r s differ found h

  -- or behind none
  pub none-passed : (o : Option Passed) → IfNone o (s ≡ r) → IfNone o (v ≡ w)
  none-passed None h = back ∙ lent-same i.router w r s differ found h
  none-passed (Some p) h = tt

pub on-some : {A : Type 0} (o : Option A) (x : A) (P : Type 0) → o ≡ Some x → OnSome o P → P
on-some None x P e h = absurd cc
on-some (Some y) x P e h = h
