-- One Consumer more is served.
use Rattle.std.proofs.Common.{◌≡◌, ℕ, zero, suc, ◌+◌, ◌<◌, List, [], ◌∷◌, ◌++◌, Bool, true, false, cond, map, filter, Option, Some, None, option_map, length, drop, slice_get, refl, sym, ap, subst, ◌∙◌, arith, add-one, append_assoc}
use Rattle.std.specs.List.{cons_option}
use Rattle.ms_base.specs.declared.id.Id.{Id}
use Rattle.ms_devices.specs.declared.events.OutCall.{OutCall}
use Rattle.rtp_extension.specs.declared.mapped.Mapped.{Mapped}
use Rattle.simple_consumer.specs.Sending.{Offer}
use Rattle.worker_router.specs.State.{RouterState, Sink, same_id, consumers_of, is_of}
use Rattle.worker_router.specs.Calls.{change, offered, after_offer, behind_pass}
use Rattle.worker_calls.specs.State.{Worker, RouterAt, router_of}
use Rattle.worker_calls.specs.Requests.{Outgoing}
use Rattle.worker_engine.specs.Outside.{call_of, Made, StopsAtAFault}
use Rattle.worker_engine.specs.Forwarding.{Incoming, targets, targets_of, behind_one, out_one, listed, behind_each, out_each}
use Rattle.worker_engine.proofs.Serving.{out_of, router-there, router-changed}
use Rattle.worker_engine.proofs.Calls.{stops-before, stops-behind}

-- ---- a list from a place on

pub drop-at : {A : Type 0} (xs : List A) (i : ℕ) (x : A) → slice_get xs i ≡ Some x → drop i xs ≡ x ∷ drop (i + 1) xs
drop-at xs i x e = at-suc xs i x e ∙ ap (λ n. x ∷ drop n xs) (sym (add-one i))
  where
    at-suc : {A : Type 0} (xs : List A) (i : ℕ) (x : A) → slice_get xs i ≡ Some x → drop i xs ≡ x ∷ drop (suc i) xs
    at-suc [] zero x e = absurd cc
    at-suc [] (suc i) x e = absurd cc
    at-suc (y ∷ xs) zero x e = let same : y ≡ x = cc in ap (λ z. z ∷ xs) same
    at-suc (y ∷ xs) (suc i) x e = at-suc xs i x e

pub drop-past : {A : Type 0} (xs : List A) (i : ℕ) → slice_get xs i ≡ None → drop i xs ≡ []
drop-past [] zero e = refl
drop-past [] (suc i) e = refl
drop-past (y ∷ xs) zero e = absurd cc
drop-past (y ∷ xs) (suc i) e = drop-past xs i e

pub in-range : {A : Type 0} (xs : List A) (i : ℕ) (x : A) → slice_get xs i ≡ Some x → i < length xs
in-range [] zero x e = absurd cc
in-range [] (suc i) x e = absurd cc
in-range (y ∷ xs) zero x e = omega arith
in-range (y ∷ xs) (suc i) x e = let rest : i < length xs = in-range xs i x e in omega arith

-- ---- the Consumers are those that they were

kept-by : (o : Option Offer) (c : Sink) → (out_of (after_offer o c) ≡ out_of c) × ((after_offer o c).producer ≡ c.producer)
kept-by None c = (refl, refl)
kept-by (Some o) c = (refl, refl)

one-kept : (f : Sink → Sink) → ((c : Sink) → (out_of (f c) ≡ out_of c) × ((f c).producer ≡ c.producer)) → (b : Bool) (c : Sink)
    → (out_of (cond b (f c) c) ≡ out_of c) × ((cond b (f c) c).producer ≡ c.producer)
one-kept f keeps true c = keeps c
one-kept f keeps false c = (refl, refl)

pick-kept : (b : Bool) (x y : Id × Id) (c d : Sink) (xs ys : List Sink) → out_of c ≡ out_of d → map out_of xs ≡ map out_of ys → map out_of (cond b (c ∷ xs) xs) ≡ map out_of (cond b (d ∷ ys) ys)
pick-kept true x y c d xs ys e r = (λ j. e j ∷ r j)
pick-kept false x y c d xs ys e r = r

list-kept : (producer : Id) (t : Sink → Bool) (f : Sink → Sink) → ((c : Sink) → (out_of (f c) ≡ out_of c) × ((f c).producer ≡ c.producer)) → (cs : List Sink)
    → map out_of (filter (is_of producer) (change t f cs)) ≡ map out_of (filter (is_of producer) cs)
list-kept producer t f keeps [] = refl
list-kept producer t f keeps (c ∷ cs) =
    let here = one-kept f keeps (t c) c in
    ap (λ (p : Id). map out_of (cond (same_id p producer) (cond (t c) (f c) c ∷ filter (is_of producer) (change t f cs)) (filter (is_of producer) (change t f cs)))) here.1
    ∙ pick-kept (is_of producer c) (out_of c) (out_of c) (cond (t c) (f c) c) c (filter (is_of producer) (change t f cs)) (filter (is_of producer) cs) here.0 (list-kept producer t f keeps cs)

router-kept : (producer : Id) (m : Mapped) (packet : List ℕ) (id : Id) (r : RouterState) → map out_of (consumers_of (behind_pass r id m packet) producer) ≡ map out_of (consumers_of r producer)
router-kept producer m packet id r = list-kept producer (λ c. same_id c.id id) (λ c. after_offer (offered r c m packet) c) (λ c. kept-by (offered r c m packet) c) r.consumers

by-router : (i : Incoming) (id : Id) (w : Worker) (o : Option RouterAt) → router_of w i.router ≡ o → targets i (behind_one i id w) ≡ targets_of i.producer o
by-router i id w None e =
    ap (targets_of i.producer) (router-changed i.router (λ r. behind_pass r id i.mapped i.packet) w i.router
    ∙ ap (option_map (λ (r : RouterAt). cond (same_id r.id i.router) (record r { router = behind_pass r.router id i.mapped i.packet }) r)) e)
by-router i id w (Some r) e =
    ap (targets_of i.producer) (router-there i.router (λ s. behind_pass s id i.mapped i.packet) w r e) ∙ router-kept i.producer i.mapped i.packet id r.router

pub targets-kept : (i : Incoming) (id : Id) (w : Worker) → targets i (behind_one i id w) ≡ targets i w
targets-kept i id w = by-router i id w (router_of w i.router) refl

-- ---- what is left

cons-listed : (o : Option Outgoing) (xs : List Outgoing) → cons_option o xs ≡ listed o ++ xs
cons-listed None xs = refl
cons-listed (Some x) xs = refl

module _ (i : Incoming) (ts : List (Id × Id)) (place : ℕ) (to : Id × Id) (w : Worker) (same : targets i w ≡ ts) (is : Some to ≡ slice_get (targets i w) place) where
  here : slice_get ts place ≡ Some to
  here = ap (λ (l : List (Id × Id)). slice_get l place) (sym same) ∙ sym is

  pub left-state : behind_each i (drop (place + 1) ts) (behind_one i to.0 w) ≡ behind_each i (drop place ts) w
  unfolding behind_each
  left-state = ap (λ (l : List (Id × Id)). behind_each i l w) (sym (drop-at ts place to here))

  pub left-outs : out_each i (drop place ts) w ≡ listed (out_one i to w) ++ out_each i (drop (place + 1) ts) (behind_one i to.0 w)
  unfolding out_each
  left-outs =
      ap (λ (l : List (Id × Id)). out_each i l w) (drop-at ts place to here)
      ∙ cons-listed (out_one i to w) (out_each i (drop (place + 1) ts) (behind_one i to.0 w))

  pub next-outs : (sent whole : List Outgoing) → sent ++ out_each i (drop place ts) w ≡ whole
      → (sent ++ listed (out_one i to w)) ++ out_each i (drop (place + 1) ts) (behind_one i to.0 w) ≡ whole
  next-outs sent whole e =
      append_assoc sent (listed (out_one i to w)) (out_each i (drop (place + 1) ts) (behind_one i to.0 w))
      ∙ (ap (λ (t : List Outgoing). sent ++ t) (sym left-outs) ∙ e)

  pub stops-here : (sent whole : List Outgoing) (l m n : ℕ) (a b d : Option (List OutCall)) → sent ++ out_each i (drop place ts) w ≡ whole → Made (map call_of sent) l m a b
      → StopsAtAFault (listed (out_one i to w)) m n b d → StopsAtAFault whole l n a d
  stops-here sent whole l m n a b d e made stop =
      subst (λ (t : List Outgoing). StopsAtAFault t l n a d) (ap (λ (t : List Outgoing). sent ++ t) (sym left-outs) ∙ e)
      (stops-behind sent (listed (out_one i to w) ++ out_each i (drop (place + 1) ts) (behind_one i to.0 w)) l m n a b d made
      (stops-before (listed (out_one i to w)) (out_each i (drop (place + 1) ts) (behind_one i to.0 w)) m n b d stop))

  pub place-in : place < length (targets i w)
  place-in = in-range (targets i w) place to (sym is)

-- ---- nothing is left

module _ (i : Incoming) (ts : List (Id × Id)) (place : ℕ) (w : Worker) (same : targets i w ≡ ts) (is : None ≡ slice_get (targets i w) place) where
  none-left : drop place ts ≡ []
  none-left = drop-past ts place (ap (λ (l : List (Id × Id)). slice_get l place) (sym same) ∙ sym is)

  pub end-state : behind_each i (drop place ts) w ≡ w
  unfolding behind_each
  end-state = ap (λ (l : List (Id × Id)). behind_each i l w) none-left

  pub end-outs : (sent whole : List Outgoing) → sent ++ out_each i (drop place ts) w ≡ whole → sent ++ [] ≡ whole
  unfolding out_each
  end-outs sent whole e = ap (λ (l : List (Id × Id)). sent ++ out_each i l w) (sym none-left) ∙ e
