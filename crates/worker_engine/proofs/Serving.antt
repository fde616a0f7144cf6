-- Serving the Consumers of a Producer one by one, by their ids, is changing all of them at once.
use Rattle.std.proofs.Common.{◌≡◌, ℕ, List, [], ◌∷◌, ◌++◌, Bool, true, false, cond, map, filter, Option, Some, None, option_map, option_and_then, refl, sym, ap, subst, ◌∙◌, append_assoc}
use Rattle.std.specs.List.{find, filter_map, cons_option}
use Rattle.std.proofs.lemmas.List.{map-append}
use Rattle.ms_base.specs.declared.id.Id.{Id}
use Rattle.ms_base.specs.declared.tuple.Tuple.{Tuple}
use Rattle.rtp_extension.specs.declared.mapped.Mapped.{Mapped}
use Rattle.simple_consumer.specs.Sending.{Offer, offer}
use Rattle.pipe_consumer.specs.Streams.{passed_by}
use Rattle.worker_router.specs.State.{RouterState, Source, Sink, same_id, producer_of, consumers_of, is_of}
use Rattle.worker_router.specs.Calls.{change, offered, after_offer, passed_for, behind_pass, remote_at}
use Rattle.worker_calls.specs.declared.place.Place.{Place}
use Rattle.worker_calls.specs.State.{Worker, RouterAt, router_of, link_of, change_router}
use Rattle.worker_calls.specs.Requests.{Outgoing}
use Rattle.worker_engine.specs.Packets.{Received, offer_of, outgoing_to, emissions_at, offered_to, with_offered}
use Rattle.worker_engine.specs.Forwarding.{Incoming, incoming_of, targets, targets_of, behind_one, remote_in, outgoing_at, out_one, behind_each, out_each, Serves}
use Rattle.worker_engine.proofs.Ids.{same-is, same-refl, find-map, found-passes, find-past, change-none, change-same, Differ, before-differs, behind-differs, replaced-differs}

abbrev pub out_of : Sink → Id × Id
out_of c = (c.id, c.transport)

-- ---- in a Router

module _ (m : Mapped) (packet : List ℕ) where
  -- each of some is offered the packet
  abbrev pub pass_each : List (Id × Id) → RouterState → RouterState
  pass_each [] r = r
  pass_each (to ∷ more) r = pass_each more (behind_pass r to.0 m packet)

  -- and what they pass on goes out
  abbrev pub sent_each : (Id × Id → List ℕ → Outgoing) → List (Id × Id) → RouterState → List Outgoing
  sent_each addressed [] r = []
  sent_each addressed (to ∷ more) r =
      cons_option (option_map (addressed to) (passed_for r to.0 m packet)) (sent_each addressed more (behind_pass r to.0 m packet))

  module _ (producer : Id) (p : Source) (addressed : Id × Id → List ℕ → Outgoing) where
    abbrev pub one_offer : Offer
    one_offer = offer m p.stream.ids packet

    abbrev pub with_sinks : RouterState → List Sink → RouterState
    with_sinks r cs = record r { consumers = cs }

    module _ (r : RouterState) (is : producer_of r producer ≡ Some p) where
      -- a Consumer of the Producer is offered what the Producer gives
      offered-is : (cs : List Sink) (c : Sink) → is_of producer c ≡ true → offered (with_sinks r cs) c m packet ≡ Some one_offer
      offered-is cs c own =
          ap (λ (id : Id). option_map (λ (q : Source). offer m q.stream.ids packet) (producer_of r id)) (same-is c.producer producer own)
          ∙ ap (option_map (λ (q : Source). offer m q.stream.ids packet)) is

      -- it alone is changed
      one-changed : (pre : List Sink) (c : Sink) (suf : List Sink) → Differ (λ (x : Sink). x.id) (pre ++ c ∷ suf) → is_of producer c ≡ true
          → behind_pass (with_sinks r (pre ++ c ∷ suf)) c.id m packet ≡ with_sinks r (pre ++ offered_to one_offer c ∷ suf)
      one-changed pre c suf d own =
          let all : List Sink = pre ++ c ∷ suf in
          let f : Sink → Sink = λ x. after_offer (offered (with_sinks r all) x m packet) x in
          let t : Sink → Bool = λ x. same_id x.id c.id in
          let here : cond (t c) (f c) c ≡ offered_to one_offer c =
          ap (λ b. cond b (f c) c) (same-refl c.id) ∙ ap (λ (o : Option Offer). after_offer o c) (offered-is all c own) in
          let left : change t f pre ≡ pre = change-none t f pre (before-differs (λ (x : Sink). x.id) pre c suf d) in
          let right : change t f suf ≡ suf = change-none t f suf (behind-differs (λ (x : Sink). x.id) pre c suf d) in
          let whole : change t f all ≡ pre ++ offered_to one_offer c ∷ suf =
          map-append (λ x. cond (t x) (f x) x) pre (c ∷ suf)
          ∙ (ap (λ (xs : List Sink). xs ++ change t f (c ∷ suf)) left
          ∙ (ap (λ (x : Sink). pre ++ x ∷ change t f suf) here ∙ ap (λ (xs : List Sink). pre ++ offered_to one_offer c ∷ xs) right)) in
          ap (with_sinks r) whole

      -- it passes on what its streams do
      one-passed : (pre : List Sink) (c : Sink) (suf : List Sink) → Differ (λ (x : Sink). x.id) (pre ++ c ∷ suf) → is_of producer c ≡ true
          → passed_for (with_sinks r (pre ++ c ∷ suf)) c.id m packet ≡ passed_by c.streams one_offer
      one-passed pre c suf d own =
          let all : List Sink = pre ++ c ∷ suf in
          let there : find (λ (x : Sink). same_id x.id c.id) all ≡ Some c =
          find-past (λ (x : Sink). same_id x.id c.id) pre (c ∷ suf) (before-differs (λ (x : Sink). x.id) pre c suf d)
          ∙ ap (λ b. cond b (Some c) (find (λ (x : Sink). same_id x.id c.id) suf)) (same-refl c.id) in
          ap (option_and_then (λ (x : Sink). option_and_then (passed_by x.streams) (offered (with_sinks r all) x m packet))) there
          ∙ ap (option_and_then (passed_by c.streams)) (offered-is all c own)

      abbrev pub emission : Sink → Option Outgoing
      emission c = option_map (addressed (out_of c)) (passed_by c.streams one_offer)

      pub record IsServed (pre suf : List Sink) : Type 0 where
        pub state : pass_each (map out_of (filter (is_of producer) suf)) (with_sinks r (pre ++ suf)) ≡ with_sinks r (pre ++ change (is_of producer) (offered_to one_offer) suf)
        pub outs : sent_each addressed (map out_of (filter (is_of producer) suf)) (with_sinks r (pre ++ suf)) ≡ filter_map emission (filter (is_of producer) suf)

      served-by : (b : Bool) (pre : List Sink) (c : Sink) (suf : List Sink) → is_of producer c ≡ b → Differ (λ (x : Sink). x.id) (pre ++ c ∷ suf)
          → IsServed (pre ++ cond b (offered_to one_offer c) c ∷ []) suf
          → (pass_each (map out_of (cond b (c ∷ filter (is_of producer) suf) (filter (is_of producer) suf))) (with_sinks r (pre ++ c ∷ suf))
          ≡ with_sinks r (pre ++ cond b (offered_to one_offer c) c ∷ change (is_of producer) (offered_to one_offer) suf))
          × (sent_each addressed (map out_of (cond b (c ∷ filter (is_of producer) suf) (filter (is_of producer) suf))) (with_sinks r (pre ++ c ∷ suf))
          ≡ filter_map emission (cond b (c ∷ filter (is_of producer) suf) (filter (is_of producer) suf)))
      served-by true pre c suf own d rest =
          let behind : behind_pass (with_sinks r (pre ++ c ∷ suf)) c.id m packet ≡ with_sinks r ((pre ++ offered_to one_offer c ∷ []) ++ suf) =
          one-changed pre c suf d own ∙ ap (with_sinks r) (sym (append_assoc pre (offered_to one_offer c ∷ []) suf)) in (
            ap (pass_each (map out_of (filter (is_of producer) suf))) behind
                ∙ (rest.state ∙ ap (with_sinks r) (append_assoc pre (offered_to one_offer c ∷ []) (change (is_of producer) (offered_to one_offer) suf))),
            ap (λ (o : Option (List ℕ)). cons_option (option_map (addressed (out_of c)) o)
                (sent_each addressed (map out_of (filter (is_of producer) suf)) (behind_pass (with_sinks r (pre ++ c ∷ suf)) c.id m packet))) (one-passed pre c suf d own)
                ∙ ap (cons_option (emission c)) (ap (sent_each addressed (map out_of (filter (is_of producer) suf))) behind ∙ rest.outs),
          )
      served-by false pre c suf own d rest = (
        ap (λ (xs : List Sink). pass_each (map out_of (filter (is_of producer) suf)) (with_sinks r xs)) (sym (append_assoc pre (c ∷ []) suf))
            ∙ (rest.state ∙ ap (with_sinks r) (append_assoc pre (c ∷ []) (change (is_of producer) (offered_to one_offer) suf))),
        ap (λ (xs : List Sink). sent_each addressed (map out_of (filter (is_of producer) suf)) (with_sinks r xs)) (sym (append_assoc pre (c ∷ []) suf)) ∙ rest.outs,
      )

      next-differs : (b : Bool) (pre : List Sink) (c : Sink) (suf : List Sink) → Differ (λ (x : Sink). x.id) (pre ++ c ∷ suf)
          → Differ (λ (x : Sink). x.id) ((pre ++ cond b (offered_to one_offer c) c ∷ []) ++ suf)
      next-differs true pre c suf d =
          subst (Differ (λ (x : Sink). x.id)) (sym (append_assoc pre (offered_to one_offer c ∷ []) suf))
          (replaced-differs (λ (x : Sink). x.id) pre c (offered_to one_offer c) suf refl d)
      next-differs false pre c suf d = subst (Differ (λ (x : Sink). x.id)) (sym (append_assoc pre (c ∷ []) suf)) d

      pub each-served : (suf pre : List Sink) → Differ (λ (x : Sink). x.id) (pre ++ suf) → IsServed pre suf
      each-served [] pre d = record { state = refl; outs = refl }
      each-served (c ∷ suf) pre d =
          let b : Bool = is_of producer c in
          let step = served-by b pre c suf refl d (each-served suf (pre ++ cond b (offered_to one_offer c) c ∷ []) (next-differs b pre c suf d)) in
          record { state = step.0; outs = step.1 }

-- ---- in a worker

abbrev changed : Id → (RouterState → RouterState) → RouterAt → RouterAt
changed k f r = cond (same_id r.id k) (record r { router = f r.router }) r

keeps-id : (b : Bool) (x y : RouterAt) (k : Id) → y.id ≡ x.id → same_id (cond b y x).id k ≡ same_id x.id k
keeps-id true x y k e = ap (λ (i : Id). same_id i k) e
keeps-id false x y k e = refl

-- the Router of an id behind a change
pub router-changed : (k : Id) (f : RouterState → RouterState) (w : Worker) (id : Id) → router_of (change_router k f w) id ≡ option_map (changed k f) (router_of w id)
router-changed k f w id = find-map (λ (r : RouterAt). same_id r.id id) (changed k f) (λ r. keeps-id (same_id r.id k) r (record r { router = f r.router }) id refl) w.routers

pub router-there : (k : Id) (f : RouterState → RouterState) (w : Worker) (r : RouterAt) → router_of w k ≡ Some r → router_of (change_router k f w) k ≡ Some (record r { router = f r.router })
router-there k f w r is =
    router-changed k f w k
    ∙ (ap (option_map (changed k f)) is
    ∙ ap (λ b. Some (cond b (record r { router = f r.router }) r)) (found-passes (λ (x : RouterAt). same_id x.id k) w.routers r is))

-- the other ends are those that they were
remote-by : (t : Id) (b : Bool) (x y : RouterAt) → remote_at y.router t ≡ remote_at x.router t → remote_at (cond b y x).router t ≡ remote_at x.router t
remote-by t true x y e = e
remote-by t false x y e = refl

remote-of : (t : Id) (g : RouterAt → RouterAt) → ((r : RouterAt) → remote_at (g r).router t ≡ remote_at r.router t) → (o : Option RouterAt)
    → option_and_then (λ (r : RouterAt). remote_at r.router t) (option_map g o) ≡ option_and_then (λ (r : RouterAt). remote_at r.router t) o
remote-of t g keeps None = refl
remote-of t g keeps (Some r) = keeps r

pub remote-kept : (k : Id) (f : RouterState → RouterState) → ((r : RouterState) (t : Id) → remote_at (f r) t ≡ remote_at r t) → (w : Worker) (at : Place)
    → remote_in (change_router k f w) at ≡ remote_in w at
remote-kept k f keeps w at =
    ap (option_and_then (λ (r : RouterAt). remote_at r.router at.transport)) (router-changed k f w at.router)
    ∙ remote-of at.transport (changed k f) (λ r. remote-by at.transport (same_id r.id k) r (record r { router = f r.router }) (keeps r.router at.transport)) (router_of w at.router)

twice : (k : Id) (f g : RouterState → RouterState) (b : Bool) (x : RouterAt) → same_id x.id k ≡ b
    → changed k f (cond b (record x { router = g x.router }) x) ≡ cond b (record x { router = f (g x.router) }) x
twice k f g true x is = ap (λ c. cond c (record x { router = f (g x.router) }) (record x { router = g x.router })) is
twice k f g false x is = ap (λ c. cond c (record x { router = f x.router }) x) is

all-twice : (k : Id) (f g : RouterState → RouterState) (rs : List RouterAt) → map (changed k f) (map (changed k g) rs) ≡ map (changed k (λ r. f (g r))) rs
all-twice k f g [] = refl
all-twice k f g (x ∷ xs) =
    let here : changed k f (changed k g x) ≡ changed k (λ r. f (g r)) x = twice k f g (same_id x.id k) x refl in
    let left : map (changed k f) (map (changed k g) xs) ≡ map (changed k (λ r. f (g r))) xs = all-twice k f g xs in
    (λ j. here j ∷ left j)

same-kept : (b : Bool) (x : RouterAt) → cond b x x ≡ x
same-kept true x = refl
same-kept false x = refl

all-kept : (k : Id) (rs : List RouterAt) → map (changed k (λ r. r)) rs ≡ rs
all-kept k [] = refl
all-kept k (x ∷ xs) =
    let here : changed k (λ r. r) x ≡ x = same-kept (same_id x.id k) x in
    let left : map (changed k (λ r. r)) xs ≡ xs = all-kept k xs in
    (λ j. here j ∷ left j)

abbrev with_routers : Worker → List RouterAt → Worker
with_routers w rs = record w { routers = rs }

module _ (i : Incoming) where
  -- each of some is served: their Router is changed
  each-change : (more : List (Id × Id)) (w : Worker) → behind_each i more w ≡ change_router i.router (pass_each i.mapped i.packet more) w
  unfolding behind_each
  each-change [] w = ap (with_routers w) (sym (all-kept i.router w.routers))
  each-change (to ∷ more) w =
      each-change more (behind_one i to.0 w)
      ∙ ap (with_routers w) (all-twice i.router (pass_each i.mapped i.packet more) (λ r. behind_pass r to.0 i.mapped i.packet) w.routers)

  option-same : {A B : Type 0} (f g : A → B) → ((x : A) → f x ≡ g x) → (o : Option A) → option_map f o ≡ option_map g o
  option-same f g each None = refl
  option-same f g each (Some x) = ap Some (each x)

  -- and what goes out is addressed as it was
  each-sent : (addressed : Id × Id → List ℕ → Outgoing) (more : List (Id × Id)) (w : Worker) (r : RouterAt) → router_of w i.router ≡ Some r
      → ((to : Id × Id) (packet : List ℕ) → outgoing_at w (record { router = i.router; transport = to.1 }) to.0 packet ≡ addressed to packet)
      → out_each i more w ≡ sent_each i.mapped i.packet addressed more r.router
  unfolding out_each
  each-sent addressed [] w r is goes = refl
  each-sent addressed (to ∷ more) w r is goes =
      let f : RouterState → RouterState = λ s. behind_pass s to.0 i.mapped i.packet in
      let here : out_one i to w ≡ option_map (addressed to) (passed_for r.router to.0 i.mapped i.packet) =
      ap (λ (o : Option RouterAt). option_map (outgoing_at w (record { router = i.router; transport = to.1 }) to.0) (option_and_then (λ (s : RouterAt). passed_for s.router to.0 i.mapped i.packet) o)) is
      ∙ option-same (outgoing_at w (record { router = i.router; transport = to.1 }) to.0) (addressed to) (goes to) (passed_for r.router to.0 i.mapped i.packet) in
      let goes-on : (other : Id × Id) (packet : List ℕ) → outgoing_at (behind_one i to.0 w) (record { router = i.router; transport = other.1 }) other.0 packet ≡ addressed other packet =
      λ other packet.
      ap (λ (o : Option Tuple). outgoing_to (option_map (λ l. l.link) (link_of w (record { router = i.router; transport = other.1 }))) o other.0 packet)
      (remote-kept i.router f (λ s t. refl) w (record { router = i.router; transport = other.1 }))
      ∙ goes other packet in
      ap (λ (o : Option Outgoing). cons_option o (out_each i more (behind_one i to.0 w))) here
      ∙ ap (cons_option (option_map (addressed to) (passed_for r.router to.0 i.mapped i.packet)))
      (each-sent addressed more (behind_one i to.0 w) (record r { router = f r.router }) (router-there i.router f w r is) goes-on)

-- a packet that is received is served
pub received-serves : (w : Worker) (got : Received) (r : RouterAt) → Differ (λ (x : RouterAt). x.id) w.routers → Differ (λ (c : Sink). c.id) r.router.consumers
    → router_of w got.router ≡ Some r → producer_of r.router got.producer.id ≡ Some got.producer → Serves w (Some got) (Some (incoming_of got))
received-serves w got r apart different is there =
    let i : Incoming = incoming_of got in
    let id : Id = got.producer.id in
    let o : Offer = offer_of got in
    let k : Id = got.router in
    let same : r.id ≡ k = same-is r.id k (found-passes (λ (x : RouterAt). same_id x.id k) w.routers r is) in
    let addressed : Id × Id → List ℕ → Outgoing =
    λ to packet. outgoing_to (option_map (λ l. l.link) (link_of w (record { router = r.id; transport = to.1 }))) (remote_at r.router to.1) to.0 packet in
    let goes : (to : Id × Id) (packet : List ℕ) → outgoing_at w (record { router = k; transport = to.1 }) to.0 packet ≡ addressed to packet =
    λ to packet.
    ap (λ (s : Option RouterAt). outgoing_to (option_map (λ l. l.link) (link_of w (record { router = k; transport = to.1 })))
    (option_and_then (λ (x : RouterAt). remote_at x.router to.1) s) to.0 packet) is
    ∙ ap (λ (j : Id). outgoing_to (option_map (λ l. l.link) (link_of w (record { router = j; transport = to.1 }))) (remote_at r.router to.1) to.0 packet) (sym same) in
    let served = each-served got.mapped got.packet id got.producer addressed r.router there r.router.consumers [] different in
    let all : List (Id × Id) = map out_of (consumers_of r.router id) in
    let are : targets i w ≡ all = ap (targets_of id) is in
    record {
      state =
          ap (λ (ts : List (Id × Id)). behind_each i ts w) are
          ∙ (each-change i all w
          ∙ ap (with_routers w) (change-same (λ (x : RouterAt). x.id) (λ x. record x { router = pass_each got.mapped got.packet all x.router }) (λ x. record x { router = with_offered id o x.router })
          k w.routers r apart is (ap (λ (s : RouterState). record r { router = s }) served.state)));
      outs =
          ap (λ (ts : List (Id × Id)). out_each i ts w) are
          ∙ (each-sent i addressed all w r is goes
          ∙ (served.outs ∙ ap (emissions_at w got) (sym is)));
    }
