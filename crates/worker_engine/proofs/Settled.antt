-- The Routers of a worker behind what an event makes of it, before a packet is passed on.
use Rattle.std.proofs.Common.{◌≡◌, ℕ, List, [], ◌∷◌, ◌++◌, ◌&&◌, ◌||◌, Bool, true, false, cond, not, map, filter, Option, Some, None, is_some, option_map, option_and_then, refl, sym, ap, subst, ◌∙◌, Result, Ok, Err}
use Rattle.std.specs.Bool.{⊤}
use Rattle.std.specs.List.{find}
use Rattle.ms_base.specs.declared.id.Id.{Id}
use Rattle.ms_base.specs.declared.tuple.Tuple.{Tuple}
use Rattle.channel_msgs.specs.Packet.{packet_in}
use Rattle.channel_msgs.specs.Read.{request_of}
use Rattle.channel_msgs.specs.View.{RequestView}
use Rattle.rtp_extension.specs.declared.mapped.Flags.{Flags}
use Rattle.rtp_packet.specs.Packet.{Fields}
use Rattle.worker_requests.specs.declared.asked.Asked.{Asked}
use Rattle.worker_requests.specs.declared.asked.Asked.TheVariants as asked
use Rattle.worker_requests.specs.declared.asked.ConsumerIds.{ConsumerIds}
use Rattle.worker_requests.specs.declared.asked.ProducerIds.{ProducerIds}
use Rattle.worker_requests.specs.declared.asked.TransportIds.{TransportIds}
use Rattle.worker_requests.specs.declared.content.ConsumeContent.{ConsumeContent}
use Rattle.worker_requests.specs.declared.refusal.Refusal.{Refusal}
use Rattle.worker_requests.specs.declared.refusal.Refusal.TheVariants as refusal
use Rattle.worker_requests.specs.Methods.{asked_of}
use Rattle.worker_requests.specs.Contents.{connect_content, consume_content}
use Rattle.worker_requests.specs.declared.accepted.Accepted.TheVariants.{Remote}
use Rattle.worker_requests.specs.Refusals.{or_refused, refused_where, ◌>>=◌}
use Rattle.worker_router.specs.State.{TransportAt, RouterState, Source, Sink, same_id, nothing_yet, consumer_of, producer_of, transport_of, is_of, goes_over, is_connected}
use Rattle.worker_router.specs.Calls.{with_transport, with_producer, connected_to, is_to_be_told, told as told_to, with_connected, change_transport, heard_from, is_learnt, accept_at, behind_accept, first_flags, first_flags_at, comes_by, with_producer_paused, with_consumer_paused, without_transport, without_producer, without_consumer}
use Rattle.worker_router.specs.declared.transport.Transport.{Transport}
use Rattle.worker_calls.specs.State.{LinkAt, router_of, place_of, RouterAt, Waiting, Worker, change_router}
use Rattle.worker_calls.specs.Requests.{Performed, telling, standing_router, standing_transport, standing_producer, new_sink, with_any_sink, with_new_consumer, create_router, close_router, create_plain, create_pipe, create_direct, close_transport, connect, produce, close_producer, pause_producer, consume, close_consumer, pause_consumer, performed, comes_to, after_performed, after_bound_of}
use Rattle.worker_engine.specs.Packets.{parsed}
use Rattle.worker_engine.specs.Run.{Event, payload, datagram, bound, after_request_if}
use Rattle.worker_engine.specs.Emits.{ConsumerKey, request_by, request_at, settled, settled_parsed, settled_payload}
use Rattle.worker_engine.proofs.Ids.{same-is, find-map, found-passes}
use Rattle.worker_engine.proofs.Flagged.{AreFlagged, flagged-transport, flagged-producer, flagged-connected, flagged-producer-paused, flagged-consumer-paused, flagged-without-consumer, flagged-without-producer, flagged-without-transport, flagged-new, told-connects, heard-connects, begin-flags}
use Rattle.worker_engine.proofs.Sinks.{AreSound, Follows, IsSet, sink_in, find-filter, found-first, none-past, none-sound, new-tuned, follows-same, follows-set, follows-kept, follows-new}

-- ---- look-ups

abbrev pub router_in : List RouterAt → Id → Option RouterAt
router_in rs id = find (λ (r : RouterAt). same_id r.id id) rs

abbrev pub sink_by : Option RouterAt → Id → Option Sink
sink_by o id = option_and_then (λ (r : RouterAt). consumer_of r.router id) o

-- what holds of each Router: ids and flags are as they should be
pub record IsSound (r : RouterState) : Type 0 where
  pub sinks : AreSound r.consumers
  pub flagged : AreFlagged r.transports r.producers r.consumers

-- a Router behind a change, where `New` holds of each new Consumer
pub record Behind (New : Id → Sink → Type 0) (r s : RouterState) : Type 0 where
  pub sinks : Follows New r.consumers s.consumers
  pub flagged : AreFlagged s.transports s.producers s.consumers

same-behind : (New : Id → Sink → Type 0) (r : RouterState) → IsSound r → Behind New r r
same-behind New r s = record { sinks = follows-same New r.consumers s.sinks; flagged = s.flagged }

-- each Router that is found is sound
abbrev pub AllSound : List RouterAt → Type 0
AllSound rs = (id : Id) (r : RouterAt) → router_in rs id ≡ Some r → IsSound r.router

abbrev pub with_state : RouterAt → RouterState → RouterAt
with_state r s = record r { router = s }

some-router : (r s : RouterAt) → Some r ≡ Some s → r ≡ s
some-router r s e = cc

-- the Router of an id is changed
module _ (k : Id) (f : RouterState → RouterState) where
  abbrev pub changed : RouterAt → RouterAt
  changed r = cond (same_id r.id k) (with_state r (f r.router)) r

  changed-id : (r : RouterAt) (b : Bool) → (cond b (with_state r (f r.router)) r).id ≡ r.id
  changed-id r true = refl
  changed-id r false = refl

  pub find-changed : (rs : List RouterAt) (id : Id) → router_in (map changed rs) id ≡ option_map changed (router_in rs id)
  find-changed rs id = find-map (λ (r : RouterAt). same_id r.id id) changed (λ r. ap (λ (i : Id). same_id i id) (changed-id r (same_id r.id k))) rs

-- ---- what a test has shown

or-is : {A : Type 0} (why : Refusal) (o : Option A) (x : A) → or_refused why o ≡ Ok x → o ≡ Some x
or-is why None x e = cc
or-is why (Some y) x e = cc

refused-is : (b : Bool) (why : Refusal) (c : Bool) → refused_where b why ≡ Ok c → b ≡ false
refused-is true why c e = cc
refused-is false why c e = refl

-- what went on through a further test is what went into it
tested-by : {A B : Type 0} (x y : A) (t : Result B Refusal) → (t >>= λ _. Ok x) ≡ Ok y → x ≡ y
tested-by x y (Ok b) e = cc
tested-by x y (Err why) e = cc

tested-is : {A B : Type 0} (x : Result A Refusal) (t : A → Result B Refusal) (y : A) → (x >>= λ a. t a >>= λ _. Ok a) ≡ Ok y → x ≡ Ok y
tested-is (Ok a) t y e = ap Ok (tested-by a y (t a) e)
tested-is (Err why) t y e = cc

standing-is : (w : Worker) (ids : ProducerIds) (r : RouterAt) → standing_producer w ids ≡ Ok r → router_of w ids.router ≡ Some r
standing-is w ids r e =
    or-is refusal.Missing (router_of w ids.router) r
    (tested-is (standing_router w ids.router) (λ r. or_refused refusal.Missing (transport_of r.router ids.transport)) r
    (tested-is (standing_transport w (record { router = ids.router; transport = ids.transport })) (λ r. or_refused refusal.Missing (producer_of r.router ids.producer)) r e))

not-false : (b : Bool) → not b ≡ false → b ≡ true
not-false true e = refl
not-false false e = cc

is-none : {A : Type 0} (o : Option A) → is_some o ≡ false → o ≡ None
is-none None e = refl
is-none (Some x) e = cc

-- the flags that a Consumer begins with have its pause
first-by : (paused : Bool) (t : TransportAt) (p : Option Source) (flags : Flags) → option_map (λ x. first_flags t x paused) p ≡ Some flags → flags.paused ≡ paused
first-by paused t None flags e = cc
first-by paused t (Some p) flags e = (let same : first_flags t p paused ≡ flags = cc in ap (λ (f : Flags). f.paused) (sym same))

first-paused : (paused : Bool) (t : Option TransportAt) (p : Option Source) (flags : Flags)
    → option_and_then (λ at. option_map (λ x. first_flags at x paused) p) t ≡ Some flags → flags.paused ≡ paused
first-paused paused None p flags e = cc
first-paused paused (Some t) p flags e = first-by paused t p flags e

-- ---- where something holds of each new Consumer

module _ (New : ConsumerKey → Sink → Type 0) where
  -- of those in a Router
  abbrev pub NewIn : Id → Id → Sink → Type 0
  NewIn router id d = New (record { router = router; consumer = id }) d

  -- one that is made by these ids and this content
  abbrev pub Makes : ConsumerIds → ConsumeContent → Type 0
  Makes ids c = (flags : Flags) → flags.paused ≡ c.paused → New (record { router = ids.router; consumer = ids.consumer }) (new_sink ids c flags)

  -- one that is made by a request
  abbrev pub MakesBy : RequestView → Type 0
  MakesBy r = (ids : ConsumerIds) → asked_of r ≡ Ok (asked.Consume ids) → (c : ConsumeContent) → consume_content r.content ≡ Some c → Makes ids c

  -- what happened to Consumers that stay
  pub record Steps (rs ss : List RouterAt) : Type 0 where
    pub sound : AllSound ss
    pub begins : (key : ConsumerKey) (d : Sink) → sink_by (router_in rs key.router) key.consumer ≡ None → sink_by (router_in ss key.router) key.consumer ≡ Some d → New key d
    pub goes : (key : ConsumerKey) (c d : Sink) → sink_by (router_in rs key.router) key.consumer ≡ Some c → sink_by (router_in ss key.router) key.consumer ≡ Some d → IsSet c d

  -- a Router comes of the one that was there
  abbrev From : Id → Option RouterAt → RouterAt → Type 0
  From k None s = s.router.consumers ≡ []
  From k (Some r) s = Behind (NewIn k) r.router s.router

  from-sound : (k : Id) (o : Option RouterAt) (s : RouterAt) → From k o s → IsSound s.router
  from-sound k None s f = record { sinks = subst AreSound (sym f) none-sound; flagged = subst (AreFlagged s.router.transports s.router.producers) (sym f) tt }
  from-sound k (Some r) s f = record { sinks = f.sinks.sound; flagged = f.flagged }

  goes-at : (k id : Id) (o p : Option RouterAt) → ((s : RouterAt) → p ≡ Some s → From k o s) → (c d : Sink) → sink_by o id ≡ Some c → sink_by p id ≡ Some d → IsSet c d
  goes-at k id None p h c d e g = cc
  goes-at k id (Some r) None h c d e g = cc
  goes-at k id (Some r) (Some s) h c d e g = (h s refl).sinks.goes id c d e g

  begins-at : (k id : Id) (o p : Option RouterAt) → ((s : RouterAt) → p ≡ Some s → From k o s) → (d : Sink) → sink_by o id ≡ None → sink_by p id ≡ Some d → NewIn k id d
  begins-at k id None None h d e g = cc
  begins-at k id None (Some s) h d e g = (let no : None ≡ Some d = sym (ap (λ (cs : List Sink). sink_in cs id) (h s refl)) ∙ g in cc)
  begins-at k id (Some r) None h d e g = cc
  begins-at k id (Some r) (Some s) h d e g = (h s refl).sinks.begins id d e g

  steps-by : (rs ss : List RouterAt) → ((id : Id) (s : RouterAt) → router_in ss id ≡ Some s → From id (router_in rs id) s) → Steps rs ss
  steps-by rs ss h = record {
    sound = λ id s e. from-sound id (router_in rs id) s (h id s e);
    begins = λ key d e g. begins-at key.router key.consumer (router_in rs key.router) (router_in ss key.router) (h key.router) d e g;
    goes = λ key c d e g. goes-at key.router key.consumer (router_in rs key.router) (router_in ss key.router) (h key.router) c d e g;
  }

  -- ---- elementary changes

  module _ (rs : List RouterAt) (sound : AllSound rs) where
    stays-from : (id : Id) (o : Option RouterAt) → router_in rs id ≡ o → (s : RouterAt) → o ≡ Some s → From id o s
    stays-from id None e s g = cc
    stays-from id (Some r) e s g =
        subst (λ (x : RouterAt). Behind (NewIn id) r.router x.router) (some-router r s g) (same-behind (NewIn id) r.router (sound id r e))

    pub steps-same : Steps rs rs
    steps-same = steps-by rs rs (λ id s e. stays-from id (router_in rs id) refl s e)

    -- the Router of an id is changed
    module _ (k : Id) (f : RouterState → RouterState) (h : (r : RouterAt) → router_in rs k ≡ Some r → IsSound r.router → Behind (NewIn k) r.router (f r.router)) where
      changed-by : (id : Id) (r : RouterAt) → router_in rs id ≡ Some r → (b : Bool) → same_id r.id k ≡ b → Behind (NewIn id) r.router (cond b (with_state r (f r.router)) r).router
      changed-by id r e true t =
          let own : r.id ≡ id = same-is r.id id (found-passes (λ (x : RouterAt). same_id x.id id) rs r e) in
          let same : id ≡ k = sym own ∙ same-is r.id k t in
          subst (λ (i : Id). Behind (NewIn i) r.router (f r.router)) (sym same)
          (h r (subst (λ (i : Id). router_in rs i ≡ Some r) same e) (sound id r e))
      changed-by id r e false t = same-behind (NewIn id) r.router (sound id r e)

      changed-from : (id : Id) (o : Option RouterAt) → router_in rs id ≡ o → (s : RouterAt) → option_map (changed k f) o ≡ Some s → From id o s
      changed-from id None e s g = cc
      changed-from id (Some r) e s g =
          subst (λ (x : RouterAt). Behind (NewIn id) r.router x.router) (some-router (changed k f r) s g) (changed-by id r e (same_id r.id k) refl)

      pub steps-change : Steps rs (map (changed k f) rs)
      steps-change = steps-by rs (map (changed k f) rs) (λ id s e. changed-from id (router_in rs id) refl s (sym (find-changed k f rs id) ∙ e))

    -- the Router of an id goes
    kept-test : (k : Id) (x : RouterAt) (a b : Bool) → not a && b ≡ true → b ≡ true
    kept-test k x true b e = cc
    kept-test k x false b e = e

    module _ (k : Id) where
      abbrev left : List RouterAt
      left = filter (λ (r : RouterAt). not (same_id r.id k)) rs

      none-by : (id : Id) (a : Bool) (r : RouterAt) (o : Option RouterAt) → same_id r.id id ≡ a → same_id id k ≡ true → o ≡ None → cond (not (same_id r.id k) && a) (Some r) o ≡ None
      none-by id true r o e t more =
          let own : r.id ≡ id = same-is r.id id e in
          ap (λ b. cond (not b && true) (Some r) o) (ap (λ (i : Id). same_id i k) own ∙ t) ∙ more
      none-by id false r o e t more = off (not (same_id r.id k))
        where
          off : (b : Bool) → cond (b && false) (Some r) o ≡ None
          off true = more
          off false = more

      none-left : (id : Id) → same_id id k ≡ true → (xs : List RouterAt) → find (λ (r : RouterAt). not (same_id r.id k) && same_id r.id id) xs ≡ None
      none-left id t [] = refl
      none-left id t (r ∷ xs) = none-by id (same_id r.id id) r (find (λ (x : RouterAt). not (same_id x.id k) && same_id x.id id) xs) refl t (none-left id t xs)

      all-by : (id : Id) (a : Bool) (r : RouterAt) (o p : Option RouterAt) → same_id r.id id ≡ a → same_id id k ≡ false → o ≡ p → cond (not (same_id r.id k) && a) (Some r) o ≡ cond a (Some r) p
      all-by id true r o p e t more =
          let own : r.id ≡ id = same-is r.id id e in
          ap (λ b. cond (not b && true) (Some r) o) (ap (λ (i : Id). same_id i k) own ∙ t)
      all-by id false r o p e t more = off (not (same_id r.id k))
        where
          off : (b : Bool) → cond (b && false) (Some r) o ≡ p
          off true = more
          off false = more

      all-left : (id : Id) → same_id id k ≡ false → (xs : List RouterAt) → find (λ (r : RouterAt). not (same_id r.id k) && same_id r.id id) xs ≡ router_in xs id
      all-left id t [] = refl
      all-left id t (r ∷ xs) =
          all-by id (same_id r.id id) r (find (λ (x : RouterAt). not (same_id x.id k) && same_id x.id id) xs) (router_in xs id) refl t (all-left id t xs)

      left-by : (id : Id) (b : Bool) → same_id id k ≡ b → (s : RouterAt) → router_in left id ≡ Some s → router_in rs id ≡ Some s
      left-by id true t s e = (let no : None ≡ Some s = sym (find-filter (λ (r : RouterAt). same_id r.id id) (λ (r : RouterAt). not (same_id r.id k)) rs ∙ none-left id t rs) ∙ e in cc)
      left-by id false t s e = sym (find-filter (λ (r : RouterAt). same_id r.id id) (λ (r : RouterAt). not (same_id r.id k)) rs ∙ all-left id t rs) ∙ e

      pub steps-without : Steps rs left
      steps-without = steps-by rs left (λ id s e. stays-from id (router_in rs id) refl s (left-by id (same_id id k) refl s e))

    -- a Router with nothing in it is new
    module _ (k : Id) where
      abbrev fresh : RouterAt
      fresh = record { id = k; router = nothing_yet }

      fresh-by : (b : Bool) (s : RouterAt) → cond b (Some fresh) None ≡ Some s → s.router.consumers ≡ []
      fresh-by true s e = subst (λ (x : RouterAt). x.router.consumers ≡ []) (some-router fresh s e) refl
      fresh-by false s e = cc

      new-from : (id : Id) (o : Option RouterAt) → router_in rs id ≡ o → (s : RouterAt) → router_in (rs ++ fresh ∷ []) id ≡ Some s → From id o s
      new-from id None e s g = fresh-by (same_id k id) s (sym (none-past (λ (r : RouterAt). same_id r.id id) rs (fresh ∷ []) e) ∙ g)
      new-from id (Some r) e s g =
          stays-from id (Some r) e s (sym (found-first (λ (x : RouterAt). same_id x.id id) rs (fresh ∷ []) r e) ∙ g)

      pub steps-new : Steps rs (rs ++ fresh ∷ [])
      steps-new = steps-by rs (rs ++ fresh ∷ []) (λ id s e. new-from id (router_in rs id) refl s e)

  -- ---- requests

  abbrev Goes : Worker → Result Performed Refusal → Type 0
  Goes w (Ok p) = Steps w.routers p.worker.routers
  Goes w (Err why) = ⊤

  after-goes : (w : Worker) → AllSound w.routers → (outcome : Result Performed Refusal) → Goes w outcome → Steps w.routers (after_performed w outcome).routers
  after-goes w sound (Ok p) g = g
  after-goes w sound (Err why) g = steps-same w.routers sound

  goes-behind : (A : Type 0) (w : Worker) (x : Result A Refusal) (f : A → Result Performed Refusal) → ((a : A) → x ≡ Ok a → Goes w (f a)) → Goes w (x >>= f)
  goes-behind A w (Ok a) f h = h a refl
  goes-behind A w (Err why) f h = tt

  module _ (w : Worker) (sound : AllSound w.routers) where
    -- one Router is changed
    step-transport : (k id : Id) (t : Transport) → Steps w.routers (change_router k (λ s. with_transport s id t) w).routers
    step-transport k id t =
        steps-change w.routers sound k (λ s. with_transport s id t)
        (λ r _ s. record { sinks = follows-same (NewIn k) r.router.consumers s.sinks; flagged = flagged-transport r.router.transports r.router.producers r.router.consumers s.flagged (record { id = id; transport = t }) })

    told-by : (id : Id) (to : Tuple) (r : RouterState) (t : TransportAt) → transport_of r id ≡ Some t → is_to_be_told t.transport ≡ true
        → (x : TransportAt) → transport_of r id ≡ Some x → is_connected (told_to to x.transport) ≡ true
    told-by id to r t e told x f =
        let same : t ≡ x = cc in
        subst (λ (y : TransportAt). is_connected (told_to to y.transport) ≡ true) same (told-connects t.transport to told)

    step-connected : (k id : Id) (to : Tuple) (r : RouterAt) (t : TransportAt) (b : Bool) → standing_router w k ≡ Ok r → or_refused refusal.Missing (transport_of r.router id) ≡ Ok t
        → refused_where (not (is_to_be_told t.transport)) refusal.State ≡ Ok b → Steps w.routers (change_router k (λ s. connected_to s id to) w).routers
    step-connected k id to r t b e f g =
        steps-change w.routers sound k (λ s. connected_to s id to)
        (λ x h s.
        let same : r ≡ x = some-router r x (sym (or-is refusal.Missing (router_of w k) r e) ∙ h) in
        record {
          sinks = follows-set (NewIn k) x.router.consumers s.sinks (goes_over id) (λ c. record c.flags { connected = true });
          flagged =
              flagged-connected x.router.transports x.router.producers x.router.consumers s.flagged id (told_to to)
              (told-by id to x.router t (ap (λ (y : RouterAt). transport_of y.router id) (sym same) ∙ or-is refusal.Missing (transport_of r.router id) t f)
              (not-false (is_to_be_told t.transport) (refused-is (not (is_to_be_told t.transport)) refusal.State b g)));
        })

    step-producer : (k : Id) (p : Source) → Steps w.routers (change_router k (λ s. with_producer s p) w).routers
    step-producer k p =
        steps-change w.routers sound k (λ s. with_producer s p)
        (λ r _ s. record { sinks = follows-same (NewIn k) r.router.consumers s.sinks; flagged = flagged-producer r.router.transports r.router.producers r.router.consumers s.flagged p })

    step-producer-paused : (k id : Id) (paused : Bool) → Steps w.routers (change_router k (λ s. with_producer_paused s id paused) w).routers
    step-producer-paused k id paused =
        steps-change w.routers sound k (λ s. with_producer_paused s id paused)
        (λ r _ s. record { sinks = follows-set (NewIn k) r.router.consumers s.sinks (is_of id) (λ c. record c.flags { producer_paused = paused }); flagged = flagged-producer-paused r.router.transports r.router.producers r.router.consumers s.flagged id paused })

    step-consumer-paused : (k id : Id) (paused : Bool) → Steps w.routers (change_router k (λ s. with_consumer_paused s id paused) w).routers
    step-consumer-paused k id paused =
        steps-change w.routers sound k (λ s. with_consumer_paused s id paused)
        (λ r _ s. record { sinks = follows-set (NewIn k) r.router.consumers s.sinks (λ c. same_id c.id id) (λ c. record c.flags { paused = paused }); flagged = flagged-consumer-paused r.router.transports r.router.producers r.router.consumers s.flagged id paused })

    step-without-transport : (k id : Id) → Steps w.routers (change_router k (λ s. without_transport s id) w).routers
    step-without-transport k id =
        steps-change w.routers sound k (λ s. without_transport s id)
        (λ r _ s. record { sinks = follows-kept (NewIn k) r.router.consumers s.sinks (λ c. not (goes_over id c || comes_by r.router id c)); flagged = flagged-without-transport r.router.transports r.router.producers r.router.consumers s.flagged id })

    step-without-producer : (k id : Id) → Steps w.routers (change_router k (λ s. without_producer s id) w).routers
    step-without-producer k id =
        steps-change w.routers sound k (λ s. without_producer s id)
        (λ r _ s. record { sinks = follows-kept (NewIn k) r.router.consumers s.sinks (λ c. not (is_of id c)); flagged = flagged-without-producer r.router.transports r.router.producers r.router.consumers s.flagged id })

    step-without-consumer : (k id : Id) → Steps w.routers (change_router k (λ s. without_consumer s id) w).routers
    step-without-consumer k id =
        steps-change w.routers sound k (λ s. without_consumer s id)
        (λ r _ s. record { sinks = follows-kept (NewIn k) r.router.consumers s.sinks (λ c. not (same_id c.id id)); flagged = flagged-without-consumer r.router.transports r.router.producers r.router.consumers s.flagged (λ c. not (same_id c.id id)) })

    heard-by : (k t : Id) (from : Tuple) (r : RouterState) → IsSound r → (b : Bool) → is_learnt (accept_at r t from) ≡ b
        → Behind (NewIn k) r (cond b (with_connected t (change_transport t (heard_from from) r)) r)
    heard-by k t from r s true e = record {
      sinks = follows-set (NewIn k) r.consumers s.sinks (goes_over t) (λ c. record c.flags { connected = true });
      flagged = flagged-connected r.transports r.producers r.consumers s.flagged t (heard_from from) (heard-connects r t from e);
    }
    heard-by k t from r s false e = same-behind (NewIn k) r s

    step-heard : (k t : Id) (from : Tuple) → Steps w.routers (change_router k (λ s. behind_accept s t from) w).routers
    step-heard k t from =
        steps-change w.routers sound k (λ s. behind_accept s t from) (λ r _ s. heard-by k t from r.router s (is_learnt (accept_at r.router t from)) refl)

    -- a new Consumer has an id of its own
    module _ (ids : ConsumerIds) (c : ConsumeContent) (makes : Makes ids c) where
      new-by : (r : RouterState) → IsSound r → consumer_of r ids.consumer ≡ None → (o : Option Flags) → first_flags_at r ids.transport ids.producer c.paused ≡ o
          → Behind (NewIn ids.router) r (with_any_sink (option_map (new_sink ids c) o) r)
      new-by r s free None e = same-behind (NewIn ids.router) r s
      new-by r s free (Some flags) e =
          let own = begin-flags c.paused (transport_of r ids.transport) (producer_of r ids.producer) flags e in
          record {
            sinks =
                follows-new (NewIn ids.router) r.consumers s.sinks (new_sink ids c flags) (new-tuned c.params (map (λ e. e.ssrc) c.consumable) flags)
                (makes flags (first-paused c.paused (transport_of r ids.transport) (producer_of r ids.producer) flags e)) free;
            flagged = flagged-new r.transports r.producers r.consumers s.flagged (new_sink ids c flags) (record { connected = own.0; producer_paused = own.1 });
          }

      step-new : (r : RouterAt) → router_of w ids.router ≡ Some r → is_some (consumer_of r.router ids.consumer) ≡ false
          → Steps w.routers (change_router ids.router (with_new_consumer ids c) w).routers
      step-new r e free =
          steps-change w.routers sound ids.router (with_new_consumer ids c)
          (λ x g s. new-by x.router s
          (is-none (consumer_of x.router ids.consumer) (ap (λ (y : RouterAt). is_some (consumer_of y.router ids.consumer)) (some-router x r (sym g ∙ e)) ∙ free))
          (first_flags_at x.router ids.transport ids.producer c.paused) refl)

    -- request by request
    create-router : (id : Id) → Goes w (create_router w id)
    create-router id = search (goes-behind, steps-new w.routers sound)

    close-router : (id : Id) → Goes w (close_router w id)
    close-router id = search (goes-behind, steps-without w.routers sound)

    create-plain : (request : ℕ) (content : _) (ids : TransportIds) → Goes w (create_plain w request content ids)
    create-plain request content ids = search (goes-behind, steps-same w.routers sound)

    create-pipe : (request : ℕ) (content : _) (ids : TransportIds) → Goes w (create_pipe w request content ids)
    create-pipe request content ids = search (goes-behind, steps-same w.routers sound)

    create-direct : (content : _) (ids : TransportIds) → Goes w (create_direct w content ids)
    create-direct content ids = search (goes-behind, step-transport)

    close-transport : (ids : TransportIds) → Goes w (close_transport w ids)
    close-transport ids = search (goes-behind, step-without-transport)

    -- a transport that is to be told its tuple is told
    abbrev connected-where : TransportIds → TransportAt → Tuple → Result Performed Refusal
    connected-where ids t to =
        refused_where (not (is_to_be_told t.transport)) refusal.State
        >>= λ _. Ok (telling (Remote to) (change_router ids.router (λ s. connected_to s ids.transport to) w))

    connect-goes : (content : _) (ids : TransportIds) → Goes w (connect w content ids)
    connect-goes content ids =
        goes-behind RouterAt w (standing_router w ids.router)
        (λ r. or_refused refusal.Missing (transport_of r.router ids.transport) >>= λ t. or_refused refusal.Data (connect_content content) >>= connected-where ids t)
        (λ r e.
        goes-behind TransportAt w (or_refused refusal.Missing (transport_of r.router ids.transport)) (λ t. or_refused refusal.Data (connect_content content) >>= connected-where ids t)
        (λ t f.
        goes-behind Tuple w (or_refused refusal.Data (connect_content content)) (connected-where ids t)
        (λ to _.
        goes-behind Bool w (refused_where (not (is_to_be_told t.transport)) refusal.State)
        (λ _. Ok (telling (Remote to) (change_router ids.router (λ s. connected_to s ids.transport to) w)))
        (λ b g. step-connected ids.router ids.transport to r t b e f g))))

    produce-goes : (content : _) (ids : ProducerIds) → Goes w (produce w content ids)
    produce-goes content ids = search (goes-behind, step-producer) depth 9

    close-producer : (ids : ProducerIds) → Goes w (close_producer w ids)
    close-producer ids = search (goes-behind, step-without-producer)

    pause-producer : (paused : Bool) (ids : ProducerIds) → Goes w (pause_producer w paused ids)
    pause-producer paused ids = search (goes-behind, step-producer-paused)

    close-consumer : (ids : ConsumerIds) → Goes w (close_consumer w ids)
    close-consumer ids = search (goes-behind, step-without-consumer)

    pause-consumer : (paused : Bool) (ids : ConsumerIds) → Goes w (pause_consumer w paused ids)
    pause-consumer paused ids = search (goes-behind, step-consumer-paused)

    step-consume : (content : _) (ids : ConsumerIds) → ((c : ConsumeContent) → consume_content content ≡ Some c → Makes ids c) → (c : ConsumeContent) (r : RouterAt) (b : Bool)
        → standing_producer w (record { router = ids.router; transport = ids.transport; producer = ids.producer }) ≡ Ok r
        → refused_where (is_some (consumer_of r.router ids.consumer)) refusal.Exists ≡ Ok b
        → or_refused refusal.Data (consume_content content) ≡ Ok c
        → Steps w.routers (change_router ids.router (with_new_consumer ids c) w).routers
    step-consume content ids makes c r b e f g =
        step-new ids c (makes c (or-is refusal.Data (consume_content content) c g)) r
        (standing-is w (record { router = ids.router; transport = ids.transport; producer = ids.producer }) r e)
        (refused-is (is_some (consumer_of r.router ids.consumer)) refusal.Exists b f)

    consume-goes : (content : _) (ids : ConsumerIds) → ((c : ConsumeContent) → consume_content content ≡ Some c → Makes ids c) → Goes w (consume w content ids)
    consume-goes content ids makes = search (goes-behind, step-consume content ids makes) depth 12

    -- the table
    performed-goes : (request : ℕ) (content : _) (a : Asked) → ((ids : ConsumerIds) → a ≡ asked.Consume ids → (c : ConsumeContent) → consume_content content ≡ Some c → Makes ids c)
        → Goes w (performed w request content a)
    unfolding performed
    performed-goes request content (asked.CreateRouter id) makes = create-router id
    performed-goes request content (asked.CloseRouter id) makes = close-router id
    performed-goes request content (asked.CreatePlainTransport ids) makes = create-plain request content ids
    performed-goes request content (asked.CreatePipeTransport ids) makes = create-pipe request content ids
    performed-goes request content (asked.CreateDirectTransport ids) makes = create-direct content ids
    performed-goes request content (asked.CloseTransport ids) makes = close-transport ids
    performed-goes request content (asked.Connect ids) makes = connect-goes content ids
    performed-goes request content (asked.Produce ids) makes = produce-goes content ids
    performed-goes request content (asked.Consume ids) makes = consume-goes content ids (makes ids refl)
    performed-goes request content (asked.CloseProducer ids) makes = close-producer ids
    performed-goes request content (asked.PauseProducer ids) makes = pause-producer true ids
    performed-goes request content (asked.ResumeProducer ids) makes = pause-producer false ids
    performed-goes request content (asked.CloseConsumer ids) makes = close-consumer ids
    performed-goes request content (asked.PauseConsumer ids) makes = pause-consumer true ids
    performed-goes request content (asked.ResumeConsumer ids) makes = pause-consumer false ids

    request-goes : (r : RequestView) → MakesBy r → Goes w (comes_to w r)
    unfolding comes_to
    request-goes r makes =
        goes-behind Asked w (asked_of r) (performed w r.id r.content) (λ a is. performed-goes r.id r.content a (λ ids e. makes ids (is ∙ ap Ok e)))

    -- ---- events

    bound-by : (b : Option Waiting) (port : Option ℕ) → Steps w.routers (after_bound_of b port w).routers
    bound-by None port = steps-same w.routers sound
    bound-by (Some b) None = steps-same w.routers sound
    bound-by (Some b) (Some port) = step-transport b.place.router b.place.transport b.transport

    if-asked : (r : Option RequestView) → ((x : RequestView) → r ≡ Some x → MakesBy x) → Steps w.routers (after_request_if w r).routers
    if-asked None makes = steps-same w.routers sound
    if-asked (Some r) makes = after-goes w sound (comes_to w r) (request-goes r (makes r refl))

    payload-by : (p : Option (Id × List ℕ)) (bytes : List ℕ) → ((x : RequestView) → request_by p bytes ≡ Some x → MakesBy x) → Steps w.routers (settled_payload w p bytes).routers
    payload-by (Some p) bytes makes = steps-same w.routers sound
    payload-by None bytes makes = if-asked (request_of bytes) makes

    parsed-by : (l : Option LinkAt) (from : Tuple) (f : Option Fields) → Steps w.routers (settled_parsed w l from f).routers
    parsed-by None from f = steps-same w.routers sound
    parsed-by (Some l) from None = steps-same w.routers sound
    parsed-by (Some l) from (Some f) = step-heard l.place.router l.place.transport from

    -- each Consumer that stays through an event has set its flags
    pub steps-settled : (e : Event) → ((x : RequestView) → request_at e ≡ Some x → MakesBy x) → Steps w.routers (settled w e).routers
    steps-settled (payload bytes) makes = payload-by (packet_in bytes) bytes makes
    steps-settled (datagram link from packet) makes = parsed-by (place_of w link) from (parsed packet)
    steps-settled (bound port) makes = bound-by w.waiting port
