-- What goes out by an event is what is told of it, and then what each Consumer emits.
use Rattle.std.proofs.Common.{◌≡◌, ℕ, List, [], ◌∷◌, ◌++◌, ◌&&◌, Bool, true, false, cond, filter, Option, Some, None, option_map, option_and_then, refl, sym, ap, subst, ◌∙◌, append_assoc, append-nil}
use Rattle.std.specs.List.{cons_option, filter_map, AllByRecursion}
use Rattle.ms_base.specs.declared.id.Id.{Id}
use Rattle.ms_base.specs.declared.tuple.Tuple.{Tuple}
use Rattle.channel_msgs.specs.Packet.{packet_in}
use Rattle.channel_msgs.specs.Read.{request_of}
use Rattle.rtp_packet.specs.Packet.{Fields}
use Rattle.pipe_consumer.specs.Streams.{passed_by}
use Rattle.worker_router.specs.State.{Sink, same_id, consumers_of, is_of}
use Rattle.worker_calls.specs.State.{LinkAt, RouterAt, Worker, router_of, place_of}
use Rattle.worker_calls.specs.Requests.{Outgoing, out_bound}
use Rattle.worker_engine.specs.Packets.{Received, parsed, offer_of, outgoing_for, emission_for, emissions_of, emissions_at, out_parsed}
use Rattle.worker_engine.specs.Run.{Event, payload, datagram, bound, out, out_payload, out_request_if}
use Rattle.worker_engine.specs.Emits.{sink_at, settled, settled_parsed, settled_payload, received_at, received_parsed, received_payload, emitted_by, told_at, told_parsed, told_payload, key_in, router_at, emitted_in}
use Rattle.worker_engine.proofs.Ids.{same-is, same-refl, found-passes, find-past, before-differs, Differ}
use Rattle.worker_engine.proofs.Sinks.{sink_in}
use Rattle.worker_engine.proofs.Settled.{AllSound, sink_by}
use Rattle.worker_engine.proofs.Emitted.{settled-steps}

-- ---- what is told, and what is emitted

out-of-payload : (w : Worker) (p : Option (Id × List ℕ)) (bytes : List ℕ)
    → out_payload w p bytes ≡ told_payload w p bytes ++ emissions_of (settled_payload w p bytes) (received_payload w p)
out-of-payload w None bytes = sym (append-nil (out_request_if w (request_of bytes)))
out-of-payload w (Some p) bytes = refl

out-of-parsed : (w : Worker) (l : Option LinkAt) (from : Tuple) (packet : List ℕ) (f : Option Fields)
    → out_parsed w l from packet f ≡ told_parsed w l from f ++ emissions_of (settled_parsed w l from f) (received_parsed w l from packet f)
out-of-parsed w None from packet f = refl
out-of-parsed w (Some l) from packet None = refl
out-of-parsed w (Some l) from packet (Some f) = refl

out-is : (w : Worker) (e : Event) → out w e ≡ told_at w e ++ emissions_of (settled w e) (received_at w e)
out-is w (payload bytes) = out-of-payload w (packet_in bytes) bytes
out-is w (datagram link from packet) = out-of-parsed w (place_of w link) from packet (parsed packet)
out-is w (bound port) = sym (append-nil (out_bound w port))

-- ---- each Consumer is found by its id

founds : (pre suf : List Sink) → Differ (λ (c : Sink). c.id) (pre ++ suf) → AllByRecursion (λ c. sink_in (pre ++ suf) c.id ≡ Some c) suf
founds pre [] d = tt
founds pre (c ∷ suf) d =
    let there : sink_in (pre ++ c ∷ suf) c.id ≡ Some c =
    find-past (λ (x : Sink). same_id x.id c.id) pre (c ∷ suf) (before-differs (λ (x : Sink). x.id) pre c suf d)
    ∙ ap (λ b. cond b (Some c) (sink_in suf c.id)) (same-refl c.id) in
    let again : pre ++ c ∷ suf ≡ (pre ++ c ∷ []) ++ suf = sym (append_assoc pre (c ∷ []) suf) in (
      there,
      subst (λ (all : List Sink). AllByRecursion (λ x. sink_in all x.id ≡ Some x) suf) (sym again)
          (founds (pre ++ c ∷ []) suf (subst (Differ (λ (x : Sink). x.id)) again d)),
    )

-- ---- Consumer by Consumer

filter-at : {A B : Type 0} (f : A → Option B) (x : A) (xs : List A) (b : Bool) → filter_map f (cond b (x ∷ xs) xs) ≡ cons_option (cond b (f x) None) (filter_map f xs)
filter-at f x xs true = refl
filter-at f x xs false = refl

filtered : {A B : Type 0} (t : A → Bool) (f g : A → Option B) (xs : List A) → AllByRecursion (λ x. g x ≡ cond (t x) (f x) None) xs → filter_map f (filter t xs) ≡ filter_map g xs
filtered t f g [] all = refl
filtered t f g (x ∷ xs) all =
    filter-at f x (filter t xs) (t x)
    ∙ (ap (cons_option (cond (t x) (f x) None)) (filtered t f g xs all.1) ∙ ap (λ o. cons_option o (filter_map g xs)) (sym all.0))

all-so : {A : Type 0} (P Q : A → Type 0) → ((x : A) → P x → Q x) → (xs : List A) → AllByRecursion P xs → AllByRecursion Q xs
all-so P Q so [] all = tt
all-so P Q so (x ∷ xs) all = (so x all.0, all-so P Q so xs all.1)

map-at : (b : Bool) (f : List ℕ → Outgoing) (o : Option (List ℕ)) → option_map f (cond b o None) ≡ cond b (option_map f o) None
map-at true f o = refl
map-at false f o = refl

module _ (h : Worker) (got : Received) (r : RouterAt) (sound : AllSound h.routers) (is : router_of h got.router ≡ Some r) where
  abbrev emitted_of : Sink → Option Outgoing
  emitted_of c = option_map (outgoing_for h r c) (emitted_by (key_in r c) (Some got) (sink_at h (key_in r c)))

  own-router : r.id ≡ got.router
  own-router = same-is r.id got.router (found-passes (λ (x : RouterAt). same_id x.id got.router) h.routers r is)

  emitted-one : (c : Sink) → sink_in r.router.consumers c.id ≡ Some c → emitted_of c ≡ cond (is_of got.producer.id c) (emission_for h r (offer_of got) c) None
  emitted-one c e =
      let there : sink_at h (key_in r c) ≡ Some c = ap (λ (i : Id). sink_by (router_of h i) c.id) own-router ∙ (ap (λ (o : Option RouterAt). sink_by o c.id) is ∙ e) in
      let own : same_id r.id got.router ≡ true = ap (λ (i : Id). same_id i got.router) own-router ∙ same-refl got.router in
      ap (λ (s : Option Sink). option_map (outgoing_for h r c) (emitted_by (key_in r c) (Some got) s)) there
      ∙ (ap (λ b. option_map (outgoing_for h r c) (cond (b && is_of got.producer.id c) (passed_by c.streams (offer_of got)) None)) own
      ∙ map-at (is_of got.producer.id c) (outgoing_for h r c) (passed_by c.streams (offer_of got)))

  pub emissions-in : filter_map (emission_for h r (offer_of got)) (consumers_of r.router got.producer.id) ≡ filter_map emitted_of r.router.consumers
  emissions-in =
      filtered (is_of got.producer.id) (emission_for h r (offer_of got)) emitted_of r.router.consumers
      (all-so (λ c. sink_in r.router.consumers c.id ≡ Some c) (λ c. emitted_of c ≡ cond (is_of got.producer.id c) (emission_for h r (offer_of got) c) None)
      emitted-one r.router.consumers (founds [] r.router.consumers (sound got.router r is).sinks.differ))

-- what the Consumers of a Router emit, over the packet
abbrev emitted_all : Worker → Option Received → Option RouterAt → List Outgoing
emitted_all h got None = []
emitted_all h got (Some r) = filter_map (λ c. option_map (outgoing_for h r c) (emitted_by (key_in r c) got (sink_at h (key_in r c)))) r.router.consumers

emissions-at : (h : Worker) (got : Received) → AllSound h.routers → (o : Option RouterAt) → router_of h got.router ≡ o → emissions_at h got o ≡ emitted_all h (Some got) o
emissions-at h got sound None is = refl
emissions-at h got sound (Some r) is = emissions-in h got r sound is

emissions-are : (h : Worker) (got : Option Received) → AllSound h.routers → emissions_of h got ≡ emitted_all h got (option_and_then (λ g. router_of h g.router) got)
emissions-are h None sound = refl
emissions-are h (Some got) sound = emissions-at h got sound (router_of h got.router) refl

emitted-same : (w : Worker) (e : Event) (o : Option RouterAt) → emitted_all (settled w e) (received_at w e) o ≡ emitted_in w e o
emitted-same w e None = refl
emitted-same w e (Some r) = refl

pub out-is-emissions : (w : Worker) (e : Event) → AllSound w.routers → out w e ≡ told_at w e ++ emitted_in w e (router_at w e)
out-is-emissions w e sound =
    out-is w e
    ∙ ap (λ (outs : List Outgoing). told_at w e ++ outs)
    (emissions-are (settled w e) (received_at w e) (settled-steps w sound e).sound ∙ emitted-same w e (router_at w e))
