-- What a Producer receives of a packet is served.
use Rattle.std.proofs.Common.{◌≡◌, ℕ, List, Bool, true, false, cond, ◌&&◌, Option, Some, None, is_some, option_map, option_and_then, refl, sym, ap, subst, ◌∙◌, length}
use Rattle.std.specs.Prelude.{nat_le}
use Rattle.ms_base.specs.declared.id.Id.{Id}
use Rattle.rtp_packet.specs.Packet.{Fields}
use Rattle.rtp_extension.specs.declared.mapped.Mapped.{Mapped}
use Rattle.worker_router.specs.State.{Source, Sink, same_id, producer_of, is_on}
use Rattle.worker_router.specs.Calls.{receives, receiver}
use Rattle.worker_calls.specs.declared.place.Place.{Place}
use Rattle.worker_calls.specs.State.{Worker, RouterAt, ProducerKey, router_of}
use Rattle.worker_engine.specs.Packets.{Received, max_packet, if_within, received_as, received_at_place, received_by_key}
use Rattle.worker_engine.specs.Forwarding.{Incoming, Serves}
use Rattle.worker_engine.proofs.Ids.{same-is, found-passes, found-by-id, Differ}
use Rattle.worker_engine.proofs.Serving.{received-serves}

within-by : (w : Worker) (b : Bool) (got : Option Received) (i : Option Incoming) → Serves w got i → Serves w (cond b got None) (cond b i None)
within-by w true got i s = s
within-by w false got i s = record { state = refl; outs = refl }

-- a packet over the limit is none
within : (w : Worker) (packet : List ℕ) (got : Option Received) (i : Option Incoming) → Serves w got i → Serves w (if_within packet got) (if_within packet i)
within w packet got i s = within-by w (nat_le (length packet) max_packet) got i s

if-none : (b : Bool) (o : Option Received) → o ≡ None → cond b o None ≡ None
if-none true o e = e
if-none false o e = refl

pub none-within : (packet : List ℕ) (o : Option Received) → o ≡ None → if_within packet o ≡ None
none-within packet o e = if-none (nat_le (length packet) max_packet) o e

pub serves-none : (w : Worker) (packet : List ℕ) (got : Option Received) (i : Option Incoming) → got ≡ None → i ≡ None → Serves w (if_within packet got) i
serves-none w packet got i e n =
    subst (λ (o : Option Received). Serves w o i) (sym (none-within packet got e))
    (subst (λ (o : Option Incoming). Serves w None o) (sym n) (record { state = refl; outs = refl }))

module _ (w : Worker) (r : RouterAt) (k : Id) (packet : List ℕ) (f : Fields) (producer : Id) (apart : Differ (λ (x : RouterAt). x.id) w.routers)
    (different : Differ (λ (c : Sink). c.id) r.router.consumers) (is : router_of w k ≡ Some r) where
  abbrev taken_as : Mapped → Incoming
  taken_as m = record { router = k; producer = producer; mapped = m; packet = packet }

  by-mapped : (p : Source) → p.id ≡ producer → producer_of r.router producer ≡ Some p → (o : Option Mapped)
      → Serves w (option_map (λ m. record { router = k; producer = p; mapped = m; packet = packet }) o) (option_map taken_as o)
  by-mapped p same there None = record { state = refl; outs = refl }
  by-mapped p same there (Some m) =
      let got : Received = record { router = k; producer = p; mapped = m; packet = packet } in
      subst (λ (id : Id). Serves w (Some got) (Some (record { router = k; producer = id; mapped = m; packet = packet }))) same
      (received-serves w got r apart different is (ap (producer_of r.router) same ∙ there))

  by-source : (o : Option Source) → producer_of r.router producer ≡ o
      → Serves w (option_and_then (received_as k packet f) o) (option_map taken_as (option_and_then (receives f) o))
  by-source None e = record { state = refl; outs = refl }
  by-source (Some p) e = by-mapped p (same-is p.id producer (found-passes (λ (x : Source). same_id x.id producer) r.router.producers p e)) e (receives f p)

  -- a known Producer
  pub known-serves : Serves w (if_within packet (option_and_then (received_as k packet f) (producer_of r.router producer)))
      (if_within packet (option_map taken_as (option_and_then (receives f) (producer_of r.router producer))))
  known-serves = within w packet _ _ (by-source (producer_of r.router producer) refl)

  -- the Producer of a transport that the packet is one of
  pub receiver-is : (t : Id) → Differ (λ (p : Source). p.id) r.router.producers → Some producer ≡ option_map (λ p. p.id) (receiver r.router t f)
      → receiver r.router t f ≡ producer_of r.router producer
  receiver-is t differ found = by-found (receiver r.router t f) refl found
    where
      by-found : (o : Option Source) → receiver r.router t f ≡ o → Some producer ≡ option_map (λ p. p.id) o → receiver r.router t f ≡ producer_of r.router producer
      by-found None e s = absurd cc
      by-found (Some p) e s =
          let same : p.id ≡ producer = cc in
          e ∙ (sym (found-by-id (λ (x : Source). x.id) (λ q. is_on t q && is_some (receives f q)) r.router.producers p differ e)
          ∙ ap (producer_of r.router) same)

  pub placed-serves : (at : Place) → at.router ≡ k → Differ (λ (p : Source). p.id) r.router.producers → Some producer ≡ option_map (λ p. p.id) (receiver r.router at.transport f)
      → (i : Option Incoming) → i ≡ if_within packet (option_map taken_as (option_and_then (receives f) (producer_of r.router producer)))
      → Serves w (if_within packet (received_at_place w at packet f)) i
  placed-serves at e differ found i made =
      let there : router_of w at.router ≡ Some r = ap (router_of w) e ∙ is in
      let got : received_at_place w at packet f ≡ option_and_then (received_as k packet f) (producer_of r.router producer) =
      ap (option_and_then (λ (x : RouterAt). option_and_then (received_as at.router packet f) (receiver x.router at.transport f))) there
      ∙ (ap (λ (id : Id). option_and_then (received_as id packet f) (receiver r.router at.transport f)) e
      ∙ ap (option_and_then (received_as k packet f)) (receiver-is at.transport differ found)) in
      subst (λ (o : Option Received). Serves w (if_within packet o) i) (sym got) (subst (Serves w (if_within packet (option_and_then (received_as k packet f) (producer_of r.router producer)))) (sym made) known-serves)

  pub keyed-serves : (key : Option ProducerKey) → key ≡ Some (record { router = k; producer = producer })
      → (i : Option Incoming) → i ≡ if_within packet (option_map taken_as (option_and_then (receives f) (producer_of r.router producer)))
      → Serves w (if_within packet (option_and_then (λ x. received_by_key w packet x f) key)) i
  keyed-serves key e i made =
      let got : option_and_then (λ x. received_by_key w packet x f) key ≡ option_and_then (received_as k packet f) (producer_of r.router producer) =
      ap (option_and_then (λ (x : ProducerKey). received_by_key w packet x f)) e
      ∙ ap (option_and_then (λ (x : RouterAt). option_and_then (received_as k packet f) (producer_of x.router producer))) is in
      subst (λ (o : Option Received). Serves w (if_within packet o) i) (sym got) (subst (Serves w (if_within packet (option_and_then (received_as k packet f) (producer_of r.router producer)))) (sym made) known-serves)

-- the key of what was found by an id
pub key-is : (found : Id × Id) (o : Option ProducerKey) → Some found ≡ option_map (λ (key : ProducerKey). (key.router, key.producer)) o
    → o ≡ Some (record { router = found.0; producer = found.1 })
key-is found None e = absurd cc
key-is found (Some key) e =
    let r : key.router ≡ found.0 = ap (λ (p : Option (Id × Id)). pick p found.0 (λ q. q.0)) (sym e) in
    let p : key.producer ≡ found.1 = ap (λ (p : Option (Id × Id)). pick p found.0 (λ q. q.1)) (sym e) in
    (λ j. Some (record { router = r j; producer = p j }))
  where
    pick : Option (Id × Id) → Id → (Id × Id → Id) → Id
    pick None d f = d
    pick (Some q) d f = f q
