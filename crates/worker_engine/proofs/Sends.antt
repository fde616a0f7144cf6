-- What goes out for one Consumer.
use Rattle.std.proofs.Common.{◌≡◌, ℕ, List, [], ◌∷◌, Option, Some, None, option_map, take, refl, sym, ap, ◌∙◌}
use Rattle.ms_base.specs.declared.id.Id.{Id}
use Rattle.ms_base.specs.declared.tuple.Tuple.{Tuple}
use Rattle.worker_router.specs.declared.packets.Passed.{Passed}
use Rattle.worker_calls.specs.declared.place.Place.{Place}
use Rattle.worker_calls.specs.State.{Worker, link_of}
use Rattle.worker_calls.specs.Requests.{Outgoing}
use Rattle.worker_engine.specs.Packets.{outgoing_to}
use Rattle.worker_engine.specs.Forwarding.{Incoming, passed_one, behind_one, remote_in, out_one, listed, both, outgoing_by, end_of, sent_of}

goes-by : (link : Option ℕ) (to : Option Tuple) (id : Id) (packet : List ℕ) → outgoing_to link to id packet ≡ outgoing_by (both link to) id packet
goes-by (Some link) (Some to) id packet = refl
goes-by (Some link) None id packet = refl
goes-by None to id packet = refl

-- what goes out where the Consumer has passed a packet on
pub sent-is : (w : Worker) (router : Id) (p : Passed) (n : ℕ) (bytes : List ℕ) (end : Option (ℕ × Tuple)) → Some n ≡ p.length
    → end ≡ end_of w (record { router = router; transport = p.transport }) p.remote → listed (sent_of w router p bytes) ≡ outgoing_by end p.consumer (take n bytes) ∷ []
sent-is w router p n bytes end passed same =
    let at : Place = record { router = router; transport = p.transport } in
    ap (λ (o : Option ℕ). listed (option_map (λ k. outgoing_to (option_map (λ l. l.link) (link_of w at)) p.remote p.consumer (take k bytes)) o)) (sym passed)
    ∙ ap (λ (x : Outgoing). x ∷ []) (goes-by (option_map (λ l. l.link) (link_of w at)) p.remote p.consumer (take n bytes) ∙ ap (λ (e : Option (ℕ × Tuple)). outgoing_by e p.consumer (take n bytes)) (sym same))

map-then : {A B C : Type 0} (f : A → B) (g : B → C) (o : Option A) → option_map (λ a. g (f a)) o ≡ option_map g (option_map f o)
map-then f g None = refl
map-then f g (Some a) = refl

-- it is what goes out for the Consumer as it stood before
pub sent-one : (i : Incoming) (p : Passed) (bytes : List ℕ) (w v : Worker) → v ≡ behind_one i p.consumer w
    → p.remote ≡ remote_in w (record { router = i.router; transport = p.transport }) → option_map (λ n. take n bytes) p.length ≡ passed_one i p.consumer w
    → sent_of v i.router p bytes ≡ out_one i (p.consumer, p.transport) w
sent-one i p bytes w v behind remote packet =
    let at : Place = record { router = i.router; transport = p.transport } in
    ap (λ (u : Worker). sent_of u i.router p bytes) behind
    ∙ (map-then (λ n. take n bytes) (outgoing_to (option_map (λ l. l.link) (link_of w at)) p.remote p.consumer) p.length
    ∙ (ap (option_map (outgoing_to (option_map (λ l. l.link) (link_of w at)) p.remote p.consumer)) packet
    ∙ ap (λ (to : Option Tuple). option_map (outgoing_to (option_map (λ l. l.link) (link_of w at)) to p.consumer) (passed_one i p.consumer w)) remote))
