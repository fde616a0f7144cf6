-- What is looked up in the tables is what is known.
use Rattle.std.proofs.Common.{◌≡◌, ap}
use Rattle.host_requests.specs.Requests.{last_on}
use Rattle.host_model.specs.State.{State, issued, waiting}
use Rattle.host_tables.specs.Kept.{IsKept, Seen}
use Rattle.host_tables.specs.declared.tables.Tables.{Tables}

module _ (s : State) (t : Tables) (k : IsKept s t) where
  pub kept-tree : t.tree ≡ s.objects
  kept-tree = ap (λ (v : Seen). v.objects) k.look_ups

  pub kept-slots : t.slots.slots ≡ s.slots
  kept-slots = ap (λ (v : Seen). v.slots) k.look_ups

  pub kept-waits : t.requests.waiting ≡ waiting s.requests
  kept-waits = ap (λ (v : Seen). v.waits) k.look_ups

  pub kept-lasts : last_on t.requests ≡ issued s.requests
  kept-lasts = ap (λ (v : Seen). v.lasts) k.look_ups

  pub kept-next : t.next ≡ s.next
  kept-next = ap (λ (v : Seen). v.next) k.look_ups
