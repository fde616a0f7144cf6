-- A host that has heard nothing.
use Rattle.std.proofs.Common.{◌≡◌, ℕ, List, [], map, nat_lt, sym, ap, subst}
use Rattle.std.specs.List.{AllByRecursion}
use Rattle.ms_base.specs.declared.keys.Event.{Event}
use Rattle.ms_base.specs.declared.keys.WorkerKey.{WorkerKey}
use Rattle.request_build.specs.Counts.{times_named}
use Rattle.request_build.specs.Known.{KeepsNothing}
use Rattle.host_awaits.specs.Awaits.{times_noted}
use Rattle.host_awaits.specs.Watching.{HasNoneYet, Watched, times_in}
use Rattle.host_requests.specs.Requests.{last_on}
use Rattle.host_model.specs.State.{start}
use Rattle.host_model.specs.Step.{is_hopeless}
use Rattle.host_tables.specs.Kept.{HasLookUps, IsKept}
use Rattle.host_tables.specs.LookUps.{counted}
use Rattle.host_tables.specs.declared.tables.Tables.{Tables}

pub new-kept : (seed : ℕ) (t : Tables) → t.tree ≡ [] → KeepsNothing t.kept → t.next ≡ (start seed).next → t.requests.waiting ≡ [] → ((worker : WorkerKey) → last_on t.requests worker ≡ 0)
    → ((lane : ℕ) → counted t.calls lane ≡ 0) → ((name : List ℕ) → times_named t.failed name ≡ 0) → t.awaits.waiting ≡ [] → ((name : List ℕ) (e : Event) → times_in t.awaits name e ≡ 0)
    → t.slots.slots ≡ [] → t.notes ≡ [] → IsKept (start seed) t
new-kept seed t tree kept next waiting lasts calls failed awaits times slots notes =
    let look_ups : HasLookUps (start seed) t =
    λ i. record {
      objects = tree i;
      routers = kept.routers i;
      producers = kept.producers i;
      consumers = kept.consumers i;
      pipes = kept.pipes i;
      names = λ name. kept.names name i;
      offered = λ router id. kept.producer_ids router id i;
      slots_made = kept.slots i;
      stopped = kept.running i;
      next = next i;
      waits = waiting i;
      lasts = λ worker. lasts worker i;
      calls = λ lane. calls lane i;
      failed = λ name. nat_lt 0 (failed name i);
      awaits = ap (λ (l : List Watched). map (λ (x : Watched). x.awaited) l) awaits i;
      times = λ name e. times name e i;
      slots = slots i;
      notes = notes i;
    } in
    record { look_ups = look_ups; at_rest = subst (AllByRecursion (HasNoneYet (times_noted []) (is_hopeless (start seed)))) (sym awaits) tt }
