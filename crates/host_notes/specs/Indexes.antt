-- How the indexes of the notes stand to the list of notes that they are kept beside. This project's own.
use Rattle.std.specs.Prelude.{◌≡◌, ℕ, List, [], Bool, ◌&&◌, nat_eq, Option, None, IfSome, option_and_then, unwrap_or, slice_get, take}
use Rattle.std.specs.BTreeMap.{BTreeMap, get}
use Rattle.std.specs.HashMap as hash
use Rattle.std.specs.Ordering.{nat_cmp, ordering_then}
use Rattle.ms_base.specs.declared.keys.CallKey.{CallKey}
use Rattle.ms_base.specs.declared.keys.WorkerKey.{WorkerKey}
use Rattle.ms_base.specs.declared.outcome.Verdict.{Verdict}
use Rattle.transcript.specs.declared.note.Note.{Note}
use Rattle.host_notes.specs.Verdicts.{settled_in, verdict_in}
use Rattle.host_notes.specs.Sent.{sent_of}
use Rattle.host_notes.specs.declared.sent.SentBytes.{SentBytes}

-- the place that a map has for a call
abbrev pub place_of : BTreeMap (ℕ × ℕ) ℕ → CallKey → Option ℕ
place_of places key = get (λ a b. ordering_then (nat_cmp a.0 b.0) (nat_cmp a.1 b.1)) places (key.lane, key.place)

-- what the note at a place says of a call
abbrev pub verdict_at : List Note → CallKey → Option ℕ → Option Verdict
verdict_at notes key place = option_and_then (settled_in key) (option_and_then (slice_get notes) place)

-- the note at the place gives the call's verdict, and none before it does. After notes were dropped the place may lie
-- behind the end
pub record IsPlaceOf (notes : List Note) (key : CallKey) (place : Option ℕ) : Type 0 where
  pub verdict : verdict_in notes key ≡ verdict_at notes key place
  pub first : IfSome place (λ i. verdict_in (take i notes) key ≡ None)

-- ---- the bytes that are kept of a worker, by its slot and generation

abbrev pub same_slot : ℕ × ℕ → ℕ × ℕ → Bool
same_slot a b = nat_eq a.0 b.0 && nat_eq a.1 b.1

abbrev pub bytes_to : SentBytes → WorkerKey → List ℕ
bytes_to sent worker = unwrap_or (hash.get same_slot sent.items (worker.slot, worker.generation)) []

pub record AreIndexed (notes : List Note) (places : BTreeMap (ℕ × ℕ) ℕ) (sent : SentBytes) : Type 0 where
  pub settled : (key : CallKey) → IsPlaceOf notes key (place_of places key)
  pub bytes : (worker : WorkerKey) → bytes_to sent worker ≡ sent_of notes worker
