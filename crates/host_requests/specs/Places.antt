-- How requests are found by what they wait for and by the object that they were issued under: by tables of their numbers,
-- which rise in order of issue. This project's own.
use Rattle.std.specs.Prelude.{ℕ, ◌≡◌, ◌<◌, ◌==◌, ◌&&◌, List, [], ◌∷◌, Bool, true, filter, Option, Some, None}
use Rattle.std.specs.BTreeMap.{is_at}
use Rattle.std.specs.BTreeSet.{BTreeSet}
use Rattle.std.specs.HashMap as hash
use Rattle.std.specs.List.{AllByRecursion, list_any}
use Rattle.std.specs.Map.{keys_of}
use Rattle.std.specs.Ordering.{nat_cmp}
use Rattle.ms_base.specs.declared.keys.Serial.{Serial}
use Rattle.ms_base.specs.declared.keys.WorkerKey.{WorkerKey}
use Rattle.host_requests.specs.declared.by_object.ByObject.{ByObject}
use Rattle.host_requests.specs.declared.by_via.ByVia.{ByVia}
use Rattle.host_requests.specs.declared.places.Places.{Places}
use Rattle.host_requests.specs.declared.request.Via.{Via}
use Rattle.host_requests.specs.Requests.{is_answer_to, is_by_start}

-- what a request is found by: how it comes to its settlement, and its object
abbrev pub Outline : Type 0
Outline = Via × Serial

-- the requests that wait, by their numbers
abbrev pub Outlines : Type 0
Outlines = List (ℕ × Outline)

-- the numbers of those that pass a test
abbrev pub numbers_of : {X : Type 0} → (X → Bool) → List (ℕ × X) → List ℕ
numbers_of p es = keys_of (filter (λ e. p e.1) es)

-- ---- tables

abbrev pub first_of : List ℕ → Option ℕ
first_of [] = None
first_of (n ∷ ns) = Some n

abbrev pub optional : {X : Type 0} → Option X → List X
optional None = []
optional (Some x) = x ∷ []

abbrev pub keys_in : Option (BTreeSet ℕ) → List ℕ
keys_in None = []
keys_in (Some set) = set.keys

-- whether a number is among some
abbrev pub has : ℕ → List ℕ → Bool
has n ns = list_any (is_at (nat_cmp n)) ns

-- the numbers that a table has at an object
abbrev pub numbers_at : ByObject → ℕ → List ℕ
numbers_at by object = keys_in (hash.get (λ a b. a == b) by.numbers object)

abbrev pub same_key : ℕ × ℕ × ℕ → ℕ × ℕ × ℕ → Bool
same_key a b = (a.0 == b.0) && (a.1 == b.1) && (a.2 == b.2)

-- the number that a table has for a response
abbrev pub number_at : ByVia → WorkerKey → ℕ → Option ℕ
number_at by worker id = hash.get same_key by.ids (worker.slot, worker.generation, id)

-- ---- how tables stand to the requests that wait

abbrev pub answers : WorkerKey → ℕ → Outline → Bool
answers worker id o = is_answer_to worker id o.0

abbrev pub starts : ℕ → Outline → Bool
starts worker o = is_by_start o.0 && (o.1.0 == worker)

abbrev pub stands_under : ℕ → Outline → Bool
stands_under object o = o.1.0 == object

-- found by what they wait for
pub record AreByVia (by : ByVia) (os : Outlines) : Type 0 where
  pub ids : (worker : WorkerKey) (id : ℕ) → optional (number_at by worker id) ≡ numbers_of (answers worker id) os
  pub starts : (worker : ℕ) → numbers_at by.starts worker ≡ numbers_of (starts worker) os

-- found by what they wait for and by their objects
pub record ArePlaced (places : Places) (os : Outlines) : Type 0 where
  pub by_via : AreByVia places.by_via os
  pub under : (object : ℕ) → numbers_at places.under object ≡ numbers_of (stands_under object) os

-- a number is above all others, and no other request waits for the same response
pub record IsNext (number : ℕ) (via : Via) (os : Outlines) : Type 0 where
  pub above : AllByRecursion (λ e. e.0 < number) os
  pub fresh : (worker : WorkerKey) (id : ℕ) → is_answer_to worker id via ≡ true → numbers_of (answers worker id) os ≡ []
