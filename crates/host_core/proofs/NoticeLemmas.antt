-- A notice is heard by the tables as by what is known.
use Rattle.std.proofs.Common.{◌≡◌, ◌≤◌, ℕ, List, [], ◌∷◌, Bool, true, false, ◌&&◌, cond, Option, Some, None, option_map, refl, sym, ap, ◌∙◌, subst, count_by}
use Rattle.std.specs.List.{find}
use Rattle.std.proofs.lemmas.Bool.{and_parts}
use Rattle.ms_base.specs.declared.id.Id.{Id}
use Rattle.ms_base.specs.declared.keys.Kind.{Kind}
use Rattle.ms_base.specs.declared.keys.Kind.TheVariants as kind
use Rattle.ms_base.specs.declared.keys.Serial.{Serial}
use Rattle.ms_base.specs.declared.keys.WorkerKey.{WorkerKey}
use Rattle.transcript.specs.declared.note.Note.TheVariants as note
use Rattle.object_tree.specs.declared.object.Mark.TheVariants as mark
use Rattle.object_tree.specs.declared.object.Object.{Object}
use Rattle.object_tree.specs.Objects.{numbered, open_with_id, with_mark}
use Rattle.request_build.specs.Columns.{is_there}
use Rattle.request_build.specs.Known.{above}
use Rattle.host_notes.specs.Keys.{same_worker}
use Rattle.host_requests.specs.declared.request.Request.{Request}
use Rattle.host_requests.specs.Requests.{is_start_of}
use Rattle.host_model.specs.declared.due.Due.{Due}
use Rattle.host_model.specs.Changes.{noted}
use Rattle.host_model.specs.Sound.{IsSound}
use Rattle.host_model.specs.State.{State, Slot, is_up_phase, settled_where, up_slot, waiting, waiting_for}
use Rattle.host_model.specs.Step.{comes_out, if_found, is_starting, object_of, packet_told, ran, says_it_runs, start_settled}
use Rattle.host_tables.specs.Kept.{IsAlone, IsKept, Moves}
use Rattle.host_tables.specs.declared.tables.Tables.{Tables}
use Rattle.host_core.specs.Tables.{Goes, speaker}
use Rattle.host_core.proofs.Keys.{worker-same}
use Rattle.host_core.proofs.KeptLemmas.{kept-tree, kept-waits}

-- ---- the object that a notice is of

module _ (x : Slot) (of_kind : Kind) (id : Id) (change : Object → State → State) (t now : Tables) where
  -- none is found
  pub none-moves : None ≡ open_with_id t.tree x.worker of_kind id → Moves (noted (note.Stray x.key)) t now
      → Moves (λ s. if_found x change (object_of x of_kind id s) s) t now
  none-moves none moves = λ s k.
      let is : object_of x of_kind id s ≡ None = ap (λ (os : List Object). open_with_id os x.worker of_kind id) (sym (kept-tree s t k)) ∙ sym none in
      subst (λ (o : Option Object). IsKept (if_found x change o s) now) (sym is) (moves s k)

  pub found-moves : (o : Object) → Some o ≡ open_with_id t.tree x.worker of_kind id → Moves (change o) t now → Moves (λ s. if_found x change (object_of x of_kind id s) s) t now
  found-moves o found moves = λ s k.
      let is : object_of x of_kind id s ≡ Some o = ap (λ (os : List Object). open_with_id os x.worker of_kind id) (sym (kept-tree s t k)) ∙ sym found in
      subst (λ (found_now : Option Object). IsKept (if_found x change found_now s) now) (sym is) (moves s k)

-- ---- what is told of a serial

serial-none : (o : Option Object) → None ≡ option_map (λ (x : Object). x.serial) o → None ≡ o
serial-none None e = refl
serial-none (Some o) e = absurd cc

module _ (x : Slot) (of_kind : Kind) (id : Id) (change : Serial → State → State) (t now : Tables) where
  pub no_serial-moves : None ≡ option_map (λ (o : Object). o.serial) (open_with_id t.tree x.worker of_kind id) → Moves (noted (note.Stray x.key)) t now
      → Moves (λ s. if_found x (λ o. change o.serial) (object_of x of_kind id s) s) t now
  no_serial-moves none moves = none-moves x of_kind id (λ o. change o.serial) t now (serial-none (open_with_id t.tree x.worker of_kind id) none) moves

  pub serial-moves : (serial : Serial) → Some serial ≡ option_map (λ (o : Object). o.serial) (open_with_id t.tree x.worker of_kind id) → Moves (change serial) t now
      → Moves (λ s. if_found x (λ o. change o.serial) (object_of x of_kind id s) s) t now
  serial-moves serial e moves = at (open_with_id t.tree x.worker of_kind id) refl e
    where
      at : (o : Option Object) → open_with_id t.tree x.worker of_kind id ≡ o → Some serial ≡ option_map (λ (y : Object). y.serial) o
          → Moves (λ s. if_found x (λ y. change y.serial) (object_of x of_kind id s) s) t now
      at None is f = absurd cc
      at (Some o) is f =
          let same : serial ≡ o.serial = cc in
          found-moves x of_kind id (λ y. change y.serial) t now o (sym is) (subst (λ (n : Serial). Moves (change n) t now) same moves)

-- ---- a packet

pub no_packet-moves : (t now : Tables) (x : Slot) (packet : List ℕ) (id : Id) → None ≡ open_with_id t.tree x.worker kind.Consumer id → Moves (noted (note.Stray x.key)) t now
    → Moves (λ s. packet_told x packet (object_of x kind.Consumer id s) s) t now
no_packet-moves t now x packet id none moves = λ s k.
    let is : object_of x kind.Consumer id s ≡ None = ap (λ (os : List Object). open_with_id os x.worker kind.Consumer id) (sym (kept-tree s t k)) ∙ sym none in
    subst (λ (o : Option Object). IsKept (packet_told x packet o s) now) (sym is) (moves s k)

pub packet-moves : (t now : Tables) (x : Slot) (packet : List ℕ) (id : Id) (o : Object) (b : Bool) → Some o ≡ open_with_id t.tree x.worker kind.Consumer id
    → is_there kind.Direct (above t.tree o) ≡ b → Moves (λ s. cond b (comes_out packet o s) (noted (note.Stray x.key) s)) t now
    → Moves (λ s. packet_told x packet (object_of x kind.Consumer id s) s) t now
packet-moves t now x packet id o b found direct moves = λ s k.
    let tree = kept-tree s t k in
    let is : object_of x kind.Consumer id s ≡ Some o = ap (λ (os : List Object). open_with_id os x.worker kind.Consumer id) (sym tree) ∙ sym found in
    let on : is_there kind.Direct (above s.objects o) ≡ b = ap (λ (os : List Object). is_there kind.Direct (above os o)) (sym tree) ∙ direct in
    subst (λ (found_now : Option Object). IsKept (packet_told x packet found_now s) now) (sym is)
    (subst (λ c. IsKept (cond c (comes_out packet o s) (noted (note.Stray x.key) s)) now) (sym on) (moves s k))

-- ---- a worker runs

abbrev pub StartOnce : Type 0
StartOnce = (seed : ℕ) (s : State) (worker : Serial) → IsSound seed s → count_by (is_start_of worker) (waiting s.requests) ≤ 1

pub not_starting-goes : (t now : Tables) (x : Slot) → is_starting (numbered t.tree x.worker) ≡ false → Moves (noted (note.Stray x.key)) t now → Goes (says_it_runs x) t now
not_starting-goes t now x idle moves = λ seed s sound k.
    let is : is_starting (numbered s.objects x.worker) ≡ false = ap (λ (os : List Object). is_starting (numbered os x.worker)) (sym (kept-tree s t k)) ∙ idle in
    subst (λ b. IsKept (cond b (ran x s) (noted (note.Stray x.key) s)) now) (sym is) (moves s k)

pub starting-goes : (t now : Tables) (x : Slot) → is_starting (numbered t.tree x.worker) ≡ true → Goes (ran x) t now → Goes (says_it_runs x) t now
starting-goes t now x starts goes = λ seed s sound k.
    let is : is_starting (numbered s.objects x.worker) ≡ true = ap (λ (os : List Object). is_starting (numbered os x.worker)) (sym (kept-tree s t k)) ∙ starts in
    subst (λ b. IsKept (cond b (ran x s) (noted (note.Stray x.key) s)) now) (sym is) (goes seed s sound k)

module _ (once : StartOnce) (t a b c now : Tables) (x : Slot) (marks : Moves (λ s. record s { objects = with_mark x.worker mark.Running s.objects }) t a)
    (takes : IsAlone (is_start_of x.worker) a.requests.waiting → Moves (λ s. record s { requests = settled_where (is_start_of x.worker) s.requests }) a b)
    (notes : Moves (noted (note.Running x.name x.key.generation)) b c) where
  pub ran-goes : (taken : Option (Request Due)) → taken ≡ find (is_start_of x.worker) a.requests.waiting → Moves (start_settled taken) c now → Goes (ran x) t now
  ran-goes taken found settles = λ seed s sound k.
      let marked : State = record s { objects = with_mark x.worker mark.Running s.objects } in
      let kept : IsKept marked a = marks s k in
      let waits = kept-waits marked a kept in
      let one : IsAlone (is_start_of x.worker) a.requests.waiting = subst (IsAlone (is_start_of x.worker)) (sym waits) (once seed s x.worker sound) in
      let is : taken ≡ waiting_for (is_start_of x.worker) s.requests = found ∙ ap (find (is_start_of x.worker)) waits in
      let base = settles _ (notes _ (takes one marked kept)) in
      subst
      (λ (o : Option (Request Due)).
      IsKept
      (start_settled o
      (noted (note.Running x.name x.key.generation)
      (record s { objects = with_mark x.worker mark.Running s.objects; requests = settled_where (is_start_of x.worker) s.requests })))
      now)
      is base

pub starts-as : (b : Bool) (name other : List ℕ) → Some name ≡ cond b (Some other) None → (b ≡ true) × (other ≡ name)
starts-as true name other e = (refl, cc)
starts-as false name other e = absurd cc

pub starts-not : (b : Bool) (other : List ℕ) → None ≡ cond b (Some other) None → b ≡ false
starts-not true other e = absurd cc
starts-not false other e = refl

-- ---- the slot of a worker that is up

pub up-key : (xs : List Slot) (w : WorkerKey) (x : Slot) → up_slot xs w ≡ Some x → x.key ≡ w
up-key [] w x e = absurd cc
up-key (y ∷ ys) w x e = at (same_worker y.key w && is_up_phase y.phase) refl e (up-key ys w x)
  where
    at : (b : Bool) → (same_worker y.key w && is_up_phase y.phase) ≡ b → cond b (Some y) (up_slot ys w) ≡ Some x → (up_slot ys w ≡ Some x → x.key ≡ w) → x.key ≡ w
    at true t f later =
        let here : y ≡ x = cc in
        ap (λ (z : Slot). z.key) (sym here) ∙ worker-same y.key w (and_parts (same_worker y.key w) (is_up_phase y.phase) t).0
    at false t f later = later f

-- a slot with its own worker, and with its own Worker
pub speaker-itself : (x : Slot) (w : WorkerKey) (o : Serial) → x.key ≡ w → x.worker ≡ o → speaker x w o ≡ x
speaker-itself x w o key worker = λ i. record x { key = sym key i; worker = sym worker i }

pub same-found : (x y : Slot) → Some x ≡ Some y → x ≡ y
same-found x y e = cc
