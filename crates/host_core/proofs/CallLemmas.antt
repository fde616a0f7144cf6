-- A call is done by the tables as by what is known.
use Rattle.std.proofs.Common.{◌≡◌, ◌<◌, ◌^◌, ◌+◌, ℕ, List, [], ◌∷◌, ◌++◌, length, sym, ap, ◌∙◌, subst, arith}
use Rattle.ms_base.specs.declared.keys.CallKey.{CallKey}
use Rattle.ms_base.specs.declared.keys.Serial.{Serial}
use Rattle.ms_base.specs.declared.keys.WorkerKey.{WorkerKey}
use Rattle.ms_base.specs.declared.op.Op.{Op}
use Rattle.transcript.specs.declared.note.Note.TheVariants as note
use Rattle.object_tree.specs.declared.object.Object.{Object}
use Rattle.pending_calls.specs.declared.waiting.Owner.TheVariants as owner
use Rattle.request_build.specs.declared.built.Draws.{Draws}
use Rattle.request_build.specs.declared.built.Keep.TheVariants as keep
use Rattle.host_model.specs.declared.due.Due.{Due}
use Rattle.host_model.specs.Answer as model
use Rattle.host_model.specs.Answer.{answer}
use Rattle.host_model.specs.Changes.{noted, object_opened, request_issued}
use Rattle.host_model.specs.Sound.{IsSound}
use Rattle.host_model.specs.State.{State, Slot, as_serial, call_key, calls_of, next_call, with_request}
use Rattle.host_model.specs.Step.{answered, called, start_request, worker_wanted}
use Rattle.host_tables.specs.Kept.{IsKept, IsNew, Moves, Seen}
use Rattle.host_tables.specs.LookUps.{counted}
use Rattle.host_tables.specs.declared.tables.Tables.{Tables}
use Rattle.host_core.specs.Answers.{IsAnswer, IsFree, slot_of, worker_of}
use Rattle.host_core.specs.Tables.{Goes}
use Rattle.host_core.specs.declared.answer.Course.{Course}
use Rattle.host_core.specs.declared.answer.Course.TheVariants as code
use Rattle.host_core.proofs.KeptLemmas.{kept-next, kept-tree}
use Rattle.host_core.proofs.NewLemmas.{IdsDiffer, worker-new}

-- ---- an answer is free

is_free : IdsDiffer → (seed : ℕ) (s : State) (t u : Tables) (a : Course) → IsSound seed s → IsKept s t → t.next.serial < 2 ^ 32 → u.tree ≡ t.tree → u.next ≡ t.next → IsFree u a
is_free differ seed s t u (code.AddsWorker name budget) sound k small tree next =
    let objects : u.tree ≡ s.objects = tree ∙ kept-tree s t k in
    let draws : u.next ≡ s.next = next ∙ kept-next s t k in
    let few : s.next.serial < 2 ^ 32 = omega (arith, small, ap (λ (d : Draws). d.serial) (kept-next s t k)) in
    subst (λ (p : List Object × Draws). IsNew p.0 (worker_of p.1 name)) (λ i. (sym objects i, sym draws i)) (worker-new differ seed s name sound few)
is_free differ seed s t u other sound k small tree next = tt

pub called-goes : IdsDiffer → (t a now : Tables) (lane : ℕ) (o : Op) (call : CallKey) (x : Course) → t.next.serial < 2 ^ 32
    → ((s : State) → IsKept s t → IsAnswer o x (answer s o)) → call ≡ call_key lane (counted t.calls lane)
    → Moves (λ s. record s { calls = s.calls ++ call_key lane (calls_of s.calls lane) ∷ [] }) t a → a ≡ record t { calls = a.calls }
    → ((m : model.Answer) → IsAnswer o x m → IsFree a x → Moves (answered call o m) a now) → Goes (called lane o) t now
called-goes differ t a now lane o call x small answers key enters others follows = λ seed s sound k.
    let next : call ≡ next_call s.calls lane = key ∙ ap (call_key lane) (ap (λ (v : Seen). v.calls lane) k.look_ups) in
    let entered : State = record s { calls = s.calls ++ next_call s.calls lane ∷ [] } in
    let free : IsFree a x = is_free differ seed s t a x sound k small (ap (λ (u : Tables). u.tree) others) (ap (λ (u : Tables). u.next) others) in
    subst (λ (c : CallKey). IsKept (answered c o (answer s o) entered) now) next (follows (answer s o) (answers s k) free entered (enters s k))

-- ---- what a call has come to

module _ (t now : Tables) (call : CallKey) (o : Op) where
  pub issued-moves : (a : Tables) (channel : WorkerKey) (under : Serial) (due : Due) (next : Draws) (payload : List ℕ)
      → Moves (request_issued channel (owner.Call call) under due payload) t a → Moves (λ s. record s { next = next }) a now
      → (m : model.Answer) → IsAnswer o (code.Issues channel under due next payload) m → Moves (answered call o m) t now
  issued-moves a channel under due next payload issues draws m (r, is, asked) = λ s k.
      subst (λ (x : model.Answer). IsKept (answered call o x s) now) (sym is)
      (subst
      (λ (p : Serial × Due × Draws). IsKept (request_issued channel (owner.Call call) p.0 p.1 payload (record s { next = p.2 })) now)
      (λ i. (sym asked.under_is i, sym asked.due_is i, sym asked.next_is i))
      (draws _ (issues s k)))

  -- an answer that is told whole
  pub told-moves : (x m : model.Answer) → m ≡ x → Moves (answered call o x) t now → Moves (answered call o m) t now
  told-moves x m is moves = subst (λ (y : model.Answer). Moves (answered call o y) t now) (sym is) moves

-- ---- a Worker

pub wanted-moves : (t a b c d now : Tables) (call : CallKey) (name : List ℕ) (budget : ℕ) (slot : Slot) → slot ≡ slot_of t.kept.slots name budget (as_serial t.next.serial)
    → Moves (λ s. record s { slots = s.slots ++ slot ∷ [] }) t a → Moves (λ s. record s { requests = with_request (start_request call (as_serial t.next.serial)) s.requests }) a b
    → Moves (λ s. record s { next = record t.next { serial = t.next.serial + 1 } }) b c
    → (IsNew c.tree (worker_of t.next name) → Moves (object_opened (worker_of t.next name) keep.Nothing) c d) → Moves (noted (note.Spawn slot.key)) d now
    → IsNew t.tree (worker_of t.next name) → Moves (worker_wanted call name budget) t now
wanted-moves t a b c d now call name budget slot is_slot adds starts draws opens notes new = λ s k.
    let drawn : t.next ≡ s.next = kept-next s t k in
    let slots : t.kept.slots ≡ length s.slots = ap (λ (v : Seen). v.slots_made) k.look_ups in
    let slot_now : slot ≡ slot_of (length s.slots) name budget (as_serial s.next.serial) =
    is_slot ∙ (λ i. slot_of (slots i) name budget (as_serial (drawn i).serial)) in
    let before : State =
    record s {
      requests = with_request (start_request call (as_serial t.next.serial)) s.requests;
      slots = s.slots ++ slot ∷ [];
      next = record t.next { serial = t.next.serial + 1 };
    } in
    let kept : IsKept before c = draws _ (starts _ (adds s k)) in
    let free : IsNew c.tree (worker_of t.next name) =
    subst (λ (objects : List Object). IsNew objects (worker_of t.next name)) (kept-tree s t k ∙ sym (kept-tree before c kept)) new in
    subst
    (λ (p : Slot × Draws).
    IsKept
    (noted (note.Spawn p.0.key)
    (object_opened (worker_of p.1 name) keep.Nothing
    (record s {
      requests = with_request (start_request call (as_serial p.1.serial)) s.requests;
      slots = s.slots ++ p.0 ∷ [];
      next = record p.1 { serial = p.1.serial + 1 };
    })))
    now)
    (λ i. (slot_now i, drawn i)) (notes _ (opens free before kept))
