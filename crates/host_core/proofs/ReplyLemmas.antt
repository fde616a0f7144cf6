-- A response is heard by the tables as by what is known.
use Rattle.std.proofs.Common.{◌≡◌, ◌≤◌, ◌<◌, ◌^◌, ℕ, List, [], Option, Some, None, sym, ap, ◌∙◌, subst, arith, count_by}
use Rattle.std.specs.List.{find}
use Rattle.serde_json.specs.Data.{Data}
use Rattle.ms_base.specs.declared.keys.Serial.{Serial}
use Rattle.ms_base.specs.declared.keys.WorkerKey.{WorkerKey}
use Rattle.channel_msgs.specs.View.{AnswerView}
use Rattle.ms_base.specs.declared.outcome.Outcome.TheVariants as outcome
use Rattle.transcript.specs.declared.note.Note.TheVariants as note
use Rattle.object_tree.specs.declared.object.Object.{Object}
use Rattle.pending_calls.specs.declared.waiting.Owner.{Owner}
use Rattle.request_build.specs.declared.built.Draws.{Draws}
use Rattle.request_build.specs.declared.built.Keep.{Keep}
use Rattle.reply_contents.specs.declared.content.Flags.{Flags}
use Rattle.host_requests.specs.declared.request.Request.{Request}
use Rattle.host_requests.specs.declared.request.Via.{Via}
use Rattle.host_requests.specs.Requests.{is_on}
use Rattle.host_model.specs.declared.due.Due.{Due}
use Rattle.host_model.specs.declared.due.Due.TheVariants as due
use Rattle.host_model.specs.Changes.{noted, object_opened, owner_settled}
use Rattle.host_model.specs.Sound.{IsSound}
use Rattle.host_model.specs.State.{State, settled_where, waiting, waiting_for}
use Rattle.host_model.specs.Step.{accepted_by, made, opened_by, replied, replied_to, settled_with}
use Rattle.host_tables.specs.Kept.{IsAlone, IsKept, IsNew, Moves}
use Rattle.host_tables.specs.declared.tables.Tables.{Tables}
use Rattle.host_core.specs.Tables.{Goes, IsDueNew, flagged_by}
use Rattle.host_core.proofs.KeptLemmas.{kept-next, kept-tree, kept-waits}
use Rattle.host_core.proofs.NewLemmas.{IdsDiffer, due-new}

abbrev pub AreAlone : Type 0
AreAlone = (seed : ℕ) (s : State) (worker : WorkerKey) (id : ℕ) → IsSound seed s → count_by (is_on worker id) (waiting s.requests) ≤ 1

module _ (alone : AreAlone) (differ : IdsDiffer) (t : Tables) (small : t.next.serial < 2 ^ 32) (worker : WorkerKey) (id : ℕ) (answer : AnswerView) where
  pub replied-goes : (mid now : Tables) (r : Request Due) → Some r ≡ find (is_on worker id) t.requests.waiting
      → (IsAlone (is_on worker id) t.requests.waiting → Moves (λ s. record s { requests = settled_where (is_on worker id) s.requests }) t mid)
      → (IsDueNew mid.tree r.due → Moves (settled_with answer r) mid now) → Goes (replied worker id answer) t now
  replied-goes mid now r found takes settles = λ seed s sound k.
      let waits = kept-waits s t k in
      let one : IsAlone (is_on worker id) t.requests.waiting = subst (IsAlone (is_on worker id)) (sym waits) (alone seed s worker id sound) in
      let taken : State = record s { requests = settled_where (is_on worker id) s.requests } in
      let kept : IsKept taken mid = takes one s k in
      let is : waiting_for (is_on worker id) s.requests ≡ Some r = ap (find (is_on worker id)) (sym waits) ∙ sym found in
      let room : s.next.serial ≤ 2 ^ 32 = omega (arith, small, ap (λ (d : Draws). d.serial) (kept-next s t k)) in
      let new : IsDueNew mid.tree r.due = subst (λ (os : List Object). IsDueNew os r.due) (sym (kept-tree taken mid kept)) (due-new differ seed s sound room (is_on worker id) r is) in
      subst (λ (o : Option (Request Due)). IsKept (replied_to o worker id answer s) now) (sym is) (settles new taken kept)

pub late-goes : (t mid now : Tables) (worker : WorkerKey) (id : ℕ) (answer : AnswerView) → None ≡ find (is_on worker id) t.requests.waiting
    → Moves (λ s. s) t mid → Moves (noted (note.Late worker id)) mid now → Goes (replied worker id answer) t now
late-goes t mid now worker id answer found same notes = λ seed s sound k.
    let is : waiting_for (is_on worker id) s.requests ≡ None = ap (find (is_on worker id)) (sym (kept-waits s t k)) ∙ sym found in
    subst (λ (o : Option (Request Due)). IsKept (replied_to o worker id answer s) now) (sym is) (notes s (same s k))

-- ---- what was accepted

pub opens-moves : (t now : Tables) (r : Request Due) (object : Object) (keeps : Keep) (content : Option Data) → r.due ≡ due.Opens object keeps
    → (IsNew t.tree object
    → (via : Via) (under : Serial)
    → Moves (opened_by (record { via = via; owner = r.owner; under = under; due = due.Opens object keeps }) keeps (made object object.kind content)) t now)
    → IsDueNew t.tree r.due → Moves (accepted_by r.due content r) t now
opens-moves t now r object keeps content e opens =
    subst (λ (d : Due). IsDueNew t.tree d → Moves (accepted_by d content (record r { due = d })) t now) (sym e) (λ new. opens new r.via r.under)

-- ---- the object that it makes

new-flagged : (objects : List Object) (flags : Option Flags) (o : Object) → IsNew objects o → IsNew objects (flagged_by flags o)
new-flagged objects None o h = h
new-flagged objects (Some f) o h = record { fresh = h.fresh; apart = h.apart }

pub opened-moves : (t mid now : Tables) (who : Owner) (object opened : Object) (keeps : Keep) (flags : Option Flags) (found : Option Object) → opened ≡ flagged_by flags object
    → found ≡ Some (flagged_by flags object) → (IsNew t.tree opened → Moves (object_opened opened keeps) t mid) → Moves (owner_settled who outcome.Done []) mid now
    → IsNew t.tree object → (via : Via) (under : Serial)
    → Moves (opened_by (record { via = via; owner = who; under = under; due = due.Opens object keeps }) keeps found) t now
opened-moves t mid now who object opened keeps flags found is is_found opens settles new via under = λ s k.
    let free : IsNew t.tree opened = subst (IsNew t.tree) (sym is) (new-flagged t.tree flags object new) in
    subst (λ (o : Option Object). IsKept (opened_by (record { via = via; owner = who; under = under; due = due.Opens object keeps }) keeps o s) now)
    (ap Some is ∙ sym is_found)
    (settles _ (opens free s k))
