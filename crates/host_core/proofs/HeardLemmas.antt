-- What a worker says is heard by the tables as by what is known.
use Rattle.std.proofs.Common.{◌≡◌, List, Option, Some, None, sym, ap, ◌∙◌, subst}
use Rattle.ms_base.specs.declared.keys.Serial.{Serial}
use Rattle.ms_base.specs.declared.keys.WorkerKey.{WorkerKey}
use Rattle.channel_msgs.specs.View.{MessageView}
use Rattle.host_model.specs.State.{State, Slot, up_slot}
use Rattle.host_model.specs.Step.{Says, hear, heard, heard_by}
use Rattle.host_tables.specs.Kept.{IsKept, Moves}
use Rattle.host_tables.specs.declared.tables.Tables.{Tables}
use Rattle.host_core.specs.Tables.{Goes, speaker}
use Rattle.host_core.proofs.KeptLemmas.{kept-slots}
use Rattle.host_core.proofs.NoticeLemmas.{speaker-itself, up-key}

-- where no soundness is needed
pub moves-go : (f : State → State) (t now : Tables) → Moves f t now → Goes f t now
moves-go f t now moves = λ seed s sound k. moves s k

pub silent-goes : (t : Tables) (w : WorkerKey) (said : Option MessageView) → None ≡ up_slot t.slots.slots w → Goes (λ s. hear s (Says w said)) t t
silent-goes t w said none = λ seed s sound k.
    let is : up_slot s.slots w ≡ None = ap (λ (xs : List Slot). up_slot xs w) (sym (kept-slots s t k)) ∙ sym none in
    subst (λ (x : Option Slot). IsKept (heard_by x said s) t) (sym is) k

pub heard-goes : (t now : Tables) (w : WorkerKey) (object : Serial) (x : Slot) (m said : Option MessageView) → Some x ≡ up_slot t.slots.slots w → x.worker ≡ object → m ≡ said
    → Goes (heard (speaker x w object) said) t now → Goes (λ s. hear s (Says w m)) t now
heard-goes t now w object x m said found worker read goes = λ seed s sound k.
    let is : up_slot s.slots w ≡ Some x = ap (λ (xs : List Slot). up_slot xs w) (sym (kept-slots s t k)) ∙ sym found in
    let key : x.key ≡ w = up-key t.slots.slots w x (sym found) in
    let here : IsKept (heard x said s) now = subst (λ (y : Slot). IsKept (heard y said s) now) (speaker-itself x w object key worker) (goes seed s sound k) in
    subst (λ (y : Option Slot). IsKept (heard_by y m s) now) (sym is) (subst (λ (n : Option MessageView). IsKept (heard x n s) now) (sym read) here)
