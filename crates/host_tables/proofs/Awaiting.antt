-- Awaits that settle: how names stand is told by the tables as it is.
use Rattle.std.proofs.Common.{◌≡◌, ℕ, List, [], ◌∷◌, ◌++◌, map, Bool, false, not, ◌&&◌, nat_lt, Option, Some, None, bytes_eq, refl, sym, ap, ◌∙◌, subst}
use Rattle.std.proofs.Math.Path.{fun_ext}
use Rattle.std.specs.List.{AllByRecursion, list_any}
use Rattle.std.proofs.lemmas.Bool.{or_parts}
use Rattle.std.proofs.lemmas.List.{append-nil, map-append}
use Rattle.ms_base.specs.declared.keys.CallKey.{CallKey}
use Rattle.ms_base.specs.declared.keys.Event.{Event}
use Rattle.ms_base.specs.declared.outcome.Outcome.{Outcome}
use Rattle.transcript.specs.declared.note.Note.{Note}
use Rattle.object_tree.specs.declared.object.Object.{Object}
use Rattle.object_tree.specs.Objects.{is_open, named}
use Rattle.host_awaits.specs.declared.entered.Await.{Await}
use Rattle.host_awaits.specs.Awaits.{outcome_of, settled_before, settled_by, times_noted, waiting_before, waiting_by}
use Rattle.host_awaits.specs.Watching.{HasNoneYet, Watched, Watching, awaits_in, looked_at, times_in}
use Rattle.host_model.specs.Changes.{all_noted}
use Rattle.host_model.specs.State.{State, makes_named, waiting}
use Rattle.host_model.specs.Step.{is_given_up, is_hopeless, settle_awaits, settled_note}
use Rattle.host_tables.specs.Kept.{HasLookUps, Hears, IsKept, Moves, Seen, is_lost, is_lost_of, seen_of, seen_in}
use Rattle.host_tables.specs.declared.tables.Tables.{Tables}
use Rattle.host_tables.proofs.Counts.{any-counted}
use Rattle.host_tables.proofs.Parts.{hears-moves, hears-then}

-- ---- how names stand

lost_of : Option Object → Seen → List ℕ → Bool
lost_of None v name = not (nat_lt 0 (v.names name)) && v.failed name
lost_of (Some o) v name = not (is_open o)

lost-known : (s : State) (name : List ℕ) (o : Option Object) → lost_of o (seen_of s) name ≡ is_given_up s name o
unfolding lost_of
lost-known s name None = ap (λ b. not b && list_any (bytes_eq name) s.failed) (sym (any-counted (makes_named name) (waiting s.requests)))
lost-known s name (Some o) = refl

pub lost-hopeless : (s : State) (t : Tables) → HasLookUps s t → (name : List ℕ) → is_lost t.tree t.kept.names t.failed name ≡ is_hopeless s name
unfolding lost_of
lost-hopeless s t k name = at (named t.tree name) ∙ ap (λ (v : Seen). lost_of (named v.objects name) v name) k ∙ lost-known s name (named s.objects name)
  where
    at : (o : Option Object) → is_lost_of o t.kept.names t.failed name ≡ lost_of o (seen_in t) name
    at None = refl
    at (Some o) = refl

-- ---- where the awaits are looked at

abbrev HaveNoneYet : (List ℕ → Event → ℕ) → (List ℕ → Bool) → List Watched → Type 0
HaveNoneYet times hopeless waiting = AllByRecursion (HasNoneYet times hopeless) waiting

-- those that settle are out, with what the laws of awaits say of the others
pub left-kept : (s : State) (t : Tables) (w : Watching) (left : List Await) → ((awaits : List Await) → map (λ (x : Watched). x.awaited) (map looked_at awaits) ≡ awaits)
    → w.waiting ≡ map looked_at left → ((name : List ℕ) (e : Event) → times_in w name e ≡ times_in t.awaits name e) → HaveNoneYet (times_noted s.notes) (is_hopeless s) (map looked_at left)
    → IsKept s t → IsKept (record s { awaits = left }) (record t { awaits = w })
left-kept s t w left looked waiting_now times none k =
    let awaits : awaits_in w ≡ left = ap (map (λ (x : Watched). x.awaited)) waiting_now ∙ looked left in
    let same_times : (name : List ℕ) (e : Event) → times_in w name e ≡ times_noted s.notes name e = λ name e. times name e ∙ ap (λ (v : Seen). v.times name e) k.look_ups in
    record {
      look_ups = λ i. record (k.look_ups i) { awaits = awaits i; times = λ name e. same_times name e i };
      at_rest = subst (HaveNoneYet (times_noted s.notes) (is_hopeless s)) (sym waiting_now) none;
    }

module _ (t now : Tables) (w : Watching) (list : List (CallKey × Outcome)) where
  pub settles-moves : ((times : List ℕ → Event → ℕ) (hopeless : List ℕ → Bool) (awaits : List Await) → HaveNoneYet times hopeless (map looked_at (waiting_by times hopeless awaits)))
      → ((awaits : List Await) → map (λ (x : Watched). x.awaited) (map looked_at awaits) ≡ awaits)
      → (HaveNoneYet (times_in t.awaits) (is_lost t.tree t.kept.names t.failed) t.awaits.waiting → list ≡ settled_by (times_in t.awaits) (is_lost t.tree t.kept.names t.failed) (awaits_in t.awaits))
      → (HaveNoneYet (times_in t.awaits) (is_lost t.tree t.kept.names t.failed) t.awaits.waiting
      → w.waiting ≡ map looked_at (waiting_by (times_in t.awaits) (is_lost t.tree t.kept.names t.failed) (awaits_in t.awaits)))
      → ((name : List ℕ) (e : Event) → times_in w name e ≡ times_in t.awaits name e) → Hears (map settled_note list) (record t { awaits = w }) now → Moves settle_awaits t now
  settles-moves none looked settled waiting_still times heard = λ s k.
      let times_now : times_in t.awaits ≡ times_noted s.notes = ap (λ (v : Seen). v.times) k.look_ups in
      let hopeless_now : is_lost t.tree t.kept.names t.failed ≡ is_hopeless s = fun_ext (lost-hopeless s t k.look_ups) in
      let awaits_now : awaits_in t.awaits ≡ s.awaits = ap (λ (v : Seen). v.awaits) k.look_ups in
      let left : List Await = waiting_by (times_noted s.notes) (is_hopeless s) s.awaits in
      let yet : HaveNoneYet (times_in t.awaits) (is_lost t.tree t.kept.names t.failed) t.awaits.waiting =
      subst (λ (h : List ℕ → Bool). HaveNoneYet (times_in t.awaits) h t.awaits.waiting) (sym hopeless_now)
      (subst (λ (f : List ℕ → Event → ℕ). HaveNoneYet f (is_hopeless s) t.awaits.waiting) (sym times_now) k.at_rest) in
      let list_now : list ≡ settled_by (times_noted s.notes) (is_hopeless s) s.awaits = settled yet ∙ (λ i. settled_by (times_now i) (hopeless_now i) (awaits_now i)) in
      let waiting_now : w.waiting ≡ map looked_at left = waiting_still yet ∙ (λ i. map looked_at (waiting_by (times_now i) (hopeless_now i) (awaits_now i))) in
      let kept = left-kept s t w left looked waiting_now times (none (times_noted s.notes) (is_hopeless s) s.awaits) k in
      let moved = hears-moves (map settled_note list) (record t { awaits = w }) now heard (record s { awaits = left }) kept in
      subst (λ (l : List (CallKey × Outcome)). IsKept (all_noted (map settled_note l) (record s { awaits = left })) now) list_now moved

-- one more of those that have settled is noted
pub hears-settled : (ys : List (CallKey × Outcome)) (y : CallKey × Outcome) (a b c : Tables) → Hears (map settled_note ys) a b → Hears (settled_note y ∷ []) b c → Hears (map settled_note (ys ++ y ∷ [])) a c
hears-settled ys y a b c h k =
    subst (λ (l : List Note). Hears l a c) (sym (map-append settled_note ys (y ∷ []))) (hears-then (map settled_note ys) (settled_note y ∷ []) a b c h k)
