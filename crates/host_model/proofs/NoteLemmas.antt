-- Notes stand: each small change only adds some behind the others.
use Rattle.std.proofs.Common.{◌≡◌, ℕ, List, [], ◌∷◌, ◌++◌, length, map, drop, refl, sym, ap, ◌∙◌, append_assoc}
use Rattle.std.proofs.Math.Seq.{drop-append_seam}
use Rattle.std.proofs.lemmas.List.{append-nil}
use Rattle.ms_base.specs.declared.outcome.Outcome.{Outcome}
use Rattle.transcript.specs.declared.note.Note.{Note}
use Rattle.transcript.specs.declared.note.Note.TheVariants as note
use Rattle.object_tree.specs.Falls.{falls, with_closed}
use Rattle.pending_calls.specs.declared.waiting.Owner.{Owner}
use Rattle.pending_calls.specs.declared.waiting.Owner.TheVariants as owner
use Rattle.host_awaits.specs.Awaits.{settled_by, times_noted}
use Rattle.host_model.specs.State.{State}
use Rattle.host_model.specs.Changes.{opened, owner_settled}
use Rattle.host_model.specs.Falls.{closed_notes}
use Rattle.host_model.specs.Step.{Micro, first_worker, is_hopeless, new_worker, settled_note, step}
use Rattle.host_model.proofs.Changes.{Change, Going, once-entered, step-is, still, both, notes, slots, streams, settles_call, awaits, asks_by, wants, asks_to_close, takes, takes_none, opens, settles_taken, marks, falls_with, settles_awaits}

-- some notes were added behind the others
record Adds (before now : List Note) : Type 0 where
  added : List Note
  is : now ≡ before ++ added

none-added : (ns : List Note) → Adds ns ns
none-added ns = record { added = []; is = sym (append-nil ns) }

some-added : (ns ms : List Note) → Adds ns (ns ++ ms)
some-added ns ms = record { added = ms; is = refl }

one-added : (ns : List Note) (n : Note) → Adds ns (ns ++ n ∷ [])
one-added ns n = some-added ns (n ∷ [])

adds-then : {xs ys zs : List Note} → Adds xs ys → Adds ys zs → Adds xs zs
adds-then {xs} {ys} {zs} h k = record { added = h.added ++ k.added; is = k.is ∙ ap (λ (ns : List Note). ns ++ k.added) h.is ∙ append_assoc xs h.added k.added }

owner-adds : (s : State) (o : Owner) (outcome : Outcome) (names : List (List ℕ)) → Adds s.notes (owner_settled o outcome names s).notes
owner-adds s (owner.Call call) outcome names = one-added s.notes (note.Settled call outcome)
owner-adds s (owner.Job call part) outcome names = none-added s.notes
owner-adds s owner.Close outcome names = none-added s.notes
owner-adds s owner.Follow outcome names = none-added s.notes

change-adds : {g h : Going} → Change g h → Adds g.state.notes h.state.notes
change-adds {g} still = none-added g.state.notes
change-adds (both x y) = adds-then (change-adds x) (change-adds y)
change-adds {g} (notes ns plain) = some-added g.state.notes ns
change-adds {g} (slots worker) = none-added g.state.notes
change-adds {g} (streams xs) = none-added g.state.notes
change-adds {g} (settles_call call outcome names) = one-added g.state.notes (note.Settled call outcome)
change-adds {g} (awaits a) = none-added g.state.notes
change-adds {g} (asks_by call op r channel payload is) = one-added g.state.notes (note.Sent channel payload)
change-adds (wants {calls} {taken} {s} call name budget) =
    adds-then (one-added s.notes (opened (new_worker s name))) (one-added (s.notes ++ opened (new_worker s name) ∷ []) (note.Spawn (first_worker s.slots)))
change-adds {g} (asks_to_close channel parent asked left) = one-added g.state.notes _
change-adds {g} (takes key r e) = none-added g.state.notes
change-adds {g} (takes_none key e) = none-added g.state.notes
change-adds {g} (opens r object keeps o is same closed) = one-added g.state.notes (opened o)
change-adds (settles_taken {calls} {taken} {s} r outcome names) = owner-adds s r.owner outcome names
change-adds {g} (marks serial m keeps) = none-added g.state.notes
change-adds (falls_with {calls} {s} roots why) =
    some-added s.notes (closed_notes (with_closed (falls s.objects roots) roots why s.objects) (falls s.objects roots))
change-adds (settles_awaits {calls} {taken} {s}) = some-added s.notes (map settled_note (settled_by (times_noted s.notes) (is_hopeless s) s.awaits))

adds-drop : (xs ys : List Note) → Adds xs ys → ys ≡ xs ++ drop (length xs) ys
adds-drop xs ys h = h.is ∙ ap (λ (ns : List Note). xs ++ ns) (sym (ap (drop (length xs)) h.is ∙ drop-append_seam xs h.added))

pub notes-stand : (s : State) (m : Micro) → (step s m).notes ≡ s.notes ++ drop (length s.notes) (step s m).notes
notes-stand s m =
    let st = step-is s m in
    adds-drop s.notes (step s m).notes
    (adds-then
    (once-entered (λ (g : Going). Adds s.notes g.state.notes) s (λ lane. none-added s.notes) (λ worker. none-added s.notes) (none-added s.notes) m st.start st.entered)
    (change-adds st.change))
