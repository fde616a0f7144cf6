-- A whole journal is its micro steps, one after another.
use Rattle.std.proofs.Common.{◌≡◌, ℕ, zero, suc, List, [], ◌∷◌, ◌++◌, length, map, take, drop, Some, refl, sym, ap, ◌∙◌, subst, append_assoc, slice_get, flat_map}
use Rattle.std.proofs.Math.Seq.{drop-append_seam}
use Rattle.std.proofs.lemmas.List.{append-nil}
use Rattle.std.proofs.lemmas.List.Concat.{flat_map-append, flat_map-cons}
use Rattle.ms_base.specs.declared.entry.Entry.{Entry}
use Rattle.transcript.specs.Lines.{note_line}
use Rattle.transcript.specs.declared.note.Note.{Note}
use Rattle.host_model.specs.Run.{Journal, Moment, with_entry, micros, after, after_all, state_of, notes_of, transcript_of, moment, moments, trace_from}
use Rattle.host_model.specs.State.{State, start}
use Rattle.host_model.specs.Step.{Micro, step, steps}

-- ---- one after another

pub steps_append : (s : State) (ms ns : List Micro) → steps s (ms ++ ns) ≡ steps (steps s ms) ns
steps_append s [] ns = refl
steps_append s (m ∷ ms) ns = steps_append (step s m) ms ns

pub after_all_append : (s : State) (es ds : List Entry) → after_all s (es ++ ds) ≡ after_all (after_all s es) ds
after_all_append s [] ds = refl
after_all_append s (e ∷ es) ds = after_all_append (after s e) es ds

-- what each micro step keeps holds after several
pub along_steps : (P : State → Type 0) → ((s : State) (m : Micro) → P s → P (step s m)) → (s : State) (ms : List Micro) → P s → P (steps s ms)
along_steps P each s [] h = h
along_steps P each s (m ∷ ms) h = along_steps P each (step s m) ms (each s m h)

-- ---- the trace is the moments of all micro steps

abbrev pub all_micros : State → List Entry → List Micro
all_micros s [] = []
all_micros s (e ∷ es) = micros s e ++ all_micros (after s e) es

moments-append : (s : State) (ms ns : List Micro) → moments s (ms ++ ns) ≡ moments s ms ++ moments (steps s ms) ns
moments-append s [] ns = refl
moments-append s (m ∷ ms) ns = ap (λ (ts : List Moment). moment s m ∷ ts) (moments-append (step s m) ms ns)

trace-moments : (s : State) (es : List Entry) → trace_from s es ≡ moments s (all_micros s es)
trace-moments s [] = refl
trace-moments s (e ∷ es) =
    ap (λ (ts : List Moment). moments s (micros s e) ++ ts) (trace-moments (after s e) es)
    ∙ sym (moments-append s (micros s e) (all_micros (after s e) es))

after_all-steps : (s : State) (es : List Entry) → after_all s es ≡ steps s (all_micros s es)
after_all-steps s [] = refl
after_all-steps s (e ∷ es) = after_all-steps (after s e) es ∙ sym (steps_append s (micros s e) (all_micros (after s e) es))

abbrev pub micros_in : List Moment → List Micro
micros_in ts = map (λ (t : Moment). t.micro) ts

micros-moments : (s : State) (ms : List Micro) → micros_in (moments s ms) ≡ ms
micros-moments s [] = refl
micros-moments s (m ∷ ms) = ap (λ (ns : List Micro). m ∷ ns) (micros-moments (step s m) ms)

pub state-trace : (s : State) (es : List Entry) → after_all s es ≡ steps s (micros_in (trace_from s es))
state-trace s es =
    after_all-steps s es ∙ ap (steps s) (sym (micros-moments s (all_micros s es))) ∙ ap (λ (ts : List Moment). steps s (micros_in ts)) (sym (trace-moments s es))

-- ---- what was known before a moment

before-moments : (s : State) (ms : List Micro) (i : ℕ) (t : Moment) → slice_get (moments s ms) i ≡ Some t → t.before ≡ steps s (micros_in (take i (moments s ms)))
before-moments s [] i t e = absurd cc
before-moments s (m ∷ ms) zero t e = let here : moment s m ≡ t = cc in ap (λ (u : Moment). u.before) (sym here)
before-moments s (m ∷ ms) (suc i) t e = before-moments (step s m) ms i t e

pub before-trace : (s : State) (es : List Entry) (i : ℕ) (t : Moment) → slice_get (trace_from s es) i ≡ Some t → t.before ≡ steps s (micros_in (take i (trace_from s es)))
before-trace s es =
    subst (λ (ts : List Moment). (i : ℕ) (t : Moment) → slice_get ts i ≡ Some t → t.before ≡ steps s (micros_in (take i ts))) (sym (trace-moments s es))
    (before-moments s (all_micros s es))

-- what holds then
pub at-trace : (P : State → Type 0) → ((s : State) (m : Micro) → P s → P (step s m)) → (s : State) → P s → (es : List Entry) (i : ℕ) (t : Moment) → slice_get (trace_from s es) i ≡ Some t
    → P t.before
at-trace P each s h es i t e = subst P (sym (before-trace s es i t e)) (along_steps P each s (micros_in (take i (trace_from s es))) h)

-- ---- notes stand

-- those before stand in front of those now
abbrev Adds : List Note → List Note → Type 0
Adds xs ys = ys ≡ xs ++ drop (length xs) ys

-- a micro step takes back no note
abbrev pub NotesStand : Type 0
NotesStand = (s : State) (m : Micro) → Adds s.notes (step s m).notes

none-added : (ns : List Note) → Adds ns ns
none-added ns =
    sym (append-nil ns) ∙ ap (λ (ms : List Note). ns ++ ms) (sym (ap (drop (length ns)) (sym (append-nil ns)) ∙ drop-append_seam ns []))

adds-then : (xs ys zs : List Note) → Adds xs ys → Adds ys zs → Adds xs zs
adds-then xs ys zs h k =
    let one = drop (length xs) ys in
    let two = drop (length ys) zs in
    let whole : zs ≡ xs ++ (one ++ two) = k ∙ ap (λ (ns : List Note). ns ++ two) h ∙ append_assoc xs one two in
    whole ∙ ap (λ (ns : List Note). xs ++ ns) (sym (ap (drop (length xs)) whole ∙ drop-append_seam xs (one ++ two)))

-- ---- the notes are those of the moments, in order

abbrev pub notes_in : List Moment → List Note
notes_in ts = flat_map (λ (t : Moment). t.notes) ts

notes-moments : NotesStand → (s : State) (ms : List Micro) → (steps s ms).notes ≡ s.notes ++ notes_in (moments s ms)
notes-moments stand s [] = sym (append-nil s.notes)
notes-moments stand s (m ∷ ms) =
    notes-moments stand (step s m) ms
    ∙ ap (λ (ns : List Note). ns ++ notes_in (moments (step s m) ms)) (stand s m)
    ∙ append_assoc s.notes (moment s m).notes (notes_in (moments (step s m) ms))
    ∙ ap (λ (ns : List Note). s.notes ++ ns) (sym (flat_map-cons (λ (t : Moment). t.notes) (moment s m) (moments (step s m) ms)))

pub notes-trace : NotesStand → (s : State) (es : List Entry) → (after_all s es).notes ≡ s.notes ++ notes_in (trace_from s es)
notes-trace stand s es =
    ap (λ (t : State). t.notes) (after_all-steps s es) ∙ notes-moments stand s (all_micros s es)
    ∙ ap (λ (ts : List Moment). s.notes ++ notes_in ts) (sym (trace-moments s es))

-- ---- one entry more

pub state-last : (j : Journal) (e : Entry) → state_of (with_entry j e) ≡ after (state_of j) e
state-last j e = after_all_append (start j.seed) j.entries (e ∷ [])

steps-add : NotesStand → (s : State) (ms : List Micro) → Adds s.notes (steps s ms).notes
steps-add stand s [] = none-added s.notes
steps-add stand s (m ∷ ms) = adds-then s.notes (step s m).notes (steps (step s m) ms).notes (stand s m) (steps-add stand (step s m) ms)

pub notes-last : NotesStand → (j : Journal) (e : Entry) → notes_of (with_entry j e) ≡ notes_of j ++ drop (length (notes_of j)) (notes_of (with_entry j e))
notes-last stand j e =
    subst (λ (s : State). Adds (notes_of j) s.notes) (sym (state-last j e)) (steps-add stand (state_of j) (micros (state_of j) e))

pub lines-last : NotesStand → (j : Journal) (e : Entry)
    → transcript_of (with_entry j e) ≡ transcript_of j ++ flat_map note_line (drop (length (notes_of j)) (notes_of (with_entry j e)))
lines-last stand j e =
    ap (flat_map note_line) (notes-last stand j e) ∙ flat_map-append note_line (notes_of j) (drop (length (notes_of j)) (notes_of (with_entry j e)))
