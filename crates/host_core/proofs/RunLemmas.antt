-- What holds of a host from its first entry on.
use Rattle.std.proofs.Common.{◌≡◌, ◌≤◌, ◌<◌, ◌^◌, ◌+◌, ℕ, List, [], ◌∷◌, ◌++◌, length, map, drop, min, nat_lt, cond, Bool, true, false, ◌&&◌, ◌==◌, Some, None, Result, Ok, Err, is_err, OnOk, IfOk, refl, sym, ap, ◌∙◌, subst, arith, length-append}
use Rattle.std.specs.List.{flat_map}
use Rattle.std.proofs.lemmas.List.{append-nil}
use Rattle.std.proofs.lemmas.List.Concat.{flat_map-append, flat_map-cons}
use Rattle.std.proofs.lemmas.List.Sums.{count_by-le-length}
use Rattle.ms_base.specs.declared.applied.Applied.{Applied}
use Rattle.ms_base.specs.declared.applied.ApplyFault.{ApplyFault}
use Rattle.ms_base.specs.declared.applied.ApplyFault.TheVariants as fault
use Rattle.ms_base.specs.declared.entry.Entry.{Entry}
use Rattle.ms_base.specs.declared.entry.Entry.TheVariants as entry
use Rattle.ms_base.specs.declared.keys.CallKey.{CallKey}
use Rattle.ms_base.specs.declared.keys.WorkerKey.{WorkerKey}
use Rattle.channel_frames.specs.Frames.{rest_of, rest_within, is_broken}
use Rattle.journal_text.specs.Written.{entry_line, head_line, journal_size, max_journal, max_told}
use Rattle.transcript.specs.Lines.{note_line}
use Rattle.request_build.specs.declared.built.Draws.{Draws}
use Rattle.request_build.specs.Known.{HaveFew}
use Rattle.host_laws.specs.Drawn.{DrawsWithin}
use Rattle.host_model.specs.Run.{Journal, HostView, with_entry, after, state_of, notes_of, transcript_of}
use Rattle.host_model.specs.Sound.{IsSound}
use Rattle.host_model.specs.State.{State, Slot, calls_of, is_up, start, stream_of}
use Rattle.host_tables.specs.Kept.{IsKept, Seen}
use Rattle.host_tables.specs.LookUps.{SlotsView, counted, shown_of}
use Rattle.host_tables.specs.declared.tables.Tables.{Tables}
use Rattle.host_core.specs.Apply.{fault_of, is_unbuilt, size_with}
use Rattle.host_core.specs.LookUps.{unread_of}
use Rattle.host_core.specs.Tables.{CanHear, HasRoom, IsHeld, IsRun}
use Rattle.host_core.specs.declared.readers.Readers.{Readers}
use Rattle.host_core.proofs.KeptLemmas.{kept-next, kept-slots}

abbrev pub journal : ℕ → List Entry → Journal
journal seed entries = record { seed = seed; entries = entries }

none-unread : rest_of [] ≡ []
unfolding rest_within
none-unread = refl

kept-notes : (s : State) (t : Tables) → IsKept s t → t.notes ≡ s.notes
kept-notes s t k = ap (λ (v : Seen). v.notes) k.look_ups

-- ---- the first

pub run-new : ((seed : ℕ) → seed < 2 ^ 60 → IsSound seed (start seed)) → (seed size : ℕ) (t : Tables) (r : Readers) → seed < 2 ^ 60 → size ≡ length (head_line seed) → size ≤ 31
    → IsKept (start seed) t → t.slots.shown ≡ [] → ((w : WorkerKey) → unread_of r w ≡ []) → IsRun (journal seed []) false size t r
run-new sound seed size t r fits is few kept shown none = record {
  seed_fits = fits;
  size_is = is ∙ ap length (sym (append-nil (head_line seed)));
  within_limit = omega (arith, few);
  notes_are = kept-notes (start seed) t kept;
  slots_show = shown;
  held = λ e. record { sound = sound seed fits; kept = kept; read = λ w. none w ∙ sym none-unread };
}

-- ---- one more

size-more : (seed : ℕ) (es : List Entry) (e : Entry) → journal_size seed (es ++ e ∷ []) ≡ journal_size seed es + length (entry_line e)
size-more seed es e =
    let head = head_line seed in
    let lines = flat_map entry_line es in
    omega (
      arith,
      length-append head (flat_map entry_line (es ++ e ∷ [])),
      ap length (flat_map-append entry_line es (e ∷ [])),
      length-append lines (flat_map entry_line (e ∷ [])),
      ap length (flat_map-cons entry_line e []),
      length-append (entry_line e) [],
      length-append head lines,
    )

-- other things of the slots are shown
shows-kept : (s : State) (t : Tables) (slots : SlotsView) → slots.slots ≡ t.slots.slots → IsKept s t → IsKept s (record t { slots = slots })
shows-kept s t slots same k =
    let all : slots.slots ≡ s.slots = same ∙ kept-slots s t k in record { look_ups = λ i. record (k.look_ups i) { slots = all i }; at_rest = k.at_rest }

abbrev pub GoesOn : Type 0
GoesOn = (j : Journal) (e : Entry) → state_of (with_entry j e) ≡ after (state_of j) e

pub run-more : GoesOn → (seed : ℕ) (es es' : List Entry) (e : Entry) (spent : Bool) (size : ℕ) (t : Tables) (slots : SlotsView) (r : Readers)
    → seed < 2 ^ 60 → es' ≡ es ++ e ∷ [] → size ≡ journal_size seed es + length (entry_line e) → size ≤ max_journal
    → IsHeld seed (after (state_of (journal seed es)) e) t r → slots ≡ record t.slots { shown = map shown_of t.slots.slots }
    → IsRun (journal seed es') spent size (record t { slots = slots }) r
run-more on seed es es' e spent size t slots r fits longer grown limit h shows =
    let s = after (state_of (journal seed es)) e in
    let next : s ≡ state_of (journal seed es') =
    sym (on (journal seed es) e) ∙ ap (λ (fs : List Entry). state_of (journal seed fs)) (sym longer) in
    record {
      seed_fits = fits;
      size_is = grown ∙ sym (size-more seed es e) ∙ ap (journal_size seed) (sym longer);
      within_limit = limit;
      notes_are = kept-notes s t h.kept ∙ ap (λ (x : State). x.notes) next;
      slots_show = ap (λ (x : SlotsView). x.shown) shows ∙ ap (map shown_of) (kept-slots s t h.kept) ∙ ap (λ (x : State). map shown_of x.slots) next;
      held = λ u.
          subst (λ (x : State). IsHeld seed x (record t { slots = slots }) r) next
          (record { sound = h.sound; kept = shows-kept s t slots (ap (λ (x : SlotsView). x.slots) shows) h.kept; read = h.read });
    }

-- ---- room for what a call draws

pub run-room : (j : Journal) (spent : Bool) (size : ℕ) (t : Tables) (r : Readers) → DrawsWithin (journal_size j.seed j.entries) (state_of j) → spent ≡ false → IsRun j spent size t r → HasRoom t
run-room j spent size t r drawn unspent run =
    let s = state_of j in
    let held = run.held unspent in
    let k = held.kept in
    let next = kept-next s t k in
    let few : journal_size j.seed j.entries ≤ max_journal = omega (arith, run.size_is, run.within_limit) in
    let serial : t.next.serial ≡ s.next.serial = ap (λ (d : Draws). d.serial) next in
    let ssrc : t.next.ssrc ≡ s.next.ssrc = ap (λ (d : Draws). d.ssrc) next in
    let seed : t.next.seed ≡ s.next.seed = ap (λ (d : Draws). d.seed) next in
    let fits = held.sound.fits in
    record {
      known = record {
        few =
            subst (λ (v : Seen). HaveFew v.producers v.consumers) (sym k.look_ups) fits.whole.few;
        fits = record {
          seed = omega (arith, seed, fits.seed);
          serial = omega (arith, serial, fits.whole.from_one);
          last_serial = omega (arith, serial, drawn.serials, few);
          last_ssrc = omega (arith, ssrc, drawn.ssrcs, few);
        };
      };
      calls = λ lane.
          let told : counted t.calls lane ≡ calls_of s.calls lane = ap (λ (v : Seen). v.calls lane) k.look_ups in
          omega (arith, told, count_by-le-length (λ (c : CallKey). c.lane == lane) s.calls, drawn.calls, few);
    }

-- ---- what is built

module _ (cut : (first later : List ℕ) → is_broken (first ++ later) ≡ is_broken (rest_of first ++ later)) where
  unbuilt-chunk : (worker : WorkerKey) (bytes : List ℕ) (seed : ℕ) (s : State) (t : Tables) (r : Readers) → IsHeld seed s t r
      → (is_up t.slots.slots worker && is_broken (unread_of r worker ++ bytes)) ≡ is_unbuilt s (entry.Chunk worker bytes)
  unbuilt-chunk worker bytes seed s t r h =
      ap (λ (xs : List Slot). is_up xs worker && is_broken (unread_of r worker ++ bytes)) (kept-slots s t h.kept)
      ∙ ap (λ b. is_up s.slots worker && b) (ap (λ (l : List ℕ). is_broken (l ++ bytes)) (h.read worker) ∙ sym (cut (stream_of s.streams worker) bytes))

  pub built-heard : (e : Entry) (seed : ℕ) (s : State) (t : Tables) (r : Readers) → IsHeld seed s t r → is_unbuilt s e ≡ false → CanHear t r e
  built-heard (entry.Call lane o) seed s t r h built = built
  built-heard (entry.Await lane name event count) seed s t r h built = tt
  built-heard (entry.Spawned worker up) seed s t r h built = tt
  built-heard (entry.Chunk worker bytes) seed s t r h built = unbuilt-chunk worker bytes seed s t r h ∙ built
  built-heard (entry.Gone worker cause) seed s t r h built = tt
  built-heard entry.Stop seed s t r h built = tt

-- ---- a host that has run out of memory stays so

pub spent-still : (h : HostView) (e : Entry) (f : ApplyFault) → Some f ≡ fault_of h e → f ≡ fault.NoMemory → h ≡ record h { spent = true }
spent-still h e f is same = at h.spent refl (nat_lt max_journal (size_with h.journal e)) (is_unbuilt (state_of h.journal) e) is
  where
    at : (b : Bool) → h.spent ≡ b → (c d : Bool)
        → Some f ≡ cond b (Some fault.NoMemory) (cond c (Some (fault.Full (min (size_with h.journal e) max_told))) (cond d (Some fault.Unbuilt) None)) → h ≡ record h { spent = true }
    at true spent c d g = λ i. record h { spent = spent i }
    at false spent true d g = let other : Some fault.NoMemory ≡ Some (fault.Full (min (size_with h.journal e) max_told)) = ap Some (sym same) ∙ g in absurd cc
    at false spent false true g = let other : Some fault.NoMemory ≡ Some fault.Unbuilt = ap Some (sym same) ∙ g in absurd cc
    at false spent false false g = absurd cc

-- ---- what an entry adds

-- a result that is no error
pub goes-on : {T E : Type 0} (P : Type 0) (r : Result T E) (b : Bool) → b ≡ is_err r → b ≡ false → OnOk r P → P
goes-on P (Ok x) b e f p = p
goes-on P (Err x) b e f p = absurd (no (sym e ∙ f))
  where
    no : true ≡ false → ⊥
    no h = cc

abbrev pub LinesGoOn : Type 0
LinesGoOn = (j : Journal) (e : Entry) → transcript_of (with_entry j e) ≡ transcript_of j ++ flat_map note_line (drop (length (notes_of j)) (notes_of (with_entry j e)))

pub lines-more : LinesGoOn → (r : Result Applied ApplyFault) (old now : HostView) (e : Entry) → OnOk r (now ≡ record old { journal = with_entry old.journal e })
    → IfOk r (λ at. at.first_note ≡ length (notes_of old.journal))
    → IfOk r (λ at. transcript_of now.journal ≡ transcript_of old.journal ++ flat_map note_line (drop at.first_note (notes_of now.journal)))
lines-more on (Ok at) old now e is first =
    let before = transcript_of old.journal in
    ap (λ (h : HostView). transcript_of h.journal) is ∙ on old.journal e
    ∙ ap (λ n. before ++ flat_map note_line (drop n (notes_of (with_entry old.journal e)))) (sym first)
    ∙ ap (λ (h : HostView). before ++ flat_map note_line (drop at.first_note (notes_of h.journal))) (sym is)
lines-more on (Err f) old now e is first = tt
