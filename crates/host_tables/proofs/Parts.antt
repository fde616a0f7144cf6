-- What becomes of the look-ups and of the awaits at rest, part by part.
use Rattle.std.proofs.Common.{◌≡◌, ℕ, ◌+◌, List, [], ◌∷◌, ◌++◌, map, Bool, true, false, not, ◌&&◌, ◌||◌, ◌==◌, cond, length, take, take_all, Option, Some, None, Result, Ok, Err, OnOk, OnErr, bytes_eq, nat_lt, refl, sym, ap, ◌∙◌, subst, arith, add-zero, append_assoc, length-append}
use Rattle.std.specs.List.{AllByRecursion, list_any}
use Rattle.std.proofs.lemmas.List.{append-nil, length-map, map-append, take-append-le}
use Rattle.ms_base.specs.declared.keys.CallKey.{CallKey}
use Rattle.ms_base.specs.declared.keys.Event.{Event}
use Rattle.ms_base.specs.declared.keys.WorkerKey.{WorkerKey}
use Rattle.ms_base.specs.declared.outcome.Outcome.{Outcome}
use Rattle.transcript.specs.declared.note.Note.{Note}
use Rattle.transcript.specs.declared.note.Note.TheVariants as note
use Rattle.object_tree.specs.declared.object.Object.{Object}
use Rattle.object_tree.specs.Objects.{named}
use Rattle.request_build.specs.declared.built.Draws.{Draws}
use Rattle.request_build.specs.declared.kept.Kept.{Kept}
use Rattle.request_build.specs.declared.names.Names.{Names}
use Rattle.request_build.specs.Counts.{one_if, times_named}
use Rattle.host_awaits.specs.Awaits.{counts, tells_of, times_noted}
use Rattle.host_awaits.specs.Watching.{HasNoneYet, Watched, Watching, awaits_in, times_in, touched_by, just_entered}
use Rattle.host_awaits.specs.declared.entered.Await.{Await}
use Rattle.host_model.specs.Changes.{all_noted, call_settled, lost, noted}
use Rattle.host_model.specs.State.{Slot, State, call_key, calls_of, is_being_made, up_if, with_up}
use Rattle.host_model.specs.Step.{awaited, is_given_up, is_hopeless, started}
use Rattle.host_tables.specs.Kept.{HasLookUps, Hears, Moves, Seen, ShowsTheSame, is_told}
use Rattle.host_tables.specs.LookUps.{SlotsView, counted}
use Rattle.host_tables.specs.declared.calls.Calls.{Calls}
use Rattle.host_tables.specs.declared.tables.Tables.{Tables}
use Rattle.host_tables.proofs.Counts.{any-append, count-push, name-turned, one-more, or-false, some-more}
use Rattle.host_tables.proofs.Watching.{awaits-touched, none-told, rest-entered, rest-touched, times-append}

-- ---- notes that come

look_ups-noted : (ns : List Note) (s : State) (t : Tables) (w : Watching) (after : List Note) → after ≡ t.notes ++ ns → w.waiting ≡ map (touched_by (is_told ns)) t.awaits.waiting
    → ((name : List ℕ) (e : Event) → times_in w name e ≡ times_in t.awaits name e + times_noted ns name e) → HasLookUps s t
    → HasLookUps (all_noted ns s) (record t { awaits = w; notes = after })
look_ups-noted ns s t w after noted waiting times k =
    let awaits : awaits_in w ≡ s.awaits = ap (map (λ (x : Watched). x.awaited)) waiting ∙ awaits-touched (is_told ns) t.awaits.waiting ∙ ap (λ (v : Seen). v.awaits) k in
    let noted_times : (name : List ℕ) (e : Event) → times_in w name e ≡ times_noted (s.notes ++ ns) name e =
    λ name e. times name e ∙ ap (λ (v : Seen). v.times name e + times_noted ns name e) k ∙ sym (times-append s.notes ns name e) in
    let notes : after ≡ s.notes ++ ns = noted ∙ ap (λ (v : Seen). v.notes ++ ns) k in
    λ i. record (k i) { awaits = awaits i; times = λ name e. noted_times name e i; notes = notes i }

pub hears-look_ups : (ns : List Note) (s : State) (before now : Tables) → Hears ns before now → HasLookUps s before → HasLookUps (all_noted ns s) now
hears-look_ups ns s before now h k =
    subst (λ (t : Tables). HasLookUps (all_noted ns s) t) (sym h.others) (look_ups-noted ns s before now.awaits now.notes h.noted h.waiting h.times k)

-- how names stand may have changed for those that the notes are of
pub hears-rest : (ns : List Note) (before now : Tables) → Hears ns before now → (notes : List Note) (hopeless later : List ℕ → Bool)
    → ((name : List ℕ) → is_told ns name ≡ false → later name ≡ hopeless name) → AllByRecursion (HasNoneYet (times_noted notes) hopeless) before.awaits.waiting
    → AllByRecursion (HasNoneYet (times_noted (notes ++ ns)) later) now.awaits.waiting
hears-rest ns before now h notes hopeless later same rest =
    subst (AllByRecursion (HasNoneYet (times_noted (notes ++ ns)) later)) (sym h.waiting)
    (rest-touched (times_noted notes) (times_noted (notes ++ ns)) hopeless later (is_told ns)
    (λ name e f. times-append notes ns name e ∙ ap (λ n. times_noted notes name e + n) (none-told ns name e f) ∙ add-zero (times_noted notes name e)) same before.awaits.waiting rest)

pub hears-moves : (ns : List Note) (before now : Tables) → Hears ns before now → Moves (all_noted ns) before now
hears-moves ns before now h = λ s k.
    record { look_ups = hears-look_ups ns s before now h k.look_ups; at_rest = hears-rest ns before now h s.notes (is_hopeless s) (is_hopeless s) (λ name f. refl) k.at_rest }

-- ---- none, and several one after another

pub touched-none : (waiting : List Watched) → waiting ≡ map (touched_by (λ name. false)) waiting
touched-none [] = refl
touched-none (x ∷ xs) = λ i. record { awaited = x.awaited; touched = sym (or-false x.touched) i } ∷ touched-none xs i

pub hears-none : (t : Tables) → Hears [] t t
hears-none t = record {
  noted = sym (append-nil t.notes);
  waiting = touched-none t.awaits.waiting;
  times = λ name e. sym (add-zero (times_in t.awaits name e));
  others = refl;
}

pub touched-both : (f g h : List ℕ → Bool) → ((name : List ℕ) → h name ≡ (f name || g name)) → (waiting : List Watched) → map (touched_by g) (map (touched_by f) waiting) ≡ map (touched_by h) waiting
touched-both f g h same [] = refl
touched-both f g h same (x ∷ xs) =
    λ i. record { awaited = x.awaited; touched = (or-joined x.touched (f x.awaited.name) (g x.awaited.name) ∙ ap (λ b. x.touched || b) (sym (same x.awaited.name))) i } ∷ touched-both f g h same xs i
  where
    or-joined : (a b c : Bool) → ((a || b) || c) ≡ (a || (b || c))
    or-joined true b c = refl
    or-joined false b c = refl

pub hears-then : (ns ms : List Note) (a b c : Tables) → Hears ns a b → Hears ms b c → Hears (ns ++ ms) a c
hears-then ns ms a b c h k = record {
  noted = k.noted ∙ ap (λ l. l ++ ms) h.noted ∙ append_assoc a.notes ns ms;
  waiting = k.waiting ∙ ap (map (touched_by (is_told ms))) h.waiting ∙ touched-both (is_told ns) (is_told ms) (is_told (ns ++ ms)) (λ name. any-append (tells_of name) ns ms) a.awaits.waiting;
  times = λ name e.
      k.times name e ∙ ap (λ n. n + times_noted ms name e) (h.times name e)
      ∙ joined (times_in a.awaits name e) (times_noted ns name e) (times_noted ms name e) (times_noted (ns ++ ms) name e) (times-append ns ms name e);
  others = k.others ∙ ap (λ (t : Tables). let x : Tables = record t { awaits = c.awaits; notes = c.notes } in x) h.others;
}
  where
    joined : (l m n all : ℕ) → all ≡ m + n → l + m + n ≡ l + all
    joined l m n all e = omega arith

-- what is kept of the objects is another matter
pub hears-kept : (ns : List Note) (a b : Tables) (f : Kept → Kept) → Hears ns a b → Hears ns (record a { kept = f a.kept }) (record b { kept = f b.kept })
hears-kept ns a b f h = record {
  noted = h.noted;
  waiting = h.waiting;
  times = h.times;
  others = ap (λ (t : Tables). let x : Tables = record t { kept = f t.kept } in x) h.others;
}

-- ---- one note

touched-once : (n : Note) (waiting : List Watched) → map (touched_by (λ name. tells_of name n)) waiting ≡ map (touched_by (is_told (n ∷ []))) waiting
touched-once n waiting = ap (λ (f : List ℕ → Bool). map (touched_by f) waiting) (λ i name. sym (or-false (tells_of name n)) i)

counted-once : (b : Bool) (n : ℕ) → cond b (n + 1) n ≡ n + (cond b 1 0 + 0)
counted-once true n = refl
counted-once false n = sym (add-zero n)

pub note-hears : (n : Note) (t : Tables) (w : Watching) (after : List Note) → w.waiting ≡ map (touched_by (λ name. tells_of name n)) t.awaits.waiting
    → ((name : List ℕ) (e : Event) → times_in w name e ≡ cond (counts name e n) (times_in t.awaits name e + 1) (times_in t.awaits name e))
    → after ≡ t.notes ++ n ∷ [] → Hears (n ∷ []) t (record t { awaits = w; notes = after })
note-hears n t w after waiting times noted = record {
  noted = noted;
  waiting = waiting ∙ touched-once n t.awaits.waiting;
  times = λ name e. times name e ∙ counted-once (counts name e n) (times_in t.awaits name e);
  others = refl;
}

-- ---- what leaves the awaits alone

pub draws-moves : (t : Tables) (next : Draws) → Moves (λ s. record s { next = next }) t (record t { next = next })
draws-moves t next = λ s k. record { look_ups = λ i. record (k.look_ups i) { next = next }; at_rest = k.at_rest }

calls-more : (cs : List CallKey) (c : CallKey) (lane : ℕ) → calls_of (cs ++ c ∷ []) lane ≡ cond (c.lane == lane) (calls_of cs lane + 1) (calls_of cs lane)
calls-more cs c lane = count-push (λ (x : CallKey). x.lane == lane) cs c ∙ sym (one-more (c.lane == lane) (calls_of cs lane))

pub entered-moves : (t : Tables) (lane : ℕ) (cs : Calls) → ((l : ℕ) → counted cs l ≡ cond (lane == l) (counted t.calls l + 1) (counted t.calls l))
    → Moves (λ s. record s { calls = s.calls ++ call_key lane (calls_of s.calls lane) ∷ [] }) t (record t { calls = cs })
entered-moves t lane cs e = λ s k.
    let calls : (l : ℕ) → counted cs l ≡ calls_of (s.calls ++ call_key lane (calls_of s.calls lane) ∷ []) l =
    λ l. e l ∙ ap (λ (v : Seen). cond (lane == l) (v.calls l + 1) (v.calls l)) k.look_ups ∙ sym (calls-more s.calls (call_key lane (calls_of s.calls lane)) l) in
    record { look_ups = λ i. record (k.look_ups i) { calls = λ l. calls l i }; at_rest = k.at_rest }

-- ---- a worker that was started

pub started-moves : (worker : WorkerKey) (t mid : Tables) (xs : SlotsView) → Moves (noted (note.Up worker)) t mid → xs.slots ≡ with_up worker mid.slots.slots
    → Moves (started worker) t (record mid { slots = xs })
started-moves worker t mid xs moves e = λ s k.
    let kept = moves s k in
    let slots : xs.slots ≡ with_up worker s.slots = e ∙ ap (λ (v : Seen). with_up worker v.slots) kept.look_ups in
    let made : mid.kept.slots ≡ length (with_up worker s.slots) = ap (λ (v : Seen). v.slots_made) kept.look_ups ∙ sym (length-map s.slots (up_if worker)) in
    record { look_ups = λ i. record (kept.look_ups i) { slots_made = made i; slots = slots i }; at_rest = kept.at_rest }

-- ---- a call that fails

hopeless-lost : (s : State) (name n : List ℕ) → bytes_eq name n ≡ false → (o : Option Object) → is_given_up (record s { failed = s.failed ++ name ∷ [] }) n o ≡ is_given_up s n o
hopeless-lost s name n f None =
    ap (λ b. not (is_being_made s.requests n) && b)
    (any-append (bytes_eq n) s.failed (name ∷ []) ∙ ap (λ b. list_any (bytes_eq n) s.failed || (b || false)) (name-turned n name ∙ f) ∙ or-false (list_any (bytes_eq n) s.failed))
hopeless-lost s name n f (Some o) = refl

pub lost-moves : (t : Tables) (name : List ℕ) (failed : Names) (w : Watching) → ((n : List ℕ) → times_named failed n ≡ times_named t.failed n + one_if (bytes_eq name n))
    → w.waiting ≡ map (touched_by (bytes_eq name)) t.awaits.waiting → ((n : List ℕ) (e : Event) → times_in w n e ≡ times_in t.awaits n e)
    → Moves (λ s. record s { failed = s.failed ++ name ∷ [] }) t (record t { failed = failed; awaits = w })
lost-moves t name failed w more waiting times = λ s k.
    let after : State = record s { failed = s.failed ++ name ∷ [] } in
    let lost_now : (n : List ℕ) → nat_lt 0 (times_named failed n) ≡ list_any (bytes_eq n) (s.failed ++ name ∷ []) =
    λ n. ap (nat_lt 0) (more n) ∙ some-more (times_named t.failed n) (bytes_eq name n) ∙ ap (λ (v : Seen). v.failed n || bytes_eq name n) k.look_ups
    ∙ ap (λ b. list_any (bytes_eq n) s.failed || b) (name-turned name n ∙ sym (or-false (bytes_eq n name))) ∙ sym (any-append (bytes_eq n) s.failed (name ∷ [])) in
    let awaits : awaits_in w ≡ s.awaits = ap (map (λ (x : Watched). x.awaited)) waiting ∙ awaits-touched (bytes_eq name) t.awaits.waiting ∙ ap (λ (v : Seen). v.awaits) k.look_ups in
    let same_times : (n : List ℕ) (e : Event) → times_in w n e ≡ times_noted s.notes n e = λ n e. times n e ∙ ap (λ (v : Seen). v.times n e) k.look_ups in
    record {
      look_ups = λ i. record (k.look_ups i) { failed = λ n. lost_now n i; awaits = awaits i; times = λ n e. same_times n e i };
      at_rest =
          subst (AllByRecursion (HasNoneYet (times_noted s.notes) (is_hopeless after))) (sym waiting)
          (rest-touched (times_noted s.notes) (times_noted s.notes) (is_hopeless s) (is_hopeless after) (bytes_eq name) (λ n e f. refl) (λ n f. hopeless-lost s name n f (named s.objects n))
          t.awaits.waiting k.at_rest);
    }

-- ---- a call that settles

pub settled-moves : (t mid now : Tables) (call : CallKey) (outcome : Outcome) (names : List (List ℕ)) → Moves (λ s. record s { failed = s.failed ++ lost outcome names }) t mid
    → Moves (noted (note.Settled call outcome)) mid now → Moves (call_settled call outcome names) t now
settled-moves t mid now call outcome names lose moves = λ s k. moves (record s { failed = s.failed ++ lost outcome names }) (lose s k)

-- ---- an await

pub awaited-moves : (t mid : Tables) (lane : ℕ) (a : Await) (name : List ℕ) (event : Event) (count : ℕ) (w : Watching) → a.name ≡ name → a.event ≡ event → a.count ≡ count → a.key ≡ call_key lane (counted t.calls lane)
    → Moves (λ s. record s { calls = s.calls ++ call_key lane (calls_of s.calls lane) ∷ [] }) t mid
    → w.waiting ≡ mid.awaits.waiting ++ just_entered a ∷ [] → ((n : List ℕ) (e : Event) → times_in w n e ≡ times_in mid.awaits n e)
    → Moves (awaited lane name event count) t (record mid { awaits = w })
awaited-moves t mid lane a name event count w is_name is_event is_count is_key moves waiting times = λ s k.
    let kept = moves s k in
    let key : a.key ≡ call_key lane (calls_of s.calls lane) = is_key ∙ ap (λ (v : Seen). call_key lane (v.calls lane)) k.look_ups in
    let entered : List Await = record { key = call_key lane (calls_of s.calls lane); name = name; event = event; count = count } ∷ [] in
    let one : (let l : List Await = a ∷ [] in l) ≡ entered = λ i. record { key = key i; name = is_name i; event = is_event i; count = is_count i } ∷ [] in
    let awaits : awaits_in w ≡ s.awaits ++ entered =
    ap (map (λ (x : Watched). x.awaited)) waiting ∙ map-append (λ (x : Watched). x.awaited) mid.awaits.waiting (just_entered a ∷ [])
    ∙ ap (λ (v : Seen). v.awaits ++ a ∷ []) kept.look_ups ∙ ap (λ l. s.awaits ++ l) one in
    let same_times : (n : List ℕ) (e : Event) → times_in w n e ≡ times_noted s.notes n e = λ n e. times n e ∙ ap (λ (v : Seen). v.times n e) kept.look_ups in
    record {
      look_ups = λ i. record (kept.look_ups i) { awaits = awaits i; times = λ n e. same_times n e i };
      at_rest = subst (AllByRecursion (HasNoneYet (times_noted s.notes) (is_hopeless s))) (sym waiting) (rest-entered (times_noted s.notes) (is_hopeless s) a mid.awaits.waiting kept.at_rest);
    }

-- ---- a slot more

pub slot-moves : (t : Tables) (x : Slot) (xs : SlotsView) (made : ℕ) → xs ≡ record t.slots { slots = t.slots.slots ++ x ∷ [] } → made ≡ t.kept.slots + 1
    → Moves (λ s. record s { slots = s.slots ++ x ∷ [] }) t (record t { slots = xs; kept = record t.kept { slots = made } })
slot-moves t x xs made added one = λ s k.
    let made_now : made ≡ length (s.slots ++ x ∷ []) = one ∙ ap (λ (v : Seen). v.slots_made + 1) k.look_ups ∙ sym (length-append s.slots (x ∷ [])) in
    let slots : xs.slots ≡ s.slots ++ x ∷ [] = ap (λ (v : SlotsView). v.slots) added ∙ ap (λ (v : Seen). v.slots ++ x ∷ []) k.look_ups in
    record { look_ups = λ i. record (k.look_ups i) { slots_made = made_now i; slots = slots i }; at_rest = k.at_rest }

-- ---- what is shown

-- no note came
pub shown-same : (before now : Tables) → now.notes ≡ before.notes → now.slots.shown ≡ before.slots.shown → ShowsTheSame before now
shown-same before now notes slots = record { notes = ap (take (length before.notes)) notes ∙ take_all (length before.notes) before.notes (omega arith); slots = slots }

-- a note came behind the others, or none did
pub shown-noted : {X Y : Type 0} (r : Result X Y) (before now : Tables) (n : Note) → OnOk r (now.notes ≡ before.notes ++ n ∷ []) → OnErr r (now.notes ≡ before.notes)
    → now.slots.shown ≡ before.slots.shown → ShowsTheSame before now
shown-noted (Ok x) before now n noted none slots = record {
  notes = ap (take (length before.notes)) noted ∙ take-append-le (length before.notes) before.notes (n ∷ []) (omega arith) ∙ take_all (length before.notes) before.notes (omega arith);
  slots = slots;
}
shown-noted (Err e) before now n noted none slots = shown-same before now none slots
