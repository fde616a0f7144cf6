-- Objects that close, with how names stand behind that.
use Rattle.std.proofs.Common.{◌≡◌, ◌<◌, ℕ, List, [], ◌∷◌, ◌++◌, map, length, Bool, true, false, not, ◌&&◌, ◌||◌, cond, Option, Some, None, option_map, refl, sym, ap, ◌∙◌, subst, arith, inl, inr, ◌⊎◌}
use Rattle.std.specs.List.{AllByRecursion}
use Rattle.std.specs.Option.{option_or}
use Rattle.std.proofs.lemmas.Bool.{and_parts, eq-eqb, eqb-true, ne_eqb, true≢false}
use Rattle.std.proofs.lemmas.List.{append-nil, length-map}
use Rattle.std.proofs.lemmas.Grind.{flat_map-append}
use Rattle.ms_base.specs.declared.keys.Reason.{Reason}
use Rattle.ms_base.specs.declared.keys.Serial.{Serial}
use Rattle.ms_base.specs.declared.outcome.Outcome.TheVariants as outcome
use Rattle.transcript.specs.declared.note.Note.{Note}
use Rattle.object_tree.specs.declared.object.Object.{Object}
use Rattle.object_tree.specs.Falls.{closed_by, closed_if, is_among, reason_of, with_closed}
use Rattle.object_tree.specs.Objects.{AreInOrder, has_name, has_serial, is_open, named, numbered, same_serial}
use Rattle.request_build.specs.declared.kept.Kept.{Kept}
use Rattle.request_build.specs.Known as keeping
use Rattle.host_awaits.specs.Awaits.{tells_of}
use Rattle.host_requests.specs.declared.request.Request.{Request}
use Rattle.host_model.specs.declared.due.Due.{Due}
use Rattle.host_model.specs.Changes.{owner_settled, without}
use Rattle.host_model.specs.Falls.{all_without, closed_for, closed_note, closed_notes, name_of, name_or_none, objects_closed, over_if, request_closed, with_over}
use Rattle.host_model.specs.State.{State, names_of}
use Rattle.host_model.specs.Step.{is_given_up, is_hopeless}
use Rattle.host_tables.specs.Kept.{HasLookUps, Hears, IsKept, Moves, Seen, is_told}
use Rattle.host_tables.specs.LookUps.{SlotsView}
use Rattle.host_tables.specs.declared.tables.Tables.{Tables}
use Rattle.host_tables.proofs.Opening.{named-cons, named-mapped}
use Rattle.host_tables.proofs.Parts.{hears-kept, hears-look_ups, hears-rest, hears-then}

-- ---- what is kept of them

-- nothing is kept of any of these
abbrev pub forgotten : List Serial → Kept → Kept
forgotten [] kept = kept
forgotten (serial ∷ serials) kept = forgotten serials (keeping.without serial kept)

pub forgotten-more : (serials : List Serial) (serial : Serial) (kept : Kept) → keeping.without serial (forgotten serials kept) ≡ forgotten (serials ++ serial ∷ []) kept
forgotten-more [] serial kept = refl
forgotten-more (x ∷ xs) serial kept = forgotten-more xs serial (keeping.without x kept)

kept-forgotten : (s : State) (t : Tables) (serial : Serial) → HasLookUps s t → HasLookUps (record s { tables = without serial s.tables }) (record t { kept = keeping.without serial t.kept })
kept-forgotten s t serial k =
    ap (λ (v : Seen). let w : Seen = record v { routers = keeping.gone serial v.routers; producers = keeping.gone serial v.producers; consumers = keeping.gone serial v.consumers; pipes = keeping.gone serial v.pipes } in w) k

kept-closed : (s : State) (t : Tables) (serials : List Serial) → HasLookUps s t → HasLookUps (record s { tables = all_without serials s.tables }) (record t { kept = forgotten serials t.kept })
kept-closed s t [] k = k
kept-closed s t (serial ∷ serials) k = kept-closed (record s { tables = without serial s.tables }) (record t { kept = keeping.without serial t.kept }) serials (kept-forgotten s t serial k)

-- ---- each has its note

serial-same : (a b : Serial) → same_serial a b ≡ true → a ≡ b
serial-same a b h = let number = eqb-true a.0 b.0 h in λ i. record { 0 = number i }

or-some : (a b : Bool) → (b ≡ true) → (a || b) ≡ true
or-some true b h = refl
or-some false b h = h

told-first : (ns ms : List Note) (name : List ℕ) → is_told ns name ≡ true → is_told (ns ++ ms) name ≡ true
told-first [] ms name h = absurd (true≢false (sym h))
told-first (n ∷ ns) ms name h = at (tells_of name n) h (told-first ns ms name)
  where
    at : (b : Bool) → (b || is_told ns name) ≡ true → (is_told ns name ≡ true → is_told (ns ++ ms) name ≡ true) → (b || is_told (ns ++ ms) name) ≡ true
    at true e later = refl
    at false e later = later e

told-behind : (ns ms : List Note) (name : List ℕ) → is_told ms name ≡ true → is_told (ns ++ ms) name ≡ true
told-behind [] ms name h = h
told-behind (n ∷ ns) ms name h = or-some (tells_of name n) (is_told (ns ++ ms) name) (told-behind ns ms name h)

-- a closed one that is among them is told of
pub told-closed : (objects : List Object) (fallen : List Serial) (o : Object) (reason : Reason) → numbered objects o.serial ≡ Some o → o.closed ≡ Some reason → is_among fallen o.serial ≡ true
    → (name : List ℕ) → has_name name o ≡ true → is_told (closed_notes objects fallen) name ≡ true
told-closed objects [] o reason found closed among name h = absurd (true≢false (sym among))
told-closed objects (serial ∷ serials) o reason found closed among name h =
    at (same_serial serial o.serial) refl among (λ later. told-closed objects serials o reason found closed later name h)
  where
    told : is_told (closed_note (Some o)) name ≡ true
    told = ap (λ (m : Option Reason). is_told (closed_for o m) name) closed ∙ ap (λ b. b || false) h

    at : (b : Bool) → same_serial serial o.serial ≡ b → (b || is_among serials o.serial) ≡ true → (is_among serials o.serial ≡ true → is_told (closed_notes objects serials) name ≡ true)
        → is_told (closed_note (numbered objects serial) ++ closed_notes objects serials) name ≡ true
    at true t e later =
        told-first (closed_note (numbered objects serial)) (closed_notes objects serials) name
        (ap (λ (m : Option Object). is_told (closed_note m) name) (ap (numbered objects) (serial-same serial o.serial t) ∙ found) ∙ told)
    at false t e later = told-behind (closed_note (numbered objects serial)) (closed_notes objects serials) name (later e)

-- ---- an object is found by its serial

named-of : (o x : Object) (xs : List Object) (name : List ℕ) → named (o ∷ xs) name ≡ Some x → (named xs name ≡ Some x) ⊎ ((has_name name o ≡ true) × (o ≡ x))
named-of o x xs name e = at (named xs name) (has_name name o) (sym (named-cons o xs name) ∙ e)
  where
    at : (n : Option Object) (b : Bool) → option_or n (cond b (Some o) None) ≡ Some x → (n ≡ Some x) ⊎ ((b ≡ true) × (o ≡ x))
    at None true e = inr (refl, cc)
    at None false e = absurd cc
    at (Some y) b e = inl e

above : (n : ℕ) (xs : List Object) (name : List ℕ) (x : Object) → AllByRecursion (λ (y : Object). n < y.serial.0) xs → named xs name ≡ Some x → n < x.serial.0
above n [] name x h e = absurd (let c : None ≡ Some x = e in cc)
above n (o ∷ xs) name x h e = elim (named-of o x xs name e) [
  | inl later ↦ above n xs name x h.1 later
  | inr here ↦ subst (λ (z : Object). n < z.serial.0) here.1 h.0
]

-- the one that has a name has it, and is the one of its serial
named-numbered : (xs : List Object) (name : List ℕ) (x : Object) → AreInOrder xs → named xs name ≡ Some x → (has_name name x ≡ true) × (numbered xs x.serial ≡ Some x)
named-numbered [] name x h e = absurd (let c : None ≡ Some x = e in cc)
named-numbered (o ∷ xs) name x h e = elim (named-of o x xs name e) [
  | inl later ↦
      (let more = above o.serial.0 xs name x h.0 later in
      let apart : has_serial x.serial o ≡ false = ne_eqb o.serial.0 x.serial.0 (λ s. omega (arith, s, more)) in
      let rest = named-numbered xs name x h.1 later in
      (rest.0, rw apart rest.1))
  | inr here ↦
      (let same : has_serial x.serial o ≡ true = eq-eqb o.serial.0 x.serial.0 (ap (λ (z : Object). z.serial.0) here.1) in
      (subst (λ (z : Object). has_name name z ≡ true) here.1 here.0, rw same (ap (λ (z : Object). Some z) here.1)))
]

numbered-mapped : (f : Object → Object) → ((o : Object) → (f o).serial ≡ o.serial) → (xs : List Object) (serial : Serial) → numbered (map f xs) serial ≡ option_map f (numbered xs serial)
numbered-mapped f same [] serial = refl
numbered-mapped f same (x ∷ xs) serial =
    (λ i. cond (same_serial (same x i) serial) (Some (f x)) (numbered-mapped f same xs serial i)) ∙ at (has_serial serial x)
  where
    at : (b : Bool) → cond b (Some (f x)) (option_map f (numbered xs serial)) ≡ option_map f (cond b (Some x) (numbered xs serial))
    at true = refl
    at false = refl

-- ---- how names stand then

chosen-serial : (b : Bool) (reason : Reason) (o : Object) → (cond b (closed_by reason o) o).serial ≡ o.serial
chosen-serial true reason o = refl
chosen-serial false reason o = refl

chosen-name : (b : Bool) (reason : Reason) (o : Object) → (cond b (closed_by reason o) o).name ≡ o.name
chosen-name true reason o = refl
chosen-name false reason o = refl

module _ (s : State) (fallen roots : List Serial) (reason : Reason) (in_order : (serial : Serial) → is_among fallen serial ≡ true → AreInOrder s.objects) where
  hopeless-closed : (name : List ℕ) → is_told (closed_notes (with_closed fallen roots reason s.objects) fallen) name ≡ false
      → is_hopeless (record s { objects = with_closed fallen roots reason s.objects }) name ≡ is_hopeless s name
  hopeless-closed name f =
      ap (is_given_up s name)
      (named-mapped (closed_if s.objects fallen roots reason) (λ o. chosen-name (is_open o && is_among fallen o.serial) (reason_of s.objects fallen roots reason o) o) s.objects name)
      ∙ at (named s.objects name) refl
    where
      at : (n : Option Object) → named s.objects name ≡ n → is_given_up s name (option_map (closed_if s.objects fallen roots reason) n) ≡ is_given_up s name n
      at None e = refl
      at (Some o) e = still (is_open o && is_among fallen o.serial) refl
        where
          still : (b : Bool) → (is_open o && is_among fallen o.serial) ≡ b → not (is_open (cond b (closed_by (reason_of s.objects fallen roots reason o) o) o)) ≡ not (is_open o)
          still false t = refl
          still true t =
              let parts = and_parts (is_open o) (is_among fallen o.serial) t in
              let there = named-numbered s.objects name o (in_order o.serial parts.1) e in
              let o_now : Object = closed_by (reason_of s.objects fallen roots reason o) o in
              let found : numbered (with_closed fallen roots reason s.objects) o.serial ≡ Some o_now =
              numbered-mapped (closed_if s.objects fallen roots reason) (λ x. chosen-serial (is_open x && is_among fallen x.serial) (reason_of s.objects fallen roots reason x) x) s.objects o.serial
              ∙ ap (option_map (closed_if s.objects fallen roots reason)) there.1 ∙ ap (λ b. Some (cond b o_now o)) t in
              absurd (true≢false (sym (told-closed (with_closed fallen roots reason s.objects) fallen o_now (reason_of s.objects fallen roots reason o) found refl parts.1 name there.0) ∙ f))

  closed-kept : (t now : Tables) → Hears (closed_notes (with_closed fallen roots reason t.tree) fallen)
      (record t { tree = with_closed fallen roots reason t.tree; slots = record t.slots { slots = with_over fallen reason t.slots.slots }; kept = forgotten fallen t.kept }) now → IsKept s t
      → IsKept (objects_closed fallen roots reason s) now
  closed-kept t now h k =
      let objects : List Object = with_closed fallen roots reason s.objects in
      let after : State = record s { objects = objects; tables = all_without fallen s.tables; slots = with_over fallen reason s.slots } in
      let mid : Tables = record t { tree = with_closed fallen roots reason t.tree; slots = record t.slots { slots = with_over fallen reason t.slots.slots }; kept = forgotten fallen t.kept } in
      let ns : List Note = closed_notes objects fallen in
      let heard : Hears ns mid now = subst (λ (v : Seen). Hears (closed_notes (with_closed fallen roots reason v.objects) fallen) mid now) k.look_ups h in
      let kept = kept-closed s t fallen k.look_ups in
      let still_made : (forgotten fallen t.kept).slots ≡ length (with_over fallen reason s.slots) = ap (λ (v : Seen). v.slots_made) kept ∙ sym (length-map s.slots (over_if fallen reason)) in
      let look_ups : HasLookUps after mid = λ i. record (kept i) { objects = with_closed fallen roots reason (kept i).objects; slots_made = still_made i; slots = with_over fallen reason (kept i).slots } in
      record { look_ups = hears-look_ups ns after mid now heard look_ups; at_rest = hears-rest ns mid now heard s.notes (is_hopeless s) (is_hopeless after) hopeless-closed k.at_rest }

-- ---- one after another

pub closes-next : (a b now : Tables) (front : List Serial) (serial : Serial) (kept : Kept) → Hears (closed_notes a.tree front) (record a { kept = forgotten front a.kept }) b → kept ≡ keeping.without serial b.kept
    → Hears (closed_note (numbered b.tree serial)) (record b { kept = kept }) now → Hears (closed_notes a.tree (front ++ serial ∷ [])) (record a { kept = forgotten (front ++ serial ∷ []) a.kept }) now
closes-next a b now front serial kept h is_kept told =
    let ns : List Note = closed_notes a.tree front in
    let n : List Note = closed_note (numbered a.tree serial) in
    let mid : Tables = record b { kept = keeping.without serial b.kept } in
    let same_tree : b.tree ≡ a.tree = ap (λ (t : Tables). t.tree) h.others in
    let told_now : Hears n mid now =
    subst (λ (l : List Object). Hears (closed_note (numbered l serial)) mid now) same_tree (subst (λ (x : Kept). Hears (closed_note (numbered b.tree serial)) (record b { kept = x }) now) is_kept told) in
    let first : Hears ns (record a { kept = keeping.without serial (forgotten front a.kept) }) mid = hears-kept ns (record a { kept = forgotten front a.kept }) b (keeping.without serial) h in
    let both : Hears (ns ++ n) (record a { kept = keeping.without serial (forgotten front a.kept) }) now =
    hears-then ns n (record a { kept = keeping.without serial (forgotten front a.kept) }) mid now first told_now in
    let all_notes : ns ++ n ≡ closed_notes a.tree (front ++ serial ∷ []) =
    ap (λ l. ns ++ l) (sym (append-nil n)) ∙ sym (flat_map-append (λ (x : Serial). closed_note (numbered a.tree x)) front (serial ∷ [])) in
    subst (λ (l : List Note). Hears l (record a { kept = forgotten (front ++ serial ∷ []) a.kept }) now) all_notes
    (subst (λ (x : Kept). Hears (ns ++ n) (record a { kept = x }) now) (forgotten-more front serial a.kept) both)

in_order-unmapped : (f : Object → Object) → ((o : Object) → (f o).serial ≡ o.serial) → (xs : List Object) → AreInOrder (map f xs) → AreInOrder xs
in_order-unmapped f same [] h = tt
in_order-unmapped f same (x ∷ xs) h = (below xs h.0, in_order-unmapped f same xs h.1)
  where
    below : (ys : List Object) → AllByRecursion (λ (y : Object). (f x).serial.0 < y.serial.0) (map f ys) → AllByRecursion (λ (y : Object). x.serial.0 < y.serial.0) ys
    below [] g = tt
    below (y ∷ ys) g =
        let first : (f x).serial.0 ≡ x.serial.0 = ap (λ (n : Serial). n.0) (same x) in
        let next : (f y).serial.0 ≡ y.serial.0 = ap (λ (n : Serial). n.0) (same y) in
        let under = g.0 in
        (omega (arith, first, next, under), below ys g.1)

-- what is in order once some are closed was so before
pub in_order-before : (objects : List Object) (fallen roots : List Serial) (reason : Reason) → AreInOrder (with_closed fallen roots reason objects) → AreInOrder objects
in_order-before objects fallen roots reason h =
    in_order-unmapped (closed_if objects fallen roots reason) (λ o. chosen-serial (is_open o && is_among fallen o.serial) (reason_of objects fallen roots reason o) o) objects h

some-among : (fallen : List Serial) (serial : Serial) → is_among fallen serial ≡ true → 0 < length fallen
some-among [] serial h = absurd (true≢false (sym h))
some-among (x ∷ xs) serial h = omega arith

pub closed-moves : (t now : Tables) (fallen roots : List Serial) (reason : Reason) (tree : List Object) (slots : SlotsView) → tree ≡ with_closed fallen roots reason t.tree
    → slots ≡ record t.slots { slots = with_over fallen reason t.slots.slots } → (0 < length fallen → AreInOrder tree)
    → Hears (closed_notes tree fallen) (record t { tree = tree; slots = slots; kept = forgotten fallen t.kept }) now → Moves (objects_closed fallen roots reason) t now
closed-moves t now fallen roots reason tree slots is_tree is_slots in_order h = λ s k.
    let in_order_now : (serial : Serial) → is_among fallen serial ≡ true → AreInOrder s.objects =
    λ serial among.
    subst (λ (v : Seen). AreInOrder v.objects) k.look_ups (in_order-before t.tree fallen roots reason (subst AreInOrder is_tree (in_order (some-among fallen serial among)))) in
    let heard : Hears (closed_notes (with_closed fallen roots reason t.tree) fallen)
    (record t { tree = with_closed fallen roots reason t.tree; slots = record t.slots { slots = with_over fallen reason t.slots.slots }; kept = forgotten fallen t.kept }) now =
    subst (λ (v : SlotsView). Hears (closed_notes (with_closed fallen roots reason t.tree) fallen) (record t { tree = with_closed fallen roots reason t.tree; slots = v; kept = forgotten fallen t.kept }) now) is_slots
    (subst (λ (l : List Object). Hears (closed_notes l fallen) (record t { tree = l; slots = slots; kept = forgotten fallen t.kept }) now) is_tree h) in
    closed-kept s fallen roots reason in_order_now t now heard k

-- ---- a request under one of them

pub request_closed-moves : (t now : Tables) (r : Request Due) (by : List ℕ) (o : Object) → Some o ≡ numbered t.tree r.under → by ≡ o.name
    → Moves (owner_settled r.owner (outcome.Closed by) (names_of r.due)) t now → Moves (request_closed r) t now
request_closed-moves t now r by o found is_name moves = λ s k.
    let name : by ≡ name_of s.objects r.under = is_name ∙ ap name_or_none found ∙ ap (λ (v : Seen). name_of v.objects r.under) k.look_ups in
    subst (λ (n : List ℕ). IsKept (owner_settled r.owner (outcome.Closed n) (names_of r.due) s) now) name (moves s k)
