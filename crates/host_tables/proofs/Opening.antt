-- Objects that open and turn, with how names stand behind that.
use Rattle.std.proofs.Common.{◌≡◌, ℕ, List, [], ◌∷◌, map, reverse, Bool, true, false, not, cond, nat_lt, Option, Some, None, option_map, bytes_eq, refl, sym, ap, ◌∙◌, subst}
use mathlib.Core.List.{reverse-cons}
use Rattle.std.specs.BTreeMap.{insert_entry}
use Rattle.std.specs.List.{AllByRecursion, find}
use Rattle.std.specs.Option.{option_or}
use Rattle.std.specs.Ordering.{nat_cmp}
use Rattle.std.proofs.lemmas.Bool.{eqb-true, or_parts}
use Rattle.std.proofs.lemmas.List.Folds.{find-append}
use Rattle.ms_base.specs.declared.keys.Serial.{Serial}
use Rattle.transcript.specs.declared.note.Note.{Note}
use Rattle.object_tree.specs.declared.object.Mark.{Mark}
use Rattle.object_tree.specs.declared.object.Mark.TheVariants.{Running, Paused, ProducerPaused, Far}
use Rattle.object_tree.specs.declared.object.Object.{Object}
use Rattle.object_tree.specs.Objects.{has_name, has_serial, is_open, marked, named, numbered, with_mark, with_object}
use Rattle.request_build.specs.declared.built.Keep.{Keep}
use Rattle.request_build.specs.declared.built.Keep.TheVariants as keep
use Rattle.request_build.specs.declared.kept.Kept.{Kept}
use Rattle.request_build.specs.Known as keeping
use Rattle.host_awaits.specs.Awaits.{times_noted}
use Rattle.host_awaits.specs.Watching.{HasNoneYet}
use Rattle.host_model.specs.Changes.{all_noted, object_opened, opened, turn_notes, turned, turned_from, with_kept}
use Rattle.host_model.specs.State.{State}
use Rattle.host_model.specs.Step.{is_given_up, is_hopeless}
use Rattle.host_tables.specs.Kept.{HasLookUps, Hears, IsKept, Moves, Seen}
use Rattle.host_tables.specs.declared.tables.Tables.{Tables}
use Rattle.host_tables.proofs.Parts.{hears-look_ups, hears-rest}

-- ---- names, where an object of another name comes

pub named-cons : (x : Object) (xs : List Object) (name : List ℕ) → named (x ∷ xs) name ≡ option_or (named xs name) (cond (has_name name x) (Some x) None)
named-cons x xs name = ap (find (has_name name)) (reverse-cons x xs) ∙ find-append (has_name name) (reverse xs) (x ∷ [])

or-none : (o : Option Object) → option_or o None ≡ o
or-none None = refl
or-none (Some x) = refl

passed : (o : Object) (xs : List Object) (name : List ℕ) → has_name name o ≡ false → named (o ∷ xs) name ≡ named xs name
passed o xs name f = named-cons o xs name ∙ ap (λ b. option_or (named xs name) (cond b (Some o) None)) f ∙ or-none (named xs name)

pub named-apart : (o : Object) (xs : List Object) (name : List ℕ) → has_name name o ≡ false → named (with_object o xs) name ≡ named xs name
named-apart o [] name f = passed o [] name f
named-apart o (x ∷ xs) name f = at (nat_lt o.serial.0 x.serial.0) (named-apart o xs name f)
  where
    at : (b : Bool) → named (with_object o xs) name ≡ named xs name → named (cond b (o ∷ x ∷ xs) (x ∷ with_object o xs)) name ≡ named (x ∷ xs) name
    at true later = passed o (x ∷ xs) name f
    at false later =
        named-cons x (with_object o xs) name ∙ ap (λ (n : Option Object). option_or n (cond (has_name name x) (Some x) None)) later ∙ sym (named-cons x xs name)

-- ---- what is kept of an object

kept-opened : (s : State) (t : Tables) (serial : Serial) (keeps : Keep) → HasLookUps s t
    → HasLookUps (record s { tables = with_kept serial keeps s.tables }) (record t { kept = keeping.with_kept serial keeps t.kept })
kept-opened s t serial (keep.Router caps) k = ap (λ (v : Seen). let w : Seen = record v { routers = insert_entry nat_cmp v.routers serial.0 caps } in w) k
kept-opened s t serial (keep.Producer offer) k = ap (λ (v : Seen). let w : Seen = record v { producers = insert_entry nat_cmp v.producers serial.0 offer } in w) k
kept-opened s t serial (keep.Consumer params) k = ap (λ (v : Seen). let w : Seen = record v { consumers = insert_entry nat_cmp v.consumers serial.0 params } in w) k
kept-opened s t serial (keep.Pipe enable_rtx) k = ap (λ (v : Seen). let w : Seen = record v { pipes = insert_entry nat_cmp v.pipes serial.0 enable_rtx } in w) k
kept-opened s t serial keep.Nothing k = k

-- ---- an object that opens

opened-kept : (t now : Tables) (o : Object) (keeps : Keep) → Hears (opened o ∷ []) (record t { kept = keeping.with_kept o.serial keeps t.kept; tree = with_object o t.tree }) now
    → Moves (object_opened o keeps) t now
opened-kept t now o keeps h = λ s k.
    let after : State = record s { objects = with_object o s.objects; tables = with_kept o.serial keeps s.tables } in
    let mid : Tables = record t { kept = keeping.with_kept o.serial keeps t.kept; tree = with_object o t.tree } in
    let kept = kept-opened s t o.serial keeps k.look_ups in
    let look_ups : HasLookUps after mid = λ i. record (kept i) { objects = with_object o (kept i).objects } in
    record {
      look_ups = hears-look_ups (opened o ∷ []) after mid now h look_ups;
      at_rest =
          hears-rest (opened o ∷ []) mid now h s.notes (is_hopeless s) (is_hopeless after)
          (λ name f. ap (is_given_up s name) (named-apart o s.objects name (or_parts (has_name name o) false f).0)) k.at_rest;
    }

pub opened-moves : (t now : Tables) (o : Object) (keeps : Keep) (n : Note) (tree : List Object) (kept : Kept) → n ≡ opened o → kept ≡ keeping.with_kept o.serial keeps t.kept
    → tree ≡ with_object o t.tree → Hears (n ∷ []) (record t { kept = kept; tree = tree }) now → Moves (object_opened o keeps) t now
opened-moves t now o keeps n tree kept is_note is_kept is_tree h =
    let heard : Hears (opened o ∷ []) (record t { kept = keeping.with_kept o.serial keeps t.kept; tree = with_object o t.tree }) now =
    subst (λ (m : Note). Hears (m ∷ []) (record t { kept = keeping.with_kept o.serial keeps t.kept; tree = with_object o t.tree }) now) is_note
    (subst (λ (x : Kept). Hears (n ∷ []) (record t { kept = x; tree = with_object o t.tree }) now) is_kept
    (subst (λ (x : List Object). Hears (n ∷ []) (record t { kept = kept; tree = x }) now) is_tree h)) in
    opened-kept t now o keeps heard

-- ---- objects that change but for their names, and for whether they are open

pub named-mapped : (f : Object → Object) → ((o : Object) → (f o).name ≡ o.name) → (xs : List Object) (name : List ℕ) → named (map f xs) name ≡ option_map f (named xs name)
named-mapped f same [] name = refl
named-mapped f same (x ∷ xs) name =
    named-cons (f x) (map f xs) name ∙ (λ i. option_or (named-mapped f same xs name i) (cond (bytes_eq (same x i) name) (Some (f x)) None))
    ∙ at (named xs name) (has_name name x) ∙ sym (ap (option_map f) (named-cons x xs name))
  where
    at : (n : Option Object) (b : Bool) → option_or (option_map f n) (cond b (Some (f x)) None) ≡ option_map f (option_or n (cond b (Some x) None))
    at None true = refl
    at None false = refl
    at (Some y) b = refl

marked-name : (mark : Mark) (o : Object) → (marked mark o).name ≡ o.name
marked-name Running o = refl
marked-name (Paused b) o = refl
marked-name (ProducerPaused b) o = refl
marked-name (Far s) o = refl

marked-closed : (mark : Mark) (o : Object) → is_open (marked mark o) ≡ is_open o
marked-closed Running o = refl
marked-closed (Paused b) o = refl
marked-closed (ProducerPaused b) o = refl
marked-closed (Far s) o = refl

chosen-name : (b : Bool) (mark : Mark) (o : Object) → (cond b (marked mark o) o).name ≡ o.name
chosen-name true mark o = marked-name mark o
chosen-name false mark o = refl

chosen-closed : (b : Bool) (mark : Mark) (o : Object) → is_open (cond b (marked mark o) o) ≡ is_open o
chosen-closed true mark o = marked-closed mark o
chosen-closed false mark o = refl

pub hopeless-marked : (s : State) (serial : Serial) (mark : Mark) (name : List ℕ) → is_hopeless (record s { objects = with_mark serial mark s.objects }) name ≡ is_hopeless s name
hopeless-marked s serial mark name =
    ap (is_given_up s name) (named-mapped (λ o. cond (has_serial serial o) (marked mark o) o) (λ o. chosen-name (has_serial serial o) mark o) s.objects name)
    ∙ at (named s.objects name)
  where
    at : (n : Option Object) → is_given_up s name (option_map (λ o. cond (has_serial serial o) (marked mark o) o) n) ≡ is_given_up s name n
    at None = refl
    at (Some o) = ap not (chosen-closed (has_serial serial o) mark o)

-- ---- an object that turns

marked-heard : (ns : List Note) (s : State) (t now : Tables) (serial : Serial) (mark : Mark) → Hears ns (record t { tree = with_mark serial mark t.tree }) now → IsKept s t
    → IsKept (all_noted ns (record s { objects = with_mark serial mark s.objects })) now
marked-heard ns s t now serial mark h k =
    let after : State = record s { objects = with_mark serial mark s.objects } in
    let mid : Tables = record t { tree = with_mark serial mark t.tree } in
    record {
      look_ups = hears-look_ups ns after mid now h (λ i. record (k.look_ups i) { objects = with_mark serial mark (k.look_ups i).objects });
      at_rest = hears-rest ns mid now h s.notes (is_hopeless s) (is_hopeless after) (λ name f. hopeless-marked s serial mark name) k.at_rest;
    }

found-serial : (serial : Serial) (xs : List Object) (o : Object) → find (has_serial serial) xs ≡ Some o → o.serial ≡ serial
found-serial serial [] o e = absurd cc
found-serial serial (x ∷ xs) o e = at (has_serial serial x) refl e (found-serial serial xs o)
  where
    at : (b : Bool) → has_serial serial x ≡ b → cond b (Some x) (find (has_serial serial) xs) ≡ Some o → (find (has_serial serial) xs ≡ Some o → o.serial ≡ serial) → o.serial ≡ serial
    at true t found later =
        let here : x ≡ o = cc in
        let number : x.serial.0 ≡ serial.0 = eqb-true x.serial.0 serial.0 t in
        subst (λ (y : Object). y.serial ≡ serial) here (λ i. record { 0 = number i })
    at false t found later = later found

-- one that is open
pub turned-moves : (t now : Tables) (serial : Serial) (mark : Mark) (o : Object) (ns : List Note) (tree : List Object) → Some o ≡ numbered t.tree serial → is_open o ≡ true
    → tree ≡ with_mark serial mark t.tree → ns ≡ turn_notes o (marked mark o) → Hears ns (record t { tree = tree }) now → Moves (turned serial mark) t now
turned-moves t now serial mark o ns tree found is_open_now marks notes h = λ s k.
    let heard : Hears (turn_notes o (marked mark o)) (record t { tree = with_mark serial mark t.tree }) now =
    subst (λ (x : List Object). Hears (turn_notes o (marked mark o)) (record t { tree = x }) now) marks (subst (λ (m : List Note). Hears m (record t { tree = tree }) now) notes h) in
    let same : o.serial ≡ serial = found-serial serial t.tree o (sym found) in
    let as_found : turned serial mark s ≡ turned_from (Some o) mark s = ap (λ (m : Option Object). turned_from m mark s) (ap (λ (v : Seen). numbered v.objects serial) (sym k.look_ups) ∙ sym found) in
    let as_open : turned_from (Some o) mark s ≡ all_noted (turn_notes o (marked mark o)) (record s { objects = with_mark serial mark s.objects }) =
    ap (λ b. cond b (all_noted (turn_notes o (marked mark o)) (record s { objects = with_mark o.serial mark s.objects })) s) is_open_now
    ∙ ap (λ (n : Serial). all_noted (turn_notes o (marked mark o)) (record s { objects = with_mark n mark s.objects })) same in
    subst (λ (x : State). IsKept x now) (sym (as_found ∙ as_open)) (marked-heard (turn_notes o (marked mark o)) s t now serial mark heard k)

-- none, or one that is closed
pub not_turned-moves : (t : Tables) (serial : Serial) (mark : Mark) (n : Option Object) → n ≡ numbered t.tree serial → ((o : Object) → n ≡ Some o → is_open o ≡ false) → Moves (turned serial mark) t t
not_turned-moves t serial mark n found closed = λ s k.
    subst (λ (x : State). IsKept x t) (sym (ap (λ (m : Option Object). turned_from m mark s) (ap (λ (v : Seen). numbered v.objects serial) (sym k.look_ups) ∙ sym found) ∙ at n s closed)) k
  where
    at : (n : Option Object) (s : State) → ((o : Object) → n ≡ Some o → is_open o ≡ false) → turned_from n mark s ≡ s
    at None s h = refl
    at (Some o) s h = ap (λ b. cond b (all_noted (turn_notes o (marked mark o)) (record s { objects = with_mark o.serial mark s.objects })) s) (h o refl)

-- a mark that is not noted
pub marked-moves : (t : Tables) (serial : Serial) (mark : Mark) (tree : List Object) → tree ≡ with_mark serial mark t.tree
    → Moves (λ s. record s { objects = with_mark serial mark s.objects }) t (record t { tree = tree })
marked-moves t serial mark tree e = λ s k.
    let objects : tree ≡ with_mark serial mark s.objects = e ∙ ap (λ (v : Seen). with_mark serial mark v.objects) k.look_ups in
    record {
      look_ups = λ i. record (k.look_ups i) { objects = objects i };
      at_rest =
          subst (λ (h : List ℕ → Bool). AllByRecursion (HasNoneYet (times_noted s.notes) h) t.awaits.waiting)
          (sym (λ i name. hopeless-marked s serial mark name i)) k.at_rest;
    }
