-- The tables of the awaits after each call, and what is seen of them.
use Rattle.std.proofs.Common.{◌≡◌, ◌<◌, ◌+◌, ℕ, List, [], ◌∷◌, ◌++◌, Bool, true, false, not, ◌&&◌, ◌||◌, cond, nat_eq, Option, Some, bytes_eq, refl, sym, ap, subst, ◌∙◌, arith, inl, inr, map}
use Rattle.std.proofs.Math.Path.{fun_ext}
use Rattle.std.proofs.lemmas.Bool.{cases_Bool}
use Rattle.std.proofs.lemmas.List.{map-append}
use Rattle.std.proofs.lemmas.List.Sorted.{list_any-IsPermutation}
use Rattle.std.proofs.lemmas.Map.Text.{is_eq-slice_cmp}
use Rattle.std.specs.BTreeMap.{insert_entry, is_at}
use Rattle.std.specs.Cmp.Lexicographic.{bytes_decides, slice_cmp}
use Rattle.std.specs.List.{AllByRecursion}
use Rattle.std.specs.List.Sorted.{IsPermutation}
use Rattle.std.specs.Map.{lookup}
use Rattle.std.specs.Ordering.{nat_cmp}
use Rattle.std.specs.Prelude.{String}
use Rattle.std.specs.String.{string_bytes}
use Rattle.ms_base.specs.declared.keys.Event.{Event}
use Rattle.host_awaits.specs.Awaits.{is_event, same_event}
use Rattle.host_awaits.specs.Keeping.{AreBelow, AreKept, AreRising, Entries, IsKnown, rests, times_seen, watched}
use Rattle.host_awaits.specs.Names.{has_number, noted, resting, times_of}
use Rattle.host_awaits.specs.Settling.{HaveNoneAtRest, awaits_of}
use Rattle.host_awaits.specs.Watching.{HasNoneYet, Watched, Watching, awaits_in, just_entered, looked_at, times_in, times_within, touched_by}
use Rattle.host_awaits.specs.declared.entered.Await.{Await}
use Rattle.host_awaits.specs.declared.names.Names.{Names}
use Rattle.host_awaits.specs.declared.times.Times.{Times}
use Rattle.host_awaits.proofs.EntryLemmas.{all-appended, all-weaker, has-left, has-one, has-right, inserted-last, none-in, rising-appended}
use Rattle.host_awaits.proofs.SettleLemmas.{below-kept}

-- ---- how often each event was noted

time-found : {Y : Type 0} (name : List ℕ) (wanted : Event) (es : List (String Y × Times))
    → times_within (lookup (bytes_eq name) (map (λ e. (string_bytes e.0, e.1)) es)) wanted ≡ times_of (lookup (is_at (λ k. slice_cmp nat_cmp name (string_bytes k))) es) wanted
time-found name wanted [] = refl
time-found name wanted (e ∷ es) =
    let own = is_eq-slice_cmp name (string_bytes e.0) in
    elim (cases_Bool (bytes_eq name (string_bytes e.0))) [
      | inl t ↦ rw t (rw (own ∙ t) refl)
      | inr f ↦ rw f (rw (own ∙ f) (time-found name wanted es))
    ]

abbrev pub seen : Names → List Watched → Watching
seen names waiting = record { waiting = waiting; times = times_seen names }

pub times-in : (names : Names) (waiting : List Watched) (name : List ℕ) (wanted : Event) → times_in (seen names waiting) name wanted ≡ noted names name wanted
times-in names waiting name wanted = time-found name wanted names.times.entries

pub times-were : (names : Names) (waiting : List Watched) (old : Watching) → seen names waiting ≡ old → (name : List ℕ) (wanted : Event) → noted names name wanted ≡ times_in old name wanted
times-were names waiting old view name wanted = sym (times-in names waiting name wanted) ∙ ap (λ w. times_in w name wanted) view

pub times-kept : (names after : Names) (waiting new : List Watched) (old : Watching) → seen names waiting ≡ old → ((name : List ℕ) (e : Event) → noted after name e ≡ noted names name e)
    → (name : List ℕ) (e : Event) → times_in (seen after new) name e ≡ times_in old name e
times-kept names after waiting new old view same name e = times-in after new name e ∙ (same name e ∙ times-were names waiting old view name e)

pub times-heard : (names after : Names) (waiting new : List Watched) (old : Watching) → seen names waiting ≡ old → (of : List ℕ) (event : Event) (told : Option (List ℕ × Event)) → Some (of, event) ≡ told
    → ((name : List ℕ) (e : Event) → noted after name e ≡ cond (bytes_eq of name && same_event event e) (noted names name e + 1) (noted names name e))
    → (name : List ℕ) (e : Event) → times_in (seen after new) name e ≡ cond (is_event name e told) (times_in old name e + 1) (times_in old name e)
times-heard names after waiting new old view of event told is counted name e =
    let was = times-were names waiting old view name e in
    times-in after new name e ∙ (counted name e ∙ (λ i. cond (is_event name e (is i)) (was i + 1) (was i)))

-- ---- those of a name are touched

or-true : (b : Bool) → (b || true) ≡ true
or-true true = refl
or-true false = refl

or-false : (b : Bool) → (b || false) ≡ b
or-false true = refl
or-false false = refl

-- nothing is touched
pub seen-untouched : (waiting : List Watched) → waiting ≡ map (touched_by (λ name. false)) waiting
seen-untouched [] = refl
seen-untouched (x ∷ xs) = λ i. record { awaited = x.awaited; touched = sym (or-false x.touched) i } ∷ seen-untouched xs i

emptied-at : (b : Bool) (ms : List ℕ) (k : ℕ) → not (has_number (cond b [] ms) k) ≡ (not (has_number ms k) || b)
emptied-at true ms k = sym (or-true (not (has_number ms k)))
emptied-at false ms k = sym (or-false (not (has_number ms k)))

below-emptied : (b : Bool) (next : ℕ) (ms : List ℕ) → AllByRecursion (λ (m : ℕ). m < next) ms → AllByRecursion (λ (m : ℕ). m < next) (cond b [] ms)
below-emptied true next ms h = tt
below-emptied false next ms h = h

module _ (names after : Names) (name : List ℕ) (emptied : (of : List ℕ) → resting after of ≡ cond (bytes_eq name of) [] (resting names of)) where
  pub seen-touched : (es : Entries) → map (watched after) es ≡ map (touched_by (bytes_eq name)) (map (watched names) es)
  seen-touched [] = refl
  seen-touched (e ∷ es) =
      let now = ap (λ l. not (has_number l e.0)) (emptied e.1.name) ∙ emptied-at (bytes_eq name e.1.name) (resting names e.1.name) e.0 in
      λ i. record { awaited = e.1; touched = now i } ∷ seen-touched es i

  pub kept-touched : (next : ℕ) (es : Entries) (touched more : List ℕ) → more ≡ touched ++ resting names name → AreKept next es names touched → AreKept next es after more
  kept-touched next es touched more is h = record {
    rising = h.rising;
    below = record {
      entered = h.below.entered;
      at_rest = λ of. subst (λ l. AllByRecursion (λ (m : ℕ). m < next) l) (sym (emptied of)) (below-emptied (bytes_eq name of) next (resting names of) (h.below.at_rest of));
    };
    known =
        all-weaker (IsKnown names touched) (IsKnown after more) es
        (λ e was f. ap (λ l. has_number l e.0) is ∙ elim (cases_Bool (rests names e)) [
          | inl t ↦ elim (cases_Bool (bytes_eq name e.1.name)) [
            | inl s ↦ has-right touched (resting names name) e.0 (ap (λ of. has_number (resting names of) e.0) ((bytes_decides name e.1.name).0 s) ∙ t)
            | inr n ↦
                absurd (let stays = emptied e.1.name ∙ ap (λ b. cond b [] (resting names e.1.name)) n in
                let clash : true ≡ false = sym (ap (λ l. has_number l e.0) stays ∙ t) ∙ f in cc)
          ]
          | inr g ↦ has-left touched (resting names name) e.0 (was g)
        ])
        h.known;
  }

-- the same are at rest
pub kept-same : (next : ℕ) (names after : Names) (es new : Entries) (touched now : List ℕ) → new ≡ es → ((of : List ℕ) → resting after of ≡ resting names of) → now ≡ touched → AreKept next es names touched
    → AreKept next new after now
kept-same next names after es new touched now same kept is h =
    subst (λ l. AreKept next l after now) (sym same) (subst (λ t. AreKept next es after t) (sym is) (record {
      rising = h.rising;
      below = below-kept next names after es es refl kept h.below;
      known = all-weaker (IsKnown names touched) (IsKnown after touched) es (λ e was f. was (ap (λ l. has_number l e.0) (sym (kept e.1.name)) ∙ f)) h.known;
    }))

-- ---- an await more

-- the number of the next one is to be looked at
pub kept-more : (next : ℕ) (names : Names) (es new : Entries) (touched more : List ℕ) → new ≡ es → more ≡ touched ++ next ∷ [] → AreKept next es names touched → AreKept next new names more
kept-more next names es new touched more same is h =
    subst (λ l. AreKept next l names more) (sym same) (record {
      rising = h.rising;
      below = h.below;
      known = all-weaker (IsKnown names touched) (IsKnown names more) es (λ e was f. ap (λ l. has_number l e.0) is ∙ has-left touched (next ∷ []) e.0 (was f)) h.known;
    })

pub kept-added : (next above : ℕ) (names : Names) (a : Await) (es new : Entries) (touched more : List ℕ) → above ≡ next + 1 → new ≡ insert_entry nat_cmp es next a → more ≡ touched ++ next ∷ [] → AreKept next es names touched
    → AreKept above new names more
kept-added next above names a es new touched more up inserted is h =
    let all = inserted ∙ inserted-last next a es h.below.entered in
    subst (λ l. AreKept above l names more) (sym all) (record {
      rising = rising-appended next a es h.below.entered h.rising;
      below = record {
        entered = all-appended (λ (e : ℕ × Await). e.0 < above) es (next, a) (all-weaker (λ (e : ℕ × Await). e.0 < next) (λ (e : ℕ × Await). e.0 < above) es (λ e less. omega (arith, less, up)) h.below.entered) (omega (arith, up));
        at_rest = λ of. all-weaker (λ (m : ℕ). m < next) (λ (m : ℕ). m < above) (resting names of) (λ m less. omega (arith, less, up)) (h.below.at_rest of);
      };
      known =
          all-appended (IsKnown names more) es (next, a)
          (all-weaker (IsKnown names touched) (IsKnown names more) es (λ e was f. ap (λ l. has_number l e.0) is ∙ has-left touched (next ∷ []) e.0 (was f)) h.known)
          (λ f. ap (λ l. has_number l next) is ∙ has-right touched (next ∷ []) next (has-one next next refl));
    })

pub seen-added : (next : ℕ) (names : Names) (a : Await) (es new : Entries) (waiting : List Watched) → AreBelow next es names → new ≡ insert_entry nat_cmp es next a → map (watched names) es ≡ waiting
    → map (watched names) new ≡ waiting ++ just_entered a ∷ []
seen-added next names a es new waiting below inserted view =
    let entered : watched names (next, a) ≡ just_entered a = (let none = none-in next (resting names a.name) (below.at_rest a.name) in λ i. record { awaited = a; touched = not (none i) }) in
    ap (map (watched names)) (inserted ∙ inserted-last next a es below.entered) ∙ (map-append (watched names) es ((next, a) ∷ []) ∙ (λ i. view i ++ entered i ∷ []))

-- ---- none, and none to be looked at

pub kept-none : (names : Names) (es : Entries) (touched : List ℕ) → es ≡ [] → ((of : List ℕ) → resting names of ≡ []) → AreKept 0 es names touched
kept-none names es touched none idle =
    subst (λ l. AreKept 0 l names touched) (sym none) (record {
      rising = tt;
      below = record { entered = tt; at_rest = λ of. subst (λ l. AllByRecursion (λ (m : ℕ). m < 0) l) (sym (idle of)) tt };
      known = tt;
    })

-- ---- settling

pub times-same : (names : Names) (waiting : List Watched) (old : Watching) → seen names waiting ≡ old → noted names ≡ times_in old
times-same names waiting old view = fun_ext (λ name. fun_ext (λ e. times-were names waiting old view name e))

awaits-watched : (names : Names) (es : Entries) → awaits_of es ≡ map (λ (x : Watched). x.awaited) (map (watched names) es)
awaits-watched names [] = refl
awaits-watched names (e ∷ es) = ap (λ l. e.1 ∷ l) (awaits-watched names es)

pub awaits-same : (names : Names) (es : Entries) (old : Watching) → seen names (map (watched names) es) ≡ old → awaits_of es ≡ awaits_in old
awaits-same names es old view = awaits-watched names es ∙ ap awaits_in view

-- what isn't at rest is still known, where the numbers to be looked at were put in order
pub known-sorted : (names : Names) (touched sorted : List ℕ) → IsPermutation touched sorted → (es : Entries) → AllByRecursion (IsKnown names touched) es → AllByRecursion (IsKnown names sorted) es
known-sorted names touched sorted moved es known =
    all-weaker (IsKnown names touched) (IsKnown names sorted) es (λ e was f. sym (list_any-IsPermutation (nat_eq e.0) touched sorted moved) ∙ was f) known

none-at-rest : (times : List ℕ → Event → ℕ) (hopeless : List ℕ → Bool) (names : Names) (es : Entries) → AllByRecursion (HasNoneYet times hopeless) (map (watched names) es)
    → HaveNoneAtRest times hopeless names es
none-at-rest times hopeless names [] yet = tt
none-at-rest times hopeless names (e ∷ es) yet = ((λ t. yet.0 (ap not t)), none-at-rest times hopeless names es yet.1)

-- those of whose names nothing has changed have no outcome, and they are those at rest
pub none-unless-touched : (hopeless : List ℕ → Bool) (names : Names) (es : Entries) (old : Watching) → seen names (map (watched names) es) ≡ old
    → AllByRecursion (HasNoneYet (times_in old) hopeless) old.waiting → HaveNoneAtRest (noted names) hopeless names es
none-unless-touched hopeless names es old view yet =
    none-at-rest (noted names) hopeless names es
    (subst (λ l. AllByRecursion (HasNoneYet (noted names) hopeless) l) (sym (ap (λ w. w.waiting) view))
    (subst (λ t. AllByRecursion (HasNoneYet t hopeless) old.waiting) (sym (times-same names (map (watched names) es) old view)) yet))

pub seen-at-rest : (names : Names) (es : Entries) → AllByRecursion (λ (e : ℕ × Await). rests names e ≡ true) es → map (watched names) es ≡ map looked_at (awaits_of es)
seen-at-rest names [] h = refl
seen-at-rest names (e ∷ es) h = λ i. record { awaited = e.1; touched = not (h.0 i) } ∷ seen-at-rest names es h.1 i

pub kept-at-rest : (next : ℕ) (names : Names) (es : Entries) (touched : List ℕ) → AreRising es → AreBelow next es names → AllByRecursion (λ (e : ℕ × Await). rests names e ≡ true) es
    → AreKept next es names touched
kept-at-rest next names es touched rising below at_rest = record {
  rising = rising;
  below = below;
  known = all-weaker (λ (e : ℕ × Await). rests names e ≡ true) (IsKnown names touched) es (λ e t f. absurd (let clash : true ≡ false = sym t ∙ f in cc)) at_rest;
}
