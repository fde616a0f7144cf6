-- Looking at one await after another: what is settled so far, and what is left.
use Rattle.std.proofs.Common.{◌≡◌, ◌<◌, ◌≤◌, ◌+◌, ℕ, List, [], ◌∷◌, ◌++◌, Bool, true, false, cond, nat_eq, nat_lt, Some, None, bytes_eq, refl, sym, ap, subst, ◌∙◌, arith, inl, inr, length, get_or, drop, suc, append_assoc}
use Rattle.std.proofs.Math.Path.{fun_ext}
use Rattle.std.proofs.Math.Seq.{drop-cons}
use Rattle.std.proofs.lemmas.Bool.{cases_Bool, eqb-true, ne_eqb, ltb-true, ltb-false}
use Rattle.std.proofs.lemmas.List.{append-nil, drop_all}
use Rattle.std.proofs.lemmas.List.Sorted.{IsNonDecreasingBy-drop}
use Rattle.std.specs.BTreeMap.{is_at}
use Rattle.std.specs.Cmp.Lexicographic.{bytes_decides}
use Rattle.std.specs.List.{AllByRecursion}
use Rattle.std.specs.List.Sorted.{IsNonDecreasing}
use Rattle.std.specs.Map.{lookup, remove_entry}
use Rattle.std.specs.Ordering.{nat_cmp}
use Rattle.ms_base.specs.declared.keys.Event.{Event}
use Rattle.ms_base.specs.declared.outcome.Outcome.{Outcome}
use Rattle.host_awaits.specs.Awaits.{outcome_of, settled_before, settled_by, waiting_before, waiting_by}
use Rattle.host_awaits.specs.Keeping.{AreBelow, AreRising, Entries, IsKnown, rests}
use Rattle.host_awaits.specs.Names.{has_number, noted, resting}
use Rattle.host_awaits.specs.Settling.{AreReady, HasNone, HaveNoneAtRest, IsAtRest, Looked, OnceDone, Settled, awaits_of, missing, numbered, settles, waits}
use Rattle.host_awaits.specs.declared.entered.Await.{Await}
use Rattle.host_awaits.specs.declared.names.Names.{Names}
use Rattle.host_awaits.proofs.EntryLemmas.{all-absent, all-appended, all-both, all-removed, all-weaker, first-least, found-below, has-dropped, has-left, has-one, has-right, none-behind, none-from, not-first, removed-apart, rising-removed, tests-same, unique}

module _ (times : List ℕ → Event → ℕ) (hopeless : List ℕ → Bool) where
  -- the first of those that settle, where those before it have no outcome
  pub taken-out : (n : ℕ) (a : Await) (o : Outcome) (es : Entries) → AreRising es → AllByRecursion (λ (e : ℕ × Await). e.0 < n → outcome_of times hopeless e.1 ≡ None) es
      → lookup (nat_eq n) es ≡ Some a → outcome_of times hopeless a ≡ Some o
      → (settled_by times hopeless (awaits_of es) ≡ (a.key, o) ∷ settled_by times hopeless (awaits_of (remove_entry (nat_eq n) es)))
      × (waiting_by times hopeless (awaits_of es) ≡ waiting_by times hopeless (awaits_of (remove_entry (nat_eq n) es)))
  taken-out n a o [] r before found out = absurd (let c : None ≡ Some a = found in cc)
  taken-out n a o (e ∷ es) r before found out = elim (cases_Bool (nat_eq n e.0)) [
    | inl t ↦
        (let same : e.1 ≡ a = (let here = rw t at found in cc) in
        let here : outcome_of times hopeless e.1 ≡ Some o = ap (outcome_of times hopeless) same ∙ out in
        let settled = settled_by times hopeless (awaits_of es) in
        let waiting = waiting_by times hopeless (awaits_of es) in
        rw t (ap (λ v. settled_before e.1.key v settled) here ∙ ap (λ (b : Await). (b.key, o) ∷ settled) same, ap (λ v. waiting_before e.1 v waiting) here))
    | inr f ↦
        (let later = rw f at found in
        let less : e.0 < n = elim (cases_Bool (nat_lt e.0 n)) [
          | inl t ↦ ltb-true e.0 n t
          | inr g ↦ absurd (let none = none-behind n e.0 es (ltb-false e.0 n g) r.0 in let c : None ≡ Some a = sym none ∙ later in cc)
        ] in
        let none = before.0 less in
        let left = awaits_of (remove_entry (nat_eq n) es) in
        let both = taken-out n a o es r.1 before.1 later out in
        rw f (
          ap (λ v. settled_before e.1.key v (settled_by times hopeless (awaits_of es))) none
              ∙ (both.0 ∙ sym (ap (λ v. (a.key, o) ∷ settled_before e.1.key v (settled_by times hopeless left)) none)),
          ap (λ v. waiting_before e.1 v (waiting_by times hopeless (awaits_of es))) none
              ∙ (ap (λ l. e.1 ∷ l) both.1 ∙ sym (ap (λ v. waiting_before e.1 v (waiting_by times hopeless left)) none)),
        ))
  ]

  -- where none has an outcome, none settles and all go on waiting
  pub none-settles : (es : Entries) → AllByRecursion (HasNone times hopeless) es → (settled_by times hopeless (awaits_of es) ≡ []) × (waiting_by times hopeless (awaits_of es) ≡ awaits_of es)
  none-settles [] h = (refl, refl)
  none-settles (e ∷ es) h =
      let both = none-settles es h.1 in (
        ap (λ v. settled_before e.1.key v (settled_by times hopeless (awaits_of es))) h.0 ∙ both.0,
        ap (λ v. waiting_before e.1 v (waiting_by times hopeless (awaits_of es))) h.0 ∙ ap (λ l. e.1 ∷ l) both.1,
      )

  -- those before the first that is to be looked at have no outcome
  pub none-before : (n : ℕ) (left : List ℕ) (es : Entries) → AllByRecursion (λ (m : ℕ). n ≤ m) left → AllByRecursion (OnceDone (HasNone times hopeless) (n ∷ left)) es
      → AllByRecursion (λ (e : ℕ × Await). e.0 < n → outcome_of times hopeless e.1 ≡ None) es
  none-before n left es least done =
      all-weaker (OnceDone (HasNone times hopeless) (n ∷ left)) (λ (e : ℕ × Await). e.0 < n → outcome_of times hopeless e.1 ≡ None) es
      (λ e was less. was (not-first n left e.0 (ne_eqb n e.0 (λ s. omega (arith, s, less))) (none-from e.0 n left less least)))
      done

-- what holds once an await is done goes on holding, as soon as what is found first has been looked at
goes-on : (P Q : ℕ × Await → Type 0) (n : ℕ) (left : List ℕ) (es : Entries) → ((e : ℕ × Await) → P e → Q e) → AllByRecursion (OnceDone P (n ∷ left)) es
    → AllByRecursion (λ (e : ℕ × Await). nat_eq n e.0 ≡ true → Q e) es → AllByRecursion (OnceDone Q left) es
goes-on P Q n left es weaker done here =
    all-both (OnceDone P (n ∷ left)) (λ (e : ℕ × Await). nat_eq n e.0 ≡ true → Q e) (OnceDone Q left) es
    (λ e was at out. elim (cases_Bool (nat_eq n e.0)) [
      | inl t ↦ at t
      | inr f ↦ weaker e (was (not-first n left e.0 f out))
    ])
    done here

-- whatever is said of the await of a number that none has
of-none : (Q : ℕ × Await → Type 0) (n : ℕ) (es : Entries) → AllByRecursion (λ (e : ℕ × Await). nat_eq n e.0 ≡ false) es → AllByRecursion (λ (e : ℕ × Await). nat_eq n e.0 ≡ true → Q e) es
of-none Q n es absent =
    all-weaker (λ (e : ℕ × Await). nat_eq n e.0 ≡ false) (λ (e : ℕ × Await). nat_eq n e.0 ≡ true → Q e) es
    (λ e f t. absurd (let clash : true ≡ false = sym t ∙ f in cc)) absent

-- what isn't to be looked at is at rest
pub at-rest-once-done : (names : Names) (left : List ℕ) (es : Entries) → AllByRecursion (IsKnown names left) es → AllByRecursion (OnceDone (IsAtRest names) left) es
at-rest-once-done names left es known =
    all-weaker (IsKnown names left) (OnceDone (IsAtRest names) left) es
    (λ e was out. elim (cases_Bool (rests names e)) [
      | inl t ↦ t
      | inr f ↦ absurd (let clash : true ≡ false = sym (was f) ∙ out in cc)
    ])
    known

-- what has settled as far as the awaits have been looked at
pub record Settling (hopeless : List ℕ → Bool) (first : Names) (entered : Entries) (left : List ℕ) (entries : Entries) (settled : Settled) : Type 0 where
  pub none : AllByRecursion (OnceDone (HasNone (noted first) hopeless) left) entries
  pub settled_so_far : settled_by (noted first) hopeless (awaits_of entered) ≡ settled ++ settled_by (noted first) hopeless (awaits_of entries)
  pub waiting_still : waiting_by (noted first) hopeless (awaits_of entered) ≡ waiting_by (noted first) hopeless (awaits_of entries)

-- as far as the awaits have been looked at
pub record Looking (hopeless : List ℕ → Bool) (first : Names) (entered : Entries) (left : List ℕ) (names : Names) (entries : Entries) (settled : Settled) : Type 0 where
  pub same : (name : List ℕ) (e : Event) → noted names name e ≡ noted first name e
  pub rising : AreRising entries
  pub below : (next : ℕ) → AreBelow next entered first → AreBelow next entries names
  pub at_rest : AllByRecursion (OnceDone (IsAtRest names) left) entries
  pub settling : HaveNoneAtRest (noted first) hopeless first entered → Settling hopeless first entered left entries settled

pub looking-starts : (hopeless : List ℕ → Bool) (names : Names) (es : Entries) (touched : List ℕ) → AreReady names es touched → Looking hopeless names es touched names es []
looking-starts hopeless names es touched ready =
    let rest = at-rest-once-done names touched es ready.known in
    record {
      same = λ name e. refl;
      rising = ready.rising;
      below = λ next h. h;
      at_rest = rest;
      settling = λ none. record {
        none =
            all-both (OnceDone (IsAtRest names) touched) (λ (e : ℕ × Await). IsAtRest names e → HasNone (noted names) hopeless e) (OnceDone (HasNone (noted names) hopeless) touched) es
            (λ e resting has out. has (resting out)) rest none;
        settled_so_far = refl;
        waiting_still = refl;
      };
    }

-- ---- one more is looked at

grown-at : (b : Bool) (ms : List ℕ) (n k : ℕ) → has_number ms k ≡ true → has_number (cond b (ms ++ n ∷ []) ms) k ≡ true
grown-at true ms n k h = has-left ms (n ∷ []) k h
grown-at false ms n k h = h

below-at : (b : Bool) (ms : List ℕ) (n next : ℕ) → n < next → AllByRecursion (λ (m : ℕ). m < next) ms → AllByRecursion (λ (m : ℕ). m < next) (cond b (ms ++ n ∷ []) ms)
below-at true ms n next less h = all-appended (λ (m : ℕ). m < next) ms n h less
below-at false ms n next less h = h

same-bytes : (a b : List ℕ) → a ≡ b → bytes_eq a b ≡ true
same-bytes a b h = (bytes_decides a b).1 h

-- the same awaits are below a number, where the same are at rest
pub below-kept : (next : ℕ) (names after : Names) (es new : Entries) → new ≡ es → ((of : List ℕ) → resting after of ≡ resting names of) → AreBelow next es names → AreBelow next new after
below-kept next names after es new same kept h = record {
  entered = subst (λ l. AllByRecursion (λ (e : ℕ × Await). e.0 < next) l) (sym same) h.entered;
  at_rest = λ name. subst (λ l. AllByRecursion (λ (m : ℕ). m < next) l) (sym (kept name)) (h.at_rest name);
}

module _ (hopeless : List ℕ → Bool) (first : Names) (entered : Entries) (n : ℕ) (left : List ℕ) (names after : Names) (old : Entries) (before : Settled)
    (least : AllByRecursion (λ (m : ℕ). n ≤ m) left) (looking : Looking hopeless first entered (n ∷ left) names old before)
    (counts : (name : List ℕ) (e : Event) → noted after name e ≡ noted names name e) where
  still-noted : (name : List ℕ) (e : Event) → noted after name e ≡ noted first name e
  still-noted name e = counts name e ∙ looking.same name e

  as-first : (a : Await) → outcome_of (noted names) hopeless a ≡ outcome_of (noted first) hopeless a
  as-first a = ap (λ t. outcome_of t hopeless a) (fun_ext (λ name. fun_ext (λ e. looking.same name e)))

  module _ (kept : (of : List ℕ) → resting after of ≡ resting names of) where
    kept-more : (name : List ℕ) (k : ℕ) → has_number (resting names name) k ≡ true → has_number (resting after name) k ≡ true
    kept-more name k h = ap (λ l. has_number l k) (kept name) ∙ h

    kept-below : (next : ℕ) (es : Entries) → AreBelow next es names → AreBelow next es after
    kept-below next es h = below-kept next names after es es refl kept h

    -- those that were done still rest, where none that is left has this number
    rest-more : (es : Entries) → AllByRecursion (OnceDone (IsAtRest names) (n ∷ left)) es → AllByRecursion (λ (e : ℕ × Await). nat_eq n e.0 ≡ false) es → AllByRecursion (OnceDone (IsAtRest after) left) es
    rest-more es done absent = goes-on (IsAtRest names) (IsAtRest after) n left es (λ e. kept-more e.1.name e.0) done (of-none (IsAtRest after) n es absent)

    none-more : (es : Entries) → AllByRecursion (OnceDone (HasNone (noted first) hopeless) (n ∷ left)) es → AllByRecursion (λ (e : ℕ × Await). nat_eq n e.0 ≡ false) es
        → AllByRecursion (OnceDone (HasNone (noted first) hopeless) left) es
    none-more es done absent =
        goes-on (HasNone (noted first) hopeless) (HasNone (noted first) hopeless) n left es (λ e h. h) done (of-none (HasNone (noted first) hopeless) n es absent)

    after-missing : numbered n old ≡ None → Looking hopeless first entered left after old before
    after-missing none =
        let absent = all-absent n old (ap (λ p. lookup p old) (sym (tests-same n)) ∙ none) in
        record {
          same = still-noted;
          rising = looking.rising;
          below = λ next h. kept-below next old (looking.below next h);
          at_rest = rest-more old looking.at_rest absent;
          settling = λ premise.
              (let was = looking.settling premise in
              record { none = none-more old was.none absent; settled_so_far = was.settled_so_far; waiting_still = was.waiting_still });
        }

    after-settles : (a : Await) (o : Outcome) → numbered n old ≡ Some a → outcome_of (noted names) hopeless a ≡ Some o
        → Looking hopeless first entered left after (remove_entry (is_at (nat_cmp n)) old) (before ++ (a.key, o) ∷ [])
    after-settles a o found out =
        let new : Entries = remove_entry (nat_eq n) old in
        let apart = removed-apart n old looking.rising in
        let gone : Looking hopeless first entered left after new (before ++ (a.key, o) ∷ []) = record {
          same = still-noted;
          rising = rising-removed (nat_eq n) old looking.rising;
          below = λ next h.
              (let b = kept-below next old (looking.below next h) in
              record { entered = all-removed (λ (e : ℕ × Await). e.0 < next) (nat_eq n) old b.entered; at_rest = b.at_rest });
          at_rest = rest-more new (all-removed (OnceDone (IsAtRest names) (n ∷ left)) (nat_eq n) old looking.at_rest) apart;
          settling = λ premise.
              (let was = looking.settling premise in
              let both =
              taken-out (noted first) hopeless n a o old looking.rising (none-before (noted first) hopeless n left old least was.none)
              (ap (λ p. lookup p old) (sym (tests-same n)) ∙ found) (sym (as-first a) ∙ out) in
              record {
                none = none-more new (all-removed (OnceDone (HasNone (noted first) hopeless) (n ∷ left)) (nat_eq n) old was.none) apart;
                settled_so_far = was.settled_so_far ∙ (ap (λ l. before ++ l) both.0 ∙ sym (append_assoc before ((a.key, o) ∷ []) (settled_by (noted first) hopeless (awaits_of new))));
                waiting_still = was.waiting_still ∙ both.1;
              });
        } in
        subst (λ p. Looking hopeless first entered left after (remove_entry p old) (before ++ (a.key, o) ∷ [])) (sym (tests-same n)) gone

  module _ (a : Await) (found : numbered n old ≡ Some a) (out : outcome_of (noted names) hopeless a ≡ None)
      (grown : (of : List ℕ) → resting after of ≡ cond (bytes_eq a.name of) (resting names of ++ n ∷ []) (resting names of)) where
    there : lookup (nat_eq n) old ≡ Some a
    there = ap (λ p. lookup p old) (sym (tests-same n)) ∙ found

    now-none : (e : ℕ × Await) → e.1 ≡ a → HasNone (noted first) hopeless e
    now-none e is = ap (outcome_of (noted first) hopeless) is ∙ (sym (as-first a) ∙ out)

    now-rests : (e : ℕ × Await) → e.1 ≡ a → nat_eq n e.0 ≡ true → IsAtRest after e
    now-rests e is t =
        ap (λ l. has_number l e.0) (grown e.1.name ∙ ap (λ b. cond b (resting names e.1.name ++ n ∷ []) (resting names e.1.name)) (same-bytes a.name e.1.name (ap (λ (x : Await). x.name) (sym is))))
        ∙ has-right (resting names e.1.name) (n ∷ []) e.0 (has-one n e.0 (eqb-true n e.0 t))

    -- what holds of the await that was found holds of the one of its number
    of-found : (Q : ℕ × Await → Type 0) → ((e : ℕ × Await) → e.1 ≡ a → nat_eq n e.0 ≡ true → Q e) → AllByRecursion (λ (e : ℕ × Await). nat_eq n e.0 ≡ true → Q e) old
    of-found Q holds =
        all-weaker (λ (e : ℕ × Await). nat_eq n e.0 ≡ true → e.1 ≡ a) (λ (e : ℕ × Await). nat_eq n e.0 ≡ true → Q e) old (λ e is t. holds e (is t) t)
        (unique n a old looking.rising there)

    after-waits : Looking hopeless first entered left after old before
    after-waits = record {
      same = still-noted;
      rising = looking.rising;
      below = λ next h.
          (let b = looking.below next h in
          record {
            entered = b.entered;
            at_rest = λ name.
                subst (λ l. AllByRecursion (λ (m : ℕ). m < next) l) (sym (grown name)) (below-at (bytes_eq a.name name) (resting names name) n next (found-below n next a old b.entered there) (b.at_rest name));
          });
      at_rest =
          goes-on (IsAtRest names) (IsAtRest after) n left old (λ e h. ap (λ l. has_number l e.0) (grown e.1.name) ∙ grown-at (bytes_eq a.name e.1.name) (resting names e.1.name) n e.0 h) looking.at_rest
          (of-found (IsAtRest after) now-rests);
      settling = λ premise.
          (let was = looking.settling premise in
          record {
            none = goes-on (HasNone (noted first) hopeless) (HasNone (noted first) hopeless) n left old (λ e h. h) was.none (of-found (HasNone (noted first) hopeless) (λ e is t. now-none e is));
            settled_so_far = was.settled_so_far;
            waiting_still = was.waiting_still;
          });
    }

  moved : (new es : Entries) (settled so_far : Settled) → new ≡ es → settled ≡ so_far → Looking hopeless first entered left after es so_far → Looking hopeless first entered left after new settled
  moved new es settled so_far e s h =
      subst (λ x. Looking hopeless first entered left after x settled) (sym e) (subst (λ x. Looking hopeless first entered left after es x) (sym s) h)

  pub looked : (new : Entries) (settled : Settled) → Looked hopeless n names old before after new settled → Looking hopeless first entered left after new settled
  looked new settled (missing none kept e s) = moved new old settled before e s (after-missing kept none)
  looked new settled (waits a found out grown e s) = moved new old settled before e s (after-waits a found out grown)
  looked new settled (settles a o found out kept e s) =
      moved new (remove_entry (is_at (nat_cmp n)) old) settled (before ++ (a.key, o) ∷ []) e s (after-settles kept a o found out)

-- ---- by places

pub looked-at : (hopeless : List ℕ → Bool) (first : Names) (entered : Entries) (numbers : List ℕ) (i : ℕ) (names after : Names) (old new : Entries) (before settled : Settled) → IsNonDecreasing numbers
    → i < length numbers → Looking hopeless first entered (drop i numbers) names old before → ((name : List ℕ) (e : Event) → noted after name e ≡ noted names name e)
    → Looked hopeless (get_or numbers i 0) names old before after new settled → Looking hopeless first entered (drop (i + 1) numbers) after new settled
looked-at hopeless first entered numbers i names after old new before settled in_order less looking counts step =
    let n = get_or numbers i 0 in
    let left = drop (suc i) numbers in
    let cut : drop i numbers ≡ n ∷ left = drop-cons numbers i 0 less in
    let least = first-least n left (subst IsNonDecreasing cut (IsNonDecreasingBy-drop (λ (x : ℕ). x) i numbers in_order)) in
    let now = subst (λ l. Looking hopeless first entered l names old before) cut looking in
    let next : suc i ≡ i + 1 = omega arith in
    subst (λ k. Looking hopeless first entered (drop k numbers) after new settled) next (looked hopeless first entered n left names after old before least now counts new settled step)

-- all have been looked at
pub record Finished (hopeless : List ℕ → Bool) (first : Names) (entered : Entries) (names : Names) (entries : Entries) (settled : Settled) : Type 0 where
  pub settled_is : HaveNoneAtRest (noted first) hopeless first entered → settled ≡ settled_by (noted first) hopeless (awaits_of entered)
  pub waiting_is : HaveNoneAtRest (noted first) hopeless first entered → awaits_of entries ≡ waiting_by (noted first) hopeless (awaits_of entered)
  pub at_rest : AllByRecursion (IsAtRest names) entries

-- what holds of each once it is done holds of all
all-done : (P : ℕ × Await → Type 0) (numbers : List ℕ) (i : ℕ) (es : Entries) → length numbers ≤ i → AllByRecursion (OnceDone P (drop i numbers)) es → AllByRecursion P es
all-done P numbers i es past h = all-weaker (OnceDone P []) P es (λ e holds. holds refl) (subst (λ l. AllByRecursion (OnceDone P l) es) (drop_all i numbers past) h)

pub finished : (hopeless : List ℕ → Bool) (first : Names) (entered : Entries) (numbers : List ℕ) (i : ℕ) (names : Names) (entries : Entries) (settled : Settled)
    → length numbers ≤ i → Looking hopeless first entered (drop i numbers) names entries settled → Finished hopeless first entered names entries settled
finished hopeless first entered numbers i names entries settled past looking =
    let none : (premise : HaveNoneAtRest (noted first) hopeless first entered) → AllByRecursion (HasNone (noted first) hopeless) entries =
    λ premise. all-done (HasNone (noted first) hopeless) numbers i entries past (looking.settling premise).none in
    record {
      settled_is = λ premise.
          sym ((looking.settling premise).settled_so_far ∙ (ap (λ l. settled ++ l) (none-settles (noted first) hopeless entries (none premise)).0 ∙ append-nil settled));
      waiting_is = λ premise. sym ((looking.settling premise).waiting_still ∙ (none-settles (noted first) hopeless entries (none premise)).1);
      at_rest = all-done (IsAtRest names) numbers i entries past looking.at_rest;
    }

-- memory has run out: what isn't at rest is still to be looked at
pub still-known : (hopeless : List ℕ → Bool) (first : Names) (entered : Entries) (numbers : List ℕ) (i : ℕ) (names after : Names) (entries new : Entries) (settled : Settled)
    → Looking hopeless first entered (drop i numbers) names entries settled → ((of : List ℕ) → resting after of ≡ resting names of) → new ≡ entries → AllByRecursion (IsKnown after numbers) new
still-known hopeless first entered numbers i names after entries new settled looking kept same =
    subst (λ es. AllByRecursion (IsKnown after numbers) es) (sym same)
    (all-weaker (OnceDone (IsAtRest names) (drop i numbers)) (IsKnown after numbers) entries
    (λ e done f. elim (cases_Bool (has_number (drop i numbers) e.0)) [
      | inl t ↦ has-dropped i numbers e.0 t
      | inr g ↦ absurd (let clash : true ≡ false = sym (ap (λ l. has_number l e.0) (kept e.1.name) ∙ done g) ∙ f in cc)
    ])
    looking.at_rest)
