-- What the tables by which requests are found tell after a change.
use Rattle.std.proofs.Common.{◌≡◌, ◌<◌, ℕ, List, [], ◌∷◌, ◌++◌, Bool, true, false, cond, ◌||◌, nat_eq, Option, Some, None, refl, sym, ap, ◌∙◌, inl, inr, arith, Result, Ok, Err, OnErr, take, get_or, length, ◌+◌}
use Rattle.std.proofs.lemmas.Bool.{cases_Bool}
use Rattle.std.proofs.lemmas.List.Folds.{list_any_more}
use Rattle.std.proofs.lemmas.Bool.Decides.{nat_tests}
use Rattle.std.specs.BTreeSet.{BTreeSet, insert_key}
use Rattle.std.specs.HashMap as hash
use Rattle.std.specs.List.{AllByRecursion, list_any}
use Rattle.std.specs.Map.{lookup, remove_entry}
use Rattle.std.specs.Ordering.{nat_cmp}
use Rattle.std.specs.Set.{remove_key}
use Rattle.ms_base.specs.declared.keys.Serial.{Serial}
use Rattle.ms_base.specs.declared.keys.WorkerKey.{WorkerKey}
use Rattle.host_requests.specs.declared.by_object.ByObject.{ByObject}
use Rattle.host_requests.specs.declared.by_via.ByVia.{ByVia}
use Rattle.host_requests.specs.declared.places.Places.{Places}
use Rattle.host_requests.specs.declared.request.Via.{Via}
use Rattle.host_requests.specs.declared.request.Via.TheVariants.{Channel, Start}
use Rattle.host_requests.specs.Places.{AreByVia, ArePlaced, IsNext, Outline, Outlines, answers, has, keys_in, number_at, numbers_at, numbers_of, optional, same_key, stands_under, starts}
use Rattle.host_requests.specs.Requests.{is_answer_to}
use Rattle.host_requests.proofs.NumberLemmas.{is_number, numbers-added, numbers-removed}

-- ---- a table by object

module _ (f g : ℕ → Option (BTreeSet ℕ)) (k : ℕ) (v : Option (BTreeSet ℕ)) (after : (q : ℕ) → g q ≡ cond (nat_eq k q) v (f q)) (h : List ℕ → List ℕ)
    (is : keys_in v ≡ h (keys_in (f k))) (same : (q : ℕ) → nat_eq k q ≡ true → k ≡ q) where
  changed-at : (q : ℕ) (b : Bool) → nat_eq k q ≡ b → g q ≡ cond b v (f q) → keys_in (g q) ≡ cond b (h (keys_in (f q))) (keys_in (f q))
  changed-at q true t e = ap keys_in e ∙ (is ∙ ap (λ (m : ℕ). h (keys_in (f m))) (same q t))
  changed-at q false t e = ap keys_in e

  changed-by : (q : ℕ) → keys_in (g q) ≡ cond (nat_eq k q) (h (keys_in (f q))) (keys_in (f q))
  changed-by q = changed-at q (nat_eq k q) refl (after q)

same-number : (k q : ℕ) → nat_eq k q ≡ true → k ≡ q
same-number k q t = grind (arith, nat_tests)

same-both : {A : Type 0} (b : Bool) (x : A) → cond b x x ≡ x
same-both true x = refl
same-both false x = refl

module _ (f g : ℕ → Option (BTreeSet ℕ)) (k : ℕ) (v : Option (BTreeSet ℕ)) (after : (q : ℕ) → g q ≡ cond (nat_eq k q) v (f q)) where
  pub changed : (h : List ℕ → List ℕ) → keys_in v ≡ h (keys_in (f k)) → (q : ℕ) → keys_in (g q) ≡ cond (nat_eq k q) (h (keys_in (f q))) (keys_in (f q))
  changed h is = changed-by f g k v after h is (same-number k)

  pub unchanged : keys_in v ≡ keys_in (f k) → (q : ℕ) → keys_in (g q) ≡ keys_in (f q)
  unchanged is q = changed (λ ns. ns) is q ∙ same-both (nat_eq k q) (keys_in (f q))

pub on-err : {A E : Type 0} (r : Result A E) (P : Type 0) → P → OnErr r P
on-err (Ok x) P h = tt
on-err (Err e) P h = h

-- the numbers at one more object
pub at-more : (n : ℕ) (by : ByObject) (objects : List Serial) (i : ℕ) (old new : List ℕ) → i < length objects
    → has n new ≡ (has n old || has n (numbers_at by (get_or objects i (record { 0 = 0 })).0)) → has n old ≡ list_any (λ o. has n (numbers_at by o.0)) (take i objects)
    → has n new ≡ list_any (λ o. has n (numbers_at by o.0)) (take (i + 1) objects)
at-more n by objects i old new less is before =
    is ∙ ap (λ b. b || has n (numbers_at by (get_or objects i (record { 0 = 0 })).0)) before ∙ sym (list_any_more (λ (o : Serial). has n (numbers_at by o.0)) objects i (record { 0 = 0 }) less)

-- ---- tables by what is waited for

abbrev outline : Via → Serial → Outline
outline via under = (via, under)

pub has-passing : {X : Type 0} (p : X → Bool) (n : ℕ) (x : X) (es : List (ℕ × X)) → lookup (is_number n) es ≡ Some x → p x ≡ true → list_any (is_number n) (numbers_of p es) ≡ true
has-passing p n x [] h own = absurd cc
has-passing p n x (e ∷ es) h own = elim (cases_Bool (is_number n e.0)) [
  | inl here ↦ (let same : Some e.1 ≡ Some x = rw here at h in let yes : p e.1 ≡ true = (let it : e.1 ≡ x = cc in ap p it ∙ own) in rw yes (rw here refl))
  | inr apart ↦
      let below = has-passing p n x es (rw apart at h) own in
      elim (cases_Bool (p e.1)) [
        | inl y ↦ rw y (rw apart below)
        | inr f ↦ rw f below
      ]
]

-- the only number that is there is taken away
only-removed : (n : ℕ) (o : Option ℕ) → list_any (is_number n) (optional o) ≡ true → remove_key (is_number n) (optional o) ≡ []
only-removed n None h = absurd cc
only-removed n (Some m) h = elim (cases_Bool (is_number n m)) [
  | inl t ↦ rw t refl
  | inr f ↦ absurd (let clash : false ≡ true = rw f at h in cc)
]

module _ (by by' : ByVia) (n : ℕ) (via : Via) (under : Serial) (os : Outlines) where
  module _ (to : WorkerKey) (id : ℕ) (is : via ≡ Channel to id) where
    passes : (w : WorkerKey) (i : ℕ) → answers w i (outline via under) ≡ same_key (to.slot, to.generation, id) (w.slot, w.generation, i)
    passes w i = ap (is_answer_to w i) is

    no-start : (w : ℕ) → starts w (outline via under) ≡ false
    no-start w = ap (λ v. starts w (outline v under)) is

    module _ (starts-stay : by'.starts ≡ by.starts) where
      -- a request with this id is added
      module _ (put : (q : ℕ × ℕ × ℕ) → hash.get same_key by'.ids q ≡ cond (same_key (to.slot, to.generation, id) q) (Some n) (hash.get same_key by.ids q)) (h : AreByVia by os) (next : IsNext n via os) where
        id-added : (w : WorkerKey) (i : ℕ) (b : Bool) → answers w i (outline via under) ≡ b → number_at by' w i ≡ cond b (Some n) (number_at by w i)
            → optional (number_at by' w i) ≡ cond b (insert_key nat_cmp (numbers_of (answers w i) os) n) (numbers_of (answers w i) os)
        id-added w i true t e = ap optional e ∙ ap (λ ns. insert_key nat_cmp ns n) (sym (next.fresh w i t))
        id-added w i false f e = ap optional e ∙ h.ids w i

        pub by-via-answer-added : AreByVia by' (os ++ (n, (via, under)) ∷ [])
        by-via-answer-added = record {
          ids = λ w i.
              id-added w i (answers w i (outline via under)) refl (put (w.slot, w.generation, i) ∙ ap (λ b. cond b (Some n) (number_at by w i)) (sym (passes w i)))
              ∙ sym (numbers-added (answers w i) n (outline via under) os next.above);
          starts = λ w.
              ap (λ s. numbers_at s w) starts-stay ∙ h.starts w
              ∙ sym (numbers-added (starts w) n (outline via under) os next.above ∙ ap (λ b. cond b (insert_key nat_cmp (numbers_of (starts w) os) n) (numbers_of (starts w) os)) (no-start w));
        }

      -- the request with this id is taken out
      module _ (gone : (q : ℕ × ℕ × ℕ) → hash.get same_key by'.ids q ≡ cond (same_key (to.slot, to.generation, id) q) None (hash.get same_key by.ids q)) (found : lookup (is_number n) os ≡ Some (via, under)) (h : AreByVia by os) where
        id-removed : (w : WorkerKey) (i : ℕ) (b : Bool) → answers w i (outline via under) ≡ b → number_at by' w i ≡ cond b None (number_at by w i)
            → optional (number_at by' w i) ≡ cond b (remove_key (is_number n) (numbers_of (answers w i) os)) (numbers_of (answers w i) os)
        id-removed w i true t e =
            let has : list_any (is_number n) (optional (number_at by w i)) ≡ true = ap (list_any (is_number n)) (h.ids w i) ∙ has-passing (answers w i) n (outline via under) os found t in
            ap optional e ∙ sym (ap (remove_key (is_number n)) (sym (h.ids w i)) ∙ only-removed n (number_at by w i) has)
        id-removed w i false f e = ap optional e ∙ h.ids w i

        pub by-via-answer-removed : AreByVia by' (remove_entry (is_number n) os)
        by-via-answer-removed = record {
          ids = λ w i.
              id-removed w i (answers w i (outline via under)) refl (gone (w.slot, w.generation, i) ∙ ap (λ b. cond b None (number_at by w i)) (sym (passes w i)))
              ∙ sym (numbers-removed (answers w i) n (outline via under) os found);
          starts = λ w.
              ap (λ s. numbers_at s w) starts-stay ∙ h.starts w
              ∙ sym (numbers-removed (starts w) n (outline via under) os found ∙ ap (λ b. cond b (remove_key (is_number n) (numbers_of (starts w) os)) (numbers_of (starts w) os)) (no-start w));
        }

  module _ (is : via ≡ Start) where
    no-answer : (w : WorkerKey) (i : ℕ) → answers w i (outline via under) ≡ false
    no-answer w i = ap (is_answer_to w i) is

    is-start : (w : ℕ) → starts w (outline via under) ≡ nat_eq under.0 w
    is-start w = ap (λ v. starts w (outline v under)) is

    module _ (ids-stay : by'.ids ≡ by.ids) where
      pub by-via-start-added : ((w : ℕ) → numbers_at by'.starts w ≡ cond (nat_eq under.0 w) (insert_key nat_cmp (numbers_at by.starts w) n) (numbers_at by.starts w))
          → AreByVia by os → IsNext n via os → AreByVia by' (os ++ (n, (via, under)) ∷ [])
      by-via-start-added put h next = record {
        ids = λ w i.
            ap (λ m. optional (hash.get same_key m (w.slot, w.generation, i))) ids-stay ∙ h.ids w i
            ∙ sym (numbers-added (answers w i) n (outline via under) os next.above ∙ ap (λ b. cond b (insert_key nat_cmp (numbers_of (answers w i) os) n) (numbers_of (answers w i) os)) (no-answer w i));
        starts = λ w.
            put w ∙ ap (λ ns. cond (nat_eq under.0 w) (insert_key nat_cmp ns n) ns) (h.starts w)
            ∙ sym (numbers-added (starts w) n (outline via under) os next.above ∙ ap (λ b. cond b (insert_key nat_cmp (numbers_of (starts w) os) n) (numbers_of (starts w) os)) (is-start w));
      }

      pub by-via-start-removed : ((w : ℕ) → numbers_at by'.starts w ≡ cond (nat_eq under.0 w) (remove_key (is_number n) (numbers_at by.starts w)) (numbers_at by.starts w))
          → lookup (is_number n) os ≡ Some (via, under) → AreByVia by os → AreByVia by' (remove_entry (is_number n) os)
      by-via-start-removed gone found h = record {
        ids = λ w i.
            ap (λ m. optional (hash.get same_key m (w.slot, w.generation, i))) ids-stay ∙ h.ids w i
            ∙ sym (numbers-removed (answers w i) n (outline via under) os found ∙ ap (λ b. cond b (remove_key (is_number n) (numbers_of (answers w i) os)) (numbers_of (answers w i) os)) (no-answer w i));
        starts = λ w.
            gone w ∙ ap (λ ns. cond (nat_eq under.0 w) (remove_key (is_number n) ns) ns) (h.starts w)
            ∙ sym (numbers-removed (starts w) n (outline via under) os found ∙ ap (λ b. cond b (remove_key (is_number n) (numbers_of (starts w) os)) (numbers_of (starts w) os)) (is-start w));
      }

-- ---- places

pub placed : (places : Places) (os : Outlines) → AreByVia places.by_via os → ((o : ℕ) → numbers_at places.under o ≡ numbers_of (stands_under o) os) → ArePlaced places os
placed places os v u = record { by_via = v; under = u }

module _ (under under' : ByObject) (n : ℕ) (via : Via) (of : Serial) (os : Outlines) (h : (o : ℕ) → numbers_at under o ≡ numbers_of (stands_under o) os) where
  pub under-added : ((o : ℕ) → numbers_at under' o ≡ cond (nat_eq of.0 o) (insert_key nat_cmp (numbers_at under o) n) (numbers_at under o)) → AllByRecursion (λ e. e.0 < n) os
      → (o : ℕ) → numbers_at under' o ≡ numbers_of (stands_under o) (os ++ (n, (via, of)) ∷ [])
  under-added put above o = put o ∙ ap (λ ns. cond (nat_eq of.0 o) (insert_key nat_cmp ns n) ns) (h o) ∙ sym (numbers-added (stands_under o) n (outline via of) os above)

  pub under-removed : ((o : ℕ) → numbers_at under' o ≡ cond (nat_eq of.0 o) (remove_key (is_number n) (numbers_at under o)) (numbers_at under o)) → lookup (is_number n) os ≡ Some (via, of)
      → (o : ℕ) → numbers_at under' o ≡ numbers_of (stands_under o) (remove_entry (is_number n) os)
  under-removed gone found o = gone o ∙ ap (λ ns. cond (nat_eq of.0 o) (remove_key (is_number n) ns) ns) (h o) ∙ sym (numbers-removed (stands_under o) n (outline via of) os found)
