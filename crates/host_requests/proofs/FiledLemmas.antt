-- Requests under numbers, and the tables by which they are found.
use Rattle.std.proofs.lemmas.Bool.{cases_Bool}
use Rattle.std.proofs.Common.{inl, inr, true, ◌≡◌, ◌<◌, ℕ, List, [], ◌∷◌, ◌++◌, Bool, ◌||◌, Option, Some, option_map, Result, Ok, Err, IfOk, refl, sym, ap, subst, ◌∙◌, false, None}
use Rattle.std.specs.BTreeMap.{insert_entry}
use Rattle.std.specs.List.{list_any}
use Rattle.std.specs.List.Sorted.{IsStrictlySortedBy}
use Rattle.std.specs.Map.{keys_of, lookup, remove_entry}
use Rattle.std.specs.Ordering.{nat_cmp}
use Rattle.ms_base.specs.declared.keys.Serial.{Serial}
use Rattle.ms_base.specs.declared.keys.WorkerKey.{WorkerKey}
use Rattle.host_requests.specs.declared.places.Places.{Places}
use Rattle.host_requests.specs.declared.request.Request.{Request}
use Rattle.host_requests.specs.Kept.{AreFiled, outlines}
use Rattle.host_requests.specs.Places.{ArePlaced, IsNext, Outline, Outlines, answers, first_of, has, number_at, numbers_at, numbers_of, optional, stands_under, starts}
use Rattle.host_requests.specs.Requests.{is_on, is_start_of, is_under}
use Rattle.host_requests.proofs.TableLemmas.{has-passing}
use Rattle.host_requests.proofs.NumberLemmas.{number-found, all-whole, has-either, insert_entry-last, is_number, lookup-parts, numbers-in-order, numbers-none, numbers-parts, parts-pushed, parts-removed, removed-last, same-numbers}

any-same : (f g : Serial → Bool) → ((o : Serial) → f o ≡ g o) → (objects : List Serial) → list_any f objects ≡ list_any g objects
any-same f g h [] = refl
any-same f g h (o ∷ os) = ap (λ b. b || list_any f os) (h o) ∙ ap (λ b. g o || b) (any-same f g h os)

pub if-ok-both : {A E : Type 0} (r : Result A E) (P Q R : A → Type 0) → ((a : A) → P a → Q a → R a) → IfOk r P → IfOk r Q → IfOk r R
if-ok-both (Ok a) P Q R f p q = f a p q
if-ok-both (Err e) P Q R f p q = tt

only-number : (n : ℕ) (o : Option ℕ) → has n (optional o) ≡ true → optional o ≡ n ∷ []
only-number n None h = absurd cc
only-number n (Some m) h = elim (cases_Bool (is_number n m)) [
  | inl t ↦ ap (λ k. k ∷ []) (number-found n m t)
  | inr f ↦ absurd (let clash : false ≡ true = rw f at h in cc)
]

module _ {D : Type 0} where
  abbrev pub outline_of : Request D → Outline
  outline_of r = (r.via, r.under)

  -- ---- one more

  module _ (n : ℕ) (r : Request D) (es fs : List (ℕ × Request D)) (next : IsNext n r.via (outlines es)) (is : fs ≡ insert_entry nat_cmp es n r) where
    pub filed-entries : fs ≡ es ++ (n, r) ∷ []
    filed-entries = is ∙ insert_entry-last n r es (all-whole outline_of (λ k. k < n) es next.above)

    pub filed-added : (places : Places) → IsStrictlySortedBy nat_cmp (keys_of fs) → ArePlaced places (outlines es ++ (n, (r.via, r.under)) ∷ []) → AreFiled fs places
    filed-added places s h = record {
      rising = s;
      placed = subst (ArePlaced places) (sym (ap outlines filed-entries ∙ parts-pushed outline_of (n, r) es)) h;
    }

  -- what couldn't be added is nowhere
  pub filed-restored : (n : ℕ) (r : Request D) (es fs : List (ℕ × Request D)) (places places' : Places) → IsNext n r.via (outlines es) → fs ≡ es
      → ArePlaced places' (remove_entry (is_number n) (outlines es ++ (n, (r.via, r.under)) ∷ [])) → AreFiled es places → AreFiled fs places'
  filed-restored n r es fs places places' next is left h =
      subst (λ gs. AreFiled gs places') (sym is)
      (record { rising = h.rising; placed = subst (ArePlaced places') (removed-last n (r.via, r.under) (outlines es) next.above) left })

  -- ---- without one

  pub filed-removed : (n : ℕ) (r : Request D) (es fs : List (ℕ × Request D)) (places places' : Places) → lookup (is_number n) es ≡ Some r → fs ≡ remove_entry (is_number n) es
      → IsStrictlySortedBy nat_cmp (keys_of fs)
      → ((os : Outlines) → lookup (is_number n) os ≡ Some (r.via, r.under) → ArePlaced places os → ArePlaced places' (remove_entry (is_number n) os)) → AreFiled es places → AreFiled fs places'
  filed-removed n r es fs places places' found is s moved h = record {
    rising = s;
    placed = subst (ArePlaced places') (sym (ap outlines is ∙ parts-removed outline_of (is_number n) es))
        (moved (outlines es) (lookup-parts outline_of (is_number n) es ∙ ap (option_map outline_of) found) h.placed);
  }

  -- ---- found by what they wait for

  pub only-on : (worker : WorkerKey) (id : ℕ) (es : List (ℕ × Request D)) (places : Places) (found : Option ℕ) → AreFiled es places → found ≡ number_at places.by_via worker id
      → numbers_of (is_on worker id) es ≡ optional found
  only-on worker id es places found h e = sym (numbers-parts outline_of (answers worker id) es) ∙ sym (h.placed.by_via.ids worker id) ∙ ap optional (sym e)

  -- no other waits for the same response
  pub alone-on : (worker : WorkerKey) (id n : ℕ) (r : Request D) (es : List (ℕ × Request D)) (places : Places) → AreFiled es places → lookup (is_number n) es ≡ Some r → is_on worker id r ≡ true
      → numbers_of (is_on worker id) es ≡ n ∷ []
  alone-on worker id n r es places h found own =
      let one = only-on worker id es places (number_at places.by_via worker id) h refl in
      one ∙ only-number n (number_at places.by_via worker id) (ap (has n) (sym one) ∙ has-passing (is_on worker id) n r es found own)

  pub first-start : (worker : Serial) (es : List (ℕ × Request D)) (places : Places) (found : Option ℕ) → AreFiled es places → found ≡ first_of (numbers_at places.by_via.starts worker.0)
      → found ≡ first_of (numbers_of (is_start_of worker) es)
  first-start worker es places found h e = e ∙ ap first_of (h.placed.by_via.starts worker.0 ∙ numbers-parts outline_of (starts worker.0) es)

  -- ---- found by their objects

  at-objects : (n : ℕ) (es : List (ℕ × Request D)) (objects : List Serial) → has n (numbers_of (is_under objects) es) ≡ list_any (λ o. has n (numbers_of (λ (r : Request D). stands_under o.0 (outline_of r)) es)) objects
  at-objects n es [] = ap (has n) (numbers-none (is_under []) (λ r. refl) es)
  at-objects n es (o ∷ os) =
      has-either (λ (r : Request D). stands_under o.0 (outline_of r)) (is_under os) (is_under (o ∷ os)) n (λ r. refl) es
      ∙ ap (λ b. has n (numbers_of (λ (r : Request D). stands_under o.0 (outline_of r)) es) || b) (at-objects n es os)

  pub all-under : (objects : List Serial) (es : List (ℕ × Request D)) (places : Places) (all : List ℕ) → AreFiled es places → IsStrictlySortedBy nat_cmp (keys_of es)
      → ((n : ℕ) → has n all ≡ list_any (λ o. has n (numbers_at places.under o.0)) objects) → IsStrictlySortedBy nat_cmp all → all ≡ numbers_of (is_under objects) es
  all-under objects es places all h s found order =
      same-numbers all (numbers_of (is_under objects) es) order (numbers-in-order (is_under objects) es s)
      (λ n.
      found n
      ∙ any-same (λ o. has n (numbers_at places.under o.0)) (λ o. has n (numbers_of (λ (r : Request D). stands_under o.0 (outline_of r)) es))
      (λ o. ap (has n) (h.placed.under o.0 ∙ numbers-parts outline_of (stands_under o.0) es)) objects
      ∙ sym (at-objects n es objects))
