-- Routers that stand under their ids, by their places.
use Rattle.std.proofs.Common.{◌≡◌, ℕ, zero, suc, List, [], ◌∷◌, true, false, cond, find, slice_get, Option, Some, None, option_map, is_some, bytes_eq, refl, sym, ap, ◌∙◌, true≢false}
use Rattle.std.specs.Borrow.{MutBor}
use Rattle.std.specs.HashMap.{HashMap}
use Rattle.std.specs.List.{AllByRecursion, IsDistinct}
use Rattle.std.specs.Map.{keys_of, values_of, lookup}
use Rattle.std.specs.Option.{OnSome, option_copied_mut}
use Rattle.std.specs.Cmp.Lexicographic.{nat_list_eq_equiv}
use Rattle.indexmap.specs.IndexMap.{set_value_at}
use Rattle.ms_base.specs.declared.id.Id.{Id}
use Rattle.worker_router.specs.State.{RouterState, same_id}
use Rattle.worker_calls.specs.Plans.{at, change_in}
use Rattle.worker_calls.specs.State.{RouterAt}
use Rattle.worker_calls.specs.Tables.{id_of, router_at, routers_at}
use Rattle.worker_calls.proofs.EntryLemmas.{Entry, absent-changed, found, others-differ, same-bytes, swapped, unmatched}

place-of : (es : List Entry) (n : ℕ) → slice_get (routers_at es) n ≡ option_map router_at (slice_get es n)
place-of [] zero = refl
place-of [] (suc n) = refl
place-of (e ∷ es) zero = refl
place-of (e ∷ es) (suc n) = place-of es n

value-of : (es : List Entry) (n : ℕ) → slice_get (values_of es) n ≡ option_map (λ e. e.1) (slice_get es n)
value-of [] zero = refl
value-of [] (suc n) = refl
value-of (e ∷ es) zero = refl
value-of (e ∷ es) (suc n) = value-of es n

-- ---- what stands where the Router of an id is found has the id

named : (i : Id) (r : Option RouterState) (x : RouterAt) → Some x ≡ option_map (at i) r → x.id ≡ i
named i None x e = absurd (true≢false (ap is_some e))
named i (Some r) x e = let this : x ≡ at i r = cc in ap (λ (y : RouterAt). y.id) this

keyed : (i : Id) (o : Option Entry) (r : Option RouterState) → option_map router_at o ≡ option_map (at i) r → option_map (at i) (option_map (λ e. e.1) o) ≡ option_map (at i) r
keyed i None r e = e
keyed i (Some x) r e = ap (λ (j : Id). Some (at j x.1)) (sym (named i r (router_at x) e)) ∙ e

key-of : (i : Id) (o : Option Entry) (r : Option RouterState) (x : RouterState) → option_map router_at o ≡ option_map (at i) r → option_map (λ e. e.1) o ≡ Some x → o ≡ Some (i.0, x)
key-of i None r x e here = absurd (true≢false (sym (ap is_some here)))
key-of i (Some y) r x e here =
    let this : y.1 ≡ x = cc in
    let key : id_of y.0 ≡ i = named i r (router_at y) e in
    (λ j. Some ((key j).0, this j))

-- ---- the Router at a place is changed

differs : (i d : List ℕ) (es : List Entry) (n : ℕ) (x : RouterState) → AllByRecursion (λ y. bytes_eq d y ≡ false) (keys_of es) → slice_get es n ≡ Some (i, x) → bytes_eq d i ≡ false
differs i d [] zero x h e = absurd (true≢false (sym (ap is_some e)))
differs i d [] (suc n) x h e = absurd (true≢false (sym (ap is_some e)))
differs i d (c ∷ es) zero x h e = let here : c ≡ (i, x) = cc in ap (λ (p : Entry). bytes_eq d p.0) (sym here) ∙ h.0
differs i d (c ∷ es) (suc n) x h e = differs i d es n x h.1 e

written : (w : RouterState) (i : Id) (es : List Entry) (n : ℕ) (x : RouterState) → IsDistinct bytes_eq (keys_of es) → slice_get es n ≡ Some (i.0, x)
    → routers_at (set_value_at es n w) ≡ change_in i (λ _. w) (routers_at es)
unfolding IsDistinct
written w i [] zero x apart e = absurd (true≢false (sym (ap is_some e)))
written w i [] (suc n) x apart e = absurd (true≢false (sym (ap is_some e)))
written w i (d ∷ es) zero x apart e =
    let here : d ≡ (i.0, x) = cc in
    let same : i.0 ≡ d.0 = ap (λ (p : Entry). p.0) (sym here) in
    let key : bytes_eq d.0 i.0 ≡ true = ap (λ (p : Entry). bytes_eq p.0 i.0) here ∙ nat_list_eq_equiv.refl i.0 in
    let none : lookup (bytes_eq i.0) es ≡ None = unmatched i.0 es (others-differ i.0 d.0 (keys_of es) same apart.0) in
    sym
    (ap (λ c. cond c (record (router_at d) { router = w }) (router_at d) ∷ change_in i (λ _. w) (routers_at es)) key
    ∙ ap (λ (rest : List RouterAt). record (router_at d) { router = w } ∷ rest) (absent-changed (λ _. w) i es none))
written w i (d ∷ es) (suc n) x apart e =
    sym
    (ap (λ c. cond c (record (router_at d) { router = w }) (router_at d) ∷ change_in i (λ _. w) (routers_at es)) (differs i.0 d.0 es n x apart.0 e)
    ∙ ap (λ (rest : List RouterAt). router_at d ∷ rest) (sym (written w i es n x apart.1 e)))

-- ---- what the code did

module _ {S : Type 0} (i : Id) (m : HashMap (List ℕ) RouterState S) (xs : List RouterAt) (are : routers_at m.entries ≡ xs) where
  finds : find (λ r. same_id r.id i) xs ≡ option_map (at i) (lookup (bytes_eq i.0) m.entries)
  finds = ap (find (λ (r : RouterAt). same_id r.id i)) (sym are) ∙ found i m.entries

  stands : (n : ℕ) → slice_get xs n ≡ option_map router_at (slice_get m.entries n)
  stands n = ap (λ (l : List RouterAt). slice_get l n) (sym are) ∙ place-of m.entries n

  -- the Router under a key that is the id is the Router of the id
  pub stands-at : (n : ℕ) (key : List ℕ) (r : RouterState) → Some (key, r) ≡ slice_get m.entries n → true ≡ bytes_eq key i.0 → lookup (bytes_eq key) m.entries ≡ Some r
      → slice_get xs n ≡ find (λ x. same_id x.id i) xs
  stands-at n key r here same there =
      let is : key ≡ i.0 = same-bytes key i.0 (sym same) in
      stands n ∙ (ap (option_map router_at) (sym here) ∙ (ap (λ (b : List ℕ). Some (at (id_of b) r)) is
      ∙ (ap (option_map (at i)) (sym (ap (λ (b : List ℕ). lookup (bytes_eq b) m.entries) (sym is) ∙ there)) ∙ sym finds)))

  -- and so is the one that was found by the id
  pub stands-by : (n : ℕ) (key : List ℕ) (r : RouterState) → slice_get m.entries n ≡ Some (key, r) → bytes_eq i.0 key ≡ true → Some r ≡ lookup (bytes_eq i.0) m.entries
      → slice_get xs n ≡ find (λ x. same_id x.id i) xs
  stands-by n key r here same there =
      stands n ∙ (ap (option_map router_at) here ∙ (ap (λ (b : List ℕ). Some (at (id_of b) r)) (sym (same-bytes i.0 key same))
      ∙ (ap (option_map (at i)) there ∙ sym finds)))

  pub none-by : None ≡ lookup (bytes_eq i.0) m.entries → None ≡ find (λ x. same_id x.id i) xs
  none-by none = ap (option_map (at i)) none ∙ sym finds

  module _ (n : ℕ) (stood : slice_get xs n ≡ find (λ x. same_id x.id i) xs) where
    there : option_map router_at (slice_get m.entries n) ≡ option_map (at i) (lookup (bytes_eq i.0) m.entries)
    there = sym (stands n) ∙ (stood ∙ finds)

    -- what stands there is the Router of the id
    pub read-at : (o : Option Entry) → o ≡ slice_get m.entries n → option_map (at i) (option_map (λ e. e.1) o) ≡ find (λ x. same_id x.id i) xs
    read-at o e =
        ap (λ (p : Option Entry). option_map (at i) (option_map (λ q. q.1) p)) e
        ∙ (keyed i (slice_get m.entries n) (lookup (bytes_eq i.0) m.entries) there ∙ sym finds)

    pub lent-at : (o : Option RouterState) → o ≡ slice_get (values_of m.entries) n → option_map (at i) o ≡ find (λ x. same_id x.id i) xs
    lent-at o e = ap (option_map (at i)) (e ∙ value-of m.entries n) ∙ read-at (slice_get m.entries n) refl

    -- and what is written there is written to the Router of the id
    pub put-at : (w : RouterState) (r : Option (MutBor RouterState)) → IsDistinct bytes_eq (keys_of m.entries) → option_copied_mut r ≡ slice_get (values_of m.entries) n
        → OnSome r (routers_at (set_value_at m.entries n w) ≡ change_in i (λ _. w) xs)
    put-at w None apart e = tt
    put-at w (Some x) apart e =
        written w i m.entries n x.now apart (key-of i (slice_get m.entries n) (lookup (bytes_eq i.0) m.entries) x.now there (sym (value-of m.entries n) ∙ sym e))
        ∙ ap (change_in i (λ _. w)) are
