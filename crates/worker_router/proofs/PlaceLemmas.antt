-- Objects that stand under their ids, by their places.
use Rattle.std.proofs.Common.{◌≡◌, ℕ, zero, suc, List, [], ◌∷◌, true, false, cond, find, slice_get, Option, Some, None, is_some, bytes_eq, refl, sym, ap, subst, ◌∙◌, true≢false}
use Rattle.std.specs.Prelude.{IfSome}
use Rattle.std.specs.List.{AllByRecursion, IsDistinct}
use Rattle.std.specs.Option.{option_map, option_and_then}
use Rattle.std.specs.HashMap.{HashMap}
use Rattle.std.specs.Map.{keys_of, values_of, lookup, set_value}
use Rattle.indexmap.specs.IndexMap.{set_value_at, with_value_at}
use Rattle.indexmap.proofs.CallerLemmas.{keys-with_value_at}
use Rattle.ms_base.specs.declared.id.Id.{Id}
use Rattle.worker_router.specs.State.{same_id}
use Rattle.worker_router.specs.Tables.{AreUnderIds}
use Rattle.worker_router.proofs.ByIdLemmas.{Under, changed, found, found_under, nobody, written, written-same, written-under, same-bytes, swapped}
use Rattle.worker_router.proofs.ListLemmas.{find-test, self-same}

of-index : {X : Type 0} (xs : List X) (o : Option ℕ) (r : Option X) → is_some o ≡ is_some r → IfSome o (λ i. slice_get xs i ≡ r) → option_and_then (slice_get xs) o ≡ r
of-index xs None None e h = refl
of-index xs None (Some x) e h = absurd (true≢false (sym e))
of-index xs (Some i) r e h = h

value-at : {K X : Type 0} (es : List (K × X)) (n : ℕ) → slice_get (values_of es) n ≡ option_map (λ e. e.1) (slice_get es n)
value-at [] zero = refl
value-at [] (suc n) = refl
value-at (e ∷ es) zero = refl
value-at (e ∷ es) (suc n) = value-at es n

module _ {X : Type 0} where
  -- a write by place is one by the key at the place
  set-at : (b : List ℕ) (es : List (List ℕ × X)) (n : ℕ) (x w : X) → IsDistinct bytes_eq (keys_of es) → slice_get es n ≡ Some (b, x) → set_value_at es n w ≡ set_value (bytes_eq b) es w
  unfolding IsDistinct
  set-at b [] zero x w apart e = absurd (true≢false (sym (ap is_some e)))
  set-at b [] (suc n) x w apart e = absurd (true≢false (sym (ap is_some e)))
  set-at b (d ∷ es) zero x w apart e =
      let here : d ≡ (b, x) = cc in
      let key : bytes_eq b d.0 ≡ true = ap (λ (p : List ℕ × X). bytes_eq b p.0) here ∙ self-same b in
      sym (ap (λ k. cond k ((d.0, w) ∷ es) (d ∷ set_value (bytes_eq b) es w)) key)
  set-at b (d ∷ es) (suc n) x w apart e =
      let other : bytes_eq b d.0 ≡ false = swapped b d.0 ∙ differs es n apart.0 e in
      ap (λ l. d ∷ l) (set-at b es n x w apart.1 e) ∙ sym (ap (λ k. cond k ((d.0, w) ∷ es) (d ∷ set_value (bytes_eq b) es w)) other)
    where
      differs : (es : List (List ℕ × X)) (n : ℕ) → AllByRecursion (λ y. bytes_eq d.0 y ≡ false) (keys_of es) → slice_get es n ≡ Some (b, x) → bytes_eq d.0 b ≡ false
      differs [] zero h e = absurd (true≢false (sym (ap is_some e)))
      differs [] (suc n) h e = absurd (true≢false (sym (ap is_some e)))
      differs (c ∷ es) zero h e = let here : c ≡ (b, x) = cc in ap (λ (p : List ℕ × X). bytes_eq d.0 p.0) (sym here) ∙ h.0
      differs (c ∷ es) (suc n) h e = differs es n h.1 e

module _ {X : Type 0} (id : X → Id) where
  entry-at : (es : List (List ℕ × X)) (n : ℕ) (x : X) → Under id es → slice_get (values_of es) n ≡ Some x → slice_get es n ≡ Some ((id x).0, x)
  entry-at [] zero x h e = absurd (true≢false (sym (ap is_some e)))
  entry-at [] (suc n) x h e = absurd (true≢false (sym (ap is_some e)))
  entry-at (d ∷ es) zero x h e =
      let this : d.1 ≡ x = cc in
      let key : d.0 ≡ (id d.1).0 = cc in
      (λ j. Some ((key ∙ ap (λ y. (id y).0) this) j, this j))
  entry-at (d ∷ es) (suc n) x h e = let rest : Under id es = cc in entry-at es n x rest e

  -- a write where the object of an id stands is one under the id
  pub put-at : (i : Id) (es : List (List ℕ × X)) (n : ℕ) (x w : X) → Under id es → IsDistinct bytes_eq (keys_of es) → slice_get (values_of es) n ≡ Some x → lookup (bytes_eq i.0) es ≡ Some x
      → set_value_at es n w ≡ set_value (bytes_eq i.0) es w
  put-at i es n x w under apart at found =
      let same : (id x).0 ≡ i.0 = same-bytes (id x).0 i.0 (find-test (λ y. same_id (id y) i) (values_of es) x (found_under id i es under ∙ found)) in
      set-at (id x).0 es n x w apart (entry-at es n x under at) ∙ ap (λ b. set_value (bytes_eq b) es w) same

module _ {X S : Type 0} (id : X → Id) (i : Id) (m : HashMap (List ℕ) X S) (xs : List X) (under : Under id m.entries) (are : values_of m.entries ≡ xs) where
  -- the object under a key that is the id is the object of the id
  pub stands-at : (n : ℕ) (key : List ℕ) (x : X) → Some (key, x) ≡ slice_get m.entries n → true ≡ bytes_eq key i.0 → lookup (bytes_eq key) m.entries ≡ Some x
      → slice_get xs n ≡ find (λ y. same_id (id y) i) xs
  stands-at n key x at same there =
      sym (ap (λ l. slice_get l n) are) ∙ (value-at m.entries n ∙ (sym (ap (option_map (λ e. e.1)) at)
      ∙ (sym there ∙ (ap (λ b. lookup (bytes_eq b) m.entries) (same-bytes key i.0 (sym same)) ∙ found id i m xs under are))))

  -- and so is the object at the place that was found by the id
  pub stands-by : (o : Option ℕ) → is_some o ≡ is_some (lookup (bytes_eq i.0) m.entries) → IfSome o (λ n. slice_get (values_of m.entries) n ≡ lookup (bytes_eq i.0) m.entries)
      → option_and_then (slice_get xs) o ≡ find (λ y. same_id (id y) i) xs
  stands-by o there at =
      sym (ap (λ l. option_and_then (slice_get l) o) are) ∙ (of-index (values_of m.entries) o (lookup (bytes_eq i.0) m.entries) there at ∙ found id i m xs under are)

  pub none-there : None ≡ find (λ y. same_id (id y) i) xs → (change : X → X) → values_of m.entries ≡ changed id change i xs
  none-there none change = nobody id change i m m xs under are (none ∙ sym (found id i m xs under are)) refl

  -- the object of the id is changed where it stands
  module _ (n : ℕ) (at : slice_get xs n ≡ find (λ y. same_id (id y) i) xs) where
    pub nothing-at : None ≡ slice_get (values_of m.entries) n → (change : X → X) → values_of m.entries ≡ changed id change i xs
    nothing-at none = none-there (none ∙ (ap (λ l. slice_get l n) are ∙ at))

    module _ (apart : IsDistinct bytes_eq (keys_of m.entries)) (x w : X) (is : Some x ≡ slice_get (values_of m.entries) n) where
      there : lookup (bytes_eq i.0) m.entries ≡ Some x
      there = found id i m xs under are ∙ (sym at ∙ (ap (λ l. slice_get l n) (sym are) ∙ sym is))

      put : set_value_at m.entries n w ≡ set_value (bytes_eq i.0) m.entries w
      put = put-at id i m.entries n x w under apart (sym is) there

      pub changed-at : (change : X → X) → w ≡ change x → values_of (set_value_at m.entries n w) ≡ changed id change i xs
      changed-at change = written id change i m (with_value_at m n w) xs x w under are apart there put

      pub same-at : w ≡ x → values_of (set_value_at m.entries n w) ≡ xs
      same-at = written-same id (λ y. y) i m (with_value_at m n w) xs x w under are apart there put

      pub kept-at : (id w).0 ≡ (id x).0 → AreUnderIds id (with_value_at m n w)
      kept-at same = record {
        keys = written-under id (λ y. y) i m (with_value_at m n w) xs x w under are apart there put same;
        different = subst (IsDistinct bytes_eq) (sym (keys-with_value_at m n w)) apart;
      }
