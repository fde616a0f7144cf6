-- Objects that stand under their ids.
use Rattle.std.proofs.Common.{◌≡◌, ℕ, Result, Ok, Err, OnOk, OnErr, List, [], ◌∷◌, ◌++◌, Bool, true, false, cond, not, filter, map, find, Option, Some, None, is_some, bytes_eq, refl, sym, ap, subst, ◌∙◌, true≢false}
use Rattle.std.specs.Cmp.Lexicographic.{bytes_decides, nat_list_eq_equiv}
use Rattle.std.specs.List.{AllByRecursion, IsDistinct}
use Rattle.std.specs.HashMap.{HashMap}
use Rattle.std.specs.Map.{keys_of, values_of, lookup, set_value, remove_entry}
use Rattle.std.proofs.lemmas.Map.Steps.{set_value_same}
use Rattle.indexmap.specs.IndexMap.{insert_entry}
use Rattle.indexmap.proofs.CallerLemmas.{insert_entry-new}
use Rattle.ms_base.specs.declared.id.Id.{Id}
use Rattle.worker_router.specs.State.{same_id}

pub same-bytes : (a b : List ℕ) → bytes_eq a b ≡ true → a ≡ b
same-bytes a b = (bytes_decides a b).0

pub swapped : (a b : List ℕ) → bytes_eq a b ≡ bytes_eq b a
swapped a b = nat_list_eq_equiv.symm a b

pub others-differ : (i k : List ℕ) (ks : List (List ℕ)) → i ≡ k → AllByRecursion (λ y. bytes_eq k y ≡ false) ks → AllByRecursion (λ y. bytes_eq i y ≡ false) ks
others-differ i k ks same none = subst (λ b. AllByRecursion (λ y. bytes_eq b y ≡ false) ks) (sym same) none

module _ {X : Type 0} (id : X → Id) where
  abbrev pub Under : List (List ℕ × X) → Type 0
  Under es = keys_of es ≡ map (λ x. (id x).0) (values_of es)

  same-here : (i : Id) (e : List ℕ × X) → e.0 ≡ (id e.1).0 → same_id (id e.1) i ≡ bytes_eq i.0 e.0
  same-here i e here = swapped (id e.1).0 i.0 ∙ ap (bytes_eq i.0) (sym here)

  -- what is found by the id is what is found under it
  pub found_under : (i : Id) (es : List (List ℕ × X)) → Under es → find (λ x. same_id (id x) i) (values_of es) ≡ lookup (bytes_eq i.0) es
  found_under i [] h = refl
  found_under i (e ∷ es) h =
      let here : e.0 ≡ (id e.1).0 = cc in
      let rest : Under es = cc in
      let test : same_id (id e.1) i ≡ bytes_eq i.0 e.0 = same-here i e here in
      let left : find (λ x. same_id (id x) i) (values_of es) ≡ lookup (bytes_eq i.0) es = found_under i es rest in
      (λ j. cond (test j) (Some e.1) (left j))

  pub under-push : (es : List (List ℕ × X)) (k : List ℕ) (x : X) → Under es → k ≡ (id x).0 → Under (es ++ (k, x) ∷ [])
  under-push [] k x h here = ap (λ b. b ∷ []) here
  under-push (e ∷ es) k x h here =
      let first : e.0 ≡ (id e.1).0 = cc in
      let rest : Under es = cc in
      let more : Under (es ++ (k, x) ∷ []) = under-push es k x rest here in
      (λ j. first j ∷ more j)

  pub values-push : (es : List (List ℕ × X)) (k : List ℕ) (x : X) → values_of (es ++ (k, x) ∷ []) ≡ values_of es ++ x ∷ []
  values-push [] k x = refl
  values-push (e ∷ es) k x = ap (λ xs. e.1 ∷ xs) (values-push es k x)

  module _ (change : X → X) where
    abbrev pub changed : Id → List X → List X
    changed i xs = map (λ x. cond (same_id (id x) i) (change x) x) xs

    unmatched : (i : Id) (es : List (List ℕ × X)) → Under es → AllByRecursion (λ k. bytes_eq i.0 k ≡ false) (keys_of es) → changed i (values_of es) ≡ values_of es
    unmatched i [] h none = refl
    unmatched i (e ∷ es) h none =
        let here : e.0 ≡ (id e.1).0 = cc in
        let rest : Under es = cc in
        let test : same_id (id e.1) i ≡ false = same-here i e here ∙ none.0 in
        let left : changed i (values_of es) ≡ values_of es = unmatched i es rest none.1 in
        (λ j. cond (test j) (change e.1) e.1 ∷ left j)

    at-key : (i : Id) (e : List ℕ × X) (es : List (List ℕ × X)) (x : X) (b : Bool) → bytes_eq i.0 e.0 ≡ b → Under (e ∷ es) → AllByRecursion (λ y. bytes_eq e.0 y ≡ false) (keys_of es)
        → cond b (Some e.1) (lookup (bytes_eq i.0) es) ≡ Some x
        → (lookup (bytes_eq i.0) es ≡ Some x → values_of (set_value (bytes_eq i.0) es (change x)) ≡ changed i (values_of es))
        → values_of (cond b ((e.0, change x) ∷ es) (e ∷ set_value (bytes_eq i.0) es (change x))) ≡ cond (same_id (id e.1) i) (change e.1) e.1 ∷ changed i (values_of es)
    at-key i e es x true t h apart found more =
        let here : e.0 ≡ (id e.1).0 = cc in
        let rest : Under es = cc in
        let this : e.1 ≡ x = cc in
        let test : same_id (id e.1) i ≡ true = same-here i e here ∙ t in
        let left : changed i (values_of es) ≡ values_of es = unmatched i es rest (others-differ i.0 e.0 (keys_of es) (same-bytes i.0 e.0 t) apart) in
        let whole : cond (same_id (id e.1) i) (change e.1) e.1 ∷ changed i (values_of es) ≡ change e.1 ∷ values_of es = (λ j. cond (test j) (change e.1) e.1 ∷ left j) in
        ap (λ y. change y ∷ values_of es) (sym this) ∙ sym whole
    at-key i e es x false t h apart found more =
        let here : e.0 ≡ (id e.1).0 = cc in
        let test : same_id (id e.1) i ≡ false = same-here i e here ∙ t in
        ap (λ xs. e.1 ∷ xs) (more found) ∙ ap (λ y. cond y (change e.1) e.1 ∷ changed i (values_of es)) (sym test)

    -- a change under an id is that of the object of the id
    pub values-set : (i : Id) (es : List (List ℕ × X)) (x : X) → Under es → IsDistinct bytes_eq (keys_of es) → lookup (bytes_eq i.0) es ≡ Some x
        → values_of (set_value (bytes_eq i.0) es (change x)) ≡ changed i (values_of es)
    unfolding IsDistinct
    values-set i [] x h apart found = absurd (true≢false (sym (ap is_some found)))
    values-set i (e ∷ es) x h apart found =
        let rest : Under es = cc in
        at-key i e es x (bytes_eq i.0 e.0) refl h apart.0 found (λ f. values-set i es x rest apart.1 f)

    under-at : (k : List ℕ) (e : List ℕ × X) (es : List (List ℕ × X)) (x w : X) (b : Bool) → (id w).0 ≡ (id x).0 → Under (e ∷ es) → cond b (Some e.1) (lookup (bytes_eq k) es) ≡ Some x
        → (lookup (bytes_eq k) es ≡ Some x → Under (set_value (bytes_eq k) es w)) → Under (cond b ((e.0, w) ∷ es) (e ∷ set_value (bytes_eq k) es w))
    under-at k e es x w true same h found more =
        let here : e.0 ≡ (id e.1).0 = cc in
        let rest : Under es = cc in
        let this : e.1 ≡ x = cc in
        let first : e.0 ≡ (id w).0 = here ∙ (ap (λ y. (id y).0) this ∙ sym same) in
        (λ j. first j ∷ rest j)
    under-at k e es x w false same h found more =
        let here : e.0 ≡ (id e.1).0 = cc in
        let left : Under (set_value (bytes_eq k) es w) = more found in
        (λ j. here j ∷ left j)

    pub under-set : (k : List ℕ) (es : List (List ℕ × X)) (x w : X) → (id w).0 ≡ (id x).0 → Under es → lookup (bytes_eq k) es ≡ Some x → Under (set_value (bytes_eq k) es w)
    under-set k [] x w same h found = h
    under-set k (e ∷ es) x w same h found =
        let rest : Under es = cc in
        under-at k e es x w (bytes_eq k e.0) same h found (λ f. under-set k es x w same rest f)

    nobody-at : (i : Id) (e : List ℕ × X) (es : List (List ℕ × X)) (b : Bool) → bytes_eq i.0 e.0 ≡ b → e.0 ≡ (id e.1).0 → cond b (Some e.1) (lookup (bytes_eq i.0) es) ≡ None
        → (lookup (bytes_eq i.0) es ≡ None → changed i (values_of es) ≡ values_of es) → cond (same_id (id e.1) i) (change e.1) e.1 ∷ changed i (values_of es) ≡ e.1 ∷ values_of es
    nobody-at i e es true t here none more = absurd (true≢false (ap is_some none))
    nobody-at i e es false t here none more =
        let test : same_id (id e.1) i ≡ false = same-here i e here ∙ t in
        let left : changed i (values_of es) ≡ values_of es = more none in
        (λ j. cond (test j) (change e.1) e.1 ∷ left j)

    -- where no object has the id nothing changes
    pub nobody-changed : (i : Id) (es : List (List ℕ × X)) → Under es → lookup (bytes_eq i.0) es ≡ None → changed i (values_of es) ≡ values_of es
    nobody-changed i [] h none = refl
    nobody-changed i (e ∷ es) h none =
        let here : e.0 ≡ (id e.1).0 = cc in
        let rest : Under es = cc in
        nobody-at i e es (bytes_eq i.0 e.0) refl here none (λ f. nobody-changed i es rest f)

module _ {X : Type 0} (id : X → Id) where
  -- ---- what is taken out

  module _ (keep : X → Bool) where
    kept-at : (e : List ℕ × X) (es : List (List ℕ × X)) (b : Bool) → values_of (filter (λ d. keep d.1) es) ≡ filter keep (values_of es)
        → values_of (cond b (e ∷ filter (λ d. keep d.1) es) (filter (λ d. keep d.1) es)) ≡ cond b (e.1 ∷ filter keep (values_of es)) (filter keep (values_of es))
    kept-at e es true more = ap (λ xs. e.1 ∷ xs) more
    kept-at e es false more = more

    -- those that are kept, by what stands there
    pub values-filter : (es : List (List ℕ × X)) → values_of (filter (λ e. keep e.1) es) ≡ filter keep (values_of es)
    values-filter [] = refl
    values-filter (e ∷ es) = kept-at e es (keep e.1) (values-filter es)

    under-filter-at : (e : List ℕ × X) (es : List (List ℕ × X)) (b : Bool) → e.0 ≡ (id e.1).0 → Under id (filter (λ d. keep d.1) es)
        → Under id (cond b (e ∷ filter (λ d. keep d.1) es) (filter (λ d. keep d.1) es))
    under-filter-at e es true here rest = λ j. here j ∷ rest j
    under-filter-at e es false here rest = rest

    pub under-filter : (es : List (List ℕ × X)) → Under id es → Under id (filter (λ e. keep e.1) es)
    under-filter [] h = h
    under-filter (e ∷ es) h =
        let here : e.0 ≡ (id e.1).0 = cc in
        let rest : Under id es = cc in
        under-filter-at e es (keep e.1) here (under-filter es rest)

  abbrev pub others : Id → List X → List X
  others i xs = filter (λ x. not (same_id (id x) i)) xs

  -- where no object has the id none is taken out
  nobody-out : (i : Id) (es : List (List ℕ × X)) → Under id es → AllByRecursion (λ k. bytes_eq i.0 k ≡ false) (keys_of es) → others i (values_of es) ≡ values_of es
  nobody-out i [] h none = refl
  nobody-out i (e ∷ es) h none =
      let here : e.0 ≡ (id e.1).0 = cc in
      let rest : Under id es = cc in
      let test : same_id (id e.1) i ≡ false = same-here id i e here ∙ none.0 in
      let left : others i (values_of es) ≡ values_of es = nobody-out i es rest none.1 in
      (λ j. cond (not (test j)) (e.1 ∷ left j) (left j))

  out-at : (i : Id) (e : List ℕ × X) (es : List (List ℕ × X)) (b : Bool) → bytes_eq i.0 e.0 ≡ b → Under id (e ∷ es) → AllByRecursion (λ y. bytes_eq e.0 y ≡ false) (keys_of es)
      → values_of (remove_entry (bytes_eq i.0) es) ≡ others i (values_of es)
      → values_of (cond b es (e ∷ remove_entry (bytes_eq i.0) es)) ≡ cond (not (same_id (id e.1) i)) (e.1 ∷ others i (values_of es)) (others i (values_of es))
  out-at i e es true t h apart more =
      let here : e.0 ≡ (id e.1).0 = cc in
      let rest : Under id es = cc in
      let test : same_id (id e.1) i ≡ true = same-here id i e here ∙ t in
      let left : others i (values_of es) ≡ values_of es = nobody-out i es rest (others-differ i.0 e.0 (keys_of es) (same-bytes i.0 e.0 t) apart) in
      sym (λ j. cond (not (test j)) (e.1 ∷ left j) (left j))
  out-at i e es false t h apart more =
      let here : e.0 ≡ (id e.1).0 = cc in
      let test : same_id (id e.1) i ≡ false = same-here id i e here ∙ t in
      (λ j. cond (not (sym test j)) (e.1 ∷ more j) (more j))

  -- taking out what stands under an id takes out the object of the id
  pub values-out : (i : Id) (es : List (List ℕ × X)) → Under id es → IsDistinct bytes_eq (keys_of es) → values_of (remove_entry (bytes_eq i.0) es) ≡ others i (values_of es)
  unfolding IsDistinct
  values-out i [] h apart = refl
  values-out i (e ∷ es) h apart =
      let rest : Under id es = cc in
      out-at i e es (bytes_eq i.0 e.0) refl h apart.0 (values-out i es rest apart.1)

  under-out-at : (k : List ℕ) (e : List ℕ × X) (es : List (List ℕ × X)) (b : Bool) → Under id (e ∷ es) → Under id (remove_entry (bytes_eq k) es)
      → Under id (cond b es (e ∷ remove_entry (bytes_eq k) es))
  under-out-at k e es true h more = let rest : Under id es = cc in rest
  under-out-at k e es false h more =
      let here : e.0 ≡ (id e.1).0 = cc in
      (λ j. here j ∷ more j)

  pub under-out : (k : List ℕ) (es : List (List ℕ × X)) → Under id es → Under id (remove_entry (bytes_eq k) es)
  under-out k [] h = h
  under-out k (e ∷ es) h =
      let rest : Under id es = cc in
      under-out-at k e es (bytes_eq k e.0) h (under-out k es rest)

  keys-rewritten : (g : X → X) → ((x : X) → id (g x) ≡ id x) → (es : List (List ℕ × X)) → Under id es → Under id (map (λ e. (e.0, g e.1)) es)
  keys-rewritten g same [] h = h
  keys-rewritten g same (e ∷ es) h =
      let here : e.0 ≡ (id e.1).0 = cc in
      let rest : Under id es = cc in
      let first : e.0 ≡ (id (g e.1)).0 = here ∙ ap (λ (i : Id). i.0) (sym (same e.1)) in
      let more : Under id (map (λ d. (d.0, g d.1)) es) = keys-rewritten g same es rest in
      (λ j. first j ∷ more j)

  values-rewritten : (g : X → X) (es : List (List ℕ × X)) → values_of (map (λ e. (e.0, g e.1)) es) ≡ map g (values_of es)
  values-rewritten g [] = refl
  values-rewritten g (e ∷ es) = ap (λ xs. g e.1 ∷ xs) (values-rewritten g es)

none-of : {X : Type 0} (o : Option X) → is_some o ≡ false → o ≡ None
none-of None h = refl
none-of (Some x) h = absurd (true≢false h)

module _ {X S : Type 0} (id : X → Id) where
  -- what is found under an id is the object of the id in the list
  pub found : (i : Id) (m : HashMap (List ℕ) X S) (xs : List X) → Under id m.entries → values_of m.entries ≡ xs → lookup (bytes_eq i.0) m.entries ≡ find (λ x. same_id (id x) i) xs
  found i m xs under are = sym (found_under id i m.entries under) ∙ ap (find (λ x. same_id (id x) i)) are

  -- an object of another id goes behind the others
  pub added : (m n : HashMap (List ℕ) X S) (xs : List X) (x : X) (k : Id) → Under id m.entries → values_of m.entries ≡ xs
      → is_some (find (λ y. same_id (id y) (id x)) xs) ≡ false → k ≡ id x → n.entries ≡ insert_entry bytes_eq m.entries k.0 x
      → Under id n.entries × (values_of n.entries ≡ xs ++ x ∷ [])
  added m n xs x k under are free is put =
      let none : lookup (bytes_eq k.0) m.entries ≡ None =
      ap (λ (i : Id). lookup (bytes_eq i.0) m.entries) is ∙ (found (id x) m xs under are ∙ none-of (find (λ y. same_id (id y) (id x)) xs) free)
      in
      let whole : n.entries ≡ m.entries ++ (k.0, x) ∷ [] = put ∙ insert_entry-new bytes_eq m k.0 x none in
      let pushed : Under id (m.entries ++ (k.0, x) ∷ []) = under-push id m.entries k.0 x under (ap (λ (i : Id). i.0) is) in
      (subst (Under id) (sym whole) pushed, ap values_of whole ∙ (values-push id m.entries k.0 x ∙ ap (λ ys. ys ++ x ∷ []) are))

  -- the object of an id goes out
  pub removed : (m n : HashMap (List ℕ) X S) (xs : List X) (i : Id) → Under id m.entries → IsDistinct bytes_eq (keys_of m.entries) → values_of m.entries ≡ xs
      → n.entries ≡ remove_entry (bytes_eq i.0) m.entries → Under id n.entries × (values_of n.entries ≡ others id i xs)
  removed m n xs i under apart are put =
      (subst (Under id) (sym put) (under-out id i.0 m.entries under), ap values_of put ∙ (values-out id i m.entries under apart ∙ ap (others id i) are))

  -- those that are kept
  pub retained : (keep : X → Bool) (m n : HashMap (List ℕ) X S) (xs : List X) → Under id m.entries → values_of m.entries ≡ xs
      → n.entries ≡ filter (λ e. keep e.1) m.entries → Under id n.entries × (values_of n.entries ≡ filter keep xs)
  retained keep m n xs under are put =
      (subst (Under id) (sym put) (under-filter id keep m.entries under), ap values_of put ∙ (values-filter id keep m.entries ∙ ap (filter keep) are))

  -- each is changed in its place
  pub rewritten : (g : X → X) → ((x : X) → id (g x) ≡ id x) → (m n : HashMap (List ℕ) X S) (xs : List X) → Under id m.entries → values_of m.entries ≡ xs
      → n.entries ≡ map (λ e. (e.0, g e.1)) m.entries → Under id n.entries × (values_of n.entries ≡ map g xs)
  rewritten g same m n xs under are put =
      (subst (Under id) (sym put) (keys-rewritten id g same m.entries under), ap values_of put ∙ (values-rewritten id g m.entries ∙ ap (map g) are))

  module _ (change : X → X) (i : Id) (m n : HashMap (List ℕ) X S) (xs : List X) (x w : X) (under : Under id m.entries) (are : values_of m.entries ≡ xs)
      (apart : IsDistinct bytes_eq (keys_of m.entries)) (there : lookup (bytes_eq i.0) m.entries ≡ Some x) (put : n.entries ≡ set_value (bytes_eq i.0) m.entries w) where
    -- an object that was changed in its place
    pub written : w ≡ change x → values_of n.entries ≡ changed id change i xs
    written is =
        ap values_of put
        ∙ (ap (λ y. values_of (set_value (bytes_eq i.0) m.entries y)) is ∙ (values-set id change i m.entries x under apart there ∙ ap (changed id change i) are))

    pub written-same : w ≡ x → values_of n.entries ≡ xs
    written-same is =
        ap values_of put
        ∙ (ap (λ y. values_of (set_value (bytes_eq i.0) m.entries y)) is ∙ (ap values_of (set_value_same (bytes_eq i.0) m.entries x there) ∙ are))

    -- or not
    pub written-if : (b : Bool) → w ≡ cond b (change x) x → values_of n.entries ≡ cond b (changed id change i xs) xs
    written-if true is = written is
    written-if false is = written-same is

    pub if-same : ((y : X) → (id (change y)).0 ≡ (id y).0) → (b : Bool) → w ≡ cond b (change x) x → (id w).0 ≡ (id x).0
    if-same keeps true is = ap (λ y. (id y).0) is ∙ keeps x
    if-same keeps false is = ap (λ y. (id y).0) is

    pub written-under : (id w).0 ≡ (id x).0 → Under id n.entries
    written-under same = subst (Under id) (sym put) (under-set id change i.0 m.entries x w same under there)

    module _ {E : Type 0} (r : Result Unit E) (keeps : (y : X) → (id (change y)).0 ≡ (id y).0) (ok : OnOk r (w ≡ change x)) (err : OnErr r (w ≡ x)) where
      same-by : (r : Result Unit E) → OnOk r (w ≡ change x) → OnErr r (w ≡ x) → (id w).0 ≡ (id x).0
      same-by (Ok u) ok err = ap (λ y. (id y).0) ok ∙ keeps x
      same-by (Err e) ok err = ap (λ y. (id y).0) err

      pub lent-under : Under id n.entries
      lent-under = written-under (same-by r ok err)

      ok-by : (r : Result Unit E) → OnOk r (w ≡ change x) → OnOk r (values_of n.entries ≡ changed id change i xs)
      ok-by (Ok u) ok = written ok
      ok-by (Err e) ok = tt

      pub lent-ok : OnOk r (values_of n.entries ≡ changed id change i xs)
      lent-ok = ok-by r ok

      err-by : (r : Result Unit E) → OnErr r (w ≡ x) → OnErr r (values_of n.entries ≡ xs)
      err-by (Ok u) err = tt
      err-by (Err e) err = written-same err

      pub lent-err : OnErr r (values_of n.entries ≡ xs)
      lent-err = err-by r err

  -- where no object has the id
  pub nobody : (change : X → X) (i : Id) (m n : HashMap (List ℕ) X S) (xs : List X) → Under id m.entries → values_of m.entries ≡ xs → None ≡ lookup (bytes_eq i.0) m.entries → n ≡ m
      → values_of n.entries ≡ changed id change i xs
  nobody change i m n xs under are none same =
      ap (λ (l : HashMap (List ℕ) X S). values_of l.entries) same ∙ (sym (nobody-changed id change i m.entries under (sym none)) ∙ ap (changed id change i) are)
