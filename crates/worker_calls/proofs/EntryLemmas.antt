-- Routers that stand under their ids.
use Rattle.std.proofs.Common.{Result, Ok, Err, OnOk, OnErr, ◌≡◌, ℕ, List, [], ◌∷◌, ◌++◌, Bool, true, false, not, cond, map, filter, find, Option, Some, None, option_map, is_some, bytes_eq, refl, sym, ap, subst, ◌∙◌, true≢false}
use Rattle.std.specs.Cmp.Lexicographic.{bytes_decides, nat_list_eq_equiv}
use Rattle.std.specs.List.{AllByRecursion, IsDistinct}
use Rattle.std.specs.Borrow.{MutBor}
use Rattle.std.specs.HashMap.{HashMap}
use Rattle.std.specs.Option.{OnSome, option_copied_mut}
use Rattle.std.specs.Map.{keys_of, lookup, set_value, remove_entry}
use Rattle.ms_base.specs.declared.id.Id.{Id}
use Rattle.worker_router.specs.State.{RouterState, same_id}
use Rattle.std.proofs.lemmas.Map.Steps.{set_value_same}
use Rattle.indexmap.specs.IndexMap.{insert_entry}
use Rattle.indexmap.proofs.CallerLemmas.{insert_entry-new}
use Rattle.worker_calls.proofs.TableLemmas.{none-of}
use Rattle.worker_calls.specs.Plans.{at, change_in}
use Rattle.worker_calls.specs.State.{RouterAt}
use Rattle.worker_calls.specs.Tables.{id_of, router_at, routers_at}

pub same-bytes : (a b : List ℕ) → bytes_eq a b ≡ true → a ≡ b
same-bytes a b = (bytes_decides a b).0

pub swapped : (a b : List ℕ) → bytes_eq a b ≡ bytes_eq b a
swapped a b = nat_list_eq_equiv.symm a b

abbrev pub Entry : Type 0
Entry = List ℕ × RouterState

abbrev kept : Id → List RouterAt → List RouterAt
kept i xs = filter (λ r. not (same_id r.id i)) xs

-- ---- what is found

found-at : (i : Id) (e : Entry) (b : Bool) (o : Option RouterAt) (p : Option RouterState) → bytes_eq i.0 e.0 ≡ b → o ≡ option_map (at i) p
    → cond (bytes_eq e.0 i.0) (Some (router_at e)) o ≡ option_map (at i) (cond b (Some e.1) p)
found-at i e true o p t h =
    ap (λ (c : Bool). cond c (Some (router_at e)) o) (swapped e.0 i.0 ∙ t)
    ∙ ap (λ (bytes : List ℕ). Some (at (id_of bytes) e.1)) (sym (same-bytes i.0 e.0 t))
found-at i e false o p t h = ap (λ (c : Bool). cond c (Some (router_at e)) o) (swapped e.0 i.0 ∙ t) ∙ h

pub found : (i : Id) (es : List Entry) → find (λ r. same_id r.id i) (routers_at es) ≡ option_map (at i) (lookup (bytes_eq i.0) es)
found i [] = refl
found i (e ∷ es) =
    found-at i e (bytes_eq i.0 e.0) (find (λ r. same_id r.id i) (routers_at es)) (lookup (bytes_eq i.0) es) refl (found i es)
    ∙ refl

-- ---- where no Router has the id

absent-at : (i : Id) (e : Entry) (es : List Entry) (b : Bool) → bytes_eq i.0 e.0 ≡ b → cond b (Some e.1) (lookup (bytes_eq i.0) es) ≡ None
    → (same_id (id_of e.0) i ≡ false) × (lookup (bytes_eq i.0) es ≡ None)
absent-at i e es true t h = absurd (true≢false (ap is_some h))
absent-at i e es false t h = (swapped e.0 i.0 ∙ t, h)

pub absent-kept : (i : Id) (es : List Entry) → lookup (bytes_eq i.0) es ≡ None → kept i (routers_at es) ≡ routers_at es
absent-kept i [] h = refl
absent-kept i (e ∷ es) h =
    let a = absent-at i e es (bytes_eq i.0 e.0) refl h in
    ap (λ (c : Bool). cond (not c) (router_at e ∷ kept i (routers_at es)) (kept i (routers_at es))) a.0
    ∙ ap (λ (rest : List RouterAt). router_at e ∷ rest) (absent-kept i es a.1)

pub absent-changed : (f : RouterState → RouterState) (i : Id) (es : List Entry) → lookup (bytes_eq i.0) es ≡ None → change_in i f (routers_at es) ≡ routers_at es
absent-changed f i [] h = refl
absent-changed f i (e ∷ es) h =
    let a = absent-at i e es (bytes_eq i.0 e.0) refl h in
    ap (λ (c : Bool). cond c (record (router_at e) { router = f e.1 }) (router_at e) ∷ change_in i f (routers_at es)) a.0
    ∙ ap (λ (rest : List RouterAt). router_at e ∷ rest) (absent-changed f i es a.1)

-- ---- one is taken out

removed-at : (i : Id) (e : Entry) (es : List Entry) (b : Bool) → bytes_eq i.0 e.0 ≡ b → lookup (bytes_eq i.0) (cond b es (e ∷ remove_entry (bytes_eq i.0) es)) ≡ None
    → (lookup (bytes_eq i.0) (remove_entry (bytes_eq i.0) es) ≡ None → kept i (routers_at es) ≡ routers_at (remove_entry (bytes_eq i.0) es))
    → kept i (routers_at (e ∷ es)) ≡ routers_at (cond b es (e ∷ remove_entry (bytes_eq i.0) es))
removed-at i e es true t h more =
    ap (λ (c : Bool). cond (not c) (router_at e ∷ kept i (routers_at es)) (kept i (routers_at es))) (swapped e.0 i.0 ∙ t)
    ∙ absent-kept i es h
removed-at i e es false t h more =
    let rest : lookup (bytes_eq i.0) (remove_entry (bytes_eq i.0) es) ≡ None =
    sym (ap (λ (c : Bool). cond c (Some e.1) (lookup (bytes_eq i.0) (remove_entry (bytes_eq i.0) es))) t) ∙ h
    in
    ap (λ (c : Bool). cond (not c) (router_at e ∷ kept i (routers_at es)) (kept i (routers_at es))) (swapped e.0 i.0 ∙ t)
    ∙ ap (λ (rs : List RouterAt). router_at e ∷ rs) (more rest)

pub removed : (i : Id) (es : List Entry) → lookup (bytes_eq i.0) (remove_entry (bytes_eq i.0) es) ≡ None → kept i (routers_at es) ≡ routers_at (remove_entry (bytes_eq i.0) es)
removed i [] h = refl
removed i (e ∷ es) h = removed-at i e es (bytes_eq i.0 e.0) refl h (removed i es)

-- ---- one more behind the others

pub pushed : (es : List Entry) (e : Entry) → routers_at (es ++ e ∷ []) ≡ routers_at es ++ router_at e ∷ []
pushed [] e = refl
pushed (x ∷ es) e = ap (λ (rest : List RouterAt). router_at x ∷ rest) (pushed es e)

-- ---- one is changed

pub others-differ : (i k : List ℕ) (ks : List (List ℕ)) → i ≡ k → AllByRecursion (λ y. bytes_eq k y ≡ false) ks → AllByRecursion (λ y. bytes_eq i y ≡ false) ks
others-differ i k ks same none = subst (λ b. AllByRecursion (λ y. bytes_eq b y ≡ false) ks) (sym same) none

pub unmatched : (i : List ℕ) (es : List Entry) → AllByRecursion (λ k. bytes_eq i k ≡ false) (keys_of es) → lookup (bytes_eq i) es ≡ None
unmatched i [] none = refl
unmatched i (e ∷ es) none =
    ap (λ (c : Bool). cond c (Some e.1) (lookup (bytes_eq i) es)) none.0 ∙ unmatched i es none.1

changed-at : (f : RouterState → RouterState) (i : Id) (e : Entry) (es : List Entry) (x : RouterState) (b : Bool) → bytes_eq i.0 e.0 ≡ b
    → AllByRecursion (λ y. bytes_eq e.0 y ≡ false) (keys_of es) → cond b (Some e.1) (lookup (bytes_eq i.0) es) ≡ Some x
    → (lookup (bytes_eq i.0) es ≡ Some x → routers_at (set_value (bytes_eq i.0) es (f x)) ≡ change_in i f (routers_at es))
    → routers_at (cond b ((e.0, f x) ∷ es) (e ∷ set_value (bytes_eq i.0) es (f x))) ≡ change_in i f (routers_at (e ∷ es))
changed-at f i e es x true t apart there more =
    let this : e.1 ≡ x = cc in
    let none : lookup (bytes_eq i.0) es ≡ None = unmatched i.0 es (others-differ i.0 e.0 (keys_of es) (same-bytes i.0 e.0 t) apart) in
    sym
    (ap (λ (c : Bool). cond c (record (router_at e) { router = f e.1 }) (router_at e) ∷ change_in i f (routers_at es)) (swapped e.0 i.0 ∙ t)
    ∙ (ap (λ (rest : List RouterAt). record (router_at e) { router = f e.1 } ∷ rest) (absent-changed f i es none)
    ∙ ap (λ (y : RouterState). record (router_at e) { router = f y } ∷ routers_at es) this))
changed-at f i e es x false t apart there more =
    sym
    (ap (λ (c : Bool). cond c (record (router_at e) { router = f e.1 }) (router_at e) ∷ change_in i f (routers_at es)) (swapped e.0 i.0 ∙ t)
    ∙ ap (λ (rest : List RouterAt). router_at e ∷ rest) (sym (more there)))

pub changed : (f : RouterState → RouterState) (i : Id) (es : List Entry) (x : RouterState) → IsDistinct bytes_eq (keys_of es) → lookup (bytes_eq i.0) es ≡ Some x
    → routers_at (set_value (bytes_eq i.0) es (f x)) ≡ change_in i f (routers_at es)
unfolding IsDistinct
changed f i [] x apart there = absurd (true≢false (sym (ap is_some there)))
changed f i (e ∷ es) x apart there = changed-at f i e es x (bytes_eq i.0 e.0) refl apart.0 there (λ h. changed f i es x apart.1 h)

-- ---- what the code did

some-map : {X Y : Type 0} (f : X → Y) (o : Option X) → is_some (option_map f o) ≡ is_some o
some-map f None = refl
some-map f (Some x) = refl

module _ {S : Type 0} where
  pub added : (m n : HashMap (List ℕ) RouterState S) (i : Id) (r : RouterState) (xs : List RouterAt) → routers_at m.entries ≡ xs
      → is_some (find (λ y. same_id y.id i) xs) ≡ false → n.entries ≡ insert_entry bytes_eq m.entries i.0 r → routers_at n.entries ≡ xs ++ at i r ∷ []
  added m n i r xs are free put =
      let here : is_some (find (λ y. same_id y.id i) (routers_at m.entries)) ≡ false = ap (λ (ys : List RouterAt). is_some (find (λ y. same_id y.id i) ys)) are ∙ free in
      let none : lookup (bytes_eq i.0) m.entries ≡ None =
      none-of (lookup (bytes_eq i.0) m.entries) (sym (some-map (at i) (lookup (bytes_eq i.0) m.entries)) ∙ (sym (ap is_some (found i m.entries)) ∙ here))
      in
      ap routers_at (put ∙ insert_entry-new bytes_eq m i.0 r none) ∙ (pushed m.entries (i.0, r) ∙ ap (λ (ys : List RouterAt). ys ++ at i r ∷ []) are)

  module _ (f : RouterState → RouterState) (i : Id) (m n : HashMap (List ℕ) RouterState S) (xs : List RouterAt) (are : routers_at m.entries ≡ xs) where
    module _ (x w : RouterState) (apart : IsDistinct bytes_eq (keys_of m.entries)) (there : lookup (bytes_eq i.0) m.entries ≡ Some x)
        (put : n.entries ≡ set_value (bytes_eq i.0) m.entries w) where
      pub lent-ok : {E : Type 0} (r : Result Unit E) → OnOk r (w ≡ f x) → OnOk r (routers_at n.entries ≡ change_in i f xs)
      lent-ok (Ok u) ok =
          ap routers_at put
          ∙ (ap (λ (y : RouterState). routers_at (set_value (bytes_eq i.0) m.entries y)) ok ∙ (changed f i m.entries x apart there ∙ ap (change_in i f) are))
      lent-ok (Err e) ok = tt

      pub lent-err : {E : Type 0} (r : Result Unit E) → OnErr r (w ≡ x) → OnErr r (routers_at n.entries ≡ xs)
      lent-err (Ok u) err = tt
      lent-err (Err e) err =
          ap routers_at put
          ∙ (ap (λ (y : RouterState). routers_at (set_value (bytes_eq i.0) m.entries y)) err ∙ (ap routers_at (set_value_same (bytes_eq i.0) m.entries x there) ∙ are))

    pub nobody : None ≡ lookup (bytes_eq i.0) m.entries → n ≡ m → routers_at n.entries ≡ change_in i f xs
    nobody none same =
        ap (λ (l : HashMap (List ℕ) RouterState S). routers_at l.entries) same ∙ (sym (absent-changed f i m.entries (sym none)) ∙ ap (change_in i f) are)

-- ---- one is lent

module _ {S : Type 0} (i : Id) (m n : HashMap (List ℕ) RouterState S) (xs : List RouterAt) (w : RouterState) (are : routers_at m.entries ≡ xs)
    (apart : IsDistinct bytes_eq (keys_of m.entries)) (put : n.entries ≡ set_value (bytes_eq i.0) m.entries w) where
  pub lent-some : (r : Option (MutBor RouterState)) → option_copied_mut r ≡ lookup (bytes_eq i.0) m.entries → OnSome r (routers_at n.entries ≡ change_in i (λ _. w) xs)
  lent-some None h = tt
  lent-some (Some x) h =
      ap routers_at put ∙ (changed (λ _. w) i m.entries x.now apart (sym h) ∙ ap (change_in i (λ _. w)) are)

pub some-then : {X P Q : Type 0} (r : Option X) → (P → Q) → OnSome r P → OnSome r Q
some-then None f h = tt
some-then (Some x) f h = f h
