-- Tables that tell of each key the earliest item.
use Rattle.std.proofs.Common.{◌≡◌, ℕ, suc, ◌+◌, ◌≤◌, ◌&&◌, List, [], ◌∷◌, ◌++◌, length, filter, Bool, true, false, not, cond, nat_eq, nat_lt, Option, Some, None, is_some, bytes_eq, refl, sym, ap, subst, ◌∙◌, true≢false, arith}
use Rattle.std.specs.Cmp.Lexicographic.{bytes_decides}
use Rattle.std.specs.HashMap.{HashMap, hash_map_len, spare}
use Rattle.std.specs.List.{find}
use Rattle.std.proofs.lemmas.Bool.{ltb-true}
use Rattle.std.proofs.lemmas.List.{length-append}
use Rattle.worker_calls.specs.State.{same_place}
use Rattle.worker_calls.specs.Tables.{first_of, ids_of, IsRoomyFor}
use Rattle.worker_calls.specs.declared.place.Place.{Place}

pub first_none : {A : Type 0} (o : Option A) → first_of o None ≡ o
first_none None = refl
first_none (Some x) = refl

-- one item more is noted
pub first_step : {A : Type 0} (o : Option A) (b : Bool) (x : A) (rest : Option A) → first_of (first_of o (cond b (Some x) None)) rest ≡ first_of o (cond b (Some x) rest)
first_step (Some y) b x rest = refl
first_step None true x rest = refl
first_step None false x rest = refl

push-at : {X : Type 0} (x y : X) (xs : List X) (test : X → Bool) (b : Bool) → first_of (find test xs) (cond (test y) (Some y) None) ≡ find test (xs ++ y ∷ [])
    → first_of (cond b (Some x) (find test xs)) (cond (test y) (Some y) None) ≡ cond b (Some x) (find test (xs ++ y ∷ []))
push-at x y xs test true h = refl
push-at x y xs test false h = h

pub find-push : {X : Type 0} (test : X → Bool) (xs : List X) (y : X) → first_of (find test xs) (cond (test y) (Some y) None) ≡ find test (xs ++ y ∷ [])
find-push test [] y = refl
find-push test (x ∷ xs) y = push-at x y xs test (test x) (find-push test xs y)

-- ---- room

pub and-left : (a b : Bool) → (a && b) ≡ true → a ≡ true
and-left true b h = refl
and-left false b h = h

pub and-right : (a b : Bool) → (a && b) ≡ true → b ≡ true
and-right true b h = h
and-right false b h = absurd (true≢false (sym h))

roomy-numbers : (n m e s f t : ℕ) → m ≡ n + 1 → e ≤ n → f ≤ e + 1 → e + s ≤ f + t → suc n ≤ e + s → (f ≤ m) × (m ≤ f + t)
roomy-numbers n m e s f t mn en fe rooms lt = (omega arith, omega arith)

pub roomy-push : {K X S Z : Type 0} (old new : HashMap K X S) (items more : List Z) (x : Z) → more ≡ items ++ x ∷ [] → IsRoomyFor (length items) old
    → hash_map_len new ≤ hash_map_len old + 1 → hash_map_len old + spare old ≤ hash_map_len new + spare new → nat_lt (length items) (hash_map_len old + spare old) ≡ true
    → IsRoomyFor (length more) new
roomy-push old new items more x e roomy one rooms lt =
    let h = roomy-numbers (length items) (length more) (hash_map_len old) (spare old) (hash_map_len new) (spare new)
    (ap length e ∙ length-append items (x ∷ [])) roomy.entries one rooms (ltb-true (length items) (hash_map_len old + spare old) lt) in
    record { entries = h.0; room = h.1 }

-- ---- one item is noted

pub none-of : {X : Type 0} (o : Option X) → is_some o ≡ false → o ≡ None
none-of None h = refl
none-of (Some x) h = absurd (true≢false h)

pub noted-before : {A : Type 0} (o : Option A) (b : Bool) (x : A) → (b ≡ true → is_some o ≡ true) → o ≡ first_of o (cond b (Some x) None)
noted-before (Some y) b x h = refl
noted-before None true x h = absurd (true≢false (sym (h refl)))
noted-before None false x h = refl

pub noted-now : {A : Type 0} (new old : Option A) (b : Bool) (x : A) → (b ≡ true → old ≡ None) → new ≡ cond b (Some x) old → new ≡ first_of old (cond b (Some x) None)
noted-now new old true x h e = e ∙ ap (λ o. first_of o (Some x)) (sym (h refl))
noted-now new old false x h e = e ∙ sym (first_none old)

pub same-ids : (a b : Place) → same_place a b ≡ true → ids_of a ≡ ids_of b
same-ids a b t =
    let router : a.router.0 ≡ b.router.0 = (bytes_decides a.router.0 b.router.0).0 (and-left (bytes_eq a.router.0 b.router.0) (bytes_eq a.transport.0 b.transport.0) t) in
    let transport : a.transport.0 ≡ b.transport.0 = (bytes_decides a.transport.0 b.transport.0).0 (and-right (bytes_eq a.router.0 b.router.0) (bytes_eq a.transport.0 b.transport.0) t) in
    (λ i. (router i, transport i))

-- ---- one item is taken out

module _ {X : Type 0} (keep : X → Bool) where
  kept-find : (t : X → Bool) (x : X) (xs : List X) (b k : Bool) → t x ≡ b → keep x ≡ k → (t x ≡ true → keep x ≡ true) → find t (filter keep xs) ≡ find t xs
      → find t (cond k (x ∷ filter keep xs) (filter keep xs)) ≡ cond b (Some x) (find t xs)
  kept-find t x xs b true e f h more = ap (λ c. cond c (Some x) (find t (filter keep xs))) e ∙ ap (λ o. cond b (Some x) o) more
  kept-find t x xs true false e f h more = absurd (true≢false (sym (h e) ∙ f))
  kept-find t x xs false false e f h more = more

  -- what is looked for is kept
  pub find-kept : (t : X → Bool) (xs : List X) → ((x : X) → t x ≡ true → keep x ≡ true) → find t (filter keep xs) ≡ find t xs
  find-kept t [] h = refl
  find-kept t (x ∷ xs) h = kept-find t x xs (t x) (keep x) refl refl (h x) (find-kept t xs h)

  dropped-find : (t : X → Bool) (x : X) (xs : List X) (k : Bool) → keep x ≡ k → (t x ≡ true → keep x ≡ false) → find t (filter keep xs) ≡ None
      → find t (cond k (x ∷ filter keep xs) (filter keep xs)) ≡ None
  dropped-find t x xs true e h more = ap (λ c. cond c (Some x) (find t (filter keep xs))) (unwanted (t x) refl) ∙ more
    where
      unwanted : (b : Bool) → t x ≡ b → b ≡ false
      unwanted false f = refl
      unwanted true f = absurd (true≢false (sym e ∙ h f))
  dropped-find t x xs false e h more = more

  -- what is looked for is not
  pub find-dropped : (t : X → Bool) (xs : List X) → ((x : X) → t x ≡ true → keep x ≡ false) → find t (filter keep xs) ≡ None
  find-dropped t [] h = refl
  find-dropped t (x ∷ xs) h = dropped-find t x xs (keep x) refl (h x) (find-dropped t xs h)

  no-longer-at : (x : X) (xs : List X) (k : Bool) → length (filter keep xs) ≤ length xs → length (cond k (x ∷ filter keep xs) (filter keep xs)) ≤ suc (length xs)
  no-longer-at x xs true h = omega arith
  no-longer-at x xs false h = omega arith

  no-longer : (xs : List X) → length (filter keep xs) ≤ length xs
  no-longer [] = omega arith
  no-longer (x ∷ xs) = no-longer-at x xs (keep x) (no-longer xs)

  all-at : (x : X) (xs : List X) (k : Bool) → length (filter keep xs) ≤ length xs → length (cond k (x ∷ filter keep xs) (filter keep xs)) ≡ suc (length xs)
      → (length (filter keep xs) ≡ length xs → filter keep xs ≡ xs) → cond k (x ∷ filter keep xs) (filter keep xs) ≡ x ∷ xs
  all-at x xs true le e more = ap (λ ys. x ∷ ys) (more (omega arith))
  all-at x xs false le e more = absurd (omega arith)

  all-kept : (xs : List X) → length (filter keep xs) ≡ length xs → filter keep xs ≡ xs
  all-kept [] e = refl
  all-kept (x ∷ xs) e = all-at x xs (keep x) (no-longer xs) e (all-kept xs)

module _ {X : Type 0} (p t : X → Bool) (x : X) (other : t x ≡ false) where
  once-at : (y : X) (ys : List X) (b : Bool) → cond b (Some y) (find p ys) ≡ Some x
      → length (cond (not b) (y ∷ filter (λ z. not (p z)) ys) (filter (λ z. not (p z)) ys)) + 1 ≡ suc (length ys)
      → (find p ys ≡ Some x → length (filter (λ z. not (p z)) ys) + 1 ≡ length ys → find t (filter (λ z. not (p z)) ys) ≡ find t ys)
      → find t (cond (not b) (y ∷ filter (λ z. not (p z)) ys) (filter (λ z. not (p z)) ys)) ≡ cond (t y) (Some y) (find t ys)
  once-at y ys true found one more =
      let this : y ≡ x = cc in
      ap (find t) (all-kept (λ z. not (p z)) ys (omega arith)) ∙ sym (ap (λ c. cond c (Some y) (find t ys)) (ap t this ∙ other))
  once-at y ys false found one more = ap (λ o. cond (t y) (Some y) o) (more found (omega arith))

  -- without the one item that passes a test, another is found as before
  pub once : (xs : List X) → find p xs ≡ Some x → length (filter (λ y. not (p y)) xs) + 1 ≡ length xs → find t (filter (λ y. not (p y)) xs) ≡ find t xs
  once [] found one = refl
  once (y ∷ ys) found one = once-at y ys (p y) found one (once ys)

module _ {X : Type 0} (p t : X → Bool) (x : X) (so : t x ≡ true) where
  some-at : (y : X) (ys : List X) (b c : Bool) → t y ≡ c → cond b (Some y) (find p ys) ≡ Some x → (find p ys ≡ Some x → is_some (find t ys) ≡ true) → is_some (cond c (Some y) (find t ys)) ≡ true
  some-at y ys b true e found more = refl
  some-at y ys true false e found more = let this : y ≡ x = cc in absurd (true≢false (sym so ∙ (ap t (sym this) ∙ e)))
  some-at y ys false false e found more = more found

  -- an item that is there is found by any test that it passes
  pub some-found : (xs : List X) → find p xs ≡ Some x → is_some (find t xs) ≡ true
  some-found [] found = absurd (true≢false (sym (ap is_some found)))
  some-found (y ∷ ys) found = some-at y ys (p y) (t y) refl found (some-found ys)

pub roomy-pop : {K X S : Type 0} (old new : HashMap K X S) (n m : ℕ) (b : Bool) → IsRoomyFor n old → m + 1 ≡ n → b ≡ true → hash_map_len new + cond b 1 0 ≡ hash_map_len old → spare old ≤ spare new
    → IsRoomyFor m new
roomy-pop old new n m true roomy one there less room =
    let entries : hash_map_len old ≤ n = roomy.entries in
    let places : n ≤ hash_map_len old + spare old = roomy.room in
    record { entries = omega arith; room = omega arith }
roomy-pop old new n m false roomy one there less room = absurd (true≢false (sym there))

pub same-is : (a b : Place) → same_place a b ≡ true → a ≡ b
same-is a b t = let h = same-ids a b t in (λ i. record { router = record { 0 = (h i).0 }; transport = record { 0 = (h i).1 } })
