-- Lists of objects of different ids.
use Rattle.std.proofs.Common.{◌<◌, arith, length, get_or, ◌≡◌, ℕ, List, [], ◌∷◌, ◌++◌, ◌&&◌, ◌||◌, Bool, true, false, cond, map, filter, find, Option, Some, None, is_some, bytes_eq, refl, sym, ap, subst, ◌∙◌, true≢false}
use Rattle.std.specs.Cmp.Lexicographic.{bytes_decides}
use Rattle.std.proofs.lemmas.List.{ext_get_or}
use Rattle.std.proofs.lemmas.List.FromFn.{get_or-map-range_with_len, length-map-range_with_len}
use Rattle.std.specs.List.{AllByRecursion, IsDistinct, list_any, range_with_len}
use Rattle.std.specs.Option.{option_map}
use Rattle.ms_base.specs.declared.id.Id.{Id}
use Rattle.worker_router.specs.State.{same_id}
use Rattle.worker_router.specs.Calls.{change}
use Rattle.worker_router.specs.Tables.{AreDifferent, id_of, present}
use Rattle.worker_router.proofs.ByIdLemmas.{same-bytes, swapped, others-differ}

-- ---- lists

module _ {X Y : Type 0} (g : X → Y) where
  map-filter-at : (t : Y → Bool) (x : X) (xs : List X) (b : Bool) → map g (filter (λ y. t (g y)) xs) ≡ filter t (map g xs)
      → map g (cond b (x ∷ filter (λ y. t (g y)) xs) (filter (λ y. t (g y)) xs)) ≡ cond b (g x ∷ filter t (map g xs)) (filter t (map g xs))
  map-filter-at t x xs true more = ap (λ ys. g x ∷ ys) more
  map-filter-at t x xs false more = more

  pub map-filter : (t : Y → Bool) (xs : List X) → map g (filter (λ y. t (g y)) xs) ≡ filter t (map g xs)
  map-filter t [] = refl
  map-filter t (x ∷ xs) = map-filter-at t x xs (t (g x)) (map-filter t xs)

  find-map-at : (t : Y → Bool) (x : X) (xs : List X) (b : Bool) → find t (map g xs) ≡ option_map g (find (λ y. t (g y)) xs)
      → cond b (Some (g x)) (find t (map g xs)) ≡ option_map g (cond b (Some x) (find (λ y. t (g y)) xs))
  find-map-at t x xs true more = refl
  find-map-at t x xs false more = more

  pub find-map : (t : Y → Bool) (xs : List X) → find t (map g xs) ≡ option_map g (find (λ y. t (g y)) xs)
  find-map t [] = refl
  find-map t (x ∷ xs) = find-map-at t x xs (t (g x)) (find-map t xs)

  pub map-push : (xs : List X) (x : X) → map g (xs ++ x ∷ []) ≡ map g xs ++ g x ∷ []
  map-push [] x = refl
  map-push (y ∷ xs) x = ap (λ ys. g y ∷ ys) (map-push xs x)

  pub all-under : (P : Y → Type 0) (xs : List X) → AllByRecursion (λ x. P (g x)) xs → AllByRecursion P (map g xs)
  all-under P [] h = h
  all-under P (x ∷ xs) h = (h.0, all-under P xs h.1)

  pub all-over : (P : Y → Type 0) (xs : List X) → AllByRecursion P (map g xs) → AllByRecursion (λ x. P (g x)) xs
  all-over P [] h = h
  all-over P (x ∷ xs) h = (h.0, all-over P xs h.1)

  -- what a change leaves of each
  module _ (test : X → Bool) (f : X → X) (keeps : (x : X) → g (f x) ≡ g x) where
    pub change-at : (x : X) (b : Bool) → g (cond b (f x) x) ≡ g x
    change-at x true = keeps x
    change-at x false = refl

    pub map-change : (xs : List X) → map g (change test f xs) ≡ map g xs
    map-change [] = refl
    map-change (x ∷ xs) = let first = change-at x (test x) in let rest = map-change xs in (λ j. first j ∷ rest j)

pub map-map : {X Y Z : Type 0} (f : X → Y) (g : Y → Z) (xs : List X) → map g (map f xs) ≡ map (λ x. g (f x)) xs
map-map f g [] = refl
map-map f g (x ∷ xs) = ap (λ ys. g (f x) ∷ ys) (map-map f g xs)

pub is-some-map : {X Y : Type 0} (g : X → Y) (o : Option X) → is_some (option_map g o) ≡ is_some o
is-some-map g None = refl
is-some-map g (Some x) = refl

pub present-map : {X Y : Type 0} (g : X → Y) (id : Y → Id) (xs : List X) (i : Id) → present id (map g xs) i ≡ present (λ x. id (g x)) xs i
present-map g id xs i = ap is_some (find-map g (λ y. same_id (id y) i) xs) ∙ is-some-map g (find (λ x. same_id (id (g x)) i) xs)

pub filter-by : {X : Type 0} (s t : X → Bool) → ((x : X) → s x ≡ t x) → (xs : List X) → filter s xs ≡ filter t xs
filter-by s t same [] = refl
filter-by s t same (x ∷ xs) = let here = same x in let rest = filter-by s t same xs in (λ j. cond (here j) (x ∷ rest j) (rest j))

module _ {X : Type 0} where
  pub filter-same : (s t : X → Bool) (xs : List X) → AllByRecursion (λ x. s x ≡ t x) xs → filter s xs ≡ filter t xs
  filter-same s t [] h = refl
  filter-same s t (x ∷ xs) h = let rest = filter-same s t xs h.1 in let here = h.0 in (λ j. cond (here j) (x ∷ rest j) (rest j))

  filter-filter-at : (s t : X → Bool) (x : X) (xs : List X) (a b : Bool) → s x ≡ a → filter s (filter t xs) ≡ filter (λ y. t y && s y) xs
      → filter s (cond b (x ∷ filter t xs) (filter t xs)) ≡ cond (b && a) (x ∷ filter (λ y. t y && s y) xs) (filter (λ y. t y && s y) xs)
  filter-filter-at s t x xs true true e more = ap (λ c. cond c (x ∷ filter s (filter t xs)) (filter s (filter t xs))) e ∙ ap (λ ys. x ∷ ys) more
  filter-filter-at s t x xs false true e more = ap (λ c. cond c (x ∷ filter s (filter t xs)) (filter s (filter t xs))) e ∙ more
  filter-filter-at s t x xs a false e more = more

  pub filter-filter : (s t : X → Bool) (xs : List X) → filter s (filter t xs) ≡ filter (λ y. t y && s y) xs
  filter-filter s t [] = refl
  filter-filter s t (x ∷ xs) = filter-filter-at s t x xs (s x) (t x) refl (filter-filter s t xs)

  all-filter-at : (P : X → Type 0) (x : X) (ys : List X) (b : Bool) → P x → AllByRecursion P ys → AllByRecursion P (cond b (x ∷ ys) ys)
  all-filter-at P x ys true p more = (p, more)
  all-filter-at P x ys false p more = more

  pub all-filter : (P : X → Type 0) (t : X → Bool) (xs : List X) → AllByRecursion P xs → AllByRecursion P (filter t xs)
  all-filter P t [] h = h
  all-filter P t (x ∷ xs) h = all-filter-at P x (filter t xs) (t x) h.0 (all-filter P t xs h.1)

  all-kept-at : (P : X → Type 0) (t : X → Bool) (x : X) (ys : List X) (b : Bool) → t x ≡ b → (t x ≡ true → P x) → AllByRecursion P ys → AllByRecursion P (cond b (x ∷ ys) ys)
  all-kept-at P t x ys true e p more = (p e, more)
  all-kept-at P t x ys false e p more = more

  -- what follows from the test holds of those that are kept
  pub all-kept : (P : X → Type 0) (t : X → Bool) (xs : List X) → AllByRecursion (λ x. t x ≡ true → P x) xs → AllByRecursion P (filter t xs)
  all-kept P t [] h = h
  all-kept P t (x ∷ xs) h = all-kept-at P t x (filter t xs) (t x) refl h.0 (all-kept P t xs h.1)

  pub all-map : (P Q : X → Type 0) (f : (x : X) → P x → Q x) (xs : List X) → AllByRecursion P xs → AllByRecursion Q xs
  all-map P Q f [] h = h
  all-map P Q f (x ∷ xs) h = (f x h.0, all-map P Q f xs h.1)

  pub all-both : (P Q R : X → Type 0) (f : (x : X) → P x → Q x → R x) (xs : List X) → AllByRecursion P xs → AllByRecursion Q xs → AllByRecursion R xs
  all-both P Q R f [] h k = h
  all-both P Q R f (x ∷ xs) h k = (f x h.0 k.0, all-both P Q R f xs h.1 k.1)

  pub all-push : (P : X → Type 0) (xs : List X) (x : X) → AllByRecursion P xs → P x → AllByRecursion P (xs ++ x ∷ [])
  all-push P [] x h p = (p, tt)
  all-push P (y ∷ xs) x h p = (h.0, all-push P xs x h.1 p)

  find-test-at : (t : X → Bool) (y x : X) (b : Bool) (o : Option X) → t y ≡ b → cond b (Some y) o ≡ Some x → (o ≡ Some x → t x ≡ true) → t x ≡ true
  find-test-at t y x true o e found more = let this : y ≡ x = cc in ap t (sym this) ∙ e
  find-test-at t y x false o e found more = more found

  -- what is found passes the test
  pub find-test : (t : X → Bool) (xs : List X) (x : X) → find t xs ≡ Some x → t x ≡ true
  find-test t [] x found = absurd (true≢false (sym (ap is_some found)))
  find-test t (y ∷ xs) x found = find-test-at t y x (t y) (find t xs) refl found (find-test t xs x)

  any-find-at : (b : Bool) (x : X) (a : Bool) (o : Option X) → a ≡ is_some o → b || a ≡ is_some (cond b (Some x) o)
  any-find-at true x a o more = refl
  any-find-at false x a o more = more

  pub any-find : (t : X → Bool) (xs : List X) → list_any t xs ≡ is_some (find t xs)
  any-find t [] = refl
  any-find t (x ∷ xs) = any-find-at (t x) x (list_any t xs) (find t xs) (any-find t xs)

  -- one that is found, where it passes a further test
  abbrev pub guard : (X → Bool) → Option X → Option X
  guard keep None = None
  guard keep (Some x) = cond (keep x) (Some x) None

  find-push-at : (t : X → Bool) (x y : X) (b : Bool) (o q : Option X) → q ≡ cond (is_some o) o (cond (t x) (Some x) None)
      → cond b (Some y) q ≡ cond (is_some (cond b (Some y) o)) (cond b (Some y) o) (cond (t x) (Some x) None)
  find-push-at t x y true o q more = refl
  find-push-at t x y false o q more = more

  pub find-push : (t : X → Bool) (xs : List X) (x : X) → find t (xs ++ x ∷ []) ≡ cond (is_some (find t xs)) (find t xs) (cond (t x) (Some x) None)
  find-push t [] x = refl
  find-push t (y ∷ xs) x = find-push-at t x y (t y) (find t xs) (find t (xs ++ x ∷ [])) (find-push t xs x)

  not-found-at : (t k : X → Bool) (x : X) (xs : List X) (b a : Bool) → t x ≡ b → cond b (Some x) (find t xs) ≡ None → (find t xs ≡ None → find t (filter k xs) ≡ None)
      → find t (cond a (x ∷ filter k xs) (filter k xs)) ≡ None
  not-found-at t k x xs true a e none more = absurd (true≢false (ap is_some none))
  not-found-at t k x xs false true e none more = ap (λ c. cond c (Some x) (find t (filter k xs))) e ∙ more none
  not-found-at t k x xs false false e none more = more none

  -- what isn't there isn't there among fewer
  pub not-found : (t k : X → Bool) (xs : List X) → find t xs ≡ None → find t (filter k xs) ≡ None
  not-found t k [] none = refl
  not-found t k (x ∷ xs) none = not-found-at t k x xs (t x) (k x) refl none (not-found t k xs)

  pub guarded : (t : X → Bool) (o : Option X) (x : X) → guard t o ≡ Some x → o ≡ Some x
  guarded t None x e = e
  guarded t (Some y) x e = by (t y) e
    where
      by : (b : Bool) → cond b (Some y) None ≡ Some x → Some y ≡ Some x
      by true e = e
      by false e = absurd (true≢false (sym (ap is_some e)))

-- ---- objects of different ids

pub self-same : (bytes : List ℕ) → bytes_eq bytes bytes ≡ true
self-same bytes = (bytes_decides bytes bytes).1 refl

pub change-by : {X : Type 0} (t u : X → Bool) (f : X → X) (xs : List X) → AllByRecursion (λ x. t x ≡ u x) xs → change t f xs ≡ change u f xs
change-by t u f [] h = refl
change-by t u f (x ∷ xs) h = let here = h.0 in let rest = change-by t u f xs h.1 in (λ j. cond (here j) (f x) x ∷ rest j)

pub map-none : {X : Type 0} (f : X → X) (xs : List X) → AllByRecursion (λ x. f x ≡ x) xs → map f xs ≡ xs
map-none f [] h = refl
map-none f (x ∷ xs) h = let here = h.0 in let rest = map-none f xs h.1 in (λ j. here j ∷ rest j)

pub change-none : {X : Type 0} (f : X → X) (xs : List X) → change (λ x. false) f xs ≡ xs
change-none f [] = refl
change-none f (x ∷ xs) = ap (λ ys. x ∷ ys) (change-none f xs)

module _ {X : Type 0} (id : X → Id) where
  abbrev pub ids : List X → List (List ℕ)
  ids xs = map (λ x. (id x).0) xs

  abbrev pub is : Id → X → Bool
  is i x = same_id (id x) i

  none-at : (i : Id) (keep : X → Bool) (x : X) (xs : List X) (b : Bool) → is i x ≡ false → find (is i) (filter keep xs) ≡ None → find (is i) (cond b (x ∷ filter keep xs) (filter keep xs)) ≡ None
  none-at i keep x xs true t more = ap (λ c. cond c (Some x) (find (is i) (filter keep xs))) t ∙ more
  none-at i keep x xs false t more = more

  none-found : (i : Id) (keep : X → Bool) (xs : List X) → AllByRecursion (λ k. bytes_eq i.0 k ≡ false) (ids xs) → find (is i) (filter keep xs) ≡ None
  none-found i keep [] h = refl
  none-found i keep (x ∷ xs) h = none-at i keep x xs (keep x) (swapped (id x).0 i.0 ∙ h.0) (none-found i keep xs h.1)

  others-apart : (i : Id) (x : X) (xs : List X) → is i x ≡ true → AllByRecursion (λ k. bytes_eq (id x).0 k ≡ false) (ids xs) → AllByRecursion (λ k. bytes_eq i.0 k ≡ false) (ids xs)
  others-apart i x xs t h = others-differ i.0 (id x).0 (ids xs) (sym (same-bytes (id x).0 i.0 t)) h

  filter-at : (i : Id) (keep : X → Bool) (x : X) (xs : List X) (k b : Bool) → keep x ≡ k → is i x ≡ b → AllByRecursion (λ y. bytes_eq (id x).0 y ≡ false) (ids xs)
      → find (is i) (filter keep xs) ≡ guard keep (find (is i) xs) → find (is i) (cond k (x ∷ filter keep xs) (filter keep xs)) ≡ guard keep (cond b (Some x) (find (is i) xs))
  filter-at i keep x xs true true e t apart more = ap (λ c. cond c (Some x) (find (is i) (filter keep xs))) t ∙ sym (ap (λ c. cond c (Some x) None) e)
  filter-at i keep x xs false true e t apart more = none-found i keep xs (others-apart i x xs t apart) ∙ sym (ap (λ c. cond c (Some x) None) e)
  filter-at i keep x xs true false e t apart more = ap (λ c. cond c (Some x) (find (is i) (filter keep xs))) t ∙ more
  filter-at i keep x xs false false e t apart more = more

  -- among those that are kept the object of an id is found where it is kept
  pub find-filter : (i : Id) (keep : X → Bool) (xs : List X) → AreDifferent id xs → find (is i) (filter keep xs) ≡ guard keep (find (is i) xs)
  unfolding IsDistinct
  find-filter i keep [] apart = refl
  find-filter i keep (x ∷ xs) apart = filter-at i keep x xs (keep x) (is i x) refl refl apart.0 (find-filter i keep xs apart.1)

  none-test-at : (i : Id) (test : X → Bool) (x : X) (o : Option X) (b : Bool) → test x ≡ b → (test x ≡ true → is i x ≡ true) → is i x ≡ false → o ≡ None → cond b (Some x) o ≡ None
  none-test-at i test x o true e h t more = absurd (true≢false (sym (h e) ∙ t))
  none-test-at i test x o false e h t more = more

  none-test : (i : Id) (test : X → Bool) (xs : List X) → AllByRecursion (λ k. bytes_eq i.0 k ≡ false) (ids xs) → AllByRecursion (λ x. test x ≡ true → is i x ≡ true) xs → find test xs ≡ None
  none-test i test [] apart h = refl
  none-test i test (x ∷ xs) apart h = none-test-at i test x (find test xs) (test x) refl h.0 (swapped (id x).0 i.0 ∙ apart.0) (none-test i test xs apart.1 h.1)

  by-at : (i : Id) (test : X → Bool) (x : X) (xs : List X) (a b : Bool) → test x ≡ a → is i x ≡ b → AllByRecursion (λ y. bytes_eq (id x).0 y ≡ false) (ids xs)
      → (test x ≡ true → is i x ≡ true) → AllByRecursion (λ y. test y ≡ true → is i y ≡ true) xs → find test xs ≡ guard test (find (is i) xs)
      → cond a (Some x) (find test xs) ≡ guard test (cond b (Some x) (find (is i) xs))
  by-at i test x xs true true e t apart h hs more = sym (ap (λ c. cond c (Some x) None) e)
  by-at i test x xs true false e t apart h hs more = absurd (true≢false (sym (h e) ∙ t))
  by-at i test x xs false true e t apart h hs more = none-test i test xs (others-apart i x xs t apart) hs ∙ sym (ap (λ c. cond c (Some x) None) e)
  by-at i test x xs false false e t apart h hs more = more

  -- where only the object of an id can pass, what passes is found by the id
  pub find-by : (i : Id) (test : X → Bool) (xs : List X) → AreDifferent id xs → AllByRecursion (λ x. test x ≡ true → is i x ≡ true) xs → find test xs ≡ guard test (find (is i) xs)
  unfolding IsDistinct
  find-by i test [] apart h = refl
  find-by i test (x ∷ xs) apart h = by-at i test x xs (test x) (is i x) refl refl apart.0 h.0 h.1 (find-by i test xs apart.1 h.1)

  later : (x : X) (ys zs : List X) → AllByRecursion (λ k. bytes_eq (id x).0 k ≡ false) (ids ys) → AllByRecursion (λ y. find (is (id y)) zs ≡ Some y) ys
      → AllByRecursion (λ y. find (is (id y)) (x ∷ zs) ≡ Some y) ys
  later x [] zs apart h = tt
  later x (y ∷ ys) zs apart h = (ap (λ c. cond c (Some x) (find (is (id y)) zs)) apart.0 ∙ h.0, later x ys zs apart.1 h.1)

  -- each is found by its id
  pub founds : (xs : List X) → AreDifferent id xs → AllByRecursion (λ x. find (is (id x)) xs ≡ Some x) xs
  unfolding IsDistinct
  founds [] apart = tt
  founds (x ∷ xs) apart = (ap (λ c. cond c (Some x) (find (is (id x)) xs)) (self-same (id x).0), later x xs xs apart.0 (founds xs apart.1))

  apart-filter : (b : List ℕ) (keep : X → Bool) (xs : List X) → AllByRecursion (λ k. bytes_eq b k ≡ false) (ids xs) → AllByRecursion (λ k. bytes_eq b k ≡ false) (ids (filter keep xs))
  apart-filter b keep xs h =
      all-under (λ x. (id x).0) (λ k. bytes_eq b k ≡ false) (filter keep xs)
      (all-filter (λ x. bytes_eq b (id x).0 ≡ false) keep xs (all-over (λ x. (id x).0) (λ k. bytes_eq b k ≡ false) xs h))

  differ-filter-at : (x : X) (ys : List X) (b : Bool) → AllByRecursion (λ k. bytes_eq (id x).0 k ≡ false) (ids ys) → AreDifferent id ys → AreDifferent id (cond b (x ∷ ys) ys)
  unfolding IsDistinct
  differ-filter-at x ys true apart more = (apart, more)
  differ-filter-at x ys false apart more = more

  -- those that are kept are different
  pub differ-filter : (keep : X → Bool) (xs : List X) → AreDifferent id xs → AreDifferent id (filter keep xs)
  unfolding IsDistinct
  differ-filter keep [] apart = tt
  differ-filter keep (x ∷ xs) apart = differ-filter-at x (filter keep xs) (keep x) (apart-filter (id x).0 keep xs apart.0) (differ-filter keep xs apart.1)

  is-some-guard : (keep : X → Bool) (x : X) (b : Bool) → is_some (cond b (Some x) None) ≡ b
  is-some-guard keep x true = refl
  is-some-guard keep x false = refl

  -- among those that are kept an object is present exactly where it is kept
  pub kept-present : (keep : X → Bool) (xs : List X) → AreDifferent id xs → AllByRecursion (λ x. present id (filter keep xs) (id x) ≡ keep x) xs
  kept-present keep xs apart =
      all-map (λ x. find (is (id x)) xs ≡ Some x) (λ x. present id (filter keep xs) (id x) ≡ keep x)
      (λ x found. ap is_some (find-filter (id x) keep xs apart ∙ ap (guard keep) found) ∙ is-some-guard keep x (keep x)) xs (founds xs apart)

  -- whether the object of an id is kept
  pub kept-by : (xs : List X) → AreDifferent id xs → (keep : X → Bool) (i : Id) → present id xs i ≡ true → (v : Bool) → ((x : X) → find (is i) xs ≡ Some x → keep x ≡ v)
      → present id (filter keep xs) i ≡ v
  kept-by xs apart keep i there v h = by (find (is i) xs) refl there
    where
      by : (o : Option X) → find (is i) xs ≡ o → is_some o ≡ true → present id (filter keep xs) i ≡ v
      by None e there = absurd (true≢false (sym there))
      by (Some x) e there = ap is_some (find-filter i keep xs apart ∙ ap (guard keep) e) ∙ (is-some-guard keep x (keep x) ∙ h x e)

-- ---- objects that are named by a list

module _ {A X : Type 0} (name : A → Id) (id : X → Id) (f : X → X) (keeps : (x : X) → id (f x) ≡ id x) where
  abbrev pub named : List A → X → Bool
  named names x = present name names (id x)

  absent : (i : Id) (names : List A) → AllByRecursion (λ k. bytes_eq i.0 k ≡ false) (map (λ a. (name a).0) names) → present name names i ≡ false
  absent i [] h = refl
  absent i (a ∷ names) h = ap (λ k. is_some (cond k (Some a) (find (λ y. same_id (name y) i) names))) (swapped (name a).0 i.0 ∙ h.0) ∙ absent i names h.1

  next-at : (a : A) (names : List A) → present name names (name a) ≡ false → (x : X) (b : Bool) → same_id (id x) (name a) ≡ b
      → cond (named names (cond b (f x) x)) (f (cond b (f x) x)) (cond b (f x) x) ≡ cond (named (a ∷ names) x) (f x) x
  next-at a names none x true e =
      let same : id x ≡ name a = ap id_of (same-bytes (id x).0 (name a).0 e) in
      let first : cond (named names (f x)) (f (f x)) (f x) ≡ f x = ap (λ k. cond k (f (f x)) (f x)) (ap (present name names) (keeps x ∙ same) ∙ none) in
      let second : cond (named (a ∷ names) x) (f x) x ≡ f x = ap (λ k. cond (is_some (cond k (Some a) (find (λ y. same_id (name y) (id x)) names))) (f x) x) (swapped (name a).0 (id x).0 ∙ e) in
      first ∙ sym second
  next-at a names none x false e = sym (ap (λ k. cond (is_some (cond k (Some a) (find (λ y. same_id (name y) (id x)) names))) (f x) x) (swapped (name a).0 (id x).0 ∙ e))

  next-each : (a : A) (names : List A) → present name names (name a) ≡ false → (xs : List X) → change (named names) f (change (λ x. same_id (id x) (name a)) f xs) ≡ change (named (a ∷ names)) f xs
  next-each a names none [] = refl
  next-each a names none (x ∷ xs) = let here = next-at a names none x (same_id (id x) (name a)) refl in let rest = next-each a names none xs in (λ j. here j ∷ rest j)

  -- to change the first and then the others is to change all
  pub named-next : (a : A) (names : List A) → IsDistinct bytes_eq (map (λ b. (name b).0) (a ∷ names)) → (xs : List X)
      → change (named names) f (change (λ x. same_id (id x) (name a)) f xs) ≡ change (named (a ∷ names)) f xs
  unfolding IsDistinct
  named-next a names apart xs = next-each a names (absent (name a) names apart.0) xs

  pub distinct-rest : (a : A) (names : List A) → IsDistinct bytes_eq (map (λ b. (name b).0) (a ∷ names)) → IsDistinct bytes_eq (map (λ b. (name b).0) names)
  unfolding IsDistinct
  distinct-rest a names apart = apart.1

-- ---- a list by its places

pub ids-are : (f : ℕ → Option ℕ) (n : ℕ) (ids : List (Option ℕ)) → length ids ≡ n → ((id : ℕ) → id < n → get_or ids id None ≡ f id) → ids ≡ map f (range_with_len 0 n)
ids-are f n ids len tells =
    ext_get_or None ids (map f (range_with_len 0 n)) (len ∙ sym (length-map-range_with_len f 0 n))
    (λ i within.
    let below : i < n = subst (λ (k : ℕ). i < k) len within in
    tells i below ∙ sym (get_or-map-range_with_len f 0 n i i None below (omega arith)))
