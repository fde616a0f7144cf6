-- Objects that are looked up by their ids, where no two have the same.
use Rattle.std.proofs.Common.{◌≡◌, ℕ, List, [], ◌∷◌, ◌++◌, Bool, true, false, cond, map, Option, Some, option_map, refl, sym, ap, subst, ◌∙◌, bytes_eq}
use Rattle.std.specs.List.{find, AllByRecursion, IsDistinct}
use Rattle.std.specs.Cmp.Lexicographic.{bytes_decides, nat_list_eq_equiv}
use Rattle.std.proofs.lemmas.List.{map-append}
use Rattle.std.proofs.lemmas.Map.Keys.{IsDistinct-head, IsDistinct-tail}
use Rattle.ms_base.specs.declared.id.Id.{Id}
use Rattle.worker_router.specs.State.{same_id}
use Rattle.worker_router.specs.Calls.{change}

-- ---- ids

pub same-is : (a b : Id) → same_id a b ≡ true → a ≡ b
same-is a b t = ap (λ (xs : List ℕ). record { 0 = xs }) ((bytes_decides a.0 b.0).0 t)

pub same-refl : (a : Id) → same_id a a ≡ true
same-refl a = (bytes_decides a.0 a.0).1 refl

pub same-sym : (a b : Id) → same_id a b ≡ same_id b a
same-sym a b = nat_list_eq_equiv.symm a.0 b.0

-- ---- what is found

pick-map : {A B : Type 0} (f : A → B) (b : Bool) (x : A) (o : Option A) (m : Option B) → m ≡ option_map f o → cond b (Some (f x)) m ≡ option_map f (cond b (Some x) o)
pick-map f true x o m e = refl
pick-map f false x o m e = e

module _ {A : Type 0} (p : A → Bool) where
  -- what is found after a change that keeps what is tested is what was found, changed
  pub find-map : (f : A → A) → ((x : A) → p (f x) ≡ p x) → (xs : List A) → find p (map f xs) ≡ option_map f (find p xs)
  find-map f keeps [] = refl
  find-map f keeps (x ∷ xs) =
      ap (λ b. cond b (Some (f x)) (find p (map f xs))) (keeps x) ∙ pick-map f (p x) x (find p xs) (find p (map f xs)) (find-map f keeps xs)

  found-by : (b : Bool) (x y : A) (o : Option A) → (o ≡ Some y → p y ≡ true) → p x ≡ b → cond b (Some x) o ≡ Some y → p y ≡ true
  found-by true x y o rest e s = let same : x ≡ y = cc in ap p (sym same) ∙ e
  found-by false x y o rest e s = rest s

  -- what is found passes the test
  pub found-passes : (xs : List A) (y : A) → find p xs ≡ Some y → p y ≡ true
  found-passes [] y s = cc
  found-passes (x ∷ xs) y s = found-by (p x) x y (find p xs) (found-passes xs y) refl s

  found-each : (P : A → Type 0) (b : Bool) (x y : A) (o : Option A) → P x → (o ≡ Some y → P y) → cond b (Some x) o ≡ Some y → P y
  found-each P true x y o px rest s = let same : x ≡ y = cc in subst P same px
  found-each P false x y o px rest s = rest s

  -- what holds of each holds of what is found
  pub found-holds : (P : A → Type 0) (xs : List A) (y : A) → AllByRecursion P xs → find p xs ≡ Some y → P y
  found-holds P [] y each s = cc
  found-holds P (x ∷ xs) y each s = found-each P (p x) x y (find p xs) each.0 (found-holds P xs y each.1) s

  -- what fails is passed over
  pub find-past : (xs ys : List A) → AllByRecursion (λ x. p x ≡ false) xs → find p (xs ++ ys) ≡ find p ys
  find-past [] ys none = refl
  find-past (x ∷ xs) ys none = ap (λ b. cond b (Some x) (find p (xs ++ ys))) none.0 ∙ find-past xs ys none.1

  -- and nothing that fails is changed
  pub change-none : (f : A → A) (xs : List A) → AllByRecursion (λ x. p x ≡ false) xs → change p f xs ≡ xs
  change-none f [] none = refl
  change-none f (x ∷ xs) none =
      let here : cond (p x) (f x) x ≡ x = ap (λ b. cond b (f x) x) none.0 in
      let left : change p f xs ≡ xs = change-none f xs none.1 in
      (λ j. here j ∷ left j)

-- ---- ids that differ

all-map : {A B : Type 0} (P : B → Type 0) (f : A → B) (xs : List A) → AllByRecursion P (map f xs) → AllByRecursion (λ x. P (f x)) xs
all-map P f [] all = tt
all-map P f (x ∷ xs) all = (all.0, all-map P f xs all.1)

all-imp : {A : Type 0} (P Q : A → Type 0) → ((x : A) → P x → Q x) → (xs : List A) → AllByRecursion P xs → AllByRecursion Q xs
all-imp P Q so [] all = tt
all-imp P Q so (x ∷ xs) all = (so x all.0, all-imp P Q so xs all.1)

all-at : {A : Type 0} (P : A → Type 0) (xs : List A) (y : A) (ys : List A) → AllByRecursion P (xs ++ y ∷ ys) → P y
all-at P [] y ys all = all.0
all-at P (x ∷ xs) y ys all = all-at P xs y ys all.1

module _ {A : Type 0} (id : A → Id) where
  abbrev pub Differ : List A → Type 0
  Differ xs = IsDistinct bytes_eq (map (λ x. (id x).0) xs)

  head-differs : (x : A) (xs : List A) → Differ (x ∷ xs) → AllByRecursion (λ y. same_id (id x) (id y) ≡ false) xs
  head-differs x xs d = all-map (λ k. bytes_eq (id x).0 k ≡ false) (λ y. (id y).0) xs (IsDistinct-head bytes_eq (id x).0 (map (λ y. (id y).0) xs) d)

  rest-differs : (x : A) (xs : List A) → Differ (x ∷ xs) → Differ xs
  rest-differs x xs d = IsDistinct-tail bytes_eq (id x).0 (map (λ y. (id y).0) xs) d

  -- those before one have other ids
  pub before-differs : (xs : List A) (y : A) (ys : List A) → Differ (xs ++ y ∷ ys) → AllByRecursion (λ x. same_id (id x) (id y) ≡ false) xs
  before-differs [] y ys d = tt
  before-differs (x ∷ xs) y ys d =
      (all-at (λ z. same_id (id x) (id z) ≡ false) xs y ys (head-differs x (xs ++ y ∷ ys) d), before-differs xs y ys (rest-differs x (xs ++ y ∷ ys) d))

  -- and those behind it
  pub behind-differs : (xs : List A) (y : A) (ys : List A) → Differ (xs ++ y ∷ ys) → AllByRecursion (λ x. same_id (id x) (id y) ≡ false) ys
  behind-differs [] y ys d =
      all-imp (λ z. same_id (id y) (id z) ≡ false) (λ z. same_id (id z) (id y) ≡ false) (λ z e. same-sym (id z) (id y) ∙ e) ys (head-differs y ys d)
  behind-differs (x ∷ xs) y ys d = behind-differs xs y ys (rest-differs x (xs ++ y ∷ ys) d)

  -- one is replaced by another with its id
  pub replaced-differs : (xs : List A) (y z : A) (ys : List A) → id z ≡ id y → Differ (xs ++ y ∷ ys) → Differ (xs ++ z ∷ ys)
  replaced-differs xs y z ys e d =
      subst (IsDistinct bytes_eq)
      (map-append (λ x. (id x).0) xs (y ∷ ys)
      ∙ (ap (λ (i : Id). map (λ x. (id x).0) xs ++ i.0 ∷ map (λ x. (id x).0) ys) (sym e) ∙ sym (map-append (λ x. (id x).0) xs (z ∷ ys))))
      d

  pick-again : (test : A → Bool) (b : Bool) (x y : A) (o p : Option A) → (o ≡ Some y → p ≡ Some y) → (o ≡ Some y → same_id (id x) (id y) ≡ false) → cond b (Some x) o ≡ Some y
      → cond (same_id (id x) (id y)) (Some x) p ≡ Some y
  pick-again test true x y o p rest apart s =
      let same : x ≡ y = cc in
      ap (λ c. cond c (Some x) p) (ap (λ z. same_id (id x) (id z)) (sym same) ∙ same-refl (id x)) ∙ ap Some same
  pick-again test false x y o p rest apart s = ap (λ c. cond c (Some x) p) (apart s) ∙ rest s

  -- what is found by any test is found by its id
  pub found-by-id : (test : A → Bool) (xs : List A) (y : A) → Differ xs → find test xs ≡ Some y → find (λ x. same_id (id x) (id y)) xs ≡ Some y
  found-by-id test [] y d s = cc
  found-by-id test (x ∷ xs) y d s =
      pick-again test (test x) x y (find test xs) (find (λ z. same_id (id z) (id y)) xs) (found-by-id test xs y (rest-differs x xs d))
      (found-holds test (λ z. same_id (id x) (id z) ≡ false) xs y (head-differs x xs d)) s

  same-change : (b : Bool) (f g : A → A) (x y : A) → (b ≡ true → x ≡ y) → f y ≡ g y → cond b (f x) x ≡ cond b (g x) x
  same-change true f g x y is e = ap f (is refl) ∙ (e ∙ ap g (sym (is refl)))
  same-change false f g x y is e = refl

  change-past : (f g : A → A) (i : Id) (xs : List A) → AllByRecursion (λ x. same_id (id x) i ≡ false) xs → change (λ x. same_id (id x) i) f xs ≡ change (λ x. same_id (id x) i) g xs
  change-past f g i xs none = change-none (λ x. same_id (id x) i) f xs none ∙ sym (change-none (λ x. same_id (id x) i) g xs none)

  change-by : (f g : A → A) (i : Id) (b : Bool) (x : A) (xs : List A) (y : A) → same_id (id x) i ≡ b → Differ (x ∷ xs) → f y ≡ g y
      → (find (λ z. same_id (id z) i) xs ≡ Some y → change (λ z. same_id (id z) i) f xs ≡ change (λ z. same_id (id z) i) g xs)
      → cond b (Some x) (find (λ z. same_id (id z) i) xs) ≡ Some y
      → cond b (f x) x ∷ change (λ z. same_id (id z) i) f xs ≡ cond b (g x) x ∷ change (λ z. same_id (id z) i) g xs
  change-by f g i true x xs y t d e rest s =
      let same : x ≡ y = cc in
      let here : f x ≡ g x = ap f same ∙ (e ∙ ap g (sym same)) in
      let none : AllByRecursion (λ z. same_id (id z) i ≡ false) xs =
      all-imp (λ z. same_id (id x) (id z) ≡ false) (λ z. same_id (id z) i ≡ false)
      (λ z h. same-sym (id z) i ∙ (ap (λ (k : Id). same_id k (id z)) (sym (same-is (id x) i t)) ∙ h)) xs (head-differs x xs d) in
      let left : change (λ z. same_id (id z) i) f xs ≡ change (λ z. same_id (id z) i) g xs = change-past f g i xs none in
      (λ j. here j ∷ left j)
  change-by f g i false x xs y t d e rest s = ap (λ zs. x ∷ zs) (rest s)

  -- two changes that agree on the one of an id
  pub change-same : (f g : A → A) (i : Id) (xs : List A) (y : A) → Differ xs → find (λ x. same_id (id x) i) xs ≡ Some y → f y ≡ g y
      → change (λ x. same_id (id x) i) f xs ≡ change (λ x. same_id (id x) i) g xs
  change-same f g i [] y d s e = refl
  change-same f g i (x ∷ xs) y d s e =
      change-by f g i (same_id (id x) i) x xs y refl d e (λ r. change-same f g i xs y (rest-differs x xs d) r e) s
