-- Lists that begin one another, and entries that stand at their places.
use Rattle.std.proofs.Common.{◌≡◌, ℕ, zero, suc, ◌+◌, ◌<◌, ◌≤◌, ltb, cond, true, false, Bool, List, [], ◌∷◌, ◌++◌, length, drop, slice_get, Some, sym, refl, ap, ◌∙◌, subst, arith, length-append, append-nil, append_assoc, add-zero, zero-add, eq-eqb}
use Rattle.std.proofs.lemmas.Bool.{ltb-true}
use Rattle.std.proofs.lemmas.Bool.Decides.{nat_tests}
use Rattle.std.proofs.Math.Seq.{drop-append_seam}
use Rattle.std.proofs.lemmas.Option.{slice_get_within}
use Rattle.turn_lock.specs.Lists.{EachOnce, same, below, StartsWith, numbered, times, Stand, AllBelow, longer, shorter, added}

pub same_eq : (p q : ℕ) → p ≡ q → same p q ≡ 1
same_eq p q e = ap (λ (b : Bool). cond b 1 0) (eq-eqb p q e)

pub below_one : (p n : ℕ) → below p n ≤ 1
below_one p n = grind (arith, nat_tests)

pub below_in : (p n : ℕ) → below p n ≡ 1 → p < n
below_in p n = grind (arith, nat_tests)

pub below_out : (p n : ℕ) → below p n ≡ 0 → n ≤ p
below_out p n = grind (arith, nat_tests)

pub below_suc : (p n : ℕ) → below p (n + 1) ≡ below p n + same p n
below_suc p n = grind (arith, nat_tests)

pub below_none : (p : ℕ) → below p 0 ≡ 0
below_none p = grind (arith, nat_tests)

module _ {E : Type 0} where
  pub starts_here : (xs : List E) → StartsWith xs xs
  starts_here xs = ([], sym (append-nil xs))

  pub starts_on : (xs ys zs : List E) → StartsWith ys xs → StartsWith zs ys → StartsWith zs xs
  starts_on xs ys zs a b = (a.0 ++ b.0, b.1 ∙ (ap (λ l. l ++ b.0) a.1 ∙ append_assoc xs a.0 b.0))

  pub starts_length : (xs ys : List E) → StartsWith ys xs → length xs ≤ length ys
  starts_length xs ys a = omega (arith, length-append xs a.0, ap length a.1)

  rest_none : (xs rest : List E) → length (xs ++ rest) ≤ length xs → xs ≡ xs ++ rest
  rest_none xs [] le = sym (append-nil xs)
  rest_none xs (x ∷ rest) le = absurd (omega (arith, length-append xs (x ∷ rest)))

  -- a beginning that is no shorter is the whole
  pub starts_whole : (xs ys : List E) → StartsWith ys xs → length ys ≤ length xs → xs ≡ ys
  starts_whole xs ys a le = rest_none xs a.0 (subst (λ (l : List E). length l ≤ length xs) a.1 le) ∙ sym a.1

  heads_same : (x y : E) (xs ys : List E) → x ∷ xs ≡ y ∷ ys → x ≡ y
  heads_same x y xs ys e = cc

  tails_same : (x y : E) (xs ys : List E) → x ∷ xs ≡ y ∷ ys → xs ≡ ys
  tails_same x y xs ys e = cc

  -- of two beginnings of one list the shorter begins the longer
  beginnings : (xs ys us vs : List E) → xs ++ us ≡ ys ++ vs → length xs ≤ length ys → StartsWith ys xs
  beginnings [] ys us vs e le = (ys, refl)
  beginnings (x ∷ xs) [] us vs e le = absurd (omega arith)
  beginnings (x ∷ xs) (y ∷ ys) us vs e le =
      let head = heads_same x y (xs ++ us) (ys ++ vs) e in let h = beginnings xs ys us vs (tails_same x y (xs ++ us) (ys ++ vs) e) (omega arith) in
      (h.0, λ i. sym head i ∷ h.1 i)

  pub starts_shorter : (xs ys log : List E) → StartsWith log xs → StartsWith log ys → length xs ≤ length ys → StartsWith ys xs
  starts_shorter xs ys log a b le = beginnings xs ys a.0 b.0 (sym a.1 ∙ b.1) le

  longer_cases : (b : Bool) (xs ys log : List E) → ltb (length xs) (length ys) ≡ b → StartsWith log xs → StartsWith log ys
      → StartsWith log (cond b ys xs) × StartsWith (cond b ys xs) xs × StartsWith (cond b ys xs) ys
  longer_cases true xs ys log is a b = let less = ltb-true (length xs) (length ys) is in (b, starts_shorter xs ys log a b (omega arith), starts_here ys)
  longer_cases false xs ys log is a b = let more : length ys ≤ length xs = grind (arith, nat_tests, is) in (a, starts_here xs, starts_shorter ys xs log b a more)

  -- the longer of two beginnings is one, and begins with both
  pub longer_starts : (xs ys log : List E) → StartsWith log xs → StartsWith log ys
      → StartsWith log (longer xs ys) × StartsWith (longer xs ys) xs × StartsWith (longer xs ys) ys
  longer_starts xs ys log a b = longer_cases (ltb (length xs) (length ys)) xs ys log refl a b

  pub longer_shorter : (xs ys log : List E) → StartsWith log xs → StartsWith log ys → StartsWith (longer xs ys) (shorter xs ys)
  longer_shorter xs ys log a b = let h = longer_starts xs ys log a b in
      elim (ltb (length xs) (length ys)) as (λ (c : Bool). StartsWith (longer xs ys) (cond c xs ys)) [ true ↦ h.1 | false ↦ h.2 ]

  both_cases : (b : Bool) (xs ys : List E) → StartsWith (cond b ys xs) (cond b xs ys) → StartsWith (cond b ys xs) xs × StartsWith (cond b ys xs) ys
  both_cases true xs ys a = (a, starts_here ys)
  both_cases false xs ys a = (starts_here xs, a)

  -- if the longer begins with the shorter, it begins with both
  pub longer_both : (xs ys : List E) → StartsWith (longer xs ys) (shorter xs ys) → StartsWith (longer xs ys) xs × StartsWith (longer xs ys) ys
  longer_both xs ys a = both_cases (ltb (length xs) (length ys)) xs ys a

  get_further : (xs rest : List E) (k : ℕ) (x : E) → slice_get xs k ≡ Some x → slice_get (xs ++ rest) k ≡ Some x
  get_further [] rest k x e = absurd (elim k as (λ (n : ℕ). slice_get {X = E} [] n ≡ Some x → ⊥) [ zero ↦ λ h. cc | suc n ↦ λ h. cc ] e)
  get_further (y ∷ xs) rest zero x e = e
  get_further (y ∷ xs) rest (suc k) x e = get_further xs rest k x e

  get_seam : (xs : List E) (x : E) (rest : List E) → slice_get (xs ++ x ∷ rest) (length xs) ≡ Some x
  get_seam [] x rest = refl
  get_seam (y ∷ xs) x rest = get_seam xs x rest

  -- what stands at its place in a list does so in a list that begins with it
  pub stand_on : (xs ys : List E) (own : List (ℕ × E)) → StartsWith ys xs → Stand xs own → Stand ys own
  stand_on xs ys [] a s = tt
  stand_on xs ys (o ∷ own) a s = (subst (λ (l : List E). slice_get l o.0 ≡ Some o.1) (sym a.1) (get_further xs a.0 o.0 o.1 s.0), stand_on xs ys own a s.1)

  pub stand_both : (list : List E) (a b : List (ℕ × E)) → Stand list a → Stand list b → Stand list (a ++ b)
  stand_both list [] b s t = t
  stand_both list (o ∷ a) b s t = (s.0, stand_both list a b s.1 t)

  -- the entries behind a list stand at their places
  pub stand_numbered : (front xs : List E) (n : ℕ) → n ≡ length front → Stand (front ++ xs) (numbered n xs)
  stand_numbered front [] n e = tt
  stand_numbered front (x ∷ xs) n e =
      let at = subst (λ (k : ℕ). slice_get (front ++ x ∷ xs) k ≡ Some x) (sym e) (get_seam front x xs) in
      let more = stand_numbered (front ++ x ∷ []) xs (n + 1) (omega (arith, length-append front (x ∷ []))) in
      (at, subst (λ (l : List E). Stand l (numbered (n + 1) xs)) (append_assoc front (x ∷ []) xs) more)

  pub times_both : (p : ℕ) (a b : List (ℕ × E)) → times p (a ++ b) ≡ times p a + times p b
  times_both p [] b = omega arith
  times_both p (o ∷ a) b = omega (arith, times_both p a b)

  pub times_numbered : (p n : ℕ) (xs : List E) → times p (numbered n xs) + below p n ≡ below p (n + length xs)
  times_numbered p n [] = omega (arith, ap (below p) (add-zero n))
  times_numbered p n (x ∷ xs) =
      let here = times_numbered p (n + 1) xs in let up = below_suc p n in
      let far : n + 1 + length xs ≡ n + length (x ∷ xs) = omega arith in
      omega (arith, here, up, ap (below p) far)

  after_drop : (list after : List E) (more : List E) → after ≡ list ++ more → drop (length list) after ≡ more
  after_drop list after more e = ap (drop (length list)) e ∙ drop-append_seam list more

  pub stand_added : (list after : List E) → StartsWith after list → Stand after (added list after)
  stand_added list after a = subst (λ (l : List E). Stand l (added list after)) (sym a.1)
      (subst (λ (m : List E). Stand (list ++ a.0) (numbered (length list) m)) (sym (after_drop list after a.0 a.1)) (stand_numbered list a.0 (length list) refl))

  pub times_added : (p : ℕ) (list after : List E) → StartsWith after list → times p (added list after) + below p (length list) ≡ below p (length after)
  times_added p list after a =
      let same_more = ap (λ (m : List E). times p (numbered (length list) m)) (after_drop list after a.0 a.1) in
      let far : length list + length a.0 ≡ length after = omega (arith, length-append list a.0, ap length a.1) in
      omega (arith, same_more, times_numbered p (length list) a.0, ap (below p) far)

  -- a list's own entries with their places are each there once
  pub numbered_once : (xs : List E) → EachOnce xs (numbered 0 xs)
  numbered_once xs = (stand_numbered [] xs 0 refl, λ p. omega (arith, times_numbered p 0 xs, below_none p, ap (below p) (zero-add (length xs))))

  -- what stands in a list stands below its end
  pub stand_below : (xs : List E) (own : List (ℕ × E)) → Stand xs own → AllBelow (length xs) own
  stand_below xs [] s = tt
  stand_below xs (o ∷ own) s = (slice_get_within xs o.0 o.1 s.0, stand_below xs own s.1)
