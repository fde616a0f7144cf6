-- The pieces of a text between separators, and the test for UTF-8.
use Rattle.std.proofs.Common.{◌≡◌, ℕ, ◌+◌, ◌<◌, ◌≤◌, List, [], ◌∷◌, ◌++◌, Bool, false, eqb, length, refl, sym, ◌∙◌, ap, arith, take, drop, Option, Some, None, subst, inl, inr, ltb, ◌-◌}
use Rattle.std.proofs.lemmas.Bool.{false_from_ne_true, eq-eqb, or_parts, cases_lt, lt-ltb, ltb-true, cond-true}
use Rattle.std.proofs.lemmas.Option.{cond_some}
use Rattle.std.proofs.lemmas.List.{take_rest}
use Rattle.std.proofs.lemmas.List.Sums.{fails_before_first}
use Rattle.std.proofs.lemmas.Str.Pattern.{IsSplitOnceResult, split_once_first}
use Rattle.std.specs.Borrow.{Bor}
use Rattle.std.specs.Option.{MatchOption}
use Rattle.std.proofs.lemmas.List.Splits.{slice_split-cons_yes, slice_split-cons_no, slice_split_first, slice_split_none}
use Rattle.std.proofs.lemmas.Str.{IsUtf8-from_is_utf8}
use Rattle.std.specs.List.{list_any, slice_split, onto_first, position, position_or_len, before_first, after_first}
use Rattle.std.specs.Str.{IsUtf8, is_utf8}

-- no element of the list is c
abbrev pub lacks : ℕ → List ℕ → Type 0
lacks c xs = list_any (λ b. eqb b c) xs ≡ false

pub pieces_at : (c : ℕ) (xs ys : List ℕ) → lacks c xs → slice_split (λ b. eqb b c) (xs ++ c ∷ ys) ≡ xs ∷ slice_split (λ b. eqb b c) ys
pieces_at c [] ys h = slice_split-cons_yes (λ b. eqb b c) c ys (eq-eqb c c refl)
pieces_at c (x ∷ xs) ys h =
    let parts = or_parts (eqb x c) (list_any (λ b. eqb b c) xs) h in
    slice_split-cons_no (λ b. eqb b c) x (xs ++ c ∷ ys) parts.0
    ∙ ap (onto_first x) (pieces_at c xs ys parts.1)

pub pieces_none : (c : ℕ) (xs : List ℕ) → lacks c xs → slice_split (λ b. eqb b c) xs ≡ xs ∷ []
pieces_none c [] h = refl
pieces_none c (x ∷ xs) h =
    let parts = or_parts (eqb x c) (list_any (λ b. eqb b c) xs) h in
    slice_split-cons_no (λ b. eqb b c) x xs parts.0
    ∙ ap (onto_first x) (pieces_none c xs parts.1)

pub not_utf8 : (bs : List ℕ) → (IsUtf8 bs → ⊥) → is_utf8 bs ≡ false
not_utf8 bs h = false_from_ne_true (is_utf8 bs) (λ e. h (IsUtf8-from_is_utf8 bs e))

-- the same by the place of the first separator
pub pieces_whole : (p : ℕ → Bool) (xs : List ℕ) → length xs ≤ position_or_len p xs → slice_split p xs ≡ xs ∷ []
pieces_whole p xs h = slice_split_none p xs (λ k d l. fails_before_first p xs k d (omega arith))

pub line_at : (p : ℕ → Bool) (xs : List ℕ) (i : ℕ) → position p xs ≡ Some i
    → (slice_split p xs ≡ take i xs ∷ slice_split p (take (length xs - (i + 1)) (drop (i + 1) xs))) × (i < length xs)
line_at p xs i h =
    let found = cond_some (ltb (position_or_len p xs) (length xs)) (position_or_len p xs) i h in
    let within : position_or_len p xs < length xs = ltb-true _ _ found.0 in
    let here : position_or_len p xs ≡ i = found.1 in
    let cut : slice_split p xs ≡ take (position_or_len p xs) xs ∷ slice_split p (drop (position_or_len p xs + 1) xs) = slice_split_first p xs 0 within in
    let whole : take (length xs - (i + 1)) (drop (i + 1) xs) ≡ drop (i + 1) xs = take_rest xs (i + 1) in
    (subst (λ n. slice_split p xs ≡ take n xs ∷ slice_split p (drop (n + 1) xs)) here cut ∙ ap (λ r. take i xs ∷ slice_split p r) (sym whole), omega arith)

pub no_line : (p : ℕ → Bool) (xs : List ℕ) → position p xs ≡ None → slice_split p xs ≡ xs ∷ []
no_line p xs h = elim (cases_lt (position_or_len p xs) (length xs)) [
  | inl within ↦ cc (sym (cond-true _ (Some (position_or_len p xs)) None (lt-ltb _ _ within)) ∙ h)
  | inr past ↦ pieces_whole p xs past
]

words_by : (c : ℕ) (line : List ℕ) (r : Option (Bor (List ℕ) × Bor (List ℕ)))
    → MatchOption r (position_or_len (λ b. eqb b c) line ≡ length line) (λ x. (position_or_len (λ b. eqb b c) line < length line) × (x.0.now ≡ before_first (λ b. eqb b c) line) × (x.1.now ≡ after_first (λ b. eqb b c) line))
    → MatchOption r (slice_split (λ b. eqb b c) line ≡ line ∷ []) (λ x. slice_split (λ b. eqb b c) line ≡ x.0.now ∷ slice_split (λ b. eqb b c) x.1.now)
words_by c line None h = pieces_whole (λ b. eqb b c) line (omega arith)
words_by c line (Some x) h =
    let cut : slice_split (λ b. eqb b c) line ≡ before_first (λ b. eqb b c) line ∷ slice_split (λ b. eqb b c) (after_first (λ b. eqb b c) line) = slice_split_first (λ b. eqb b c) line 0 h.0 in
    rw (h.1, h.2) cut

pub words_cut : (c : ℕ) (line : List ℕ) (r : Option (Bor (List ℕ) × Bor (List ℕ))) → IsSplitOnceResult c line r → c < 128
    → MatchOption r (slice_split (λ b. eqb b c) line ≡ line ∷ []) (λ x. slice_split (λ b. eqb b c) line ≡ x.0.now ∷ slice_split (λ b. eqb b c) x.1.now)
words_cut c line r h ascii = words_by c line r (split_once_first c line r h ascii)
