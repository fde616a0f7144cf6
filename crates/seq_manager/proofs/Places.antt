-- The extended numbers of a stretch, place by place.
use Rattle.std.proofs.Common.{◌≡◌, ℕ, zero, suc, ◌<◌, ℤ, pos, List, [], ◌∷◌, ◌++◌, length, take, get_or, arith, refl, sym, ap, ◌∙◌, subst}
use Rattle.std.proofs.lemmas.List.{append_assoc, append-nil}
use Rattle.std.specs.List.{All}
use Rattle.seq_manager.specs.Extended.{next_extended, extended_after, greatest_of, IsExtended}
use Rattle.seq_manager.proofs.Modulo.{nearest_is, nearest_only}

abbrev pub EachAfter : List ℤ → List ℕ → List ℤ → Type 0
EachAfter found numbers es = (j : ℕ) → j < length numbers → IsExtended (found ++ take j es) (get_or numbers j 0) (get_or es j (pos 0))

next_is : (found : List ℤ) (number : ℕ) → number < 65536 → IsExtended found number (next_extended found number)
next_is [] number below = refl
next_is (x ∷ xs) number below = nearest_is (greatest_of (x ∷ xs)) number below

next_only : (found : List ℤ) (number : ℕ) (e : ℤ) → IsExtended found number e → e ≡ next_extended found number
next_only [] number e h = h
next_only (x ∷ xs) number e h = nearest_only (greatest_of (x ∷ xs)) number e h

-- a list of numbers of 16 bits, by its first and its rest
all_later : (number : ℕ) (later : List ℕ) → All (λ n. n < 65536) (number ∷ later) → All (λ n. n < 65536) later
all_later number later all = λ k d within. all (suc k) d (omega arith)

moved : (found : List ℤ) (x : ℤ) (j : ℕ) (es : List ℤ) → (found ++ x ∷ []) ++ take j es ≡ found ++ x ∷ take j es
moved found x j es = append_assoc found (x ∷ []) (take j es)

pub length-extended_after : (found : List ℤ) (numbers : List ℕ) → length (extended_after found numbers) ≡ length numbers
length-extended_after found [] = refl
length-extended_after found (number ∷ later) = ap suc (length-extended_after (found ++ next_extended found number ∷ []) later)

pub each_extended : (found : List ℤ) (numbers : List ℕ) → All (λ n. n < 65536) numbers → EachAfter found numbers (extended_after found numbers)
each_extended found [] all j within = absurd (omega arith)
each_extended found (number ∷ later) all zero within =
    subst (λ (earlier : List ℤ). IsExtended earlier number (next_extended found number)) (sym (append-nil found))
    (next_is found number (all 0 0 (omega arith)))
each_extended found (number ∷ later) all (suc j) within =
    let x : ℤ = next_extended found number in
    let rest : List ℤ = extended_after (found ++ x ∷ []) later in
    subst (λ (earlier : List ℤ). IsExtended earlier (get_or later j 0) (get_or rest j (pos 0))) (moved found x j rest)
    (each_extended (found ++ x ∷ []) later (all_later number later all) j (omega arith))

pub only_extended : (found : List ℤ) (numbers : List ℕ) (es : List ℤ) → length es ≡ length numbers → EachAfter found numbers es →
    es ≡ extended_after found numbers
only_extended found [] [] same each = refl
only_extended found [] (e ∷ es) same each = absurd (omega arith)
only_extended found (number ∷ later) [] same each = absurd (omega arith)
only_extended found (number ∷ later) (e ∷ es) same each =
    let first : e ≡ next_extended found number =
    next_only found number e
    (subst (λ (earlier : List ℤ). IsExtended earlier number e) (append-nil found) (each 0 (omega arith))) in
    let rest : es ≡ extended_after (found ++ e ∷ []) later =
    only_extended (found ++ e ∷ []) later es (omega arith)
    (λ j within.
    subst (λ (earlier : List ℤ). IsExtended earlier (get_or later j 0) (get_or es j (pos 0))) (sym (moved found e j es))
    (each (suc j) (omega arith))) in
    ap (λ xs. e ∷ xs) rest ∙ ap (λ x. x ∷ extended_after (found ++ x ∷ []) later) first
