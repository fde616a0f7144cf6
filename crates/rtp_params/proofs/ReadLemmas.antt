-- Lists that are read, and the names of an object's members.
use Rattle.std.proofs.Common.{false, eqb, arith, ◌≡◌, ℕ, List, [], ◌∷◌, ◌++◌, String, Global, string_bytes, string_cmp, nat_cmp, map, Less, ap, sym, subst, ◌∙◌, append-nil, refl}
use Rattle.std.proofs.lemmas.Bool.Decides.{nat_tests}
use Rattle.std.specs.Cmp.Lexicographic.{slice_cmp}
use Rattle.std.specs.List.{AllByRecursion}
use Rattle.std.specs.List.Sorted.{IsStrictlySortedBy}
use Rattle.std.specs.Map.{keys_of}
use Rattle.serde_json.specs.Data.{Data}
use Rattle.serde_json.specs.View.{items_of}
use Rattle.serde_json.specs.declared.value.Value.{Value}
use Rattle.rtp_params.specs.declared.codec.Scalar.{Scalar}
use Rattle.rtp_params.specs.Readable.{Each, AreAscending}
use Rattle.rtp_params.specs.Reading.{items_list}

pub items_list_of : (ds : List Data) → items_list (items_of ds) ≡ ds
items_list_of [] = refl
items_list_of (d ∷ ds) = ap (λ xs. d ∷ xs) (items_list_of ds)

pub each_push : {A : Type 0} (P : A → Type 0) (xs : List A) (y : A) → Each P xs → P y → Each P (xs ++ y ∷ [])
each_push P [] y h now = (now, tt)
each_push P (x ∷ xs) y h now = (h.0, each_push P xs y h.1 now)

-- the names of an object's members
abbrev pub names_of : List (String Global × Value) → List (List ℕ)
names_of [] = []
names_of (e ∷ es) = string_bytes e.0 ∷ names_of es

names_above : (name : String Global) (es : List (String Global × Value)) → AllByRecursion (λ k. string_cmp name k ≡ Less) (keys_of es)
    → AllByRecursion (λ y. slice_cmp nat_cmp (string_bytes name) y ≡ Less) (names_of es)
names_above name [] h = tt
names_above name (e ∷ es) h = (h.0, names_above name es h.1)

-- they ascend as the keys of the map do
pub names_ascend : (es : List (String Global × Value)) → IsStrictlySortedBy string_cmp (keys_of es) → IsStrictlySortedBy (slice_cmp nat_cmp) (names_of es)
unfolding IsStrictlySortedBy
names_ascend [] h = tt
names_ascend (e ∷ es) h = (names_above e.0 es h.0, names_ascend es h.1)

pub none_ascend : AreAscending []
unfolding IsStrictlySortedBy
none_ascend = tt

-- at the end of an object its parameters ascend
pub all_ascend : (ps : List (List ℕ × Scalar)) (left all : List (String Global × Value)) → left ≡ [] → map (λ p. p.0) ps ++ names_of left ≡ names_of all
    → IsStrictlySortedBy string_cmp (keys_of all) → AreAscending ps
all_ascend ps left all none same ordered =
    let names : map (λ (p : List ℕ × Scalar). p.0) ps ≡ names_of all = sym (append-nil _) ∙ ap (λ es. map (λ (p : List ℕ × Scalar). p.0) ps ++ names_of es) (sym none) ∙ same in
    subst (IsStrictlySortedBy (slice_cmp nat_cmp)) (sym names) (names_ascend all ordered)

pub eqb_swapped : (a b : ℕ) → eqb a b ≡ false → eqb b a ≡ false
eqb_swapped a b h = grind (arith, nat_tests)
