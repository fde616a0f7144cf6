-- What is written reads back: lists and members.
use Rattle.std.proofs.Common.{◌≡◌, ℕ, List, [], ◌∷◌, ◌++◌, map, Result, Ok, refl, sym, ap, ◌∙◌, append_assoc, append-nil}
use Rattle.std.proofs.lemmas.Bool.{and_from, le-leb}
use Rattle.serde_json.specs.Data.{Data}
use Rattle.ms_base.specs.declared.code.Code.{Code}
use Rattle.rtp_params.specs.Reading.{read_behind, list_of, number_of, not_empty}
use Rattle.rtp_params.specs.Writing.{number_value, list_value}
use Rattle.rtp_params.specs.Readable.{IsWithin, Each}
use Rattle.rtp_params.proofs.ReadLemmas.{items_list_of}

pub number_back : (low high n : ℕ) → IsWithin low high n → number_of low high (number_value n) ≡ Ok n
unfolding number_of
number_back low high n h = rw (and_from _ _ (le-leb low n h.0) (le-leb n high h.1)) refl

pub filled_back : (text : List ℕ) → (text ≡ [] → ⊥) → not_empty text ≡ Ok text
filled_back [] filled = absurd (filled refl)
filled_back (c ∷ cs) filled = refl

-- each item of a list, with those before it at hand
abbrev pub EachBehind : {B : Type 0} → (List B → B → Type 0) → List B → List B → Type 0
EachBehind P before [] = Unit {0}
EachBehind P before (y ∷ ys) = P before y × EachBehind P (before ++ y ∷ []) ys

-- a list is read back where each of its items is
pub read_back : {A B : Type 0} (reads : List B → A → Result B Code) (writes : B → A) (before ys : List B)
    → EachBehind (λ bs y. reads bs (writes y) ≡ Ok y) before ys → read_behind reads before (map writes ys) ≡ Ok (before ++ ys)
read_back reads writes before [] h = ap Ok (sym (append-nil before))
read_back reads writes before (y ∷ ys) h = rw h.0 (read_back reads writes (before ++ y ∷ []) ys h.1 ∙ ap Ok (append_assoc before (y ∷ []) ys))

pub each_behind : {B : Type 0} (P : B → Type 0) (Q : B → Type 0) → ((y : B) → P y → Q y) → (before ys : List B) → Each P ys → EachBehind (λ _ y. Q y) before ys
each_behind P Q so before [] h = tt
each_behind P Q so before (y ∷ ys) h = (so y h.0, each_behind P Q so (before ++ y ∷ []) ys h.1)

pub list_back : {B : Type 0} (reads : Data → Result B Code) (writes : B → Data) (P : B → Type 0) → ((y : B) → P y → reads (writes y) ≡ Ok y)
    → (ys : List B) → Each P ys → list_of reads (list_value writes ys) ≡ Ok ys
list_back reads writes P so ys h =
    rw (items_list_of (map writes ys)) (read_back (λ _. reads) writes [] ys (each_behind P (λ y. reads (writes y) ≡ Ok y) so [] ys h))
