-- The text form of an id by its places, and that the bytes of an id tell what it is made of.
use Rattle.std.proofs.Common.{◌≡◌, ◌≢◌, ℕ, ◌+◌, ◌*◌, ◌/◌, ◌%◌, ◌^◌, ◌<◌, ◌&&◌, Bool, true, false, if◌then◌else◌, Option, Some, None, List, length, take, drop, get_or, refl, sym, ap, ◌∙◌, subst, arith}
use Rattle.std.specs.Int.{w64, to_be_bytes, from_be_bytes}
use Rattle.std.specs.List.{list_all}
use Rattle.std.proofs.lemmas.Bool.Decides.{nat_tests}
use Rattle.std.proofs.lemmas.List.{get_or_default}
use Rattle.std.proofs.lemmas.Nat.{from_be_bytes-to_be_bytes_8}
use Rattle.uuid.specs.Text.{by_index, hyphenated_text, lower, parsed, is_hex_digit, has_hyphens, digits_of}
use Rattle.uuid.proofs.TextLemmas.{by_index_same, by_index_length}
use Rattle.ms_base.specs.Id.{id_bytes, id_text, is_id_text, id_of_text, IsIdSource}

-- a list of n numbers by its places
by_places : (n : ℕ) (xs : List ℕ) → length xs ≡ n → by_index n (λ k. get_or xs k 0) ≡ xs
by_places n xs len = sym (by_index_same xs n (λ k. get_or xs k 0) len (λ k d within. get_or_default xs k d 0 (omega arith)))

one_test : (a b : Bool) (x : List ℕ) → (if a then (if b then Some x else None) else None) ≡ (if a && b then Some x else None)
one_test true b x = refl
one_test false b x = refl

form_by_places : (f : ℕ → ℕ) → parsed (by_index 36 f) ≡ id_of_text (by_index 36 f)
unfolding by_index is_id_text id_of_text
form_by_places f = one_test (has_hyphens (by_index 36 f)) (list_all is_hex_digit (digits_of (by_index 36 f))) _

-- at 36 characters only the hyphenated form is read
pub parsed_is_id_of_text : (text : List ℕ) → length text ≡ 36 → parsed text ≡ id_of_text text
parsed_is_id_of_text text len =
    subst (λ (s : List ℕ). parsed s ≡ id_of_text s) (by_places 36 text len) (form_by_places (λ k. get_or text k 0))

text_by_places : (f : ℕ → ℕ) → hyphenated_text lower (by_index 16 f) ≡ id_text (by_index 16 f)
unfolding by_index id_text
text_by_places f = refl

pub hyphenated_is_id_text : (bytes : List ℕ) → length bytes ≡ 16 → hyphenated_text lower bytes ≡ id_text bytes
hyphenated_is_id_text bytes len =
    subst (λ (s : List ℕ). hyphenated_text lower s ≡ id_text s) (by_places 16 bytes len) (text_by_places (λ k. get_or bytes k 0))

pub other_length_is_no_id : (text : List ℕ) → length text ≢ 36 → is_id_text text ≡ false
unfolding is_id_text
other_length_is_no_id text differs = grind (arith, nat_tests)

pub no_id_of_text : (text : List ℕ) → id_of_text text ≡ None → is_id_text text ≡ false
unfolding id_of_text
no_id_of_text text none = grind (arith, nat_tests)

pub id_text_of_some : (text bytes : List ℕ) → id_of_text text ≡ Some bytes → is_id_text text ≡ true
unfolding id_of_text
id_text_of_some text bytes some = grind (arith, nat_tests)

pub not_parsed : (text : List ℕ) → length text ≡ 36 → ((bytes : List ℕ) × (parsed text ≡ Some bytes) → ⊥) → is_id_text text ≡ false
not_parsed text len none =
    no_id_of_text text
    (elim (id_of_text text) as (λ (o : Option (List ℕ)). (id_of_text text ≡ o) → o ≡ None) [
      | None ↦ λ e. refl
      | Some bytes ↦ λ e. absurd (none (bytes, parsed_is_id_of_text text len ∙ e))
    ] refl)

pub length-hyphenated_text : (letter : ℕ) (bytes : List ℕ) → length (hyphenated_text letter bytes) ≡ 36
length-hyphenated_text letter bytes = by_index_length 36 _

-- the two halves of an id
half_tells : (x y : ℕ) → x < 2 ^ 64 → y < 2 ^ 64 → to_be_bytes w64 x ≡ to_be_bytes w64 y → x ≡ y
half_tells x y x_fits y_fits same =
    sym (from_be_bytes-to_be_bytes_8 x x_fits) ∙ ap (from_be_bytes w64) same ∙ from_be_bytes-to_be_bytes_8 y y_fits

pub id_tells_seed : (s t m n : ℕ) → IsIdSource s m → IsIdSource t n → id_bytes s m ≡ id_bytes t n → s ≡ t
unfolding id_bytes
id_tells_seed s t m n from_s from_t same =
    let halves : s / 2 ^ 12 * 2 ^ 16 + 4 * 2 ^ 12 + s % 2 ^ 12 ≡ t / 2 ^ 12 * 2 ^ 16 + 4 * 2 ^ 12 + t % 2 ^ 12 =
    half_tells _ _ (omega (arith, from_s.seed_fits)) (omega (arith, from_t.seed_fits)) (ap (take 8) same) in
    omega (arith, halves)

pub id_tells_number : (s t m n : ℕ) → IsIdSource s m → IsIdSource t n → id_bytes s m ≡ id_bytes t n → m ≡ n
unfolding id_bytes
id_tells_number s t m n from_s from_t same =
    let halves : 2 * 2 ^ 62 + m ≡ 2 * 2 ^ 62 + n =
    half_tells _ _ (omega (arith, from_s.number_fits)) (omega (arith, from_t.number_fits)) (ap (drop 8) same) in
    omega (arith, halves)

pub not_an_id : (text : List ℕ) → length text ≡ 36 → ((bytes : List ℕ) × (parsed text ≡ Some bytes) → ⊥) → None ≡ id_of_text text
unfolding id_of_text
not_an_id text len none = rw (not_parsed text len none) refl
