-- What counts tell after one of them has changed.
use Rattle.std.proofs.Common.{◌≡◌, ℕ, ◌+◌, ◌-◌, List, ◌&&◌, Bool, true, false, cond, nat_eq, Option, bytes_eq, refl, sym, ap, ap₂, ◌∙◌, add-zero, arith}
use Rattle.std.proofs.lemmas.Bool.{eqb-true}
use Rattle.std.proofs.lemmas.Map.Text.{btree_map_updates_text}
use Rattle.std.specs.BTreeMap as tree
use Rattle.std.specs.BTreeMap.{BTreeMap, get_by_text}
use Rattle.std.specs.Cmp.Lexicographic.{slice_cmp, bytes_decides}
use Rattle.std.specs.HashMap as hash
use Rattle.std.specs.HashMap.{HashMap}
use Rattle.std.specs.Option.{unwrap_or}
use Rattle.std.specs.Ordering.{nat_cmp}
use Rattle.std.specs.Prelude.{String}
use Rattle.std.specs.String.{string_bytes, string_cmp}
use Rattle.request_build.specs.Counts.{one_if, same_key}

-- ---- the count at one key is another

module _ {Q : Type 0} (same : Q → Q → Bool) (tied : (a b : Q) → same a b ≡ true → a ≡ b) (f g : Q → ℕ) (k : Q) (n : ℕ)
    (after : (q : Q) → g q ≡ cond (same k q) n (f q)) where
  more-at : n ≡ f k + 1 → (q : Q) (b : Bool) → same k q ≡ b → g q ≡ cond b n (f q) → g q ≡ f q + one_if b
  more-at is q true t e = e ∙ (is ∙ ap (λ p. f p + 1) (tied k q t))
  more-at is q false t e = e ∙ sym (add-zero (f q))

  pub one_more : n ≡ f k + 1 → (q : Q) → g q ≡ f q + one_if (same k q)
  one_more is q = more-at is q (same k q) refl (after q)

  fewer-at : n ≡ f k - 1 → (q : Q) (b : Bool) → same k q ≡ b → g q ≡ cond b n (f q) → g q ≡ f q - one_if b
  fewer-at is q true t e = e ∙ (is ∙ ap (λ p. f p - 1) (tied k q t))
  fewer-at is q false t e = e ∙ omega arith

  pub one_fewer : n ≡ f k - 1 → (q : Q) → g q ≡ f q - one_if (same k q)
  one_fewer is q = fewer-at is q (same k q) refl (after q)

unwrapped : (b : Bool) (w x : Option ℕ) → unwrap_or (cond b w x) 0 ≡ cond b (unwrap_or w 0) (unwrap_or x 0)
unwrapped true w x = refl
unwrapped false w x = refl

-- ---- under texts

same-bytes : (a b : List ℕ) → bytes_eq a b ≡ true → a ≡ b
same-bytes a b = (bytes_decides a b).0

abbrev pub count_of_text : {Y : Type 0} → BTreeMap (String Y) ℕ → List ℕ → ℕ
count_of_text m text = unwrap_or (get_by_text m text) 0

module _ {Y : Type 0} (key text : List ℕ) (is_text : key ≡ text) (m n : BTreeMap (String Y) ℕ) (w : Option ℕ)
    (updates : tree.UpdatesBy string_cmp (λ k. slice_cmp nat_cmp key (string_bytes k)) m n w) where
  text-at : (q : List ℕ) → count_of_text n q ≡ cond (bytes_eq key q) (unwrap_or w 0) (count_of_text m q)
  text-at q = ap (λ o. unwrap_or o 0) (btree_map_updates_text key m n w updates q) ∙ unwrapped (bytes_eq key q) w (get_by_text m q)

  pub text-after : (q : List ℕ) → count_of_text n q ≡ cond (bytes_eq text q) (unwrap_or w 0) (count_of_text m q)
  text-after q = text-at q ∙ ap (λ t. cond (bytes_eq t q) (unwrap_or w 0) (count_of_text m q)) is_text

  pub text-more : unwrap_or w 0 ≡ count_of_text m text + 1 → (q : List ℕ) → count_of_text n q ≡ count_of_text m q + one_if (bytes_eq text q)
  text-more = one_more bytes_eq same-bytes (count_of_text m) (count_of_text n) text (unwrap_or w 0) text-after

  pub text-fewer : unwrap_or w 0 ≡ count_of_text m text - 1 → (q : List ℕ) → count_of_text n q ≡ count_of_text m q - one_if (bytes_eq text q)
  text-fewer = one_fewer bytes_eq same-bytes (count_of_text m) (count_of_text n) text (unwrap_or w 0) text-after

-- ---- under pairs

and-left : (a b : Bool) → (a && b) ≡ true → a ≡ true
and-left true b e = refl
and-left false b e = e

and-right : (a b : Bool) → (a && b) ≡ true → b ≡ true
and-right true b e = e
and-right false b e = absurd cc

same-keys : (a b : ℕ × List ℕ) → same_key a b ≡ true → a ≡ b
same-keys a b e =
    let first : a.0 ≡ b.0 = eqb-true a.0 b.0 (and-left (nat_eq a.0 b.0) (bytes_eq a.1 b.1) e) in
    let second : a.1 ≡ b.1 = same-bytes a.1 b.1 (and-right (nat_eq a.0 b.0) (bytes_eq a.1 b.1) e) in
    ap₂ (λ (x : ℕ) (y : List ℕ). (x, y)) first second

abbrev pub count_at_key : {S : Type 0} → HashMap (ℕ × List ℕ) ℕ S → ℕ × List ℕ → ℕ
count_at_key m key = unwrap_or (hash.get same_key m key) 0

module _ {S : Type 0} (key : ℕ × List ℕ) (m n : HashMap (ℕ × List ℕ) ℕ S) (w : Option ℕ)
    (updates : hash.UpdatesBy same_key (same_key key) m n w) where
  pub key-after : (q : ℕ × List ℕ) → count_at_key n q ≡ cond (same_key key q) (unwrap_or w 0) (count_at_key m q)
  key-after q = ap (λ o. unwrap_or o 0) (updates.0 q) ∙ unwrapped (same_key key q) w (hash.get same_key m q)

  pub key-more : unwrap_or w 0 ≡ count_at_key m key + 1 → (q : ℕ × List ℕ) → count_at_key n q ≡ count_at_key m q + one_if (same_key key q)
  key-more = one_more same_key same-keys (count_at_key m) (count_at_key n) key (unwrap_or w 0) key-after

  pub key-fewer : unwrap_or w 0 ≡ count_at_key m key - 1 → (q : ℕ × List ℕ) → count_at_key n q ≡ count_at_key m q - one_if (same_key key q)
  key-fewer = one_fewer same_key same-keys (count_at_key m) (count_at_key n) key (unwrap_or w 0) key-after
