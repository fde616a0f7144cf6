-- What holds of the rules of mapping (this project's own), in words that the rules don't have.
use Rattle.std.specs.Prelude.{◌≡◌, List, [], ◌∷◌, ◌++◌, Bool, true, false, IsSome, ⊤}
use Rattle.rtp_params.specs.declared.codec.Codec.{Codec}
use Rattle.ortc_map.specs.Matching.{is_same_number}

-- each of a list fails a test
abbrev pub AllFail : {A : Type 0} → (A → Bool) → List A → Type 0
AllFail test [] = ⊤
AllFail test (x ∷ xs) = (test x ≡ false) × AllFail test xs

-- one of a list that passes a test, and none before it does
pub record IsFirst {A : Type 0} (test : A → Bool) (xs : List A) (x : A) : Type 0 where
  pub before : List A
  pub behind : List A
  pub whole : xs ≡ before ++ x ∷ behind
  pub passes : test x ≡ true
  pub none_before : AllFail test before

-- each codec has a payload type, which no other codec has
abbrev pub AreTypedOnce : List Codec → Type 0
AreTypedOnce [] = ⊤
AreTypedOnce (codec ∷ codecs) = IsSome codec.payload_type × AllFail (λ other. is_same_number codec.payload_type other.payload_type) codecs × AreTypedOnce codecs
