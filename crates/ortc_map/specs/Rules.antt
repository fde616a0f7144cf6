-- How the rules of mapping go on: one after another, and the first fault counts (this project's own).
use Rattle.std.specs.Prelude.{◌≡◌, List, [], ◌∷◌, ◌++◌, Result, Ok, Err, ⊤}
use Rattle.ms_base.specs.declared.code.Code.TheVariants as code
use Rattle.ortc_map.specs.declared.fault.MapFault.{MapFault}
use Rattle.ortc_map.specs.declared.fault.MapFault.TheVariants.{TypeError, Unsupported, NoMemory}

-- the faults: no rule gives another, and none runs out of memory
abbrev pub unsupported_codec : MapFault
unsupported_codec = Unsupported code.Codec

abbrev pub no_type_left : MapFault
no_type_left = Unsupported code.Types

abbrev pub duplicate_type : MapFault
duplicate_type = TypeError code.DuplicateType

abbrev pub wrong_apt : MapFault
wrong_apt = TypeError code.Apt

-- what a rule gives, or the first fault
infixl 10 ◌>>=◌
abbrev pub ◌>>=◌ : {A B : Type 0} → Result A MapFault → (A → Result B MapFault) → Result B MapFault
(Ok x) >>= f = f x
(Err e) >>= f = Err e

-- what the rule gives of each item of a list, behind what is there
abbrev pub each_behind : {A B : Type 0} → (A → Result B MapFault) → List B → List A → Result (List B) MapFault
each_behind rule before [] = Ok before
each_behind rule before (x ∷ xs) = do
  y ← rule x
  each_behind rule (before ++ y ∷ []) xs

-- How what a call returned stands to what the rules give. Memory may run out at any value.

-- what they give was returned, or the first fault with its code
abbrev pub Gives : {A : Type 0} → Result A MapFault → Result A MapFault → Type 0
Gives (Ok x) rules = rules ≡ Ok x
Gives (Err (TypeError code)) rules = rules ≡ Err (TypeError code)
Gives (Err (Unsupported code)) rules = rules ≡ Err (Unsupported code)
Gives (Err NoMemory) rules = ⊤

-- the same of a call that leaves what they give in a place that it was lent
abbrev pub Leaves : {A T : Type 0} → Result T MapFault → A → Result A MapFault → Type 0
Leaves (Ok done) x rules = rules ≡ Ok x
Leaves (Err (TypeError code)) x rules = rules ≡ Err (TypeError code)
Leaves (Err (Unsupported code)) x rules = rules ≡ Err (Unsupported code)
Leaves (Err NoMemory) x rules = ⊤
