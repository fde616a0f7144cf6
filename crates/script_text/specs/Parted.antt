-- What a reading that came to something tells of its parts.
use Rattle.std.specs.Prelude.{◌≡◌, ℕ, Bool, true, false, if◌then◌else◌, Result, Ok, Err, IfOk, refl}
use Rattle.std.specs.Result.{result_unwrap_or}
use Rattle.std.proofs.Common.{ap, subst}
use Rattle.ms_base.specs.declared.code.Code.{Code}
use Rattle.script_text.specs.Words.{◌>>=◌, at_line}

pub ok_is : {A F : Type 0} (x y : A) → ◌≡◌ {A = Result A F} (Ok x) (Ok y) → x ≡ y
ok_is {F} x y h = ap (λ (r : Result _ F). result_unwrap_or r x) h

no_err : {A F : Type 0} (f : F) (y : A) → ◌≡◌ {A = Result A F} (Err f) (Ok y) → ⊥
no_err {A} {F} f y h = let P : Result A F → Type 0 = λ r. IfOk r (λ x. ⊥) in subst P h tt

-- of two readings one after the other, the first came to something, and the second to the whole
pub bind_ok : {A B F : Type 0} (r : Result A F) (f : A → Result B F) (y : B) → (r >>= f) ≡ Ok y → (x : A) × (r ≡ Ok x) × (f x ≡ Ok y)
bind_ok (Ok x) f y h = (x, refl, h)
bind_ok (Err e) f y h = absurd (no_err e y h)

-- of a test and what is read where it holds, the test holds
pub picked : {A F : Type 0} (b : Bool) (r : Result A F) (f : F) (y : A) → (if b then r else Err f) ≡ Ok y → (b ≡ true) × (r ≡ Ok y)
picked true r f y h = (refl, h)
picked false r f y h = absurd (no_err f y h)

pub chosen : {A F : Type 0} (b : Bool) (x y : A) (f : F) → (if b then Ok x else Err f) ≡ Ok y → (b ≡ true) × (x ≡ y)
chosen b x y f h = let found = picked b (Ok x) f y h in (found.0, ok_is x y found.1)

-- what came of a line is what it is read as
pub at_line_ok : {A : Type 0} (n : ℕ) (r : Result A Code) (x : A) → at_line n r ≡ Ok x → r ≡ Ok x
at_line_ok n (Ok y) x h = ap Ok (ok_is y x h)
at_line_ok n (Err c) x h = absurd (no_err _ x h)
