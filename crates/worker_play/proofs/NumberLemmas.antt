-- A number in decimal digits, as it is read.
use Rattle.std.proofs.Common.{◌≡◌, ℕ, ◌^◌, ◌<◌, List, Result, Ok, sym, subst, arith, decimal}
use Rattle.std.proofs.lemmas.Fmt.{IsAscii-decimal, parse-decimal}
use Rattle.std.proofs.lemmas.Str.{IsUtf8-from_ascii}
use Rattle.std.specs.Str.{IsUtf8}
use Rattle.std.specs.Str.Parse.{ParsesUnsigned}
use Rattle.worker_play.specs.Reading.{IsNumber}

pub no_text : (greatest : ℕ) (word : List ℕ) → greatest < 2 ^ 64 → (IsUtf8 word → ⊥) → (number : ℕ) → IsNumber greatest word number → ⊥
no_text greatest word fits other number is =
    other (subst IsUtf8 (sym is.0) (IsUtf8-from_ascii (decimal number) (IsAscii-decimal number (omega arith))))

pub parsed : {E : Type 0} (greatest : ℕ) (word : List ℕ) (r : Result ℕ E) → greatest < 2 ^ 64 → ParsesUnsigned 64 10 word r
    → (number : ℕ) → IsNumber greatest word number → r ≡ Ok number
parsed greatest word r fits parses number is = parse-decimal 64 number word r (omega arith) (omega arith) is.0 parses

pub same_number : {E : Type 0} (m n : ℕ) (r : Result ℕ E) → r ≡ Ok m → r ≡ Ok n → m ≡ n
same_number m n r first second = cc
