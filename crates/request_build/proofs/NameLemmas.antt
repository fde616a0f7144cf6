-- A name with a short ending is a name.
use Rattle.std.proofs.Common.{◌≡◌, ◌≤◌, ◌++◌, ℕ, List, length, length-append, true, false, ap, arith}
use Rattle.std.proofs.lemmas.Bool.Decides.{nat_tests}
use Rattle.std.proofs.lemmas.List.Folds.{list_all-append}
use Rattle.ms_base.specs.Name.{is_name, is_name_byte}
use Rattle.request_build.specs.Steps.{is_ending}

pub longer : (name ending : List ℕ) → is_name name ≡ true → length name ≤ 62 → is_ending ending ≡ true → is_name (name ++ ending) ≡ true
unfolding is_name
longer name ending h short two = grind (arith, nat_tests, list_all-append is_name_byte name ending, length-append name ending)

pub no_bad_name : (name ending whole : List ℕ) → is_name name ≡ true → length name ≤ 62 → is_ending ending ≡ true → whole ≡ name ++ ending → is_name whole ≡ false → ⊥
no_bad_name name ending whole h short two same bad = let good = longer name ending h short two in cc (ap is_name same)
