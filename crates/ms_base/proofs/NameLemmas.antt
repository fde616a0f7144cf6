-- A name is ASCII, and so UTF-8.
use Rattle.std.proofs.Common.{◌≡◌, ℕ, zero, suc, ◌<◌, true, List, [], ◌∷◌, get_or, arith}
use Rattle.std.proofs.lemmas.Bool.Decides.{nat_tests}
use Rattle.std.proofs.lemmas.Str.{IsUtf8-from_ascii}
use Rattle.std.specs.List.{list_all}
use Rattle.std.specs.Str.{IsUtf8}
use Rattle.ms_base.specs.Name.{is_name, is_name_byte}

name_byte_is_ascii : (b : ℕ) → is_name_byte b ≡ true → b < 128
unfolding is_name_byte
name_byte_is_ascii b h = grind (arith, nat_tests)

name_bytes_are_ascii : (bytes : List ℕ) → list_all is_name_byte bytes ≡ true → (i : ℕ) → get_or bytes i 0 < 128
name_bytes_are_ascii [] h i = omega arith
name_bytes_are_ascii (b ∷ bytes) h zero = grind (arith, nat_tests, name_byte_is_ascii b)
name_bytes_are_ascii (b ∷ bytes) h (suc i) = name_bytes_are_ascii bytes (grind (arith, nat_tests)) i

pub name_is_utf8 : (bytes : List ℕ) → is_name bytes ≡ true → IsUtf8 bytes
unfolding is_name
name_is_utf8 bytes h = IsUtf8-from_ascii bytes (name_bytes_are_ascii bytes (grind (arith, nat_tests)))
