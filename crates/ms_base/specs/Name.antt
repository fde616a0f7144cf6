-- The form of a name (this project's own): 1 to 64 of `a-z`, `0-9` and `_`.
use Rattle.std.specs.Prelude.{ℕ, List, Bool, length, ◌==◌, ◌&&◌, ◌||◌, nat_le}
use Rattle.std.specs.List.{list_all}

-- a byte of a name: `a` to `z`, `0` to `9`, or `_`
unfoldable pub is_name_byte : ℕ → Bool
is_name_byte b = (nat_le 97 b && nat_le b 122) || (nat_le 48 b && nat_le b 57) || (b == 95)

unfoldable pub is_name : List ℕ → Bool
is_name bytes = nat_le 1 (length bytes) && nat_le (length bytes) 64 && list_all is_name_byte bytes
