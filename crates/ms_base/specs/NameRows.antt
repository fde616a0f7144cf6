-- Worked rows for the form of a name.
use Rattle.std.specs.Prelude.{◌≡◌, [], refl, true, false, codes, replicate}
use Rattle.ms_base.specs.Name.{is_name, is_name_byte}

pub a_word : is_name (codes "w_01") ≡ true
unfolding is_name is_name_byte
a_word = refl

pub nothing : is_name [] ≡ false
unfolding is_name is_name_byte
nothing = refl

pub a_capital : is_name (codes "Worker") ≡ false
unfolding is_name is_name_byte
a_capital = refl

pub a_blank : is_name (codes "w 1") ≡ false
unfolding is_name is_name_byte
a_blank = refl

pub the_longest : is_name (replicate 64 95) ≡ true
unfolding is_name is_name_byte
the_longest = refl

pub too_long : is_name (replicate 65 95) ≡ false
unfolding is_name is_name_byte
too_long = refl
