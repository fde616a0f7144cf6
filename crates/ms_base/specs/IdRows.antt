-- Worked rows for ids.
use Rattle.std.specs.Prelude.{◌≡◌, Some, refl, false, codes}
use Rattle.ms_base.specs.Id.{id_bytes, id_text, is_id_text, id_of_text}

pub first_of_seven : id_text (id_bytes 7 1) ≡ codes "00000000-0000-4007-8000-000000000001"
unfolding id_bytes id_text
first_of_seven = refl

pub largest : id_text (id_bytes 0xfff_ffff_ffff_ffff 0xffff_ffff) ≡ codes "ffffffff-ffff-4fff-8000-0000ffffffff"
unfolding id_bytes id_text
largest = refl

pub reads : id_of_text (codes "00000000-0000-4007-8000-00000000000A") ≡ Some (id_bytes 7 10)
unfolding id_bytes is_id_text id_of_text
reads = refl

pub without_hyphens : is_id_text (codes "00000000000040078000000000000001") ≡ false
unfolding is_id_text
without_hyphens = refl

pub in_braces : is_id_text (codes "{00000000-0000-4007-8000-000000000001}") ≡ false
unfolding is_id_text
in_braces = refl

pub another_letter : is_id_text (codes "00000000-0000-4007-8000-00000000000g") ≡ false
unfolding is_id_text
another_letter = refl
