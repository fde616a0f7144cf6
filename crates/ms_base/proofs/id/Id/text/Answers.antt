use Rattle.std.proofs.Common.{sym}
use Rattle.uuid.specs.Text.{lower}
use Rattle.ms_base.proofs.IdLemmas.{length-hyphenated_text}
use Rattle.ms_base.proofs.id.Id.text.Goals as goal

pub copy_from_slice-requires : goal.copy_from_slice-requires
copy_from_slice-requires c =
    rw (c.as_bytes.ensures.value, c.encode_lower.ensures.text) (sym (length-hyphenated_text lower _))
