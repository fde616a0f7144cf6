use Rattle.std.proofs.Common.{refl}
use Rattle.ms_base.specs.Id.{id_bytes}
use Rattle.ms_base.proofs.id.Id.of.Goals as goal

pub returns : goal.returns
unfolding id_bytes
returns c =
    rw (c.copy_from_slice.ensures.after, c.copy_from_slice-2.ensures.after, c.to_be_bytes.ensures, c.to_be_bytes-2.ensures) refl
