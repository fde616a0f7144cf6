use Rattle.std.proofs.Common.{ap, sym, arith}
use Rattle.ms_devices.proofs.ReadLemmas.{given_and_rest}
use Rattle.ms_devices.proofs.source.MemSourceSource.read.Goals as goal

pub returns-clause-given : goal.returns-clause-given
returns-clause-given c =
    let copied = rw c.deref.ensures.value at c.copy_from_slice.ensures.after in
    given_and_rest c.self.inside.bytes.items c.args.into.now _ _ _ _ (ap (λ s. s.held) (sym c.self.view_is)) (grind arith) copied
