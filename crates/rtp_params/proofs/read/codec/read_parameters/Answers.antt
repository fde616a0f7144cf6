use Rattle.std.proofs.Common.{subst, sym}
use Rattle.rtp_params.specs.Readable.{AreAscending}
use Rattle.rtp_params.proofs.ReadLemmas.{all_ascend}
use Rattle.rtp_params.proofs.read.codec.read_parameters.Goals as goal

pub returns-clause-ascending : goal.returns-clause-ascending
returns-clause-ascending c =
    subst AreAscending (sym c.from_vec.ensures)
    (all_ascend c.loop-name.parameters.items c.loop-name.name-iterator c.args.members.now.entries c.in-None.ensures.steps.0 c.loop-name.invariant.names c.iter-name-items.ensures.ordered)
