use Rattle.std.proofs.Common.{subst, sym, ◌∙◌}
use Rattle.rtp_params.specs.Readable.{AreAscending}
use Rattle.rtp_params.proofs.ReadLemmas.{none_ascend}
use Rattle.rtp_params.proofs.read.codec.parameters_or_none.Goals as goal

pub returns-in_default-clause-ascending : goal.returns-in_default-clause-ascending
returns-in_default-clause-ascending c = subst AreAscending (sym (c.from_vec.ensures ∙ c.new.ensures.items)) none_ascend
