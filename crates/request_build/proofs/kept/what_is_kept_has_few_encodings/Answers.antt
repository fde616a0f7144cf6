use Rattle.request_build.proofs.KeptLemmas.{kept_closed, kept_none, kept_opened}
use Rattle.request_build.proofs.kept.what_is_kept_has_few_encodings.Goals as goal

pub returns-clause-none : goal.returns-clause-none
returns-clause-none c = kept_none

pub returns-clause-opened : goal.returns-clause-opened
returns-clause-opened c = kept_opened

pub returns-clause-closed : goal.returns-clause-closed
returns-clause-closed c = kept_closed
