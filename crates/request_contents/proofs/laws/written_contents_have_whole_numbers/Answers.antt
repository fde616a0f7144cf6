use Rattle.request_contents.proofs.WholeLemmas.{consume-whole, produce-whole}
use Rattle.request_contents.proofs.laws.written_contents_have_whole_numbers.Goals as goal

pub returns-clause-produce : goal.returns-clause-produce
returns-clause-produce c = produce-whole

pub returns-clause-consume : goal.returns-clause-consume
returns-clause-consume c = consume-whole
