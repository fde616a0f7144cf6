use Rattle.std.proofs.Common.{◌≡◌, sym, ◌∙◌}
use Rattle.ms_base.specs.declared.applied.ApplyFault.TheVariants as fault
use Rattle.host_core.proofs.RunLemmas.{lines-more, spent-still}
use Rattle.host_core.proofs.host.Host.apply.Goals as goal

pub returns-in-Some-clause-memory : goal.returns-in-Some-clause-memory
returns-in-Some-clause-memory c = λ told.
    let same : c.in-Some.fault ≡ fault.NoMemory = cc in spent-still c.args.self.now c.args.entry c.in-Some.fault (sym c.in-Some.is ∙ c.fault.ensures) same

pub returns-in-None-clause-transcript : goal.returns-in-None-clause-transcript
returns-in-None-clause-transcript c =
    lines-more c.journals_go_on.ensures.lines c.enter.result c.args.self.now c.enter.new.self c.args.entry c.enter.ensures.ok c.enter.ensures.first_note
