use Rattle.host_core.proofs.RunLemmas.{run-new}
use Rattle.host_core.proofs.host.Host.new.Goals as goal

pub invariant_of-result : goal.invariant_of-result
invariant_of-result c =
    rw c.new.ensures.items
    (run-new c.hosts_are_sound.ensures.start c.args.seed c.head_size.result c.new-2.result c.new-3.result c.requires c.head_size.ensures.value c.head_size.ensures.few
    c.new-2.ensures.kept c.new-2.ensures.shown c.new-3.ensures)
