use Rattle.std.proofs.Common.{ap, ◌∙◌}
use Rattle.object_tree.specs.Tables.{same_key}
use Rattle.object_tree.proofs.ids.Ids.put.Goals as goal

pub returns-clause-others : goal.returns-clause-others
returns-clause-others c = λ key other.
    c.in_ok-insert.ensures.updates.2 key (ap (λ n. same_key (c.args.worker.0, n, c.args.id.0) key) c.number.ensures ∙ other)
