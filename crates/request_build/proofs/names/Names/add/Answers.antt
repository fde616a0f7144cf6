use Rattle.std.proofs.Common.{◌+◌, Some, ap, ◌∙◌}
use Rattle.request_build.proofs.CountLemmas.{text-more}
use Rattle.request_build.proofs.names.Names.add.Goals as goal

pub returns-clause-ok : goal.returns-clause-ok
returns-clause-ok c = λ other.
    text-more _ c.args.name.now (c.in_ok-name.ensures.ok ∙ c.as_str.ensures.value) c.args.self.now.counts c.insert.new.self (Some c.in-Some.times) c.in_ok-insert.ensures.updates
    (c.in-Some.ensures.1 ∙ ap (λ n. n + 1) c.times.ensures) other
