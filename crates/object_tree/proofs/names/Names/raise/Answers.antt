use Rattle.std.proofs.Common.{rules}
use Rattle.object_tree.proofs.TableLemmas.{raised-new}
use Rattle.object_tree.proofs.names.Names.raise.Goals as goal

pub returns-in_ok-insert-clause-ok : goal.returns-in_ok-insert-clause-ok
returns-in_ok-insert-clause-ok c = λ other.
    raised-new c.args.name c.args.serial c.args.self.now.serials c.insert.new.self c.is_greatest.result c.in_ok-insert.ensures.updates (search rules) c.if-is_greatest.true other
