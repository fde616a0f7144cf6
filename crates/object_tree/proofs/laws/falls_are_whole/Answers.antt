use Rattle.std.proofs.Common.{length}
use Rattle.object_tree.proofs.ChainLemmas.{child-leads, falls-linked, falls-root, reached-open}
use Rattle.object_tree.proofs.laws.falls_are_whole.Goals as goal

pub returns-clause-opened : goal.returns-clause-opened
returns-clause-opened c = λ objects roots x t. reached-open objects roots (length objects) x t

pub returns-clause-roots : goal.returns-clause-roots
returns-clause-roots c = λ objects roots x t. falls-root objects roots x t

pub returns-clause-linked : goal.returns-clause-linked
returns-clause-linked c = λ objects roots x y there here t opened led. falls-linked objects roots x y there here t opened led

pub returns-clause-children : goal.returns-clause-children
returns-clause-children c = λ objects roots x y there here t opened e. falls-linked objects roots x y there here t opened (child-leads x y e)
