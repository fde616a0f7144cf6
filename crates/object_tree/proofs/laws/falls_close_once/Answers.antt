use Rattle.object_tree.proofs.CloseLemmas.{closes-exactly, closes-once}
use Rattle.object_tree.proofs.laws.falls_close_once.Goals as goal

pub returns-clause-exactly : goal.returns-clause-exactly
returns-clause-exactly c = λ objects roots reason rising. closes-exactly objects roots rising reason

pub returns-clause-once : goal.returns-clause-once
returns-clause-once c = λ objects roots reason rising. closes-once objects roots reason rising
