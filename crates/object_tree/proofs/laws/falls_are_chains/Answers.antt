use Rattle.std.proofs.Common.{length}
use Rattle.object_tree.proofs.ChainLemmas.{chain-falls, chain-of}
use Rattle.object_tree.proofs.laws.falls_are_chains.Goals as goal

pub returns : goal.returns
returns c = λ objects roots x here. ((λ t. chain-of objects roots (length objects) x t), (λ chain. chain-falls objects roots chain.0 x here chain.1))
