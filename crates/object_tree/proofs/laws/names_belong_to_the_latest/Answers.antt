use Rattle.std.proofs.Common.{◌≡◌, ◌≤◌, true}
use Rattle.object_tree.specs.declared.object.Object.{Object}
use Rattle.object_tree.specs.Objects.{has_name}
use Rattle.object_tree.proofs.ChainLemmas.{at-member}
use Rattle.object_tree.proofs.NameLemmas.{latest-named}
use Rattle.object_tree.proofs.laws.names_belong_to_the_latest.Goals as goal

pub returns : goal.returns
returns c = λ objects name x y rising e here t.
    at-member (λ (z : Object). has_name name z ≡ true → z.serial.0 ≤ x.serial.0) objects y here (latest-named objects name x rising e) t
