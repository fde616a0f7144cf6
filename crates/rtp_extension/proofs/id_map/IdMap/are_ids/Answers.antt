use Rattle.std.proofs.Common.{subst, List, Option, ℕ}
use Rattle.rtp_extension.specs.Ids.{new_id}
use Rattle.rtp_extension.specs.Laws.{AreIds}
use Rattle.rtp_extension.proofs.Tables.{table_ids}
use Rattle.rtp_extension.proofs.id_map.IdMap.are_ids.Goals as goal

pub returns : goal.returns
returns c =
    subst (λ (table : List (Option ℕ)). AreIds (new_id table)) c.self.view_is (table_ids c.self.inside.ids c.self.invariant)
