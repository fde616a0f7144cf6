use Rattle.std.proofs.Common.{◌∷◌, [], ◌∙◌}
use Rattle.std.proofs.lemmas.Result.{on_ok_weaker}
use Rattle.host_core.proofs.FallLemmas.{fallen-moves, there-closed}
use Rattle.host_core.proofs.fall.fall.Goals as goal

pub close_requests-requires : goal.close_requests-requires
close_requests-requires c =
    there-closed c.args.tables.now.tree c.close_objects.new.self.tree c.as_slice-serials.result.now (c.args.root ∷ []) c.args.reason (c.as_slice-serials.ensures.value ∙ c.in_ok-fallen.ensures) c.in_ok-close_objects.ensures.tree

pub returns-clause-ok : goal.returns-clause-ok
returns-clause-ok c =
    on_ok_weaker c.send_closes.result
    (fallen-moves c.args.tables.now c.close_objects.new.self c.close_requests.new.self c.send_closes.new.tables c.as_slice-serials.result.now (c.args.root ∷ []) c.args.reason
    (c.as_slice-serials.ensures.value ∙ c.in_ok-fallen.ensures) c.in_ok-close_objects.ensures.ok c.in_ok-close_requests.ensures.ok)
    c.send_closes.ensures.ok
