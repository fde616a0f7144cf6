use Rattle.host_requests.proofs.TableLemmas.{placed, under-removed}
use Rattle.host_requests.proofs.places.Places.remove.Goals as goal

pub returns : goal.returns
returns c = λ os found h.
    placed (record { by_via = c.remove.new.self; under = c.remove-2.new.self }) _ (c.remove.ensures os found h.by_via)
    (under-removed c.args.self.now.under c.remove-2.new.self c.args.number c.args.via c.args.under os h.under c.remove-2.ensures found)
