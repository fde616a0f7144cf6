use Rattle.call_options.proofs.LawLemmas.{router_fitting, produced_fitting, consumed_fitting, caps_fitting}
use Rattle.call_options.proofs.laws.what_is_read_fits.Goals as goal

pub returns-clause-router : goal.returns-clause-router
returns-clause-router c = router_fitting

pub returns-clause-produced : goal.returns-clause-produced
returns-clause-produced c = produced_fitting c.what_is_read_fits.ensures.streams

pub returns-clause-consumed : goal.returns-clause-consumed
returns-clause-consumed c = consumed_fitting

pub returns-clause-caps : goal.returns-clause-caps
returns-clause-caps c = caps_fitting
