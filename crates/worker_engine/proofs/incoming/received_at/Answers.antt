use Rattle.std.proofs.Common.{refl, sym}
use Rattle.worker_calls.specs.Plans.{at}
use Rattle.worker_engine.proofs.Received.{placed-serves}
use Rattle.worker_engine.proofs.incoming.received_at.Goals as goal

pub returns : goal.returns
returns c =
    placed-serves c.args.worker.now (at c.args.at.router c.in_ok-router.router.now) c.args.at.router c.args.packet.now c.args.view.now c.in_ok-producer.producer
    c.routers_differ.ensures c.ids_differ.ensures.consumers (sym c.in_ok-router.ensures) c.args.at refl c.ids_differ.ensures.producers c.in_ok-producer.ensures c.received_by.result c.received_by.ensures
