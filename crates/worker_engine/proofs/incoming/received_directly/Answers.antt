use Rattle.std.proofs.Common.{sym}
use Rattle.worker_calls.specs.State.{direct_of}
use Rattle.worker_calls.specs.Plans.{at}
use Rattle.worker_engine.proofs.Received.{key-is, keyed-serves}
use Rattle.worker_engine.proofs.incoming.received_directly.Goals as goal

pub returns : goal.returns
returns c =
    keyed-serves c.args.worker.now (at c.in_ok-key.key c.in_ok-router.router.now) c.in_ok-key.key c.args.packet.now c.args.view.now c.in_ok-key.producer
    c.routers_differ.ensures c.ids_differ.ensures.consumers (sym c.in_ok-router.ensures)
    (direct_of c.args.worker.now c.args.id) (key-is (c.in_ok-key.key, c.in_ok-key.producer) (direct_of c.args.worker.now c.args.id) c.in_ok-key.ensures)
    c.received_by.result c.received_by.ensures
