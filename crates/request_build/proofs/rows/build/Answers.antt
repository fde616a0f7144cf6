use Rattle.request_build.specs.Known.{Known, known_of}
use Rattle.request_build.proofs.RowLemmas.{can_consume_is, close_is, connect_is, consume_is, direct_is, gives, pause_is, pipe_is, pipe_router_is, plain_is, produce_is, resume_is, router_is, send_is, worker_is}
use Rattle.request_build.proofs.rows.build.Goals as goal

pub returns-in-Worker : goal.returns-in-Worker
returns-in-Worker c =
    let k : Known = known_of c.args.tree.now c.args.kept.now c.args.next in
    gives c.worker.result k _ _ _ c.in-Worker.is (worker_is k c.in-Worker.name c.in-Worker.budget) c.worker.ensures

pub returns-in-Router : goal.returns-in-Router
returns-in-Router c =
    let k : Known = known_of c.args.tree.now c.args.kept.now c.args.next in
    gives c.router.result k _ _ _ c.in-Router.is (router_is k c.in-Router.name c.in-Router.worker c.in-Router.options) c.router.ensures

pub returns-in-Plain : goal.returns-in-Plain
returns-in-Plain c =
    let k : Known = known_of c.args.tree.now c.args.kept.now c.args.next in
    gives c.plain.result k _ _ _ c.in-Plain.is (plain_is k c.in-Plain.name c.in-Plain.router c.in-Plain.options) c.plain.ensures

pub returns-in-Pipe : goal.returns-in-Pipe
returns-in-Pipe c =
    let k : Known = known_of c.args.tree.now c.args.kept.now c.args.next in
    gives c.pipe.result k _ _ _ c.in-Pipe.is (pipe_is k c.in-Pipe.name c.in-Pipe.router c.in-Pipe.options) c.pipe.ensures

pub returns-in-Direct : goal.returns-in-Direct
returns-in-Direct c =
    let k : Known = known_of c.args.tree.now c.args.kept.now c.args.next in
    gives c.direct.result k _ _ _ c.in-Direct.is (direct_is k c.in-Direct.name c.in-Direct.router) c.direct.ensures

pub returns-in-Connect : goal.returns-in-Connect
returns-in-Connect c =
    let k : Known = known_of c.args.tree.now c.args.kept.now c.args.next in
    gives c.connect.result k _ _ _ c.in-Connect.is (connect_is k c.in-Connect.transport c.in-Connect.options) c.connect.ensures

pub returns-in-Produce : goal.returns-in-Produce
returns-in-Produce c =
    let k : Known = known_of c.args.tree.now c.args.kept.now c.args.next in
    gives c.produce.result k _ _ _ c.in-Produce.is (produce_is k c.in-Produce.name c.in-Produce.transport c.in-Produce.options) c.produce.ensures

pub returns-in-Consume : goal.returns-in-Consume
returns-in-Consume c =
    let k : Known = known_of c.args.tree.now c.args.kept.now c.args.next in
    gives c.consume.result k _ _ _ c.in-Consume.is (consume_is k c.in-Consume.name c.in-Consume.transport c.in-Consume.producer c.in-Consume.options) c.consume.ensures

pub returns-in-Pause : goal.returns-in-Pause
returns-in-Pause c =
    let k : Known = known_of c.args.tree.now c.args.kept.now c.args.next in
    gives c.flag.result k _ _ _ c.in-Pause.is (pause_is k c.in-Pause.name) c.flag.ensures

pub returns-in-Resume : goal.returns-in-Resume
returns-in-Resume c =
    let k : Known = known_of c.args.tree.now c.args.kept.now c.args.next in
    gives c.flag-in-Resume.result k _ _ _ c.in-Resume.is (resume_is k c.in-Resume.name) c.flag-in-Resume.ensures

pub returns-in-Close : goal.returns-in-Close
returns-in-Close c =
    let k : Known = known_of c.args.tree.now c.args.kept.now c.args.next in
    gives c.close.result k _ _ _ c.in-Close.is (close_is k c.in-Close.name) c.close.ensures

pub returns-in-CanConsume : goal.returns-in-CanConsume
returns-in-CanConsume c =
    let k : Known = known_of c.args.tree.now c.args.kept.now c.args.next in
    gives c.can_consume.result k _ _ _ c.in-CanConsume.is (can_consume_is k c.in-CanConsume.producer c.in-CanConsume.caps) c.can_consume.ensures

pub returns-in-Send : goal.returns-in-Send
returns-in-Send c =
    let k : Known = known_of c.args.tree.now c.args.kept.now c.args.next in
    gives c.send.result k _ _ _ c.in-Send.is (send_is k c.in-Send.producer c.in-Send.packet) c.send.ensures

pub returns-in-PipeRouter : goal.returns-in-PipeRouter
returns-in-PipeRouter c =
    let k : Known = known_of c.args.tree.now c.args.kept.now c.args.next in
    gives c.pipe_router.result k _ _ _ c.in-PipeRouter.is (pipe_router_is k c.in-PipeRouter.name c.in-PipeRouter.producer c.in-PipeRouter.router) c.pipe_router.ensures
