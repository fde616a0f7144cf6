use Rattle.std.proofs.Common.{◌≡◌, ◌≤◌, length, arith}
use Rattle.worker_requests.specs.declared.notice.WorkerNotice.TheVariants.{TupleLearnt}
use Rattle.worker_requests.specs.Said.{notice_payload}
use Rattle.worker_engine.proofs.Frames.{framed}
use Rattle.worker_engine.proofs.framing.frame_tuple.Goals as goal

pub returns-clause-frame : goal.returns-clause-frame
returns-clause-frame c =
    let four : length c.split_at_mut-prefix.result.0.now ≡ 4 = omega (arith, c.split_at_mut-prefix.ensures.front_len) in
    let room : c.write_tuple_notice-length.result ≤ length c.write_tuple_notice-length.new.into =
    omega (arith, c.split_at_mut-prefix.ensures.back_len, c.requires, c.write_tuple_notice-length.ensures.short) in
    framed c.split_at_mut-prefix.result.0.now c.write_u32.new.buf c.write_tuple_notice-length.new.into
    (notice_payload (TupleLearnt c.args.transport c.args.tuple)) c.write_tuple_notice-length.result four c.write_u32.ensures room c.write_tuple_notice-length.ensures.payload
