use Rattle.std.proofs.Common.{◌≡◌, ◌+◌, ◌≤◌, length, arith}
use Rattle.worker_engine.proofs.Frames.{packet-framed}
use Rattle.worker_engine.proofs.framing.frame_packet.Goals as goal

pub returns-clause-frame : goal.returns-clause-frame
returns-clause-frame c =
    let four : length c.split_at_mut-prefix.result.0.now ≡ 4 = omega (arith, c.split_at_mut-prefix.ensures.front_len) in
    let same : length c.write_packet_head.new.into ≡ length c.split_at_mut-prefix.result.1.now = omega arith in
    let room : 37 + c.args.packet_len ≤ length c.split_at_mut-prefix.result.1.now = omega (arith, c.split_at_mut-prefix.ensures.back_len, c.requires.room) in
    packet-framed c.args.id c.split_at_mut-prefix.result.0.now c.write_u32.new.buf c.split_at_mut-prefix.result.1.now c.write_packet_head.new.into
    c.args.buffer.now c.args.packet_len four c.write_u32.ensures c.split_at_mut-prefix.ensures.value same c.write_packet_head.ensures.head room
