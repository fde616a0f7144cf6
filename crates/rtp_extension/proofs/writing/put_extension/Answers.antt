use Rattle.std.proofs.Common.{arith}
use Rattle.rtp_packet.specs.Packet.{IsExtension}
use Rattle.rtp_extension.proofs.Parts.{extension_there}
use Rattle.rtp_extension.proofs.writing.put_extension.Goals as goal

pub overflow_cast-count : goal.overflow_cast-count
overflow_cast-count c =
    let is : IsExtension c.in-Some.profile c.in-Some.words.now =
    extension_there c.args.view.now.extension c.in-Some.profile c.in-Some.words.now c.in-Some.ensures c.requires.whole in
    omega (arith, is.count_fits, c.put_words-end.ensures.no_longer)
