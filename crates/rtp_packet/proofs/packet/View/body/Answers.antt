use Rattle.std.proofs.Common.{◌∙◌, ◌++◌, ap}
use Rattle.rtp_packet.specs.Packet.{Fields, padding_bytes}
use Rattle.rtp_packet.proofs.Whole.{IsSound-from_parses, body_is}
use Rattle.rtp_packet.proofs.packet.View.body.Goals as goal

pub returns : goal.returns
returns c =
    c.self.invariant.body_is
    ∙ body_is c.self.inside.bytes.now (IsSound-from_parses c.self.inside.bytes.now c.self.invariant.parses)
    ∙ ap (λ (f : Fields). f.payload ++ padding_bytes f.padding) c.self.view_is
