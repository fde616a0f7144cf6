use Rattle.std.proofs.Common.{◌∙◌, ◌++◌, ap}
use Rattle.rtp_packet.specs.Packet.{Fields, fixed_header, csrc_list}
use Rattle.rtp_packet.proofs.Whole.{IsSound-from_parses, header_is}
use Rattle.rtp_packet.proofs.packet.View.header.Goals as goal

pub header_of-requires-clause-csrcs : goal.header_of-requires-clause-csrcs
header_of-requires-clause-csrcs c = (IsSound-from_parses c.self.inside.bytes.now c.self.invariant.parses).csrcs_fit

pub returns : goal.returns
returns c =
    c.header_of.ensures
    ∙ header_is c.self.inside.bytes.now c.self.invariant.are_bytes (IsSound-from_parses c.self.inside.bytes.now c.self.invariant.parses)
    ∙ ap (λ (f : Fields). fixed_header f ++ csrc_list f.csrcs) c.self.view_is
