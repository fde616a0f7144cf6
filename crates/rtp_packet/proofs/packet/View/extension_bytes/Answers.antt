use Rattle.std.proofs.Common.{◌∙◌, ap}
use Rattle.rtp_packet.specs.Packet.{Fields, header_extension}
use Rattle.rtp_packet.proofs.Whole.{IsSound-from_parses, extension_is, body_fits}
use Rattle.rtp_packet.proofs.packet.View.extension_bytes.Goals as goal

pub between-requires-clause-csrcs : goal.between-requires-clause-csrcs
between-requires-clause-csrcs c = (IsSound-from_parses c.self.inside.bytes.now c.self.invariant.parses).csrcs_fit

pub between-requires-clause-body : goal.between-requires-clause-body
between-requires-clause-body c = body_fits c.self.inside.bytes.now c.self.inside.body.now c.self.invariant.body_is

pub returns : goal.returns
returns c =
    c.between.ensures
    ∙ extension_is c.self.inside.bytes.now c.self.inside.body.now c.self.invariant.are_bytes (IsSound-from_parses c.self.inside.bytes.now c.self.invariant.parses) c.self.invariant.body_is
    ∙ ap (λ (f : Fields). header_extension f.extension) c.self.view_is
