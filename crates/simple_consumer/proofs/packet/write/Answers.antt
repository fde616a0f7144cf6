use Rattle.std.proofs.Common.{◌≡◌, ℕ, List, ◌++◌, take, sym, subst, ◌∙◌}
use Rattle.rtp_packet.specs.Packet.{IsPacket}
use Rattle.rtp_packet.specs.Rewriting.{with_fields}
use Rattle.rtp_extension.specs.Ids.{kept_id}
use Rattle.rtp_extension.specs.Rewriting.{with_ids}
use Rattle.simple_consumer.proofs.Writes.{take-front}
use Rattle.simple_consumer.proofs.packet.write.Goals as goal

pub returns-clause-packet : goal.returns-clause-packet
returns-clause-packet c =
    let ids = kept_id c.args.ids.now c.args.kept.now in
    let f = with_ids ids c.args.view.now in
    let place : IsPacket f c.split_at_mut-place.result.0.now =
    subst (λ (bytes : List ℕ). IsPacket f bytes) (sym c.split_at_mut-place.ensures.front) c.put-length.ensures.packet in
    let front : take c.put-length.result (c.set_fields.new.packet ++ c.split_at_mut-place.result.1.now) ≡ c.set_fields.new.packet =
    take-front c.put-length.result c.set_fields.new.packet c.split_at_mut-place.result.1.now (c.set_fields.auto.packet ∙ c.split_at_mut-place.ensures.front_len) in
    subst (λ (bytes : List ℕ). IsPacket (with_fields f c.args.fields.number c.args.fields.ssrc c.args.fields.payload_type) bytes) (sym front)
    (c.set_fields.ensures.fields f place)
