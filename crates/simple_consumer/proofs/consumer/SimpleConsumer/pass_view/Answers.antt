use Rattle.std.proofs.Common.{◌≡◌, ℕ, List, take, true, Some, sym, ap, subst, ◌∙◌}
use Rattle.rtp_packet.specs.Packet.{Fields, IsPacket}
use Rattle.rtp_packet.specs.Reading.{fields_of}
use Rattle.seq_manager.specs.Numbering.{output_number}
use Rattle.simple_consumer.specs.Sending.{Offer, Sending, offer, takes, emitted, emitted_fields}
use Rattle.simple_consumer.proofs.PassLemmas.{is-emitted, passed-taken}
use Rattle.simple_consumer.proofs.consumer.SimpleConsumer.pass_view.Goals as goal

pub returns-clause-fields : goal.returns-clause-fields
returns-clause-fields c fields p =
    let o : Offer = offer c.args.mapped c.args.ids.now c.args.packet.now in
    let s : Sending = c.args.self.now in
    let out : List ℕ = take c.write.result c.write.new.into in
    let same : c.args.view.now ≡ fields = sym (c.fields_by_places.ensures c.args.packet.now c.args.view.now c.requires.read) ∙ c.fields_by_places.ensures c.args.packet.now fields p in
    subst (λ (f : Fields). IsPacket (emitted_fields s.params o (output_number s.numbering f.seq) f) out) same
    (is-emitted s o c.self.inside.params c.self.inside.numbers c.self.inside.ssrc c.input.result c.self.inside.exts c.args.view.now out
    (ap (λ (t : Sending). t.params) c.self.view_is) (ap (λ (t : Sending). t.numbering) c.self.view_is) c.self.invariant.ssrc_is c.self.invariant.exts_are
    (c.input.ensures.output ∙ ap (λ (n : ℕ). output_number c.self.inside.numbers n) c.seq.ensures) c.write.ensures.packet)

pub returns-clause-packet : goal.returns-clause-packet
returns-clause-packet c =
    let o : Offer = offer c.args.mapped c.args.ids.now c.args.packet.now in
    let s : Sending = c.args.self.now in
    let t : takes s c.args.mapped ≡ true = cc (c.if-not-takes.false, c.takes.ensures) in
    let is : IsPacket (fields_of c.args.packet.now) c.args.packet.now =
    subst (λ (f : Fields). IsPacket f c.args.packet.now) (sym (c.fields_by_places.ensures c.args.packet.now c.args.view.now c.requires.read)) c.requires.read in
    let written : take c.write.result c.write.new.into ≡ emitted s.params o (output_number s.numbering (fields_of c.args.packet.now).seq) =
    (returns-clause-fields c (fields_of c.args.packet.now) is).written in
    ap (λ (bytes : List ℕ). Some bytes) written ∙ sym (passed-taken s o t)
