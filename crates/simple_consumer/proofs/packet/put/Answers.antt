use Rattle.std.proofs.Common.{◌≡◌, ℕ, List, take, drop, sym, ap, subst, ◌∙◌, arith}
use Rattle.rtp_packet.specs.Packet.{IsPacket, AreBytes, packet_of}
use Rattle.rtp_extension.specs.Ids.{kept_id}
use Rattle.rtp_extension.specs.Rewriting.{with_ids}
use Rattle.simple_consumer.proofs.Writes.{take-front, are-front}
use Rattle.simple_consumer.proofs.packet.put.Goals as goal

pub returns-then-is_some-clause-parses : goal.returns-then-is_some-clause-parses
returns-then-is_some-clause-parses c =
    let ids = kept_id c.args.ids.now c.args.kept.now in
    let whole : List ℕ = packet_of (with_ids ids c.args.view.now) in
    let n : ℕ = c.rewrite_view.result in
    let front : take n c.rewrite_view.new.into ≡ whole =
    ap (λ (bytes : List ℕ). take n bytes) c.rewrite_view.ensures.bytes ∙ take-front n whole (drop n c.args.into.now) (sym c.rewrite_view.ensures.len) in
    let is : IsPacket (with_ids ids c.args.view.now) (take n c.rewrite_view.new.into) =
    subst (λ (bytes : List ℕ). IsPacket (with_ids ids c.args.view.now) bytes) (sym front)
    (c.rewritten_is_a_packet.ensures ids c.args.view.now c.args.packet.now (λ i. omega (arith, c.type_inv.packet i)) c.requires.read) in
    let are : AreBytes (take n c.rewrite_view.new.into) = are-front n c.rewrite_view.new.into (λ i. omega (arith, c.type_inv.into i)) in
    (c.grammar.ensures (take n c.rewrite_view.new.into) are).1 (with_ids ids c.args.view.now, is)
