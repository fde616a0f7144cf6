use Rattle.std.proofs.Common.{◌≡◌, ◌+◌, ◌≤◌, List, ℕ, Bool, true, Option, length, take, sym, subst, arith}
use Rattle.rtp_packet.specs.Packet.{Fields, IsPacket, AreBytes, packet_of}
use Rattle.rtp_extension.specs.Ids.{new_id, has_id, kept_id}
use Rattle.rtp_extension.specs.Laws.{AreIds}
use Rattle.rtp_extension.specs.Rewriting.{with_ids}
use Rattle.rtp_extension.proofs.Packets.{is_rewritten, rewritten_elements_are, rewritten_len, AreBytes-take}
use Rattle.rtp_extension.proofs.Writes.{front_is, rest_stays}
use Rattle.rtp_extension.proofs.Tables.{kept_all}
use Rattle.rtp_extension.specs.Viewing.{Wrote}
use Rattle.rtp_extension.proofs.rewrite.rewrite_ids.Goals as goal

-- what is written by a set of all ids
all-written : (table : List (Option ℕ)) (set : List Bool) (f : Fields) (old new : List ℕ) (end : ℕ) → ((id : ℕ) → id ≤ 255 → has_id set id ≡ true) → AreIds (new_id table)
    → Wrote (packet_of (with_ids (kept_id table set) f)) old new 0 end → Wrote (packet_of (with_ids (new_id table) f)) old new 0 end
all-written table set f old new end all are w = subst (λ (ids : ℕ → Option ℕ). Wrote (packet_of (with_ids ids f)) old new 0 end) (kept_all table set all are) w

pub returns-clause-packet : goal.returns-clause-packet
returns-clause-packet c fields p =
    let ids = new_id c.args.map.now in
    let same : c.in-Ok.view ≡ fields = cc (c.in-Ok.ensures.only fields p) in
    let written : take c.put_packet.result c.put_packet.new.into ≡ packet_of (with_ids ids c.in-Ok.view) =
    front_is (packet_of (with_ids ids c.in-Ok.view)) c.args.into.now c.put_packet.new.into c.put_packet.result
    (all-written c.args.map.now c.all.result c.in-Ok.view c.args.into.now c.put_packet.new.into c.put_packet.result c.all.ensures c.are_ids.ensures c.put_packet.ensures.written) in
    subst (λ (f : Fields). IsPacket (with_ids ids f) (take c.put_packet.result c.put_packet.new.into)) same
    (subst (λ (bytes : List ℕ). IsPacket (with_ids ids c.in-Ok.view) bytes) (sym written)
    (is_rewritten ids c.in-Ok.view c.args.packet.now (λ i. omega (arith, c.type_inv.packet i)) c.in-Ok.ensures.found))

pub returns-clause-elements : goal.returns-clause-elements
returns-clause-elements c fields p =
    rewritten_elements_are (new_id c.args.map.now) fields c.args.packet.now (λ i. omega (arith, c.type_inv.packet i)) c.are_ids.ensures p

pub returns-clause-parses : goal.returns-clause-parses
returns-clause-parses c =
    let out : List ℕ = take c.put_packet.result c.put_packet.new.into in
    let are : AreBytes out = AreBytes-take c.put_packet.result c.put_packet.new.into (λ i. omega (arith, c.type_inv.into i)) in
    (c.grammar.ensures out are).1 (with_ids (new_id c.args.map.now) c.in-Ok.view, returns-clause-packet c c.in-Ok.view c.in-Ok.ensures.found)

pub returns-clause-no_longer : goal.returns-clause-no_longer
returns-clause-no_longer c =
    omega (
      arith,
      (all-written c.args.map.now c.all.result c.in-Ok.view c.args.into.now c.put_packet.new.into c.put_packet.result c.all.ensures c.are_ids.ensures c.put_packet.ensures.written).end_is,
      rewritten_len (new_id c.args.map.now) c.in-Ok.view c.args.packet.now (λ i. omega (arith, c.type_inv.packet i)) c.in-Ok.ensures.found,
    )

pub returns-clause-rest : goal.returns-clause-rest
returns-clause-rest c =
    let out : List ℕ = packet_of (with_ids (new_id c.args.map.now) c.in-Ok.view) in
    let short : length out ≤ length c.args.packet.now = rewritten_len (new_id c.args.map.now) c.in-Ok.view c.args.packet.now (λ i. omega (arith, c.type_inv.packet i)) c.in-Ok.ensures.found in
    let room : 0 + length out ≤ length c.args.into.now = omega (arith, short, c.requires.room) in
    rest_stays out c.args.into.now c.put_packet.new.into 0 c.put_packet.result room
    (all-written c.args.map.now c.all.result c.in-Ok.view c.args.into.now c.put_packet.new.into c.put_packet.result c.all.ensures c.are_ids.ensures c.put_packet.ensures.written)
