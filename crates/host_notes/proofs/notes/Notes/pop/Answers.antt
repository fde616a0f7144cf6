use Rattle.std.proofs.Common.{◌≡◌, ◌++◌, ◌+◌, length, length-append, ap, List, ℕ, arith}
use Rattle.channel_msgs.specs.Packet.{packet_payload}
use Rattle.host_notes.specs.Sent.{sent_in}
use Rattle.host_notes.proofs.NotesLemmas.{indexed-cut, indexed-popped, sends-nothing}
use Rattle.host_notes.proofs.notes.Notes.pop.Goals as goal

pub invariant_of-self-in-Sent : goal.invariant_of-self-in-Sent
invariant_of-self-in-Sent c =
    indexed-cut c.self.inside.items.items c.pop.new.self.items c.in-Some.last c.self.inside.places c.self.inside.sent c.cut.new.self c.in-Sent.worker c.in-Sent.payload
    (4 + c.len.result)
    c.in-Some.ensures.items (ap sent_in c.in-Sent.is) (ap (λ (n : ℕ). 4 + n) c.len.ensures)
    c.self.invariant c.cut.ensures

pub invariant_of-self-in-SentRtp : goal.invariant_of-self-in-SentRtp
invariant_of-self-in-SentRtp c =
    let head : length c.packet_head-head.result ≡ 37 = omega arith in
    let size : 41 + c.len-in-SentRtp.result ≡ 4 + length (packet_payload c.in-SentRtp.id c.in-SentRtp.packet) =
    omega (arith, head, length-append c.packet_head-head.result c.in-SentRtp.packet, ap (λ (b : List ℕ). length (b ++ c.in-SentRtp.packet)) c.packet_head-head.ensures, c.len-in-SentRtp.ensures) in
    indexed-cut c.self.inside.items.items c.pop.new.self.items c.in-Some.last c.self.inside.places c.self.inside.sent c.cut-in-SentRtp.new.self c.in-SentRtp.worker
    (packet_payload c.in-SentRtp.id c.in-SentRtp.packet) _
    c.in-Some.ensures.items (ap sent_in c.in-SentRtp.is) size c.self.invariant c.cut-in-SentRtp.ensures

pub invariant_of-self-in_default-last : goal.invariant_of-self-in_default-last
invariant_of-self-in_default-last c =
    indexed-popped c.self.inside.items.items c.pop.new.self.items c.in-Some.last c.self.inside.places c.self.inside.sent c.in-Some.ensures.items
    (sends-nothing c.in-Some.last c.in_default-last.not-Sent c.in_default-last.not-SentRtp)
    c.self.invariant
