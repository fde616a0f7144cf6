-- Frames that are written in front of a payload that lies in its place.
use Rattle.std.proofs.Common.{◌≡◌, ℕ, ◌+◌, ◌≤◌, List, ◌++◌, length, take, drop, sym, ap, ◌∙◌, arith}
use Rattle.std.proofs.lemmas.List.{drop_all, append-nil, drop_at, drop-drop, length-take-le, length-append, length-drop}
use Rattle.std.proofs.Math.Seq.{take-append-add}
use Rattle.byteorder.specs.Endian.{little_bytes}
use Rattle.ms_base.specs.declared.id.Id.{Id}
use Rattle.channel_frames.specs.Frames.{frame}
use Rattle.channel_msgs.specs.Packet.{packet_head, packet_payload}

-- a place that is written to its end
written-all : (n : ℕ) (xs ys old : List ℕ) → length old ≡ n → ys ≡ xs ++ drop n old → ys ≡ xs
written-all n xs ys old within e = e ∙ ap (λ (t : List ℕ). xs ++ t) (drop_all n old (omega arith)) ∙ append-nil xs

-- the frame of what lies behind the place of its length
pub framed : (old prefix body bytes : List ℕ) (n : ℕ) → length old ≡ 4 → prefix ≡ little_bytes 4 n ++ drop 4 old → n ≤ length body → take n body ≡ bytes
    → take (4 + n) (prefix ++ body) ≡ frame bytes
framed old prefix body bytes n four is room there =
    let whole : prefix ≡ little_bytes 4 n = written-all 4 (little_bytes 4 n) prefix old four is in
    let size : length prefix ≡ 4 = ap length whole in
    let len : n ≡ length bytes = sym (length-take-le n body room) ∙ ap length there in
    ap (λ k. take (k + n) (prefix ++ body)) (sym size)
    ∙ (take-append-add prefix body n
    ∙ (ap (λ (t : List ℕ). prefix ++ t) there ∙ ap (λ (t : List ℕ). t ++ bytes) (whole ∙ ap (little_bytes 4) len)))

-- what lies behind the room for the head
pub behind-room : (n m : ℕ) (front back whole : List ℕ) → whole ≡ front ++ back → length front ≡ n → drop (n + m) whole ≡ drop m back
behind-room n m front back whole is len =
    ap (drop (n + m)) is ∙ (sym (drop-drop m n (front ++ back)) ∙ ap (drop m) (drop_at front back n len))

-- and of a packet behind the room for its head
pub packet-framed : (id : Id) (old prefix back body buffer : List ℕ) (len : ℕ) → length old ≡ 4 → prefix ≡ little_bytes 4 (37 + len) ++ drop 4 old
    → buffer ≡ old ++ back → length body ≡ length back → body ≡ packet_head id ++ drop 37 back → 37 + len ≤ length back
    → take (41 + len) (prefix ++ body) ≡ frame (packet_payload id (take len (drop 41 buffer)))
packet-framed id old prefix back body buffer len four is split same written room =
    let head : length (packet_head id) ≡ 37 =
    omega (arith, ap length written, length-append (packet_head id) (drop 37 back), length-drop 37 back) in
    let packet : drop 41 buffer ≡ drop 37 back = behind-room 4 37 old back buffer split four in
    let there : take (37 + len) body ≡ packet_payload id (take len (drop 41 buffer)) =
    ap (take (37 + len)) written
    ∙ (ap (λ k. take (k + len) (packet_head id ++ drop 37 back)) (sym head)
    ∙ (take-append-add (packet_head id) (drop 37 back) len ∙ ap (λ (t : List ℕ). packet_head id ++ take len t) (sym packet))) in
    let sum : 41 + len ≡ 4 + (37 + len) = omega arith in
    ap (λ k. take k (prefix ++ body)) sum
    ∙ framed old prefix body (packet_payload id (take len (drop 41 buffer))) (37 + len) four is (omega arith) there
