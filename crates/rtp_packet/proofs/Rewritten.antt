-- What is rewritten: the bytes that the code leaves, and the packet that they are.
use Rattle.std.proofs.Common.{◌≡◌, ℕ, ◌+◌, ◌-◌, ◌*◌, ◌/◌, ◌^◌, ◌<◌, ◌≤◌, Bool, List, [], ◌∷◌, ◌++◌, length, get_or, set, take, drop, refl, ap, ◌∙◌, arith, length-append}
use Rattle.std.proofs.lemmas.List.{take_rest, drop_all, append-nil, length-drop, length-set, length-take}
use borrow.Rule.Slice.PartMut.{put_mid}
use Rattle.byteorder.specs.Endian.{big_bytes}
use Rattle.rtp_packet.specs.Packet.{Fields, flag, IsPacket, packet_of, first_byte, csrc_list, header_extension, padding_bytes}
use Rattle.rtp_packet.specs.Fault.{fault_of, Parses}
use Rattle.rtp_packet.specs.Rewriting.{rewritten, with_fields}
use Rattle.rtp_packet.proofs.Whole.{by_cells, flag_below, IsSound-from_parses}

-- ---- the bytes

-- a part to the end of a list, with new bytes at its front
written : (a : ℕ) (xs ys zs : List ℕ) → a ≤ length xs → ys ≡ zs ++ drop (length zs) (take (length xs - a) (drop a xs))
    → put_mid a (length xs - a) xs ys ≡ take a xs ++ (zs ++ drop (length zs) (drop a xs))
written a xs ys zs within e =
    let none : drop (length xs - a) (drop a xs) ≡ [] = drop_all (length xs - a) (drop a xs) (omega (arith, length-drop a xs)) in
    let part : ys ++ drop (length xs - a) (drop a xs) ≡ zs ++ drop (length zs) (drop a xs) =
    ap (λ (t : List ℕ). ys ++ t) none ∙ append-nil ys ∙ e ∙ ap (λ (t : List ℕ). zs ++ drop (length zs) t) (take_rest xs a) in
    ap (λ (t : List ℕ). take a xs ++ t) part

-- the bytes with a second byte, a number and a source
after_type : List ℕ → ℕ → List ℕ
after_type bytes second = set bytes 1 second

after_seq : List ℕ → ℕ → List ℕ
after_seq bytes seq = take 2 bytes ++ (big_bytes 2 seq ++ drop 2 (drop 2 bytes))

after_ssrc : List ℕ → ℕ → List ℕ
after_ssrc bytes ssrc = take 8 bytes ++ (big_bytes 4 ssrc ++ drop 4 (drop 8 bytes))

in_place : (seq ssrc payload_type : ℕ) (bytes : List ℕ) → 12 ≤ length bytes → (second : ℕ) → second ≡ 128 * (get_or bytes 1 0 / 128) + payload_type
    → after_ssrc (after_seq (after_type bytes second) seq) ssrc ≡ rewritten bytes seq ssrc payload_type
unfolding after_type after_seq after_ssrc rewritten
in_place seq ssrc payload_type bytes long =
    by_cells (λ (xs : List ℕ). (second : ℕ) → second ≡ 128 * (get_or xs 1 0 / 128) + payload_type
    → after_ssrc (after_seq (after_type xs second) seq) ssrc ≡ rewritten xs seq ssrc payload_type)
    (λ b0 b1 b2 b3 b4 b5 b6 b7 b8 b9 b10 b11 rest second e. ap (λ (n : ℕ). b0 ∷ n ∷ big_bytes 2 seq ++ (b4 ∷ b5 ∷ b6 ∷ b7 ∷ []) ++ big_bytes 4 ssrc ++ rest) e) bytes long

after_seq-len : (xs : List ℕ) (seq : ℕ) → 4 ≤ length xs → length (after_seq xs seq) ≡ length xs
unfolding after_seq
after_seq-len xs seq long =
    omega (arith, length-append (take 2 xs) (big_bytes 2 seq ++ drop 2 (drop 2 xs)), length-take 2 xs, length-drop 2 (drop 2 xs), length-drop 2 xs)

-- what the three writes leave
pub overwritten : (bytes two four : List ℕ) (seq ssrc payload_type second : ℕ) → 12 ≤ length bytes
    → second ≡ 128 * (get_or bytes 1 0 / 128) + payload_type
    → (let xs = set bytes 1 second in two ≡ big_bytes 2 seq ++ drop 2 (take (length xs - 2) (drop 2 xs)))
    → (let xs = set bytes 1 second in let ys = put_mid 2 (length xs - 2) xs two in four ≡ big_bytes 4 ssrc ++ drop 4 (take (length ys - 8) (drop 8 ys)))
    → (let xs = set bytes 1 second in let ys = put_mid 2 (length xs - 2) xs two in put_mid 8 (length ys - 8) ys four ≡ rewritten bytes seq ssrc payload_type)
unfolding after_type after_seq after_ssrc
overwritten bytes two four seq ssrc payload_type second long e e2 e4 =
    let xs : List ℕ = set bytes 1 second in
    let ys : List ℕ = put_mid 2 (length xs - 2) xs two in
    let xs_len : length xs ≡ length bytes = length-set bytes 1 second in
    let ys_is : ys ≡ after_seq xs seq = written 2 xs two (big_bytes 2 seq) (omega arith) e2 in
    let ys_len : length ys ≡ length bytes = ap length ys_is ∙ after_seq-len xs seq (omega arith) ∙ xs_len in
    let zs_is : put_mid 8 (length ys - 8) ys four ≡ after_ssrc ys ssrc = written 8 ys four (big_bytes 4 ssrc) (omega arith) e4 in
    zs_is ∙ ap (λ (t : List ℕ). after_ssrc t ssrc) ys_is ∙ in_place seq ssrc payload_type bytes long second e

-- ---- the packet

-- the faults are told by the first byte, by how many bytes there are and by what follows the fixed header
pub fault_of-rewritten : (seq ssrc payload_type : ℕ) (bytes : List ℕ) → 12 ≤ length bytes → fault_of (rewritten bytes seq ssrc payload_type) ≡ fault_of bytes
unfolding fault_of rewritten
fault_of-rewritten seq ssrc payload_type bytes long =
    by_cells (λ (xs : List ℕ). fault_of (rewritten xs seq ssrc payload_type) ≡ fault_of xs) (λ b0 b1 b2 b3 b4 b5 b6 b7 b8 b9 b10 b11 rest. refl) bytes long

pub parses_rewritten : (seq ssrc payload_type : ℕ) (bytes : List ℕ) → Parses bytes → Parses (rewritten bytes seq ssrc payload_type)
parses_rewritten seq ssrc payload_type bytes parses =
    fault_of-rewritten seq ssrc payload_type bytes (IsSound-from_parses bytes parses).whole_header ∙ parses

kept : (b : Bool) (t : ℕ) → t < 128 → 128 * ((128 * flag b + t) / 128) ≡ 128 * flag b
kept b t lt = omega (arith, flag_below b)

rewritten-packet_of : (f : Fields) (seq ssrc payload_type : ℕ) → f.payload_type < 128 → rewritten (packet_of f) seq ssrc payload_type ≡ packet_of (with_fields f seq ssrc payload_type)
unfolding rewritten
rewritten-packet_of f seq ssrc payload_type small =
    ap (λ (n : ℕ). first_byte f ∷ (n + payload_type) ∷ big_bytes 2 seq ++ big_bytes 4 f.timestamp ++ big_bytes 4 ssrc
    ++ (csrc_list f.csrcs ++ (header_extension f.extension ++ (f.payload ++ padding_bytes f.padding)))) (kept f.marker f.payload_type small)

pub packet_rewritten : (f : Fields) (bytes : List ℕ) (seq ssrc payload_type : ℕ) → seq < 2 ^ 16 → ssrc < 2 ^ 32 → payload_type < 128
    → IsPacket f bytes → IsPacket (with_fields f seq ssrc payload_type) (rewritten bytes seq ssrc payload_type)
packet_rewritten f bytes seq ssrc payload_type s r t p = record {
  fits = record {
    payload_type = t;
    seq = s;
    timestamp = p.fits.timestamp;
    ssrc = r;
    csrc_count = p.fits.csrc_count;
    csrcs = p.fits.csrcs;
    extension = p.fits.extension;
    padding = p.fits.padding;
  };
  written = ap (λ (b : List ℕ). rewritten b seq ssrc payload_type) p.written ∙ rewritten-packet_of f seq ssrc payload_type p.fits.payload_type;
}
