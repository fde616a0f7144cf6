-- A request without a content is short.
use Rattle.std.proofs.Common.{◌≡◌, ◌≤◌, ◌<◌, ℕ, ◌+◌, ◌*◌, ◌/◌, ◌%◌, ◌^◌, List, [], ◌∷◌, ◌++◌, length, take, drop, length-drop, length-take, nat_lt, Bool, true, false, cond, Option, Some, None, IfSome, option_map, codes, decimal, ap, arith}
use Rattle.std.proofs.lemmas.Fmt.{length-decimal-le}
use Rattle.std.proofs.lemmas.List.Concat.{flat_map-cons}
use Rattle.std.proofs.Math.ListN.{length-append}
use Rattle.std.specs.Char.{digit_char}
use Rattle.json.specs.Print.{escape, escape_byte, escape_letter, quoted}
use Rattle.serde_json.specs.Data.{Data, Members, no_members, member, number, string, unsigned}
use Rattle.serde_json.specs.Written.{compact_text, comma_if, members_text}
use Rattle.ms_base.specs.Id.{hyphen, id_text, lower_hex}
use Rattle.ms_base.specs.declared.id.Id.{Id}
use Rattle.channel_frames.specs.Frames.{max_payload}
use Rattle.channel_msgs.specs.Json.{id_json, internal_json, internal_members, optional}
use Rattle.channel_msgs.specs.declared.message.Ids.{Ids}
use Rattle.worker_requests.specs.declared.asked.Asked.{Asked}
use Rattle.worker_requests.specs.declared.asked.Asked.TheVariants as asked
use Rattle.request_contents.specs.Methods.{method_of}
use Rattle.host_model.specs.Answer.{payload_of}

-- ---- the text of an id

hex_length : (bytes : List ℕ) → length (lower_hex bytes) ≡ 2 * length bytes
hex_length [] = omega arith
hex_length (b ∷ bytes) = omega (arith, hex_length bytes)

behind_length : (text bytes : List ℕ) → length (text ++ hyphen ∷ lower_hex bytes) ≡ length text + 1 + 2 * length bytes
behind_length text bytes = omega (arith, length-append text (hyphen ∷ lower_hex bytes), hex_length bytes)

groups_length : (a b c d e : List ℕ)
    → length (lower_hex a ++ hyphen ∷ lower_hex b ++ hyphen ∷ lower_hex c ++ hyphen ∷ lower_hex d ++ hyphen ∷ lower_hex e)
    ≡ 2 * (length a + length b + length c + length d + length e) + 4
groups_length a b c d e =
    omega (
      arith,
      hex_length a,
      behind_length (lower_hex a) b,
      behind_length (lower_hex a ++ hyphen ∷ lower_hex b) c,
      behind_length (lower_hex a ++ hyphen ∷ lower_hex b ++ hyphen ∷ lower_hex c) d,
      behind_length (lower_hex a ++ hyphen ∷ lower_hex b ++ hyphen ∷ lower_hex c ++ hyphen ∷ lower_hex d) e,
    )

pub id_text_short : (bytes : List ℕ) → length bytes ≡ 16 → length (id_text bytes) ≤ 36
unfolding id_text
id_text_short bytes len =
    omega (
      arith,
      len,
      groups_length (take 4 bytes) (take 2 (drop 4 bytes)) (take 2 (drop 6 bytes)) (take 2 (drop 8 bytes)) (drop 10 bytes),
      length-take 4 bytes,
      length-take 2 (drop 4 bytes),
      length-take 2 (drop 6 bytes),
      length-take 2 (drop 8 bytes),
      length-drop 10 bytes,
    )

-- ---- escapes

escape_byte_short : (x : ℕ) → length (escape_byte x) ≤ 6
unfolding escape_byte
escape_byte_short x = at (nat_lt 0 (escape_letter x)) (nat_lt x 32)
  where
    at : (b c : Bool) → length (cond b (92 ∷ escape_letter x ∷ []) (cond c (92 ∷ 117 ∷ 48 ∷ 48 ∷ digit_char (x / 16) ∷ digit_char (x % 16) ∷ []) (x ∷ []))) ≤ 6
    at true c = omega arith
    at false true = omega arith
    at false false = omega arith

escape_short : (s : List ℕ) → length (escape s) ≤ 6 * length s
escape_short [] = omega arith
escape_short (x ∷ xs) =
    omega (arith, ap length (flat_map-cons escape_byte x xs), length-append (escape_byte x) (escape xs), escape_byte_short x, escape_short xs)

quoted_short : (s : List ℕ) → length (quoted s) ≤ 6 * length s + 2
quoted_short s = omega (arith, length-append (escape s) (34 ∷ []), escape_short s)

-- ---- members

comma_short : (later : Bool) → length (comma_if later) ≤ 1
comma_short true = omega arith
comma_short false = omega arith

member_short : (later : Bool) (k : List ℕ) (d : Data) (ms : Members) (n m : ℕ) → length (compact_text d) ≤ n → length (members_text true ms) ≤ m
    → length (members_text later (member k d ms)) ≤ 6 * length k + 4 + n + m
member_short later k d ms n m h l =
    omega (
      arith,
      h,
      l,
      comma_short later,
      quoted_short k,
      length-append (comma_if later) (quoted k ++ 58 ∷ (compact_text d ++ members_text true ms)),
      length-append (quoted k) (58 ∷ (compact_text d ++ members_text true ms)),
      length-append (compact_text d) (members_text true ms),
    )

id_short : (later : Bool) (key : List ℕ) (id : Option Id) (ms : Members) (m : ℕ) → length key ≤ 11 → IfSome id (λ id. length (id_text id.0) ≤ 36)
    → ((b : Bool) → length (members_text b ms) ≤ m) → length (members_text later (optional key (option_map id_json id) ms)) ≤ 300 + m
id_short later key None ms m few h l = omega (arith, l later)
id_short later key (Some id) ms m few h l =
    omega (arith, few, h, member_short later key (id_json id) ms (6 * 36 + 2) m (omega (arith, h, quoted_short (id_text id.0))) (l true))

pub record AreShort (ids : Ids) : Type 0 where
  pub router : IfSome ids.router (λ id. length (id_text id.0) ≤ 36)
  pub transport : IfSome ids.transport (λ id. length (id_text id.0) ≤ 36)
  pub producer : IfSome ids.producer (λ id. length (id_text id.0) ≤ 36)
  pub consumer : IfSome ids.consumer (λ id. length (id_text id.0) ≤ 36)

end_short : (b : Bool) → length (members_text b no_members) ≤ 1
end_short b = omega arith

ids_short : (ids : Ids) → AreShort ids → (later : Bool) → length (members_text later (internal_members ids)) ≤ 1201
ids_short ids h later =
    id_short later (codes "consumerId") ids.consumer _ 901 (omega arith) h.consumer
    (λ b.
    id_short b (codes "producerId") ids.producer _ 601 (omega arith) h.producer
    (λ c.
    id_short c (codes "routerId") ids.router _ 301 (omega arith) h.router
    (λ d. id_short d (codes "transportId") ids.transport no_members 1 (omega arith) h.transport end_short)))

-- ---- methods

method_short : (a : Asked) → length (method_of a) ≤ 40
method_short (asked.CreateRouter ids) = omega arith
method_short (asked.CloseRouter ids) = omega arith
method_short (asked.CreatePlainTransport ids) = omega arith
method_short (asked.CreatePipeTransport ids) = omega arith
method_short (asked.CreateDirectTransport ids) = omega arith
method_short (asked.CloseTransport ids) = omega arith
method_short (asked.Connect ids) = omega arith
method_short (asked.Produce ids) = omega arith
method_short (asked.Consume ids) = omega arith
method_short (asked.CloseProducer ids) = omega arith
method_short (asked.PauseProducer ids) = omega arith
method_short (asked.ResumeProducer ids) = omega arith
method_short (asked.CloseConsumer ids) = omega arith
method_short (asked.PauseConsumer ids) = omega arith
method_short (asked.ResumeConsumer ids) = omega arith

-- ---- all of it

payload_short : (method : List ℕ) (ids : Ids) (id : ℕ) → length method ≤ 40 → AreShort ids → id < 2 ^ 32 → length (payload_of method ids None id) ≤ 4000
payload_short method ids id m h small =
    let digits : length (decimal id) ≤ 10 = length-decimal-le 10 id (omega arith) (omega arith) (omega arith) in
    let text : length (quoted method) ≤ 242 = omega (arith, quoted_short method, m) in
    let front : Members = member (codes "method") (string method) no_members in
    let inner : Members = member (codes "internal") (internal_json ids) front in
    let last : length (members_text true front) ≤ 400 = omega (arith, member_short true (codes "method") (string method) no_members 242 1 text (end_short true)) in
    let named : length (compact_text (internal_json ids)) ≤ 1202 = omega (arith, ids_short ids h false) in
    let internal : length (members_text true inner) ≤ 2000 = omega (arith, member_short true (codes "internal") (internal_json ids) front 1202 400 named last) in
    omega (arith, member_short false (codes "id") (number (unsigned id)) inner 10 2000 digits internal)

pub asked_short : (a : Asked) (ids : Ids) (id : ℕ) → AreShort ids → id < 2 ^ 32 → length (payload_of (method_of a) ids None id) ≤ max_payload
asked_short a ids id h small = omega (arith, payload_short (method_of a) ids id (method_short a) h small)
