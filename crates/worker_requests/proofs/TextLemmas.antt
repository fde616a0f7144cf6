-- Texts that JSON writes as they are, the text of a tuple's notice, and what is put into a buffer part by part.
use Rattle.std.proofs.Common.{◌≡◌, ℕ, ◌+◌, ◌-◌, ◌%◌, ◌/◌, ◌^◌, ◌<◌, ◌≤◌, List, [], ◌∷◌, ◌++◌, length, take, drop, nat_lt, Bool, true, false, cond, Some, codes, decimal, refl, sym, ap, ap₂, ◌∙◌, arith, append_assoc}
use Rattle.std.proofs.lemmas.Bool.{ltb-false}
use Rattle.std.proofs.lemmas.Fmt.{decimal_by_steps}
use Rattle.std.proofs.lemmas.List.{drop-drop}
use Rattle.std.proofs.lemmas.List.Concat.{flat_map-append}
use Rattle.std.proofs.lemmas.Slice.{take-put_mid, drop-put_mid}
use Rattle.std.specs.Net.Text.{dotted_text}
use borrow.Rule.Slice.PartMut.{put_mid}
use Rattle.json.specs.Print.{escape_byte, escape}
use Rattle.json.proofs.Printed.Strings.{escape_byte_plain}
use Rattle.serde_json.proofs.OnLiterals.{serde_json_on_literals}
use Rattle.serde_json.specs.Data.{unsigned, number, string, object, member, no_members}
use Rattle.serde_json.specs.Written.{compact_text}
use Rattle.ms_base.specs.Id.{lower_hex, hyphen, id_text}
use Rattle.ms_base.specs.Words.{ip_text}
use Rattle.ms_base.specs.declared.id.Id.{Id}
use Rattle.ms_base.specs.declared.tuple.Tuple.{Tuple}
use Rattle.channel_msgs.specs.Json.{notice_json}
use Rattle.worker_requests.specs.declared.notice.WorkerNotice.TheVariants.{TupleLearnt}
use Rattle.worker_requests.specs.Said.{notice_payload, Puts}

-- ---- texts without an escape

plain_then : (xs ys : List ℕ) → escape xs ≡ xs → escape ys ≡ ys → escape (xs ++ ys) ≡ xs ++ ys
plain_then xs ys p q = flat_map-append escape_byte xs ys ∙ ap₂ (λ (a b : List ℕ). a ++ b) p q

digit_plain : (n : ℕ) → n < 10 → escape ((48 + n) ∷ []) ≡ (48 + n) ∷ []
digit_plain n small = ap (λ (b : List ℕ). b ++ []) (escape_byte_plain (48 + n) (λ e. omega arith) (λ e. omega arith) (omega arith))

decimal_plain : (n : ℕ) → n < 2 ^ 64 → escape (decimal n) ≡ decimal n
decimal_plain n small =
    decimal_by_steps (λ _ ds. escape ds ≡ ds) digit_plain (λ m ds _ before. plain_then ds ((48 + m % 10) ∷ []) before (digit_plain (m % 10) (omega arith))) n small

dot_plain : escape (codes ".") ≡ codes "."
dot_plain = ap (λ (b : List ℕ). b ++ []) (escape_byte_plain 46 (λ e. omega arith) (λ e. omega arith) (omega arith))

pub dotted_plain : (a b c d : ℕ) → a < 2 ^ 8 → b < 2 ^ 8 → c < 2 ^ 8 → d < 2 ^ 8 → escape (dotted_text a b c d) ≡ dotted_text a b c d
dotted_plain a b c d fa fb fc fd =
    let part : (n : ℕ) → n < 2 ^ 8 → escape (decimal n) ≡ decimal n = λ n small. decimal_plain n (omega arith) in
    plain_then _ _ (plain_then _ _ (plain_then _ _ (plain_then _ _ (plain_then _ _ (plain_then _ _ (part a fa) dot_plain) (part b fb)) dot_plain) (part c fc)) dot_plain) (part d fd)

hex_plain : (b : Bool) (n : ℕ) → nat_lt n 10 ≡ b → n < 16 → escape_byte (cond b (48 + n) (97 + n - 10)) ≡ cond b (48 + n) (97 + n - 10) ∷ []
hex_plain true n e small = escape_byte_plain (48 + n) (λ q. omega arith) (λ q. omega arith) (omega arith)
hex_plain false n e small = let high : 10 ≤ n = ltb-false n 10 e in escape_byte_plain (97 + n - 10) (λ q. omega arith) (λ q. omega arith) (omega arith)

lower_hex_plain : (bytes : List ℕ) → escape (lower_hex bytes) ≡ lower_hex bytes
lower_hex_plain [] = refl
lower_hex_plain (b ∷ bs) =
    ap₂ (λ (x y : List ℕ). x ++ y) (hex_plain _ (b / 16 % 16) refl (omega arith))
    (ap₂ (λ (x y : List ℕ). x ++ y) (hex_plain _ (b % 16) refl (omega arith)) (lower_hex_plain bs))

hyphened_plain : (bytes : List ℕ) → escape (hyphen ∷ lower_hex bytes) ≡ hyphen ∷ lower_hex bytes
hyphened_plain bytes = ap₂ (λ (x y : List ℕ). x ++ y) (escape_byte_plain 45 (λ e. omega arith) (λ e. omega arith) (omega arith)) (lower_hex_plain bytes)

pub id_plain : (bytes : List ℕ) → escape (id_text bytes) ≡ id_text bytes
unfolding id_text
id_plain bytes =
    plain_then _ _ (plain_then _ _ (plain_then _ _ (plain_then _ _ (lower_hex_plain (take 4 bytes)) (hyphened_plain _)) (hyphened_plain _)) (hyphened_plain _)) (hyphened_plain _)

-- ---- the notice of a tuple

abbrev pub in_parts : List ℕ → ℕ → List ℕ → List ℕ
in_parts ip port id =
    (((((codes "{\"data\":{\"tuple\":{\"remoteIp\":\"" ++ ip) ++ codes "\",\"remotePort\":") ++ decimal port) ++ codes "}},\"event\":\"tuple\",\"targetId\":\"") ++ id) ++ codes "\"}"

text_in_parts : (ip : List ℕ) (port : ℕ) (id : List ℕ) → escape ip ≡ ip → escape id ≡ id
    → in_parts ip port id
    ≡ compact_text (notice_json (record {
      target = id;
      event = codes "tuple";
      content = Some (object (member (codes "tuple") (object (member (codes "remoteIp") (string ip) (member (codes "remotePort") (number (unsigned port)) no_members))) no_members));
    }))
unfolding serde_json_on_literals
text_in_parts ip port id p q = simp (append_assoc, p, q)

pub payload_in_parts : (transport : Id) (tuple : Tuple) (id : List ℕ) → id ≡ id_text transport.0 → escape (ip_text tuple.ip) ≡ ip_text tuple.ip
    → in_parts (ip_text tuple.ip) tuple.port id ≡ notice_payload (TupleLearnt transport tuple)
payload_in_parts transport tuple id is plain =
    ap (in_parts (ip_text tuple.ip) tuple.port) is ∙ text_in_parts (ip_text tuple.ip) tuple.port (id_text transport.0) plain (id_plain transport.0)

-- ---- one part behind another

-- bytes were written over a part
pub put_puts : (old bytes now : List ℕ) (at k : ℕ) → k ≡ length bytes → now ≡ bytes → at + length bytes ≤ length old → Puts bytes old (put_mid at k old now) at (at + length bytes)
put_puts old bytes now at k size same room =
    record {
      front = take-put_mid at k old now (at + length bytes) (omega (arith, ap length same)) (omega arith) ∙ ap (λ (xs : List ℕ). take at old ++ xs) same;
      behind = drop-put_mid at k old now (at + length bytes) (omega arith) (omega arith) (omega (arith, ap length same));
      order = omega arith;
    }

pub puts_then : {a b old mid new : List ℕ} {at m end : ℕ} → Puts a old mid at m → Puts b mid new m end → Puts (a ++ b) old new at end
puts_then {a} {b} {old} {mid} {new} {at} {m} {end} v w =
    let over : m + (end - m) ≡ end = omega (arith, w.order) in
    let rest : (xs : List ℕ) → drop end xs ≡ drop (end - m) (drop m xs) = λ xs. ap (λ (n : ℕ). drop n xs) (sym over) ∙ sym (drop-drop (end - m) m xs) in
    record {
      front = w.front ∙ ap (λ (xs : List ℕ). xs ++ b) v.front ∙ append_assoc (take at old) a b;
      behind = w.behind ∙ rest mid ∙ ap (drop (end - m)) v.behind ∙ sym (rest old);
      order = omega (arith, v.order, w.order);
    }
