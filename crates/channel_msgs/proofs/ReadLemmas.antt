-- What a payload is, by the way it is read.
use Rattle.std.proofs.Common.{◌≡◌, ◌≢◌, ℕ, ◌-◌, ◌<◌, List, [], ◌∷◌, length, get_or, take, drop, Bool, true, false, if◌then◌else◌, Option, Some, None, option_map, option_and_then, unwrap_or, Bor, codes, refl, ap, arith}
use Rattle.std.proofs.lemmas.Bool.Decides.{nat_tests}
use Rattle.std.proofs.lemmas.Str.{IsUtf8-from_is_utf8, is_utf8-from_IsUtf8}
use Rattle.std.specs.Str.{IsUtf8, is_utf8}
use Rattle.serde_json.specs.Data.{Data, null, boolean, number, string, array, object, Members}
use Rattle.serde_json.specs.Find.{get_member, as_bool, as_str, as_object}
use Rattle.serde_json.specs.Read.{read}
use Rattle.ms_base.specs.Id.{id_of_text}
use Rattle.ms_base.specs.declared.id.Id.{Id}
use Rattle.channel_msgs.proofs.PacketLemmas.{rest_of}
use Rattle.channel_msgs.specs.Packet.{packet_in}
use Rattle.channel_msgs.specs.Read.{object_of, text_or_empty, error_named, refused_reply, reply_by, is_log_letter, message_in, message_of, id_in}
use Rattle.channel_msgs.specs.View.{refused, log, rtp}

-- ---- JSON texts

pub object_of_text : (payload : List ℕ) → IsUtf8 payload → object_of payload ≡ option_and_then as_object (read payload)
object_of_text payload h = rw (is_utf8-from_IsUtf8 payload h)

none_either_way : (b : Bool) (o : Option Data) → (b ≡ true → o ≡ None) → option_and_then as_object (if b then o else None) ≡ None
none_either_way true o h = ap (option_and_then as_object) (h refl)
none_either_way false o h = refl

pub refused_is_no_object : (payload : List ℕ) → (IsUtf8 payload → read payload ≡ None) → object_of payload ≡ None
refused_is_no_object payload h = none_either_way (is_utf8 payload) (read payload) (λ e. h (IsUtf8-from_is_utf8 payload e))

-- ---- replies

pub not_accepted : (id : ℕ) (accepted : Option Data) (fields : Members) → unwrap_or (option_and_then as_bool accepted) false ≡ false
    → reply_by id accepted fields ≡ refused_reply id (get_member (codes "error") fields) (get_member (codes "reason") fields)
not_accepted id None fields h = refl
not_accepted id (Some null) fields h = refl
not_accepted id (Some (boolean true)) fields h = cc
not_accepted id (Some (boolean false)) fields h = refl
not_accepted id (Some (number n)) fields h = refl
not_accepted id (Some (string s)) fields h = refl
not_accepted id (Some (array ds)) fields h = refl
not_accepted id (Some (object ms)) fields h = refl

pub refused_by : (id : ℕ) (error reason : Option Data) (text : List ℕ) → option_and_then as_str error ≡ Some text
    → refused_reply id error reason ≡ Some (record { id = id; answer = refused (error_named text) (text_or_empty reason) })
refused_by id None reason text h = cc
refused_by id (Some null) reason text h = cc
refused_by id (Some (boolean b)) reason text h = cc
refused_by id (Some (number n)) reason text h = cc
refused_by id (Some (string s)) reason text h = let e : s ≡ text = cc in rw e
refused_by id (Some (array ds)) reason text h = cc
refused_by id (Some (object ms)) reason text h = cc

pub reason_or_empty : (reason : Option Data) → unwrap_or (option_and_then as_str reason) [] ≡ text_or_empty reason
reason_or_empty None = refl
reason_or_empty (Some null) = refl
reason_or_empty (Some (boolean b)) = refl
reason_or_empty (Some (number n)) = refl
reason_or_empty (Some (string s)) = refl
reason_or_empty (Some (array ds)) = refl
reason_or_empty (Some (object ms)) = refl

pub now_or : (text : Option (Bor (List ℕ))) (other : Bor (List ℕ)) → (unwrap_or text other).now ≡ unwrap_or (option_map (λ t. t.now) text) other.now
now_or None other = refl
now_or (Some t) other = refl

-- ---- ids

-- an id is its bytes
pub id_of_bytes : (id : Option Id) (bytes : Option (List ℕ)) → option_map (λ i. i.0) id ≡ bytes → id ≡ option_map (λ b. record { 0 = b }) bytes
id_of_bytes None bytes h = rw (← h)
id_of_bytes (Some i) bytes h = rw (← h)

pub id_in_text : (d : Option Data) (text : List ℕ) → option_and_then as_str d ≡ Some text → id_in d ≡ option_map (λ b. record { 0 = b }) (id_of_text text)
id_in_text None text h = cc
id_in_text (Some null) text h = cc
id_in_text (Some (boolean b)) text h = cc
id_in_text (Some (number n)) text h = cc
id_in_text (Some (string s)) text h = let e : s ≡ text = cc in rw e
id_in_text (Some (array ds)) text h = cc
id_in_text (Some (object ms)) text h = cc

pub id_in_none : (d : Option Data) → option_and_then as_str d ≡ None → id_in d ≡ None
id_in_none None h = refl
id_in_none (Some null) h = refl
id_in_none (Some (boolean b)) h = refl
id_in_none (Some (number n)) h = refl
id_in_none (Some (string s)) h = cc
id_in_none (Some (array ds)) h = refl
id_in_none (Some (object ms)) h = refl

-- ---- the first byte

pub message_of_nothing : (payload : List ℕ) → length payload ≡ 0 → message_of payload ≡ None
unfolding message_of
message_of_nothing [] h = refl
message_of_nothing (c ∷ rest) h = absurd (omega arith)

pub message_of_packet : (payload : List ℕ) → 0 < length payload → get_or payload 0 0 ≡ 82
    → message_of payload ≡ option_map (λ p. rtp p.0 p.1) (packet_in payload)
unfolding message_of
message_of_packet [] h e = absurd (omega arith)
message_of_packet (c ∷ bytes) h e = grind (arith, nat_tests)

log_behind : (c : ℕ) (rest : List ℕ) → is_log_letter c ≡ true → message_of (c ∷ rest) ≡ Some (log c rest)
unfolding message_of
log_behind c rest e = grind (arith, nat_tests)

pub message_of_log : (payload rest : List ℕ) → 0 < length payload → is_log_letter (get_or payload 0 0) ≡ true → rest ≡ take (length payload - 1) (drop 1 payload)
    → message_of payload ≡ Some (log (get_or payload 0 0) rest)
message_of_log [] rest h e is = absurd (omega arith)
message_of_log (c ∷ bytes) rest h e is = rw (is, rest_of c bytes) (log_behind c bytes e)

pub message_of_json : (payload : List ℕ) → 0 < length payload → get_or payload 0 0 ≢ 82 → is_log_letter (get_or payload 0 0) ≡ false
    → message_of payload ≡ option_and_then message_in (object_of payload)
unfolding message_of
message_of_json [] h r l = absurd (omega arith)
message_of_json (c ∷ rest) h r l = grind (arith, nat_tests)
