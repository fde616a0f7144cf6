-- What a payload is, by cases on the value that it reads as: a message of a worker, or a request to one.
-- This project's own.
use Rattle.std.specs.Prelude.{ℕ, ◌==◌, List, [], ◌∷◌, Bool, true, ◌&&◌, ◌||◌, nat_le, if◌then◌else◌, Option, Some, None, option_map, option_and_then, codes, bytes_eq}
use Rattle.std.specs.Str.{is_utf8}
use Rattle.serde_json.specs.Data.{unsigned, Data, boolean, number, string, Members}
use Rattle.serde_json.specs.Find.{get_member, as_object}
use Rattle.serde_json.specs.Read.{read}
use Rattle.ms_base.specs.Id.{id_of_text}
use Rattle.ms_base.specs.declared.id.Id.{Id}
use Rattle.ms_base.specs.declared.outcome.WorkerError.{WorkerError}
use Rattle.ms_base.specs.declared.outcome.WorkerError.TheVariants as error
use Rattle.channel_msgs.specs.Packet.{packet_letter, packet_in}
use Rattle.channel_msgs.specs.View.{MessageView, reply, notice, log, rtp, ReplyView, accepted, refused, NoticeView, RequestView}
use Rattle.channel_msgs.specs.declared.message.Ids.{Ids}

-- ---- JSON (RFC 8259)

-- the value that a payload is the text of, if it is one
abbrev pub value_of : List ℕ → Option Data
value_of payload = if is_utf8 payload then read payload else None

-- the members of the object that a payload is the text of, if it is one
abbrev pub object_of : List ℕ → Option Members
object_of payload = option_and_then as_object (value_of payload)

-- a text where there is one, else the empty one
abbrev pub text_or_empty : Option Data → List ℕ
text_or_empty (Some (string text)) = text
text_or_empty other = []

-- ---- the id of a request

-- the greatest one
abbrev pub max_id : ℕ
max_id = 4294967295

abbrev pub is_request_id : ℕ → Bool
is_request_id n = nat_le 1 n && nat_le n max_id

-- a whole number that is the id of a request
abbrev pub request_id : Data → Option ℕ
request_id (number (unsigned n)) = if is_request_id n then Some n else None
request_id other = None

-- ---- replies

-- which error a worker names: every other text than `TypeError` is `Error`
abbrev pub error_named : List ℕ → WorkerError
error_named text = if bytes_eq text (codes "TypeError") then error.TypeError else error.Error

abbrev pub accepted_reply : ℕ → Option Data → ReplyView
accepted_reply id content = record { id = id; answer = accepted content }

-- a reply that doesn't accept refuses where `error` is a text; a `reason` that is no text is the empty one
abbrev pub refused_reply : ℕ → Option Data → Option Data → Option ReplyView
refused_reply id (Some (string text)) reason = Some (record { id = id; answer = refused (error_named text) (text_or_empty reason) })
refused_reply id other reason = None

-- a reply accepts where `accepted` is true
abbrev pub reply_by : ℕ → Option Data → Members → Option ReplyView
reply_by id (Some (boolean true)) fields = Some (accepted_reply id (get_member (codes "data") fields))
reply_by id other fields = refused_reply id (get_member (codes "error") fields) (get_member (codes "reason") fields)

abbrev pub reply_in : ℕ → Members → Option ReplyView
reply_in id fields = reply_by id (get_member (codes "accepted") fields) fields

-- ---- notices

-- of an object, an event, and a content that may be left out
abbrev pub notice_by : Option Data → Option Data → Option Data → Option NoticeView
notice_by (Some (string target)) (Some (string event)) content = Some (record { target = target; event = event; content = content })
notice_by target event content = None

abbrev pub notice_in : Members → Option NoticeView
notice_in fields = notice_by (get_member (codes "targetId") fields) (get_member (codes "event") fields) (get_member (codes "data") fields)

-- ---- messages

-- an object with an id is a reply where the id is that of a request; one without is a notice
abbrev pub message_by : Option Data → Members → Option MessageView
message_by (Some id) fields = option_and_then (λ n. option_map reply (reply_in n fields)) (request_id id)
message_by None fields = option_map notice (notice_in fields)

abbrev pub message_in : Members → Option MessageView
message_in fields = message_by (get_member (codes "id") fields) fields

-- the letters of a log line: `D`, `W`, `E` and `X`
abbrev pub is_log_letter : ℕ → Bool
is_log_letter c = (c == 68) || (c == 87) || (c == 69) || (c == 88)

-- the message that a payload is: a packet behind the letter `R`, a log line behind its letter, else JSON
unfoldable pub message_of : List ℕ → Option MessageView
message_of [] = None
message_of (c ∷ rest) =
    if c == packet_letter then option_map (λ p. rtp p.0 p.1) (packet_in (c ∷ rest))
    else if is_log_letter c then Some (log c rest)
    else option_and_then message_in (object_of (c ∷ rest))

-- ---- requests

-- the id whose text this is, in either case of letters
abbrev pub id_in : Option Data → Option Id
id_in (Some (string text)) = option_map (λ bytes. record { 0 = bytes }) (id_of_text text)
id_in other = None

-- the ids that `internal` has, which may be left out
abbrev pub ids_in : Option Members → Ids
ids_in (Some fields) =
    record {
      router = id_in (get_member (codes "routerId") fields);
      transport = id_in (get_member (codes "transportId") fields);
      producer = id_in (get_member (codes "producerId") fields);
      consumer = id_in (get_member (codes "consumerId") fields);
    }
ids_in None = record { router = None; transport = None; producer = None; consumer = None }

abbrev pub request_with : Members → ℕ → RequestView
request_with fields id =
    record {
      id = id;
      method = text_or_empty (get_member (codes "method") fields);
      ids = ids_in (option_and_then as_object (get_member (codes "internal") fields));
      content = get_member (codes "data") fields;
    }

-- an object is a request where its `id` is that of one
abbrev pub request_in : Members → Option RequestView
request_in fields = option_map (request_with fields) (option_and_then request_id (get_member (codes "id") fields))

-- the request that a payload is
unfoldable pub request_of : List ℕ → Option RequestView
request_of payload = option_and_then request_in (object_of payload)
