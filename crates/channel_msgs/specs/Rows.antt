-- Worked payloads: what their definitions come to.
use Rattle.std.specs.Prelude.{◌≡◌, ℕ, List, [], ◌∷◌, ◌++◌, Some, None, codes, refl}
use Rattle.std.specs.Fmt.{digits}
use Rattle.std.specs.Char.{encode_utf8}
use Rattle.std.specs.Str.{chars, is_utf8}
use Rattle.serde_json.proofs.OnLiterals.{serde_json_on_literals}
use Rattle.serde_json.specs.Data.{unsigned, number, object, member, no_members}
use Rattle.serde_json.specs.Written.{compact_text}
use Rattle.ms_base.specs.Id.{id_bytes, id_text, id_of_text, is_id_text}
use Rattle.ms_base.specs.declared.id.Id.{Id}
use Rattle.ms_base.specs.declared.outcome.WorkerError.TheVariants as error
use Rattle.channel_msgs.specs.Json.{request_json, reply_json, notice_json}
use Rattle.channel_msgs.specs.Packet.{packet_in, packet_payload}
use Rattle.channel_msgs.specs.Read.{message_of, request_of}
use Rattle.channel_msgs.specs.View.{RequestView, ReplyView, accepted, refused, NoticeView, reply, notice, log, rtp}

-- ---- requests

abbrev pub second : Id
second = record { 0 = id_bytes 7 2 }

abbrev pub a_request : RequestView
a_request = record {
  id = 1;
  method = codes "worker.createRouter";
  ids = record { router = Some second; transport = None; producer = None; consumer = None };
  content = None;
}

abbrev pub a_request_text : List ℕ
a_request_text = codes "{\"id\":1,\"internal\":{\"routerId\":\"00000000-0000-4007-8000-000000000002\"},\"method\":\"worker.createRouter\"}"

pub a_request_is_written : compact_text (request_json a_request) ≡ a_request_text
unfolding digits id_bytes id_text serde_json_on_literals
a_request_is_written = refl

pub a_request_is_read : request_of a_request_text ≡ Some a_request
unfolding request_of digits id_bytes id_text id_of_text is_id_text chars encode_utf8 is_utf8 serde_json_on_literals
a_request_is_read = refl

pub a_request_of_an_id_alone : request_of (codes "{\"id\":7,\"internal\":{\"routerId\":\"x\"},\"method\":1}")
    ≡ Some (record { id = 7; method = []; ids = record { router = None; transport = None; producer = None; consumer = None }; content = None })
unfolding request_of digits id_of_text is_id_text chars encode_utf8 is_utf8 serde_json_on_literals
a_request_of_an_id_alone = refl

pub no_request_of_the_id_0 : request_of (codes "{\"id\":0}") ≡ None
unfolding request_of digits chars encode_utf8 is_utf8 serde_json_on_literals
no_request_of_the_id_0 = refl

-- ---- replies and notices

abbrev pub a_reply : ReplyView
a_reply = record { id = 2; answer = accepted (Some (object (member (codes "port") (number (unsigned 40000)) no_members))) }

pub a_reply_is_written : compact_text (reply_json a_reply) ≡ codes "{\"accepted\":true,\"data\":{\"port\":40000},\"id\":2}"
unfolding digits serde_json_on_literals
a_reply_is_written = refl

pub a_reply_is_read : message_of (codes "{\"accepted\":true,\"data\":{\"port\":40000},\"id\":2}") ≡ Some (reply a_reply)
unfolding message_of digits chars encode_utf8 is_utf8 serde_json_on_literals
a_reply_is_read = refl

abbrev pub a_refusal : ReplyView
a_refusal = record { id = 3; answer = refused error.Error (codes "state") }

pub a_refusal_is_written : compact_text (reply_json a_refusal) ≡ codes "{\"error\":\"Error\",\"id\":3,\"reason\":\"state\"}"
unfolding digits serde_json_on_literals
a_refusal_is_written = refl

pub another_error_is_read : message_of (codes "{\"accepted\":1,\"error\":\"other\",\"id\":3,\"reason\":\"state\"}") ≡ Some (reply a_refusal)
unfolding message_of digits chars encode_utf8 is_utf8 serde_json_on_literals
another_error_is_read = refl

pub neither_accepted_nor_refused : message_of (codes "{\"accepted\":false,\"id\":3}") ≡ None
unfolding message_of digits chars encode_utf8 is_utf8 serde_json_on_literals
neither_accepted_nor_refused = refl

abbrev pub running : NoticeView
running = record { target = codes "worker"; event = codes "running"; content = None }

pub running_is_written : compact_text (notice_json running) ≡ codes "{\"event\":\"running\",\"targetId\":\"worker\"}"
unfolding digits serde_json_on_literals
running_is_written = refl

pub running_is_read : message_of (codes "{\"event\":\"running\",\"targetId\":\"worker\"}") ≡ Some (notice running)
unfolding message_of digits chars encode_utf8 is_utf8 serde_json_on_literals
running_is_read = refl

pub no_notice_with_an_id : message_of (codes "{\"event\":\"running\",\"id\":null,\"targetId\":\"worker\"}") ≡ None
unfolding message_of digits chars encode_utf8 is_utf8 serde_json_on_literals
no_notice_with_an_id = refl

-- ---- log lines and packets

pub a_log_line : message_of (codes "Wlow") ≡ Some (log 87 (codes "low"))
unfolding message_of
a_log_line = refl

pub a_packet : message_of (codes "R00000000-0000-4007-8000-00000000000A" ++ 128 ∷ []) ≡ Some (rtp (record { 0 = id_bytes 7 10 }) (128 ∷ []))
unfolding message_of packet_in id_bytes id_of_text is_id_text
a_packet = refl

pub a_packet_is_written : packet_payload second (128 ∷ []) ≡ codes "R00000000-0000-4007-8000-000000000002" ++ 128 ∷ []
unfolding id_bytes id_text
a_packet_is_written = refl

pub no_packet_of_a_short_id : message_of (codes "R00000000-0000-4007-8000-00000000000") ≡ None
unfolding message_of packet_in id_of_text is_id_text
no_packet_of_a_short_id = refl
