-- Worked journals: what their definitions come to.
use Rattle.std.specs.Prelude.{◌≡◌, ℕ, List, [], ◌∷◌, ◌++◌, true, codes, length, drop, refl}
use Rattle.std.specs.Char.{encode_utf8}
use Rattle.std.specs.Fmt.{digits}
use Rattle.std.specs.Str.{chars, is_utf8}
use Rattle.serde_json.proofs.OnLiterals.{serde_json_on_literals}
use Rattle.ms_base.specs.Id.{id_bytes, id_text}
use Rattle.ms_base.specs.declared.entry.Entry.{Entry}
use Rattle.ms_base.specs.declared.entry.Entry.TheVariants as entry
use Rattle.ms_base.specs.declared.keys.Event.TheVariants as event
use Rattle.ms_base.specs.declared.keys.WorkerKey.{WorkerKey}
use Rattle.ms_base.specs.declared.op.Op.{Op}
use Rattle.ms_base.specs.declared.op.Op.TheVariants as op
use Rattle.call_options.specs.Options.{router_in}
use Rattle.channel_frames.specs.Frames.{frame, frames_within, rest_within}
use Rattle.channel_msgs.specs.Packet.{packet_in}
use Rattle.channel_msgs.specs.Read.{message_of}
use Rattle.ortc_map.specs.RouterCaps.{with_codec}
use Rattle.ortc_map.specs.Supported.{supported_codecs}
use Rattle.rtp_params.specs.Codecs.{codec_in, mime_type_in}
use Rattle.rtp_params.specs.Reading.{number_of}
use Rattle.rtp_params.specs.Whole.{caps_in}
use Rattle.host_requests.specs.Requests.{is_on, is_start_of}
use Rattle.host_model.specs.Run.{Journal, transcript_of}
use Rattle.host_model.specs.Settled.{times_settling}
use Rattle.host_model.specs.State.{as_serial}

abbrev pub first : WorkerKey
first = record { slot = 1; generation = 1 }

abbrev pub says : List ℕ → Entry
says payload = entry.Chunk first (frame payload)

-- the transcript of these entries, with the seed 7
abbrev pub lines : List Entry → List ℕ
lines entries = transcript_of (record { seed = 7; entries = entries })

-- what further entries note behind a journal
abbrev pub behind : List Entry → List Entry → List ℕ
behind entries more = drop (length (lines entries)) (lines (entries ++ more))

abbrev pub running : List ℕ
running = codes "{\"event\":\"running\",\"targetId\":\"worker\"}"

-- the call for a Router without codecs
abbrev pub router_of : List ℕ → List ℕ → Op
router_of name worker = op.Router name worker (codes "{\"mediaCodecs\":[]}")

-- a Worker is made, started and says that it is running
abbrev pub a_worker : List Entry
a_worker = entry.Call 1 (op.Worker (codes "w") 0) ∷ entry.Spawned first true ∷ says running ∷ []

-- and a Router is made on it
abbrev pub a_router : List Entry
a_router = a_worker ++ entry.Call 1 (router_of (codes "r") (codes "w")) ∷ says (codes "{\"accepted\":true,\"id\":1}") ∷ []

abbrev pub a_router_lines : List ℕ
a_router_lines = codes "open 1 worker w 00000000-0000-4007-8000-000000000001\nspawn 1 1\nup 1 1\nrunning w 1\nsettled 1 1 ok\nsent 1 1 {\"id\":1,\"internal\":{\"routerId\":\"00000000-0000-4007-8000-000000000002\"},\"method\":\"worker.createRouter\"}\nopen 2 router r 00000000-0000-4007-8000-000000000002\nsettled 1 2 ok\n"

pub a_router_is_made : lines a_router ≡ a_router_lines
unfolding digits frames_within rest_within message_of packet_in id_bytes id_text chars encode_utf8 is_utf8 serde_json_on_literals router_in caps_in codec_in mime_type_in number_of with_codec supported_codecs
a_router_is_made = refl

pub a_second_response : behind a_router (says (codes "{\"accepted\":true,\"id\":1}") ∷ []) ≡ codes "late 1 1 1\n"
unfolding digits frames_within rest_within message_of packet_in id_bytes id_text chars encode_utf8 is_utf8 serde_json_on_literals router_in caps_in codec_in mime_type_in number_of with_codec supported_codecs
a_second_response = refl

-- a transport is asked for, and its Router closes before the response comes
abbrev pub a_close : List Entry
a_close = entry.Call 2 (op.Direct (codes "d") (codes "r")) ∷ entry.Call 1 (op.Close (codes "r")) ∷ says (codes "{\"accepted\":true,\"id\":2}") ∷ []

pub a_close_with_a_request_under_it : behind a_router a_close
    ≡ codes "sent 1 1 {\"data\":{\"direct\":true},\"id\":2,\"internal\":{\"routerId\":\"00000000-0000-4007-8000-000000000002\",\"transportId\":\"00000000-0000-4007-8000-000000000003\"},\"method\":\"router.createDirectTransport\"}\nclosed 2 r close\nsettled 2 1 closed r\nsent 1 1 {\"id\":3,\"internal\":{\"routerId\":\"00000000-0000-4007-8000-000000000002\"},\"method\":\"router.close\"}\nsettled 1 3 ok\nlate 1 1 2\n"
unfolding digits frames_within rest_within message_of packet_in id_bytes id_text chars encode_utf8 is_utf8 serde_json_on_literals router_in caps_in codec_in mime_type_in number_of with_codec supported_codecs
a_close_with_a_request_under_it = refl

pub an_await_that_is_done_at_once : behind a_router (entry.Await 3 (codes "r") event.Opened 1 ∷ []) ≡ codes "settled 3 1 ok\n"
unfolding digits frames_within rest_within message_of packet_in id_bytes id_text chars encode_utf8 is_utf8 serde_json_on_literals router_in caps_in codec_in mime_type_in number_of with_codec supported_codecs
an_await_that_is_done_at_once = refl

-- what was asked for under the closed Router never comes
pub an_await_that_is_missed : behind (a_router ++ a_close) (entry.Await 3 (codes "d") event.Opened 1 ∷ []) ≡ codes "settled 3 1 missed\n"
unfolding digits frames_within rest_within message_of packet_in id_bytes id_text chars encode_utf8 is_utf8 serde_json_on_literals router_in caps_in codec_in mime_type_in number_of with_codec supported_codecs
an_await_that_is_missed = refl

-- in how many micro steps they settle: the requests of the ids 1, 2 and 3, and the one for the start of the Worker
abbrev pub settlings : List Entry → List ℕ
settlings entries =
    let j : Journal = record { seed = 7; entries = entries } in
    times_settling (is_on first 1) j ∷ times_settling (is_on first 2) j ∷ times_settling (is_on first 3) j ∷ times_settling (is_start_of (as_serial 1)) j ∷ []

-- the first by its response, the second as its Router closes, the start by the Worker's first word; the request to close still waits
pub how_often_requests_settle : settlings (a_router ++ a_close) ≡ 1 ∷ 1 ∷ 0 ∷ 1 ∷ []
unfolding digits frames_within rest_within message_of packet_in id_bytes id_text chars encode_utf8 is_utf8 serde_json_on_literals router_in caps_in codec_in mime_type_in number_of with_codec supported_codecs
how_often_requests_settle = refl
