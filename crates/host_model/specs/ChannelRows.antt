-- Worked journals of channels: cut into bytes, answered in another order, by another worker, and with what is no answer.
use Rattle.std.specs.Prelude.{◌≡◌, ℕ, List, [], ◌∷◌, ◌++◌, true, codes, map, refl}
use Rattle.std.specs.Char.{encode_utf8}
use Rattle.std.specs.Fmt.{digits}
use Rattle.std.specs.Str.{chars, is_utf8}
use Rattle.hex.specs.Hex.{encode_with}
use Rattle.serde_json.proofs.OnLiterals.{serde_json_on_literals}
use Rattle.ms_base.specs.Id.{id_bytes, id_text}
use Rattle.ms_base.specs.declared.entry.Entry.{Entry}
use Rattle.ms_base.specs.declared.entry.Entry.TheVariants as entry
use Rattle.ms_base.specs.declared.keys.WorkerKey.{WorkerKey}
use Rattle.ms_base.specs.declared.op.Op.TheVariants as op
use Rattle.call_options.specs.Options.{router_in}
use Rattle.channel_frames.specs.Frames.{frame, frames_within, rest_within}
use Rattle.channel_msgs.specs.Packet.{packet_in}
use Rattle.channel_msgs.specs.Read.{message_of}
use Rattle.ortc_map.specs.RouterCaps.{with_codec}
use Rattle.ortc_map.specs.Supported.{supported_codecs}
use Rattle.rtp_params.specs.Codecs.{codec_in, mime_type_in}
use Rattle.rtp_params.specs.Reading.{number_of}
use Rattle.rtp_params.specs.Whole.{caps_in}
use Rattle.host_model.specs.Rows.{a_router, a_router_lines, a_worker, behind, first, lines, router_of, running, says}
use Rattle.host_model.specs.Run.{state_of}

-- ---- the same with each byte of the channel in a chunk of its own

abbrev pub one_by_one : List ℕ → List Entry
one_by_one [] = []
one_by_one (b ∷ bs) = entry.Chunk first (b ∷ []) ∷ one_by_one bs

abbrev pub in_bytes : List Entry → List Entry
in_bytes [] = []
in_bytes (entry.Chunk worker bytes ∷ es) = one_by_one bytes ++ in_bytes es
in_bytes (e ∷ es) = e ∷ in_bytes es

pub a_router_in_bytes : lines (in_bytes a_router) ≡ a_router_lines
unfolding digits frames_within rest_within message_of packet_in id_bytes id_text chars encode_utf8 is_utf8 serde_json_on_literals router_in caps_in codec_in mime_type_in number_of with_codec supported_codecs
a_router_in_bytes = refl

-- ---- what isn't the answer to a request that waits

pub an_object_of_nothing : behind a_worker (says (codes "{}") ∷ []) ≡ codes "unexpected 1 1\n"
unfolding digits frames_within rest_within message_of packet_in id_bytes id_text chars encode_utf8 is_utf8 serde_json_on_literals router_in caps_in codec_in mime_type_in number_of with_codec supported_codecs
an_object_of_nothing = refl

pub an_id_that_nobody_used : behind a_router (says (codes "{\"accepted\":true,\"id\":9}") ∷ []) ≡ codes "late 1 1 9\n"
unfolding digits frames_within rest_within message_of packet_in id_bytes id_text chars encode_utf8 is_utf8 serde_json_on_literals router_in caps_in codec_in mime_type_in number_of with_codec supported_codecs
an_id_that_nobody_used = refl

pub a_second_running : behind a_worker (says running ∷ []) ≡ codes "stray 1 1\n"
unfolding digits frames_within rest_within message_of packet_in id_bytes id_text chars encode_utf8 is_utf8 serde_json_on_literals router_in caps_in codec_in mime_type_in number_of with_codec supported_codecs
a_second_running = refl

pub a_log_line : behind a_worker (says (codes "Wlow") ∷ []) ≡ codes "log 1 1 W 6c6f77\n"
unfolding digits frames_within rest_within message_of packet_in id_bytes id_text chars encode_utf8 is_utf8 serde_json_on_literals router_in caps_in codec_in mime_type_in number_of with_codec supported_codecs encode_with
a_log_line = refl

-- ---- two requests wait on one channel: each response settles its own, in whatever order they come

abbrev pub two_waiting : List Entry
two_waiting = a_worker ++ entry.Call 1 (router_of (codes "a") (codes "w")) ∷ entry.Call 2 (router_of (codes "b") (codes "w")) ∷ []

abbrev pub the_second_answered : List Entry
the_second_answered = says (codes "{\"accepted\":true,\"id\":2}") ∷ []

abbrev pub the_first_answered : List Entry
the_first_answered = says (codes "{\"accepted\":true,\"id\":1}") ∷ []

pub the_second_first : behind two_waiting the_second_answered ≡ codes "open 3 router b 00000000-0000-4007-8000-000000000003\nsettled 2 1 ok\n"
unfolding digits frames_within rest_within message_of packet_in id_bytes id_text chars encode_utf8 is_utf8 serde_json_on_literals router_in caps_in codec_in mime_type_in number_of with_codec supported_codecs
the_second_first = refl

pub then_the_first : behind (two_waiting ++ the_second_answered) the_first_answered ≡ codes "open 2 router a 00000000-0000-4007-8000-000000000002\nsettled 1 2 ok\n"
unfolding digits frames_within rest_within message_of packet_in id_bytes id_text chars encode_utf8 is_utf8 serde_json_on_literals router_in caps_in codec_in mime_type_in number_of with_codec supported_codecs
then_the_first = refl

-- the objects stand in ascending order of their serials all the same
pub in_ascending_order : map (λ o. o.serial.0) (state_of (record { seed = 7; entries = two_waiting ++ (the_second_answered ++ the_first_answered) })).objects ≡ 1 ∷ 2 ∷ 3 ∷ []
unfolding digits frames_within rest_within message_of packet_in id_bytes id_text chars encode_utf8 is_utf8 serde_json_on_literals router_in caps_in codec_in mime_type_in number_of with_codec supported_codecs
in_ascending_order = refl

-- ---- two workers: what one answers settles nothing of the other

abbrev pub second : WorkerKey
second = record { slot = 2; generation = 1 }

abbrev pub second_says : List ℕ → Entry
second_says payload = entry.Chunk second (frame payload)

abbrev pub two_workers : List Entry
two_workers = a_worker
    ++ entry.Call 2 (op.Worker (codes "w2") 0) ∷ entry.Spawned second true ∷ second_says running
    ∷ entry.Call 2 (router_of (codes "r2") (codes "w2")) ∷ []

pub of_another_channel : behind two_workers the_first_answered ≡ codes "late 1 1 1\n"
unfolding digits frames_within rest_within message_of packet_in id_bytes id_text chars encode_utf8 is_utf8 serde_json_on_literals router_in caps_in codec_in mime_type_in number_of with_codec supported_codecs
of_another_channel = refl

-- the call of the second worker has waited on
pub the_other_worker_answers : behind two_workers (the_first_answered ++ second_says (codes "{\"accepted\":true,\"id\":1}") ∷ [])
    ≡ codes "late 1 1 1\nopen 3 router r2 00000000-0000-4007-8000-000000000003\nsettled 2 2 ok\n"
unfolding digits frames_within rest_within message_of packet_in id_bytes id_text chars encode_utf8 is_utf8 serde_json_on_literals router_in caps_in codec_in mime_type_in number_of with_codec supported_codecs
the_other_worker_answers = refl

pub refused_with_a_reason : behind two_workers (second_says (codes "{\"error\":\"Error\",\"id\":1,\"reason\":\"exists\"}") ∷ []) ≡ codes "settled 2 2 worker Error \"exists\"\n"
unfolding digits frames_within rest_within message_of packet_in id_bytes id_text chars encode_utf8 is_utf8 serde_json_on_literals router_in caps_in codec_in mime_type_in number_of with_codec supported_codecs
refused_with_a_reason = refl
