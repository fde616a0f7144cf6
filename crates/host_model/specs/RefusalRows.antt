-- Worked journals of calls that are refused, each for one reason alone and at last for the first of two.
use Rattle.std.specs.Prelude.{◌≡◌, ℕ, List, [], ◌∷◌, true, Some, None, codes, refl}
use Rattle.std.specs.Char.{encode_utf8}
use Rattle.std.specs.Fmt.{digits}
use Rattle.std.specs.Str.{chars, is_utf8}
use Rattle.serde_json.proofs.OnLiterals.{serde_json_on_literals}
use Rattle.ms_base.specs.Id.{id_bytes, id_text}
use Rattle.ms_base.specs.declared.entry.Entry.{Entry}
use Rattle.ms_base.specs.declared.entry.Entry.TheVariants as entry
use Rattle.ms_base.specs.declared.op.Op.{Op}
use Rattle.ms_base.specs.declared.op.Op.TheVariants as op
use Rattle.ms_base.specs.declared.outcome.Outcome.TheVariants as outcome
use Rattle.call_options.specs.Options.{router_in}
use Rattle.channel_frames.specs.Frames.{frames_within, rest_within}
use Rattle.channel_msgs.specs.Packet.{packet_in}
use Rattle.channel_msgs.specs.Read.{message_of}
use Rattle.ortc_map.specs.RouterCaps.{with_codec}
use Rattle.ortc_map.specs.Supported.{supported_codecs}
use Rattle.rtp_params.specs.Codecs.{codec_in, mime_type_in}
use Rattle.rtp_params.specs.Reading.{number_of}
use Rattle.rtp_params.specs.Whole.{caps_in}
use Rattle.host_model.specs.Answer.{first_refusal}
use Rattle.host_model.specs.Rows.{a_router, behind, first, router_of}
use Rattle.host_model.specs.Run.{state_of}

-- what a call of another lane notes behind a journal
abbrev pub call_behind : List Entry → Op → List ℕ
call_behind entries asked = behind entries (entry.Call 2 asked ∷ [])

pub a_name_that_is_taken : call_behind a_router (router_of (codes "r") (codes "w")) ≡ codes "settled 2 1 nametaken\n"
unfolding digits frames_within rest_within message_of packet_in id_bytes id_text chars encode_utf8 is_utf8 serde_json_on_literals router_in caps_in codec_in mime_type_in number_of with_codec supported_codecs
a_name_that_is_taken = refl

pub a_name_without_an_object : call_behind a_router (router_of (codes "x") (codes "zz")) ≡ codes "settled 2 1 noname\n"
unfolding digits frames_within rest_within message_of packet_in id_bytes id_text chars encode_utf8 is_utf8 serde_json_on_literals router_in caps_in codec_in mime_type_in number_of with_codec supported_codecs
a_name_without_an_object = refl

pub an_object_of_another_kind : call_behind a_router (router_of (codes "x") (codes "r")) ≡ codes "settled 2 1 wrongkind\n"
unfolding digits frames_within rest_within message_of packet_in id_bytes id_text chars encode_utf8 is_utf8 serde_json_on_literals router_in caps_in codec_in mime_type_in number_of with_codec supported_codecs
an_object_of_another_kind = refl

-- a Worker that was started, and hasn't said that it is running
pub a_worker_that_is_not_running : call_behind (entry.Call 1 (op.Worker (codes "w") 0) ∷ entry.Spawned first true ∷ []) (router_of (codes "x") (codes "w")) ≡ codes "settled 2 1 invalidstate\n"
unfolding digits frames_within rest_within message_of packet_in id_bytes id_text chars encode_utf8 is_utf8 serde_json_on_literals router_in caps_in codec_in mime_type_in number_of with_codec supported_codecs
a_worker_that_is_not_running = refl

-- a call that meets two refusals has the first
pub a_taken_name_comes_first : call_behind a_router (router_of (codes "r") (codes "zz")) ≡ codes "settled 2 1 nametaken\n"
unfolding digits frames_within rest_within message_of packet_in id_bytes id_text chars encode_utf8 is_utf8 serde_json_on_literals router_in caps_in codec_in mime_type_in number_of with_codec supported_codecs
a_taken_name_comes_first = refl

-- each test is one over all names: a Worker in the place of a transport comes behind a name without an object
pub all_names_before_any_kind : call_behind a_router (op.Consume (codes "c") (codes "w") (codes "zz") (codes "{}")) ≡ codes "settled 2 1 noname\n"
unfolding digits frames_within rest_within message_of packet_in id_bytes id_text chars encode_utf8 is_utf8 serde_json_on_literals router_in caps_in codec_in mime_type_in number_of with_codec supported_codecs
all_names_before_any_kind = refl

pub the_first_refusal : first_refusal (state_of (record { seed = 7; entries = a_router })) (router_of (codes "r") (codes "zz")) ≡ Some outcome.NameTaken
unfolding digits frames_within rest_within message_of packet_in id_bytes id_text chars encode_utf8 is_utf8 serde_json_on_literals router_in caps_in codec_in mime_type_in number_of with_codec supported_codecs
the_first_refusal = refl

-- no refusal where the call goes through
pub no_refusal : first_refusal (state_of (record { seed = 7; entries = a_router })) (router_of (codes "x") (codes "w")) ≡ None
unfolding digits frames_within rest_within message_of packet_in id_bytes id_text chars encode_utf8 is_utf8 serde_json_on_literals router_in caps_in codec_in mime_type_in number_of with_codec supported_codecs
no_refusal = refl
