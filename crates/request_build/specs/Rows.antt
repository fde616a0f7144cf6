-- Worked rows: calls to a host with one Worker, one open Router and one that is closed, and what they come to.
use Rattle.std.specs.Prelude.{◌≡◌, ℕ, List, [], ◌∷◌, true, false, codes, bytes_eq, Option, Some, None, Result, Ok, Err, refl}
use Rattle.std.specs.Char.{encode_utf8}
use Rattle.std.specs.Fmt.{digits}
use Rattle.std.specs.Net.Reader.{read_ipv4, read_octet, read_number}
use Rattle.std.specs.Str.{chars, is_utf8}
use Rattle.serde_json.proofs.OnLiterals.{serde_json_on_literals}
use Rattle.ms_base.specs.Id.{id_bytes}
use Rattle.ms_base.specs.declared.code.Code.TheVariants as code
use Rattle.ms_base.specs.declared.keys.Kind.{Kind}
use Rattle.ms_base.specs.declared.keys.Kind.TheVariants as kind
use Rattle.ms_base.specs.declared.keys.Reason.{Reason}
use Rattle.ms_base.specs.declared.keys.Reason.TheVariants as reason
use Rattle.ms_base.specs.declared.keys.Serial.{Serial}
use Rattle.ms_base.specs.declared.op.Op.TheVariants as op
use Rattle.ms_base.specs.declared.outcome.Outcome.{Outcome}
use Rattle.ms_base.specs.declared.outcome.Outcome.TheVariants as outcome
use Rattle.rtp_params.specs.Codecs.{codec_in, mime_type_in}
use Rattle.rtp_params.specs.Reading.{number_of}
use Rattle.rtp_params.specs.Whole.{caps_in}
use Rattle.ortc_map.specs.RouterCaps.{with_codec}
use Rattle.ortc_map.specs.Supported.{supported_codecs}
use Rattle.call_options.specs.Options.{plain_in, router_in}
use Rattle.object_tree.specs.declared.object.Object.{Object}
use Rattle.object_tree.specs.Objects.{same_serial}
use Rattle.worker_requests.specs.declared.asked.Asked.TheVariants as asked
use Rattle.request_build.specs.declared.built.BuildFault.{BuildFault}
use Rattle.request_build.specs.declared.built.BuildFault.TheVariants.{Refused}
use Rattle.request_build.specs.Asks.{Built, Own, has_id_in}
use Rattle.request_build.specs.Built.{built}
use Rattle.request_build.specs.Close.{close_asked}
use Rattle.request_build.specs.Known.{Known}

abbrev serial : ℕ → Serial
serial n = record { 0 = n }

abbrev object : ℕ → List ℕ → Kind → Option Serial → Option Reason → Object
object n name of_kind parent closed =
    record {
      serial = serial n;
      name = name;
      id = record { 0 = id_bytes 7 n };
      kind = of_kind;
      parent = parent;
      worker = serial 1;
      producer = None;
      closed = closed;
      paused = false;
      producer_paused = false;
      running = true;
      far = None;
    }

abbrev host : Known
host =
    record {
      objects =
          object 1 (codes "w") kind.Worker None None
          ∷ object 2 (codes "r") kind.Router (Some (serial 1)) None
          ∷ object 3 (codes "q") kind.Router (Some (serial 1)) (Some reason.Close)
          ∷ [];
      routers = [];
      producers = [];
      consumers = [];
      pipes = [];
      is_named = bytes_eq (codes "soon");
      is_asked = λ router id. false;
      slots = 1;
      stopped = false;
      next = record { seed = 7; serial = 4; ssrc = 100000000 };
    }

abbrev refused : Outcome → Result Built BuildFault
refused o = Err (Refused o)

name_of_an_object : built host (op.Router (codes "r") (codes "w") []) ≡ refused outcome.NameTaken
name_of_an_object = refl

name_of_a_closed_object : built host (op.Worker (codes "q") 0) ≡ refused outcome.NameTaken
name_of_a_closed_object = refl

name_of_a_pending_call : built host (op.Direct (codes "soon") (codes "zz")) ≡ refused outcome.NameTaken
name_of_a_pending_call = refl

no_object : built host (op.Router (codes "x") (codes "zz") []) ≡ refused outcome.NoName
no_object = refl

another_kind : built host (op.Direct (codes "x") (codes "w")) ≡ refused outcome.WrongKind
another_kind = refl

closed : built host (op.Direct (codes "x") (codes "q")) ≡ refused outcome.InvalidState
closed = refl

-- what is closed can be closed again, and the stop hinders nothing but that
closed_again : built host (op.Close (codes "q")) ≡ Ok (Own None)
closed_again = refl

stopped : built (record host { stopped = true }) (op.Worker (codes "x") 0) ≡ refused outcome.InvalidState
stopped = refl

no_slot : built (record host { slots = 64 }) (op.Worker (codes "x") 0) ≡ refused (outcome.TypeError code.Slots)
no_slot = refl

last_slot : built (record host { slots = 63 }) (op.Worker (codes "x") 0) ≡ Ok (Own None)
last_slot = refl

no_form : built host (op.Router (codes "x") (codes "w") (codes "[]")) ≡ refused (outcome.TypeError code.Form)
unfolding digits chars encode_utf8 is_utf8 serde_json_on_literals
no_form = refl

no_such_codec : built host (op.Router (codes "x") (codes "w") (codes "{\"mediaCodecs\":[{\"mimeType\":\"video/H264\",\"clockRate\":90000}]}")) ≡ refused (outcome.Unsupported code.Codec)
unfolding digits chars encode_utf8 is_utf8 serde_json_on_literals router_in caps_in codec_in mime_type_in number_of with_codec supported_codecs
no_such_codec = refl

no_second_port : built host (op.Plain (codes "x") (codes "r") (codes "{\"listenIp\":\"127.0.0.1\",\"rtcpMux\":false}")) ≡ refused (outcome.Unsupported code.Mux)
unfolding digits chars encode_utf8 is_utf8 serde_json_on_literals plain_in read_ipv4 read_octet read_number
no_second_port = refl

-- a pipe's four names
one_of_four : built (record host { is_named = bytes_eq (codes "k_c") }) (op.PipeRouter (codes "k") (codes "zz") (codes "r")) ≡ refused outcome.NameTaken
one_of_four = refl

-- an id is taken in a Router by a Producer that is asked for there, and in no other
asked_for : has_id_in (record host { is_asked = λ router id. same_serial router (serial 2) }) (serial 2) (record { 0 = id_bytes 7 9 }) ≡ true
asked_for = refl

asked_for_elsewhere : has_id_in (record host { is_asked = λ router id. same_serial router (serial 2) }) (serial 3) (record { 0 = id_bytes 7 9 }) ≡ false
asked_for_elsewhere = refl

-- ---- closes

abbrev router : Object
router = object 2 (codes "r") kind.Router (Some (serial 1)) None

close_of_a_worker : close_asked host.objects (object 1 (codes "w") kind.Worker None None) ≡ None
close_of_a_worker = refl

close_of_a_router : close_asked host.objects router ≡ Some (asked.CloseRouter router.id)
close_of_a_router = refl

close_of_a_transport : close_asked host.objects (object 4 (codes "t") kind.Plain (Some (serial 2)) None)
    ≡ Some (asked.CloseTransport (record { router = router.id; transport = record { 0 = id_bytes 7 4 } }))
close_of_a_transport = refl

nothing_above : close_asked [] router ≡ None
nothing_above = refl
