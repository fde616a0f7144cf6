-- The member `data` of a request as a JSON value (this project's own). The members of an object stand in the order of their
-- names, as JSON objects have them here.
use Rattle.std.specs.Prelude.{ℕ, List, Bool, true, codes, if◌then◌else◌}
use Rattle.serde_json.specs.Data.{Data, boolean, string, object, member, no_members}
use Rattle.ms_base.specs.Words.{ip_text}
use Rattle.ms_base.specs.declared.keys.Media.{Media}
use Rattle.ms_base.specs.declared.keys.Media.TheVariants.{Audio, Video}
use Rattle.ms_base.specs.declared.tuple.Tuple.{Tuple}
use Rattle.rtp_params.specs.declared.encoding.Encoding.{Encoding}
use Rattle.rtp_params.specs.declared.mapping.Mapping.{Mapping}
use Rattle.rtp_params.specs.declared.params.Params.{Params}
use Rattle.rtp_params.specs.Writing.{encoding_value, list_value, number_value, params_value}
use Rattle.worker_requests.specs.declared.content.PipeContent.{PipeContent}
use Rattle.worker_requests.specs.declared.content.PlainContent.{PlainContent}

-- ---- transports

-- where a transport listens
abbrev pub listen_ip_value : List ℕ → Data
listen_ip_value ip = object (member (codes "ip") (string (ip_text ip)) no_members)

abbrev pub plain_value : PlainContent → Data
plain_value c = object (member (codes "comedia") (boolean c.comedia) (member (codes "listenIp") (listen_ip_value c.ip) (member (codes "rtcpMux") (boolean true) no_members)))

abbrev pub pipe_value : PipeContent → Data
pipe_value c = object (member (codes "enableRtx") (boolean c.enable_rtx) (member (codes "listenIp") (listen_ip_value c.ip) no_members))

abbrev pub direct_value : Data
direct_value = object (member (codes "direct") (boolean true) no_members)

-- the other end of a transport
abbrev pub connect_value : Tuple → Data
connect_value to = object (member (codes "ip") (string (ip_text to.ip)) (member (codes "port") (number_value to.port) no_members))

-- ---- Producers and Consumers

abbrev pub kind_text : Media → List ℕ
kind_text Audio = codes "audio"
kind_text Video = codes "video"

-- a payload type, and the one that stands for it
abbrev pub types_value : ℕ × ℕ → Data
types_value pair = object (member (codes "mappedPayloadType") (number_value pair.1) (member (codes "payloadType") (number_value pair.0) no_members))

-- an SSRC, and the one that stands for it
abbrev pub ssrcs_value : ℕ × ℕ → Data
ssrcs_value pair = object (member (codes "mappedSsrc") (number_value pair.1) (member (codes "ssrc") (number_value pair.0) no_members))

abbrev pub mapping_value : Mapping → Data
mapping_value m = object (member (codes "codecs") (list_value types_value m.codecs) (member (codes "encodings") (list_value ssrcs_value m.encodings) no_members))

abbrev pub produce_value : Media → Bool → Mapping → Params → Data
produce_value media paused mapping params =
    object (
    member (codes "kind") (string (kind_text media)) (
    member (codes "paused") (boolean paused) (
    member (codes "rtpMapping") (mapping_value mapping) (
    member (codes "rtpParameters") (params_value params) no_members
    )
    )
    )
    )

abbrev pub type_text : Bool → List ℕ
type_text simple = if simple then codes "simple" else codes "pipe"

abbrev pub consume_value : Media → Bool → List Encoding → Params → Bool → Data
consume_value media paused consumable params simple =
    object (
    member (codes "consumableRtpEncodings") (list_value encoding_value consumable) (
    member (codes "kind") (string (kind_text media)) (
    member (codes "paused") (boolean paused) (
    member (codes "rtpParameters") (params_value params) (
    member (codes "type") (string (type_text simple)) no_members
    )
    )
    )
    )
    )
