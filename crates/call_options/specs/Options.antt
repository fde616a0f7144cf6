-- What the options of each call are read as (this project's own). The members are read in the order in which they stand
-- here, and the first fault counts; the limits are tried once all is read, and then what else can be told.
use Rattle.std.specs.Prelude.{ℕ, List, Bool, true, false, codes, if◌then◌else◌, Some, Result, Ok, Err, bytes_eq}
use Rattle.std.specs.List.{list_all}
use Rattle.serde_json.specs.Data.{Data, object, Members, no_members, member}
use Rattle.serde_json.specs.Find.{get_member}
use Rattle.ms_base.specs.declared.code.Code.{Code}
use Rattle.ms_base.specs.declared.code.Code.TheVariants as code
use Rattle.ms_base.specs.declared.keys.Media.{Media}
use Rattle.ms_base.specs.declared.keys.Media.TheVariants.{Audio, Video}
use Rattle.ms_base.specs.declared.tuple.Tuple.{Tuple}
use Rattle.rtp_params.specs.declared.codec.Codec.{Codec}
use Rattle.rtp_params.specs.declared.params.Caps.{Caps}
use Rattle.rtp_params.specs.Reading.{◌>>=◌, text_of, object_of, required, optional}
use Rattle.rtp_params.specs.Table.{is_for}
use Rattle.rtp_params.specs.Whole.{params_of, caps_of}
use Rattle.call_options.specs.declared.fault.OptionFault.{OptionFault}
use Rattle.call_options.specs.declared.fault.OptionFault.TheVariants.{TypeError, Unsupported}
use Rattle.call_options.specs.declared.options.PlainOptions.{PlainOptions}
use Rattle.call_options.specs.declared.options.PipeOptions.{PipeOptions}
use Rattle.call_options.specs.declared.options.ProduceOptions.{ProduceOptions}
use Rattle.call_options.specs.declared.options.ConsumeOptions.{ConsumeOptions}
use Rattle.call_options.specs.Gives.{type_error}
use Rattle.call_options.specs.Limits.{router_fits, params_fit, caps_fit, if_fits}
use Rattle.call_options.specs.Values.{value_of, ip_of, listen_ip_of, port_of, id_of, flag_in}

-- ---- Routers

-- capabilities that have nothing but these codecs
abbrev pub codecs_alone : Data → Data
codecs_alone list = object (member (codes "codecs") list no_members)

-- a list of codec capabilities
abbrev pub capability_codecs_of : Data → Result (List Codec) Code
capability_codecs_of list = caps_of (codecs_alone list) >>= (λ caps. Ok caps.codecs)

unfoldable pub router_in : Members → Result (List Codec) Code
router_in members = do
  media_codecs ← required capability_codecs_of (get_member (codes "mediaCodecs") members)
  if_fits router_fits media_codecs

abbrev pub router_of : Data → Result (List Codec) Code
router_of d = object_of d >>= router_in

abbrev pub router_options : List ℕ → Result (List Codec) OptionFault
router_options options = type_error (value_of options >>= router_of)

-- ---- transports

-- with whether RTP and RTCP are to share a port (RFC 5761)
unfoldable pub plain_in : Members → Result (PlainOptions × Bool) Code
plain_in members = do
  listen_ip ← required listen_ip_of (get_member (codes "listenIp") members)
  comedia ← flag_in (codes "comedia") false members
  rtcp_mux ← flag_in (codes "rtcpMux") true members
  Ok (record { listen_ip = listen_ip; comedia = comedia }, rtcp_mux)

abbrev pub plain_of : Data → Result (PlainOptions × Bool) Code
plain_of d = object_of d >>= plain_in

-- two ports aren't supported
abbrev pub if_shared : Result (PlainOptions × Bool) Code → Result PlainOptions OptionFault
if_shared (Ok read) = if read.1 then Ok read.0 else Err (Unsupported code.Mux)
if_shared (Err fault) = Err (TypeError fault)

abbrev pub plain_options : List ℕ → Result PlainOptions OptionFault
plain_options options = if_shared (value_of options >>= plain_of)

unfoldable pub pipe_in : Members → Result PipeOptions Code
pipe_in members = do
  listen_ip ← required listen_ip_of (get_member (codes "listenIp") members)
  enable_rtx ← flag_in (codes "enableRtx") false members
  Ok (record { listen_ip = listen_ip; enable_rtx = enable_rtx })

abbrev pub pipe_of : Data → Result PipeOptions Code
pipe_of d = object_of d >>= pipe_in

abbrev pub pipe_options : List ℕ → Result PipeOptions OptionFault
pipe_options options = type_error (value_of options >>= pipe_of)

-- the other end of a transport
unfoldable pub connect_in : Members → Result Tuple Code
connect_in members = do
  ip ← required ip_of (get_member (codes "ip") members)
  port ← required port_of (get_member (codes "port") members)
  Ok (record { ip = ip; port = port })

abbrev pub connect_of : Data → Result Tuple Code
connect_of d = object_of d >>= connect_in

abbrev pub connect_options : List ℕ → Result Tuple OptionFault
connect_options options = type_error (value_of options >>= connect_of)

-- ---- Producers

abbrev pub media_named : List ℕ → Result Media Code
media_named kind =
    if bytes_eq kind (codes "audio") then Ok Audio
    else if bytes_eq kind (codes "video") then Ok Video
    else Err code.Kind

-- whether it is a codec of this media
abbrev pub is_of : Media → Codec → Bool
is_of media codec = is_for media (Some codec.media)

abbrev pub if_all_of : List Codec → Media → Result Media Code
if_all_of codecs media = if list_all (is_of media) codecs then Ok media else Err code.Kind

-- the media of this kind, where each codec is of it
abbrev pub media_of : List ℕ → List Codec → Result Media Code
media_of kind codecs = media_named kind >>= if_all_of codecs

unfoldable pub produce_in : Members → Result ProduceOptions Code
produce_in members = do
  kind ← required text_of (get_member (codes "kind") members)
  params ← required params_of (get_member (codes "rtpParameters") members)
  paused ← flag_in (codes "paused") false members
  id ← optional id_of (get_member (codes "id") members)
  _ ← if_fits params_fit params
  media ← media_of kind params.codecs
  Ok (record { media = media; params = params; paused = paused; id = id })

abbrev pub produce_of : Data → Result ProduceOptions Code
produce_of d = object_of d >>= produce_in

abbrev pub produce_options : List ℕ → Result ProduceOptions OptionFault
produce_options options = type_error (value_of options >>= produce_of)

-- ---- Consumers

unfoldable pub consume_in : Members → Result ConsumeOptions Code
consume_in members = do
  caps ← required caps_of (get_member (codes "rtpCapabilities") members)
  paused ← flag_in (codes "paused") false members
  _ ← if_fits caps_fit caps
  Ok (record { caps = caps; paused = paused })

abbrev pub consume_of : Data → Result ConsumeOptions Code
consume_of d = object_of d >>= consume_in

abbrev pub consume_options : List ℕ → Result ConsumeOptions OptionFault
consume_options options = type_error (value_of options >>= consume_of)

-- over a pipe a Consumer receives all: its options say alone whether it is paused
abbrev pub paused_of : Data → Result Bool Code
paused_of d = object_of d >>= flag_in (codes "paused") false

abbrev pub piped_consume_options : List ℕ → Result Bool OptionFault
piped_consume_options options = type_error (value_of options >>= paused_of)

-- the capabilities themselves
abbrev pub caps_options : List ℕ → Result Caps OptionFault
caps_options options = type_error (value_of options >>= caps_of >>= if_fits caps_fit)
