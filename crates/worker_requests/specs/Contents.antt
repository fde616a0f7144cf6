-- The member `data` of a request, by the reading rules of parameters (this project's own). Every fault of it has one code, so a
-- content is there or it isn't.
use Rattle.std.specs.Prelude.{ℕ, ◌==◌, ◌&&◌, ◌||◌, List, length, Bool, true, false, not, nat_lt, codes, bytes_eq, if◌then◌else◌, Option, Some, None, option_and_then, is_some, Result, Ok, Err}
use Rattle.std.specs.Net.Reader.{read_ipv4, whole_value}
use Rattle.serde_json.specs.Data.{Data, Members}
use Rattle.serde_json.specs.Find.{get_member}
use Rattle.ms_base.specs.declared.code.Code.{Code}
use Rattle.ms_base.specs.declared.keys.Media.{Media}
use Rattle.ms_base.specs.declared.keys.Media.TheVariants.{Audio, Video}
use Rattle.ms_base.specs.declared.tuple.Tuple.{Tuple}
use Rattle.rtp_params.specs.declared.encoding.Encoding.{Encoding}
use Rattle.rtp_params.specs.Encodings.{encodings_of}
use Rattle.rtp_params.specs.Mappings.{mapping_of}
use Rattle.rtp_params.specs.Reading.{◌>>=◌, or_form, number_of, text_of, bool_of, object_of, required}
use Rattle.rtp_params.specs.Whole.{params_of}
use Rattle.worker_requests.specs.declared.content.PlainContent.{PlainContent}
use Rattle.worker_requests.specs.declared.content.PipeContent.{PipeContent}
use Rattle.worker_requests.specs.declared.content.ProduceContent.{ProduceContent}
use Rattle.worker_requests.specs.declared.content.ConsumeContent.{ConsumeContent}

-- what is read, or nothing where there is a fault
abbrev pub read_well : {A : Type 0} → Result A Code → Option A
read_well (Ok x) = Some x
read_well (Err _) = None

-- what is read of a content that is an object
abbrev pub content_by : {A : Type 0} → (Members → Result A Code) → Option Data → Option A
content_by reads content = read_well (required object_of content >>= reads)

-- ---- values

abbrev pub is_true : Bool → Option Bool
is_true set = if set then Some true else None

-- a value that has to be true
abbrev pub true_of : Data → Result Bool Code
true_of d = bool_of d >>= (λ set. or_form (is_true set))

abbrev pub media_named : List ℕ → Option Media
media_named text = if bytes_eq text (codes "audio") then Some Audio else if bytes_eq text (codes "video") then Some Video else None

abbrev pub media_of : Data → Result Media Code
media_of d = text_of d >>= (λ text. or_form (media_named text))

-- the octets of an IPv4 address: four numbers 0 to 255 in decimal digits without leading zeros, with dots between them
abbrev pub ip_named : List ℕ → Option (List ℕ)
ip_named text = whole_value (read_ipv4 text)

abbrev pub ip_of : Data → Result (List ℕ) Code
ip_of d = text_of d >>= (λ text. or_form (ip_named text))

-- where a transport listens: an object with the address
abbrev pub listen_ip_of : Data → Result (List ℕ) Code
listen_ip_of d = object_of d >>= (λ members. required ip_of (get_member (codes "ip") members))

-- a UDP port that can be sent to
abbrev pub port_of : Data → Result ℕ Code
port_of d = number_of 1 65535 d

-- whether it is simple, and not of a pipe
unfoldable pub is_simple_named : List ℕ → Option Bool
is_simple_named text = if bytes_eq text (codes "simple") then Some true else if bytes_eq text (codes "pipe") then Some false else None

abbrev pub is_simple_of : Data → Result Bool Code
is_simple_of d = text_of d >>= (λ text. or_form (is_simple_named text))

-- ---- transports

unfoldable pub plain_in : Members → Result PlainContent Code
plain_in members = do
  comedia ← required bool_of (get_member (codes "comedia") members)
  ip ← required listen_ip_of (get_member (codes "listenIp") members)
  _ ← required true_of (get_member (codes "rtcpMux") members)
  Ok (record { comedia = comedia; ip = ip })

abbrev pub plain_content : Option Data → Option PlainContent
plain_content content = content_by plain_in content

unfoldable pub pipe_in : Members → Result PipeContent Code
pipe_in members = do
  enable_rtx ← required bool_of (get_member (codes "enableRtx") members)
  ip ← required listen_ip_of (get_member (codes "listenIp") members)
  Ok (record { enable_rtx = enable_rtx; ip = ip })

abbrev pub pipe_content : Option Data → Option PipeContent
pipe_content content = content_by pipe_in content

abbrev pub direct_in : Members → Result Bool Code
direct_in members = required true_of (get_member (codes "direct") members)

-- whether a content is that of a direct transport
abbrev pub is_direct : Option Data → Bool
is_direct content = is_some (content_by direct_in content)

-- the other end of a transport
unfoldable pub connect_in : Members → Result Tuple Code
connect_in members = do
  ip ← required ip_of (get_member (codes "ip") members)
  port ← required port_of (get_member (codes "port") members)
  Ok (record { ip = ip; port = port })

abbrev pub connect_content : Option Data → Option Tuple
connect_content content = content_by connect_in content

-- ---- Producers and Consumers

unfoldable pub produce_in : Members → Result ProduceContent Code
produce_in members = do
  media ← required media_of (get_member (codes "kind") members)
  paused ← required bool_of (get_member (codes "paused") members)
  mapping ← required mapping_of (get_member (codes "rtpMapping") members)
  params ← required params_of (get_member (codes "rtpParameters") members)
  Ok (record { media = media; paused = paused; mapping = mapping; params = params })

unfoldable pub consume_in : Members → Result ConsumeContent Code
consume_in members = do
  consumable ← required encodings_of (get_member (codes "consumableRtpEncodings") members)
  media ← required media_of (get_member (codes "kind") members)
  paused ← required bool_of (get_member (codes "paused") members)
  params ← required params_of (get_member (codes "rtpParameters") members)
  simple ← required is_simple_of (get_member (codes "type") members)
  Ok (record { media = media; paused = paused; consumable = consumable; params = params; simple = simple })

-- a Producer has an encoding
abbrev pub valid_produce : ProduceContent → Option ProduceContent
valid_produce c = if nat_lt 0 (length c.params.encodings) then Some c else None

-- one of the consumable encodings for each of its own, and one alone where it is simple
abbrev pub is_matched : Bool → List Encoding → List Encoding → Bool
is_matched simple consumable encodings = (length consumable == length encodings) && (not simple || length encodings == 1)

-- a Consumer has an encoding, and as many as it consumes
abbrev pub valid_consume : ConsumeContent → Option ConsumeContent
valid_consume c = if nat_lt 0 (length c.params.encodings) && is_matched c.simple c.consumable c.params.encodings then Some c else None

abbrev pub produce_content : Option Data → Option ProduceContent
produce_content content = option_and_then valid_produce (content_by produce_in content)

abbrev pub consume_content : Option Data → Option ConsumeContent
consume_content content = option_and_then valid_consume (content_by consume_in content)
