-- What a host reads of the content of a reply or a notice, by the reading rules of parameters (this project's own, after
-- mediasoup's replies and notices). A content is read where each member that is named here is there in its form; all others are
-- left alone. A `null` is another form and no want of the member, and a whole number is one that is digits alone in the text.
use Rattle.std.specs.Prelude.{ℕ, List, codes, Option, Result, Ok}
use Rattle.serde_json.specs.Data.{Data, Members}
use Rattle.serde_json.specs.Find.{get_member}
use Rattle.ms_base.specs.declared.code.Code.{Code}
use Rattle.ms_base.specs.declared.tuple.Tuple.{Tuple}
use Rattle.rtp_params.specs.Reading.{◌>>=◌, bool_of, number_of, object_of, required}
use Rattle.worker_requests.specs.Contents.{content_by, ip_of}
use Rattle.reply_contents.specs.declared.content.Flags.{Flags}

-- ---- ends of flows of datagrams

-- an IPv4 address and a UDP port from the least one on, under these names
unfoldable pub end_in : List ℕ → List ℕ → ℕ → Members → Result Tuple Code
end_in ip_name port_name least members = do
  ip ← required ip_of (get_member ip_name members)
  port ← required (number_of least 65535) (get_member port_name members)
  Ok (record { ip = ip; port = port })

-- the object `tuple` has them
abbrev pub tuple_in : List ℕ → List ℕ → ℕ → Members → Result Tuple Code
tuple_in ip_name port_name least members = required object_of (get_member (codes "tuple") members) >>= end_in ip_name port_name least

-- where a new transport listens: its port can be sent to
abbrev pub local_tuple : Option Data → Option Tuple
local_tuple content = content_by (tuple_in (codes "localIp") (codes "localPort") 1) content

-- from where a transport's packets come: a datagram may say that it has port 0 (RFC 768)
abbrev pub remote_tuple : Option Data → Option Tuple
remote_tuple content = content_by (tuple_in (codes "remoteIp") (codes "remotePort") 0) content

-- ---- a new Consumer

unfoldable pub flags_in : Members → Result Flags Code
flags_in members = do
  paused ← required bool_of (get_member (codes "paused") members)
  producer_paused ← required bool_of (get_member (codes "producerPaused") members)
  Ok (record { paused = paused; producer_paused = producer_paused })

abbrev pub consume_flags : Option Data → Option Flags
consume_flags content = content_by flags_in content
