-- How a mapping of payload types and SSRCs is read (this project's own).
use Rattle.std.specs.Prelude.{ℕ, codes, Result, Ok}
use Rattle.serde_json.specs.Data.{Data, Members}
use Rattle.serde_json.specs.Find.{get_member}
use Rattle.ms_base.specs.declared.code.Code.{Code}
use Rattle.rtp_params.specs.declared.mapping.Mapping.{Mapping}
use Rattle.rtp_params.specs.Reading.{◌>>=◌, number_of, object_of, required, list_of}
use Rattle.rtp_params.specs.Encodings.{ssrc_of}

-- a payload type (RFC 3550, section 5.1): 7 bits
abbrev pub type_of : Data → Result ℕ Code
type_of d = number_of 0 127 d

-- a payload type, and the one that stands for it
unfoldable pub types_in : Members → Result (ℕ × ℕ) Code
types_in members = do
  mapped ← required type_of (get_member (codes "mappedPayloadType") members)
  payload_type ← required type_of (get_member (codes "payloadType") members)
  Ok (payload_type, mapped)

abbrev pub types_of : Data → Result (ℕ × ℕ) Code
types_of d = object_of d >>= types_in

-- an SSRC, and the one that stands for it
unfoldable pub ssrcs_in : Members → Result (ℕ × ℕ) Code
ssrcs_in members = do
  mapped ← required ssrc_of (get_member (codes "mappedSsrc") members)
  ssrc ← required ssrc_of (get_member (codes "ssrc") members)
  Ok (ssrc, mapped)

abbrev pub ssrcs_of : Data → Result (ℕ × ℕ) Code
ssrcs_of d = object_of d >>= ssrcs_in

-- the members of a mapping, in their order
unfoldable pub mapping_in : Members → Result Mapping Code
mapping_in members = do
  codecs ← required (list_of types_of) (get_member (codes "codecs") members)
  encodings ← required (list_of ssrcs_of) (get_member (codes "encodings") members)
  Ok (record { codecs = codecs; encodings = encodings })

abbrev pub mapping_of : Data → Result Mapping Code
mapping_of d = object_of d >>= mapping_in
