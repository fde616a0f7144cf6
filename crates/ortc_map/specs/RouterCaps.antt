-- What a Router can receive and send (this project's own, after mediasoup's `getRouterRtpCapabilities`): codec by
-- codec of those that it was given.
use Rattle.std.specs.Prelude.{ℕ, ◌==◌, not, List, [], ◌∷◌, ◌++◌, Bool, false, codes, find, if◌then◌else◌, Option, Some, None, Result, Ok, Err, pos}
use Rattle.std.specs.List.{list_any}
use Rattle.std.specs.Option.{ok_or}
use Rattle.ms_base.specs.declared.keys.Media.{Media}
use Rattle.ms_base.specs.declared.keys.Media.TheVariants.{Audio, Video}
use Rattle.rtp_params.specs.declared.codec.Codec.{Codec}
use Rattle.rtp_params.specs.declared.codec.Scalar.TheVariants.{Number}
use Rattle.rtp_params.specs.declared.params.Caps.{Caps}
use Rattle.rtp_params.specs.Table.{ext_table}
use Rattle.ortc_map.specs.declared.fault.MapFault.{MapFault}
use Rattle.ortc_map.specs.Rules.{◌>>=◌, unsupported_codec, no_type_left, duplicate_type}
use Rattle.ortc_map.specs.Matching.{matches}
use Rattle.ortc_map.specs.Supported.{supported_codecs}

abbrev pub is_number : ℕ → Option ℕ → Bool
is_number n (Some m) = m == n
is_number n None = false

abbrev pub has_type : ℕ → Codec → Bool
has_type type codec = is_number type codec.payload_type

-- whether one of the codecs has the payload type
abbrev pub is_taken : List Codec → ℕ → Bool
is_taken codecs type = list_any (has_type type) codecs

-- the payload types that are drawn (of the dynamic ones, RFC 3551, section 3), in this order
unfoldable pub dynamic_types : List ℕ
dynamic_types =
    100 ∷ 101 ∷ 102 ∷ 103 ∷ 104 ∷ 105 ∷ 106 ∷ 107 ∷ 108 ∷ 109 ∷ 110 ∷ 111 ∷ 112 ∷ 113 ∷ 114 ∷ 115 ∷ 116 ∷ 117 ∷ 118
    ∷ 119 ∷ 120 ∷ 121 ∷ 122 ∷ 123 ∷ 124 ∷ 125 ∷ 126 ∷ 127 ∷ 96 ∷ 97 ∷ 98 ∷ 99 ∷ []

-- the first that no codec has
abbrev pub next_type : List Codec → Result ℕ MapFault
next_type codecs = ok_or (find (λ type. not (is_taken codecs type)) dynamic_types) no_type_left

-- the type of a further codec: the one that it is given, else that of the table, else the next
abbrev pub type_for : List Codec → Option ℕ → Option ℕ → Result ℕ MapFault
type_for codecs (Some given) fixed = Ok given
type_for codecs None (Some fixed) = Ok fixed
type_for codecs None None = next_type codecs

-- a type that no codec has
abbrev pub unused : List Codec → ℕ → Result ℕ MapFault
unused codecs type = if is_taken codecs type then Err duplicate_type else Ok type

abbrev pub new_type : List Codec → Option ℕ → Option ℕ → Result ℕ MapFault
new_type codecs given fixed = type_for codecs given fixed >>= unused codecs

-- the table's codec with its type and the parameters that were given: the table has none
abbrev pub router_codec : Codec → Codec → ℕ → Codec
router_codec given supported type = record supported { payload_type = Some type; parameters = given.parameters }

-- the codec of the retransmissions of a payload type (RFC 4588, section 8)
abbrev pub rtx_codec : ℕ → ℕ → ℕ → Codec
rtx_codec type clock_rate apt = record { media = Video; name = codes "rtx"; payload_type = Some type; clock_rate = clock_rate; channels = None; parameters = (codes "apt", Number (pos apt)) ∷ []; feedback = [] }

-- video has retransmissions
abbrev pub with_rtx : Media → ℕ → ℕ → List Codec → Result (List Codec) MapFault
with_rtx Audio clock_rate apt codecs = Ok codecs
with_rtx Video clock_rate apt codecs = do
  type ← next_type codecs
  Ok (codecs ++ rtx_codec type clock_rate apt ∷ [])

-- the Router's codecs with those of one more that was given
unfoldable pub with_codec : List Codec → Codec → Result (List Codec) MapFault
with_codec codecs given = do
  supported ← ok_or (find (matches given) supported_codecs) unsupported_codec
  type ← new_type codecs given.payload_type supported.payload_type
  with_rtx supported.media supported.clock_rate type (codecs ++ router_codec given supported type ∷ [])

abbrev pub with_codecs : List Codec → List Codec → Result (List Codec) MapFault
with_codecs codecs [] = Ok codecs
with_codecs codecs (given ∷ others) = with_codec codecs given >>= (λ now. with_codecs now others)

-- those of all, and each extension of the table
abbrev pub router_caps : List Codec → Result Caps MapFault
router_caps given = do
  codecs ← with_codecs [] given
  Ok (record { codecs = codecs; exts = ext_table })
