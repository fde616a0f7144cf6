-- What a Router offers to Consumers of what a Producer sends (this project's own, after mediasoup's
-- `getConsumableRtpParameters`): in the Router's payload types and header extensions, with the mapped SSRCs.
use Rattle.std.specs.Prelude.{ℕ, ◌==◌, List, [], ◌∷◌, true, filter, find, map, if◌then◌else◌, Option, Some, None, option_and_then}
use Rattle.std.specs.List.{flat_map}
use Rattle.std.specs.Option.{option_to_list}
use Rattle.ms_base.specs.declared.keys.Media.{Media}
use Rattle.rtp_params.specs.declared.codec.Codec.{Codec}
use Rattle.rtp_params.specs.declared.encoding.Encoding.{Encoding}
use Rattle.rtp_params.specs.declared.ext.Ext.{Ext}
use Rattle.rtp_params.specs.declared.mapping.Mapping.{Mapping}
use Rattle.rtp_params.specs.declared.params.Caps.{Caps}
use Rattle.rtp_params.specs.declared.params.Params.{Params}
use Rattle.rtp_params.specs.Table.{sent_exts}
use Rattle.ortc_map.specs.RouterCaps.{has_type}
use Rattle.ortc_map.specs.ProducerMapping.{is_media, is_rtx_of}

-- what stands for a payload type: of several pairs with it the first counts
abbrev pub mapped_type : List (ℕ × ℕ) → ℕ → Option ℕ
mapped_type [] own = None
mapped_type (pair ∷ pairs) own = if pair.0 == own then Some pair.1 else mapped_type pairs own

-- the Router's payload type of a Producer's codec
abbrev pub type_for_codec : List (ℕ × ℕ) → Codec → Option ℕ
type_for_codec types codec = option_and_then (mapped_type types) codec.payload_type

-- the Router's codec with the parameters that the Producer gave, and behind it the one of its retransmissions
abbrev pub offered_as : List Codec → Codec → ℕ → Option Codec → List Codec
offered_as router codec type None = []
offered_as router codec type (Some found) = record found { parameters = codec.parameters } ∷ option_to_list (find (is_rtx_of type) router)

-- what is offered of a codec whose type is mapped
abbrev pub offered : List Codec → Codec → Option ℕ → List Codec
offered router codec None = []
offered router codec (Some type) = offered_as router codec type (find (has_type type) router)

abbrev pub offered_codec : List Codec → List (ℕ × ℕ) → Codec → List Codec
offered_codec router types codec = offered router codec (type_for_codec types codec)

-- codec by codec of those that carry media
abbrev pub offered_codecs : List Codec → List (ℕ × ℕ) → List Codec → List Codec
offered_codecs router types codecs = flat_map (offered_codec router types) (filter is_media codecs)

-- an extension as parameters have it: for whatever media
abbrev pub as_of_params : Ext → Ext
as_of_params ext = record ext { media = None }

abbrev pub offered_exts : Media → List Ext
offered_exts media = map as_of_params (sent_exts media)

-- the stream that stands for a Producer's
abbrev pub offered_encoding : ℕ × ℕ → Encoding
offered_encoding pair = record { ssrc = pair.1; rtx = None }

unfoldable pub consumable : Media → Params → Caps → Mapping → Params
consumable media params caps mapping =
    record {
      codecs = offered_codecs caps.codecs mapping.codecs params.codecs;
      exts = offered_exts media;
      encodings = map offered_encoding mapping.encodings;
      cname = params.cname;
      reduced_size = true;
    }
