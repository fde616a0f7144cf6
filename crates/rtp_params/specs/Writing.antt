-- The JSON values that parameters and capabilities are written as (this project's own). The members of an
-- object stand in the order of their names, as JSON objects have them here.
use Rattle.std.specs.Prelude.{ℕ, List, [], ◌∷◌, ◌++◌, Bool, true, false, codes, Option, Some, None, map, option_map}
use Rattle.serde_json.specs.Data.{unsigned, Data, boolean, number, string, array, object, Members, no_members, member, put}
use Rattle.serde_json.specs.Find.{of_integer}
use Rattle.serde_json.specs.View.{items_of}
use Rattle.ms_base.specs.declared.keys.Media.{Media}
use Rattle.ms_base.specs.declared.keys.Media.TheVariants.{Audio, Video}
use Rattle.rtp_params.specs.declared.codec.Codec.{Codec}
use Rattle.rtp_params.specs.declared.codec.Scalar.{Scalar}
use Rattle.rtp_params.specs.declared.codec.Scalar.TheVariants.{Number, Word}
use Rattle.rtp_params.specs.declared.encoding.Encoding.{Encoding}
use Rattle.rtp_params.specs.declared.ext.Ext.{Ext}
use Rattle.rtp_params.specs.declared.params.Params.{Params}
use Rattle.rtp_params.specs.declared.params.Caps.{Caps}
use Rattle.rtp_params.specs.declared.place.Place.{Place}
use Rattle.rtp_params.specs.declared.place.Place.TheVariants.{InParams, InCaps}
use Rattle.rtp_params.specs.Codecs.{payload_type_name}

abbrev pub number_value : ℕ → Data
number_value n = number (unsigned n)

-- one more member, where it has a value
abbrev pub put_optional : List ℕ → Option Data → Members → Members
put_optional name None members = members
put_optional name (Some d) members = put name d members

-- a list, item by item
abbrev pub list_value : {A : Type 0} → (A → Data) → List A → Data
list_value value xs = array (items_of (map value xs))

-- Codecs.

abbrev pub mime_type_text : Media → List ℕ → List ℕ
mime_type_text Audio name = codes "audio/" ++ name
mime_type_text Video name = codes "video/" ++ name

-- audio alone has channels
abbrev pub written_channels : Media → Option ℕ → Option ℕ
written_channels Audio channels = channels
written_channels Video channels = None

abbrev pub scalar_value : Scalar → Data
scalar_value (Number z) = number (of_integer z)
scalar_value (Word text) = string text

-- an object with these members beside its own: of equal names the later counts
abbrev pub put_parameters : List (List ℕ × Scalar) → Members → Members
put_parameters [] members = members
put_parameters (p ∷ ps) members = put_parameters ps (put p.0 (scalar_value p.1) members)

abbrev pub parameters_value : List (List ℕ × Scalar) → Data
parameters_value parameters = object (put_parameters parameters no_members)

abbrev pub feedback_value : List ℕ × List ℕ → Data
feedback_value f = object (member (codes "parameter") (string f.1) (member (codes "type") (string f.0) no_members))

-- the members that each codec has
abbrev pub codec_members : Codec → Members
codec_members codec =
    member (codes "clockRate") (number_value codec.clock_rate) (
    member (codes "mimeType") (string (mime_type_text codec.media codec.name)) (
    member (codes "parameters") (parameters_value codec.parameters) (
    member (codes "rtcpFeedback") (list_value feedback_value codec.feedback) no_members
    )
    )
    )

unfoldable pub codec_value : Place → Codec → Data
codec_value place codec =
    object (
    put_optional (codes "channels") (option_map number_value (written_channels codec.media codec.channels)) (
    put_optional (payload_type_name place) (option_map number_value codec.payload_type) (codec_members codec)
    )
    )

-- Header extensions.

abbrev pub direction_text : Bool → List ℕ
direction_text true = codes "sendrecv"
direction_text false = codes "recvonly"

abbrev pub kind_text : Option Media → List ℕ
kind_text None = []
kind_text (Some Audio) = codes "audio"
kind_text (Some Video) = codes "video"

unfoldable pub ext_value : Place → Ext → Data
ext_value InParams ext = object (member (codes "id") (number_value ext.id) (member (codes "uri") (string ext.uri) no_members))
ext_value InCaps ext =
    object (
    member (codes "direction") (string (direction_text ext.sends)) (
    member (codes "kind") (string (kind_text ext.media)) (
    member (codes "preferredId") (number_value ext.id) (
    member (codes "uri") (string ext.uri) no_members
    )
    )
    )
    )

-- Encodings.

abbrev pub rtx_value : ℕ → Data
rtx_value ssrc = object (member (codes "ssrc") (number_value ssrc) no_members)

unfoldable pub encoding_value : Encoding → Data
encoding_value encoding =
    object (
    put_optional (codes "rtx") (option_map rtx_value encoding.rtx) (
    member (codes "ssrc") (number_value encoding.ssrc) no_members
    )
    )

-- The whole.

abbrev pub rtcp_value : List ℕ → Bool → Data
rtcp_value cname reduced_size =
    object (member (codes "cname") (string cname) (member (codes "reducedSize") (boolean reduced_size) no_members))

unfoldable pub params_value : Params → Data
params_value params =
    object (
    member (codes "codecs") (list_value (codec_value InParams) params.codecs) (
    member (codes "encodings") (list_value encoding_value params.encodings) (
    member (codes "headerExtensions") (list_value (ext_value InParams) params.exts) (
    member (codes "rtcp") (rtcp_value params.cname params.reduced_size) no_members
    )
    )
    )
    )

unfoldable pub caps_value : Caps → Data
caps_value caps =
    object (
    member (codes "codecs") (list_value (codec_value InCaps) caps.codecs) (
    member (codes "headerExtensions") (list_value (ext_value InCaps) caps.exts) no_members
    )
    )
