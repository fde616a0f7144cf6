-- How whole parameters and capabilities are read (this project's own).
use Rattle.std.specs.Prelude.{ℕ, List, [], Bool, true, codes, Option, Result, Ok}
use Rattle.serde_json.specs.Data.{Data, Members, no_members}
use Rattle.serde_json.specs.Find.{get_member}
use Rattle.ms_base.specs.declared.code.Code.{Code}
use Rattle.rtp_params.specs.declared.params.Params.{Params}
use Rattle.rtp_params.specs.declared.params.Caps.{Caps}
use Rattle.rtp_params.specs.declared.codec.Codec.{Codec}
use Rattle.rtp_params.specs.declared.ext.Ext.{Ext}
use Rattle.rtp_params.specs.declared.place.Place.{Place}
use Rattle.rtp_params.specs.declared.place.Place.TheVariants.{InParams, InCaps}
use Rattle.rtp_params.specs.Reading.{◌>>=◌, text_of, bool_of, object_of, required, or_default, list_of}
use Rattle.rtp_params.specs.Codecs.{codec_of}
use Rattle.rtp_params.specs.Exts.{ext_of}
use Rattle.rtp_params.specs.Encodings.{encodings_of}

abbrev pub codecs_of : Place → Data → Result (List Codec) Code
codecs_of place d = list_of (codec_of place) d

abbrev pub exts_of : Place → Data → Result (List Ext) Code
exts_of place d = list_of (ext_of place) d

-- the canonical name, and whether RTCP has reduced size
unfoldable pub rtcp_in : Members → Result (List ℕ × Bool) Code
rtcp_in members = do
  cname ← or_default [] text_of (get_member (codes "cname") members)
  reduced_size ← or_default true bool_of (get_member (codes "reducedSize") members)
  Ok (cname, reduced_size)

-- without `rtcp` it is as an object without members
abbrev pub rtcp_of : Option Data → Result (List ℕ × Bool) Code
rtcp_of found = or_default no_members object_of found >>= rtcp_in

-- the members of parameters, in their order
unfoldable pub params_in : Members → Result Params Code
params_in members = do
  codecs ← required (codecs_of InParams) (get_member (codes "codecs") members)
  exts ← or_default [] (exts_of InParams) (get_member (codes "headerExtensions") members)
  encodings ← required encodings_of (get_member (codes "encodings") members)
  rtcp ← rtcp_of (get_member (codes "rtcp") members)
  Ok (record { codecs = codecs; exts = exts; encodings = encodings; cname = rtcp.0; reduced_size = rtcp.1 })

abbrev pub params_of : Data → Result Params Code
params_of d = object_of d >>= params_in

-- the members of capabilities, in their order
unfoldable pub caps_in : Members → Result Caps Code
caps_in members = do
  codecs ← or_default [] (codecs_of InCaps) (get_member (codes "codecs") members)
  exts ← or_default [] (exts_of InCaps) (get_member (codes "headerExtensions") members)
  Ok (record { codecs = codecs; exts = exts })

abbrev pub caps_of : Data → Result Caps Code
caps_of d = object_of d >>= caps_in
