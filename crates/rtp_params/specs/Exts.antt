-- How a header extension is read (this project's own).
use Rattle.std.specs.Prelude.{ℕ, ◌||◌, List, [], Bool, true, codes, if◌then◌else◌, Option, Some, None, Result, Ok, Err, bytes_eq}
use Rattle.serde_json.specs.Data.{Data, Members}
use Rattle.serde_json.specs.Find.{get_member}
use Rattle.ms_base.specs.declared.code.Code.{Code}
use Rattle.ms_base.specs.declared.code.Code.TheVariants as code
use Rattle.ms_base.specs.declared.keys.Media.{Media}
use Rattle.ms_base.specs.declared.keys.Media.TheVariants.{Audio, Video}
use Rattle.rtp_params.specs.declared.ext.Ext.{Ext}
use Rattle.rtp_params.specs.declared.place.Place.{Place}
use Rattle.rtp_params.specs.declared.place.Place.TheVariants.{InParams, InCaps}
use Rattle.rtp_params.specs.Reading.{◌>>=◌, number_of, text_of, filled_text_of, object_of, required, or_default}

-- the empty text stands for both media
abbrev pub kind_in : List ℕ → Result (Option Media) Code
kind_in text =
    if bytes_eq text [] then Ok None
    else if bytes_eq text (codes "audio") then Ok (Some Audio)
    else if bytes_eq text (codes "video") then Ok (Some Video)
    else Err code.Form

abbrev pub kind_of : Data → Result (Option Media) Code
kind_of d = text_of d >>= kind_in

-- the directions in which it is sent
abbrev pub is_sent : List ℕ → Bool
is_sent direction = bytes_eq direction (codes "sendrecv") || bytes_eq direction (codes "sendonly")

abbrev pub sends_of : Option Data → Result Bool Code
sends_of found = or_default (codes "sendrecv") text_of found >>= (λ direction. Ok (is_sent direction))

-- the members of an extension, in their order: parameters name neither media nor direction
unfoldable pub ext_in : Place → Members → Result Ext Code
ext_in InParams members = do
  uri ← required filled_text_of (get_member (codes "uri") members)
  id ← required (number_of 1 255) (get_member (codes "id") members)
  Ok (record { media = None; uri = uri; id = id; sends = true })
ext_in InCaps members = do
  media ← or_default None kind_of (get_member (codes "kind") members)
  uri ← required filled_text_of (get_member (codes "uri") members)
  id ← required (number_of 1 255) (get_member (codes "preferredId") members)
  sends ← sends_of (get_member (codes "direction") members)
  Ok (record { media = media; uri = uri; id = id; sends = sends })

abbrev pub ext_of : Place → Data → Result Ext Code
ext_of place d = object_of d >>= ext_in place
