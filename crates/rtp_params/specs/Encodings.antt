-- How the encodings of parameters are read (this project's own).
use Rattle.std.specs.Prelude.{ℕ, ◌==◌, List, [], Bool, codes, if◌then◌else◌, Result, Ok, Err}
use Rattle.std.specs.List.{list_any}
use Rattle.serde_json.specs.Data.{Data, Members}
use Rattle.serde_json.specs.Find.{get_member, as_array}
use Rattle.ms_base.specs.declared.code.Code.{Code}
use Rattle.ms_base.specs.declared.code.Code.TheVariants as code
use Rattle.rtp_params.specs.declared.encoding.Encoding.{Encoding}
use Rattle.rtp_params.specs.Reading.{◌>>=◌, or_form, number_of, object_of, required, optional, items_list, read_behind}

-- an SSRC (RFC 3550, section 3): 32 bits
abbrev pub ssrc_of : Data → Result ℕ Code
ssrc_of d = number_of 0 4294967295 d

-- whether one of the encodings has this as its own SSRC
abbrev pub is_own : List Encoding → ℕ → Bool
is_own encodings ssrc = list_any (λ e. e.ssrc == ssrc) encodings

-- an encoding's own SSRC, which no encoding before it has; each fault of it has the code `ssrc`
abbrev pub own_ssrc_of : List Encoding → Result ℕ Code → Result ℕ Code
own_ssrc_of before (Ok ssrc) = if is_own before ssrc then Err code.Ssrc else Ok ssrc
own_ssrc_of before (Err _) = Err code.Ssrc

-- the SSRC of the retransmissions
abbrev pub rtx_of : Data → Result ℕ Code
rtx_of d = object_of d >>= (λ members. required ssrc_of (get_member (codes "ssrc") members))

-- the members of an encoding, in their order
unfoldable pub encoding_in : List Encoding → Members → Result Encoding Code
encoding_in before members = do
  ssrc ← own_ssrc_of before (required ssrc_of (get_member (codes "ssrc") members))
  rtx ← optional rtx_of (get_member (codes "rtx") members)
  Ok (record { ssrc = ssrc; rtx = rtx })

abbrev pub encoding_of : List Encoding → Data → Result Encoding Code
encoding_of before d = object_of d >>= encoding_in before

abbrev pub encodings_of : Data → Result (List Encoding) Code
encodings_of d = do
  items ← or_form (as_array d)
  read_behind encoding_of [] (items_list items)
