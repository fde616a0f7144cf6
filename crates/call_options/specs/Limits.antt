-- How many items the lists of options may have (this project's own).
use Rattle.std.specs.Prelude.{◌&&◌, nat_le, List, length, Bool, if◌then◌else◌, Result, Ok, Err}
use Rattle.ms_base.specs.declared.code.Code.{Code}
use Rattle.ms_base.specs.declared.code.Code.TheVariants as code
use Rattle.rtp_params.specs.declared.codec.Codec.{Codec}
use Rattle.rtp_params.specs.declared.params.Caps.{Caps}
use Rattle.rtp_params.specs.declared.params.Params.{Params}
use Rattle.rtp_params.specs.Reading.{is_within}

-- a Router's: up to 32 codecs
abbrev pub router_fits : List Codec → Bool
router_fits codecs = nat_le (length codecs) 32

-- a Producer's: 1 to 32 codecs, up to 32 extensions, 1 to 8 encodings
abbrev pub params_fit : Params → Bool
params_fit params = is_within 1 32 (length params.codecs) && nat_le (length params.exts) 32 && is_within 1 8 (length params.encodings)

-- a receiver's: up to 128 codecs and up to 128 extensions
abbrev pub caps_fit : Caps → Bool
caps_fit caps = nat_le (length caps.codecs) 128 && nat_le (length caps.exts) 128

-- what is read, where its lists have as many items as they may have
abbrev pub if_fits : {A : Type 0} → (A → Bool) → A → Result A Code
if_fits fits x = if fits x then Ok x else Err code.Many
