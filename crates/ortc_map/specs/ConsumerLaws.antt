-- Of what the laws of consuming speak (this project's own).
use Rattle.std.specs.Prelude.{◌≡◌, ℕ, ◌+◌, ◌⊎◌, List, [], ◌∷◌, Bool, true, false, find, Some, None, IsSomeAnd}
use Rattle.std.specs.List.{list_all}
use Rattle.rtp_params.specs.declared.codec.Codec.{Codec}
use Rattle.rtp_params.specs.declared.encoding.Encoding.{Encoding}
use Rattle.rtp_params.specs.declared.params.Caps.{Caps}
use Rattle.rtp_params.specs.declared.params.Params.{Params}
use Rattle.rtp_params.specs.Names.{is_rtx}
use Rattle.ortc_map.specs.ConsumerParams.{is_matched, stays}

-- the first codec that is matched is for retransmissions, and doesn't stay
abbrev pub LosesTheFirst : Params → Caps → Type 0
LosesTheFirst consumable caps =
    IsSomeAnd (find (is_matched caps.codecs) consumable.codecs) (λ codec. (is_rtx codec ≡ true) × (stays caps.codecs consumable.codecs codec ≡ false))

-- all behind the first codec are for retransmissions, as where a Producer has one codec that carries media
abbrev pub are_of_one : List Codec → Bool
are_of_one [] = true
are_of_one (codec ∷ codecs) = list_all is_rtx codecs

-- one stream, with one SSRC or two
abbrev pub DrawsOneOrTwo : ℕ → List Encoding → Type 0
DrawsOneOrTwo first encodings =
    (encodings ≡ record { ssrc = first; rtx = None } ∷ []) ⊎ (encodings ≡ record { ssrc = first; rtx = Some (first + 1) } ∷ [])
