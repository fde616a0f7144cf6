-- A mapping to payload types gives payload types.
use Rattle.std.proofs.Common.{ℕ, ◌<◌, ◌≤◌, ◌==◌, List, [], ◌∷◌, Option, Some, None, option_map, arith, inl, inr}
use Rattle.std.proofs.lemmas.Bool.{cases_Bool}
use Rattle.std.specs.List.{find}
use Rattle.std.specs.Option.{option_and_then}
use Rattle.std.specs.Prelude.{IfSome}
use Rattle.rtp_packet.specs.Packet.{Fields}
use Rattle.rtp_params.specs.Readable.{Each}
use Rattle.rtp_params.specs.declared.codec.Codec.{Codec}
use Rattle.rtp_params.specs.declared.mapping.Mapping.{Mapping}
use Rattle.rtp_params.specs.declared.params.Params.{Params}
use Rattle.producer.specs.Received.{mapped_to, is_media_codec, mapped_ssrc, mapped_as, received}

mapped-fits : (pairs : List (ℕ × ℕ)) (t : ℕ) → Each (λ pair. pair.1 ≤ 127) pairs → IfSome (mapped_to pairs t) (λ m. m ≤ 127)
mapped-fits [] t each = tt
mapped-fits (p ∷ ps) t each = elim (cases_Bool (p.0 == t)) [ inl same ↦ rw same each.0 | inr other ↦ rw other (mapped-fits ps t each.1) ]

kind-fits : (codec : Option Codec) (type ssrc : Option ℕ) (payload : List ℕ) → IfSome type (λ m. m ≤ 127)
    → IfSome (option_and_then (λ kind. option_map (mapped_as payload kind) ssrc) (option_and_then (λ c. option_map (λ m. (c, m)) type) codec)) (λ m. m.payload_type < 128)
kind-fits None type ssrc payload h = tt
kind-fits (Some codec) None ssrc payload h = tt
kind-fits (Some codec) (Some m) None payload h = tt
kind-fits (Some codec) (Some m) (Some s) payload h = omega (arith, h)

pub received-fits : (params : Params) (mapping : Mapping) (f : Fields) → Each (λ pair. pair.1 ≤ 127) mapping.codecs
    → IfSome (received params mapping f) (λ m. m.payload_type < 128)
received-fits params mapping f each =
    kind-fits (find (is_media_codec f.payload_type) params.codecs) (mapped_to mapping.codecs f.payload_type) (mapped_ssrc params mapping f.ssrc) f.payload (mapped-fits mapping.codecs f.payload_type each)
