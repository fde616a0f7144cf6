-- What a Consumer keeps for packets beside what contracts see of it. This project's own.
use Rattle.std.specs.Prelude.{◌≡◌, ℕ, ◌<◌, Bool, false, List, length, get_or}
use Rattle.rtp_params.specs.declared.params.Params.{Params}
use Rattle.rtp_extension.specs.Ids.{has_id}
use Rattle.simple_consumer.specs.Sending.{has_payload_type, has_ext, ssrc_of}

-- for each payload type whether the parameters have it
pub record AreTypesOf (params : Params) (types : List Bool) : Type 0 where
  pub places : length types ≡ 128
  pub each : (t : ℕ) → t < 128 → get_or types t false ≡ has_payload_type params t

pub record AreTables (params : Params) (ssrc : ℕ) (types exts : List Bool) : Type 0 where
  pub ssrc_is : ssrc ≡ ssrc_of params
  pub types_are : AreTypesOf params types
  pub exts_are : (id : ℕ) → has_id exts id ≡ has_ext params id
