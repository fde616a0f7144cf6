-- Which contents the types of the code and the reading rules can give (this project's own).
use Rattle.std.specs.Prelude.{◌≡◌, ℕ, ◌<◌, ◌≤◌, List, length, Bool, true}
use Rattle.ms_base.specs.declared.tuple.Tuple.{Tuple}
use Rattle.rtp_params.specs.declared.encoding.Encoding.{Encoding}
use Rattle.rtp_params.specs.declared.mapping.Mapping.{Mapping}
use Rattle.rtp_params.specs.declared.params.Params.{Params}
use Rattle.rtp_params.specs.Readable.{AreApart, Each, IsEncoding, IsParams, IsWithin}

-- the four octets of an IPv4 address
pub record IsAddress (octets : List ℕ) : Type 0 where
  pub four : length octets ≡ 4
  pub each : Each (λ octet. octet < 256) octets

-- an end that can be sent to
pub record IsEnd (tuple : Tuple) : Type 0 where
  pub ip : IsAddress tuple.ip
  pub port : IsWithin 1 65535 tuple.port

-- payload types have 7 bits, SSRCs have 32
pub record IsMapping (mapping : Mapping) : Type 0 where
  pub types : Each (λ pair. (pair.0 ≤ 127) × (pair.1 ≤ 127)) mapping.codecs
  pub ssrcs : Each (λ pair. (pair.0 ≤ 4294967295) × (pair.1 ≤ 4294967295)) mapping.encodings

-- a Producer has an encoding
pub record IsProduced (mapping : Mapping) (params : Params) : Type 0 where
  pub mapped : IsMapping mapping
  pub readable : IsParams params
  pub some : 1 ≤ length params.encodings

-- a Consumer has an encoding for each that it consumes, and one alone where it is simple
pub record IsConsumed (consumable : List Encoding) (params : Params) (simple : Bool) : Type 0 where
  pub each : Each IsEncoding consumable
  pub apart : AreApart consumable
  pub readable : IsParams params
  pub some : 1 ≤ length params.encodings
  pub matched : length consumable ≡ length params.encodings
  pub one : simple ≡ true → length params.encodings ≡ 1
