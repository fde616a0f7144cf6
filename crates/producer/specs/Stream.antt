-- What contracts see of a Producer.
use Rattle.std.specs.Prelude.{ℕ, List, Option, Bool}
use Rattle.rtp_params.specs.declared.mapping.Mapping.{Mapping}
use Rattle.rtp_params.specs.declared.params.Params.{Params}

pub record Stream : Type 0 where
  pub params : Params
  pub mapping : Mapping
  -- the new id of each element's, at its place
  pub ids : List (Option ℕ)
  pub paused : Bool

abbrev pub stream_of : Params → Mapping → List (Option ℕ) → Bool → Stream
stream_of params mapping ids paused = record { params = params; mapping = mapping; ids = ids; paused = paused }
