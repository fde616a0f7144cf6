-- What is kept of an object that a request makes: something of some kinds alone, and the SSRCs that it draws. This project's
-- own.
use Rattle.std.specs.Prelude.{◌≡◌, ⊤, ℕ, ◌+◌, List, [], length, map, Bool, true, false, Option, Some, None}
use Rattle.std.specs.List.{range_with_len}
use Rattle.ms_base.specs.Kinds.{same_kind}
use Rattle.ms_base.specs.declared.keys.Kind.{Kind}
use Rattle.ms_base.specs.declared.keys.Kind.TheVariants as kind
use Rattle.object_tree.specs.declared.object.Object.{Object}
use Rattle.pipe_params.specs.Pipe.{ssrcs_of}
use Rattle.request_build.specs.declared.built.Draws.{Draws}
use Rattle.request_build.specs.declared.built.Keep.{Keep}
use Rattle.request_build.specs.declared.built.Keep.TheVariants as keep

-- ---- kinds

abbrev pub is_of_router : Keep → Bool
is_of_router (keep.Router caps) = true
is_of_router other = false

abbrev pub is_of_producer : Keep → Bool
is_of_producer (keep.Producer offer) = true
is_of_producer other = false

abbrev pub is_of_consumer : Keep → Bool
is_of_consumer (keep.Consumer params) = true
is_of_consumer other = false

abbrev pub is_of_pipe : Keep → Bool
is_of_pipe (keep.Pipe enable_rtx) = true
is_of_pipe other = false

-- so much is kept of an object of this kind: of a Router, a Producer, a Consumer and an end of a pipe, and nothing of another
pub record IsOfKind (of_kind : Kind) (keeps : Keep) : Type 0 where
  pub router : is_of_router keeps ≡ same_kind of_kind kind.Router
  pub producer : is_of_producer keeps ≡ same_kind of_kind kind.Producer
  pub consumer : is_of_consumer keeps ≡ same_kind of_kind kind.Consumer
  pub pipe : is_of_pipe keeps ≡ same_kind of_kind kind.Pipe

-- nothing is to be kept where nothing is made
abbrev pub KeepsFor : Option Object → Keep → Type 0
KeepsFor None keeps = keeps ≡ keep.Nothing
KeepsFor (Some o) keeps = IsOfKind o.kind keeps

-- ---- SSRCs

-- those of the streams that stand for a Producer's, or that a Consumer receives, and behind them those of their retransmissions
abbrev pub ssrcs_kept : Keep → List ℕ
ssrcs_kept (keep.Producer offer) = ssrcs_of offer.params.encodings
ssrcs_kept (keep.Consumer params) = ssrcs_of params.encodings
ssrcs_kept other = []

-- a Producer's SSRCs are mapped to those that it offers
abbrev pub IsMapped : Keep → Type 0
IsMapped (keep.Producer offer) = map (λ pair. pair.1) offer.mapping.encodings ≡ map (λ encoding. encoding.ssrc) offer.params.encodings
IsMapped other = ⊤

-- What is kept has exactly the SSRCs that were drawn for it, which are numbers in a row.
pub record KeepsWhatItDraws (before after : Draws) (keeps : Keep) : Type 0 where
  pub row : ssrcs_kept keeps ≡ range_with_len before.ssrc (length (ssrcs_kept keeps))
  pub next : after.ssrc ≡ before.ssrc + length (ssrcs_kept keeps)
  pub mapped : IsMapped keeps
