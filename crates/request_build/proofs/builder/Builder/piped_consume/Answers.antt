use Rattle.std.proofs.Common.{length, ap, ◌∙◌, arith}
use Rattle.rtp_params.specs.declared.params.Params.{Params}
use Rattle.request_build.proofs.MediaLemmas.{length-piped}
use Rattle.request_build.proofs.builder.Builder.piped_consume.Goals as goal

pub consumer_of-requires : goal.consumer_of-requires
consumer_of-requires c =
    let same = ap (λ (p : Params). length p.encodings) c.in_ok-params.ensures ∙ length-piped _ _ _ in
    omega (arith, c.in_ok-offer.ensures.few)
