use Rattle.std.proofs.Common.{List, map, sym, ap, subst, ◌∙◌}
use Rattle.pipe_consumer.specs.Laws.{AreDifferent}
use Rattle.rtp_params.specs.declared.encoding.Encoding.{Encoding}
use Rattle.worker_calls.proofs.SsrcLemmas.{different}
use Rattle.worker_calls.proofs.streams.add_consumer.Goals as goal

pub add_consumer-added-requires-clause-different : goal.add_consumer-added-requires-clause-different
add_consumer-added-requires-clause-different c =
    subst AreDifferent
    (sym (c.as_slice-2.ensures.value ∙ (c.in_ok-mapped.ensures ∙ ap (λ (es : List Encoding). map (λ e. e.ssrc) es) c.as_slice.ensures)))
    (different c.consumer.inside.content.consumable c.consumer.invariant.consumable_apart)
