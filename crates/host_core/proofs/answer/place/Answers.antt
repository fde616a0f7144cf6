use Rattle.std.proofs.Common.{◌≡◌, ◌≤◌, ◌<◌, ◌+◌, ℕ, List, length, arith, rules, subst, sym, ap, ◌∙◌}
use Rattle.std.proofs.lemmas.Grind.{common_steps}
use Rattle.channel_frames.specs.Frames.{max_payload}
use Rattle.channel_msgs.specs.View.{RequestView, request_view}
use Rattle.pending_calls.specs.Pending.{max_id}
use Rattle.host_requests.specs.Requests.{last_on}
use Rattle.host_model.specs.Answer.{asked_payload}
use Rattle.host_core.proofs.AnswerLemmas.{placed-long, placed-spent, placed-there, text-request, whole-request}
use Rattle.host_core.proofs.answer.place.Goals as goal

pub returns-in_default-checked_add-clause-placed : goal.returns-in_default-checked_add-clause-placed
returns-in_default-checked_add-clause-placed c = λ s r k e view whole.
    let spent : max_id ≤ last_on c.args.tables.now.requests c.in-Some.channel = first_of (search rules, grind (arith, common_steps)) in
    placed-spent s c.args.tables.now k r c.args.under e c.in-Some.channel (sym c.in-Some.is ∙ c.channel_above.ensures) spent

pub returns-then-len-gt-MAX_PAYLOAD-clause-placed : goal.returns-then-len-gt-MAX_PAYLOAD-clause-placed
returns-then-len-gt-MAX_PAYLOAD-clause-placed c = λ s r k e view whole.
    let last : ℕ = last_on c.args.tables.now.requests c.in-Some.channel in
    let v : RequestView = request_view c.args.request in
    let left : last < max_id = first_of (search rules, grind (arith, common_steps)) in
    let number : c.in-Some-checked_add.id ≡ last + 1 = first_of (search rules, grind (arith, common_steps)) in
    let text = c.in_ok-payload.ensures.text (whole-request r v view whole) ∙ text-request r v c.in-Some-checked_add.id view ∙ ap (asked_payload r) number in
    let long : max_payload < length c.in_ok-payload.payload = first_of (search rules, grind (arith, common_steps)) in
    placed-long s c.args.tables.now k r c.args.under e c.in-Some.channel (sym c.in-Some.is ∙ c.channel_above.ensures) left c.in_ok-payload.payload text long

pub returns-clause-placed : goal.returns-clause-placed
returns-clause-placed c = λ s r k e view whole.
    let last : ℕ = last_on c.args.tables.now.requests c.in-Some.channel in
    let v : RequestView = request_view c.args.request in
    let left : last < max_id = first_of (search rules, grind (arith, common_steps)) in
    let number : c.in-Some-checked_add.id ≡ last + 1 = first_of (search rules, grind (arith, common_steps)) in
    let text = c.in_ok-payload.ensures.text (whole-request r v view whole) ∙ text-request r v c.in-Some-checked_add.id view ∙ ap (asked_payload r) number in
    let short : length c.in_ok-payload.payload ≤ max_payload = first_of (search rules, grind (arith, common_steps)) in
    let same : c.in_ok-kept.kept ≡ c.in_ok-payload.payload = c.in_ok-kept.ensures in
    let fits : length c.in_ok-kept.kept ≤ max_payload = subst (λ (p : List ℕ). length p ≤ max_payload) (sym same) short in
    placed-there s c.args.tables.now k r c.args.under e c.in-Some.channel (sym c.in-Some.is ∙ c.channel_above.ensures) left c.in_ok-kept.kept (same ∙ text) fits
