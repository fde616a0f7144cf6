use Rattle.std.proofs.Common.{◌∙◌}
use Rattle.std.proofs.lemmas.Result.{IfOk-weaker}
use Rattle.channel_msgs.specs.Json.{request_members}
use Rattle.channel_msgs.specs.View.{RequestView, request_view}
use Rattle.channel_msgs.proofs.ContentLemmas.{request_nests}
use Rattle.channel_msgs.proofs.WriteLemmas.{request_read}
use Rattle.channel_msgs.proofs.write.write_request.Goals as goal

pub returns-clause-reads_back : goal.returns-clause-reads_back
returns-clause-reads_back c =
    let r : RequestView = request_view c.args.request.now in
    IfOk-weaker c.write_value.result _ _ (λ b back can. back (request_members r) c.in_ok-value.ensures.value (request_nests r can.nests) ∙ request_read r can.id c.in_ok-value.ensures.ids)
    c.write_value.ensures.request
