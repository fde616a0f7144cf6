use Rattle.std.proofs.Common.{◌∙◌}
use Rattle.std.proofs.lemmas.Result.{IfOk-weaker}
use Rattle.channel_msgs.specs.Json.{answer_members}
use Rattle.channel_msgs.specs.View.{ReplyView, reply_view}
use Rattle.channel_msgs.proofs.ContentLemmas.{reply_nests}
use Rattle.channel_msgs.proofs.WriteLemmas.{answer_read}
use Rattle.channel_msgs.proofs.write.write_reply.Goals as goal

pub returns-clause-reads_back : goal.returns-clause-reads_back
returns-clause-reads_back c =
    let r : ReplyView = reply_view c.args.reply.now in
    IfOk-weaker c.write_value.result _ _ (λ b back can. back (answer_members r.id r.answer) c.in_ok-value.ensures (reply_nests r can.nests) ∙ answer_read r.id r.answer can.id can.error)
    c.write_value.ensures.message
