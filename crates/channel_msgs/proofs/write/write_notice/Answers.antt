use Rattle.std.proofs.Common.{◌∙◌}
use Rattle.std.proofs.lemmas.Result.{IfOk-weaker}
use Rattle.channel_msgs.specs.Json.{notice_members}
use Rattle.channel_msgs.specs.View.{NoticeView, notice_view}
use Rattle.channel_msgs.proofs.ContentLemmas.{notice_nests}
use Rattle.channel_msgs.proofs.WriteLemmas.{notice_read}
use Rattle.channel_msgs.proofs.write.write_notice.Goals as goal

pub returns-clause-reads_back : goal.returns-clause-reads_back
returns-clause-reads_back c =
    let r : NoticeView = notice_view c.args.notice.now in
    IfOk-weaker c.write_value.result _ _ (λ b back can. back (notice_members r) c.in_ok-value.ensures (notice_nests r can.nests) ∙ notice_read r)
    c.write_value.ensures.message
