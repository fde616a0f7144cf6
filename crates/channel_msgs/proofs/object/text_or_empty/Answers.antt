use Rattle.std.proofs.Common.{ap, unwrap_or, [], ◌∙◌}
use Rattle.serde_json.specs.Find.{get_member}
use Rattle.serde_json.specs.View.{members_view}
use Rattle.channel_msgs.proofs.ReadLemmas.{reason_or_empty, now_or}
use Rattle.channel_msgs.proofs.object.text_or_empty.Goals as goal

pub returns : goal.returns
returns c =
    ap (λ t. t.now) c.unwrap_or.ensures ∙ now_or c.text_of.result _ ∙ ap (λ t. unwrap_or t []) c.text_of.ensures
    ∙ reason_or_empty (get_member c.args.name.now (members_view c.args.fields.now.entries))
