use Rattle.std.proofs.Common.{option_map, ap, codes, ◌∙◌}
use Rattle.serde_json.specs.View.{view}
use Rattle.serde_json.proofs.Views.{view-lookup}
use Rattle.channel_msgs.proofs.object.take_content.Goals as goal

pub returns : goal.returns
returns c = ap (option_map view) c.remove.ensures.value ∙ view-lookup (codes "data") c.args.fields.entries
