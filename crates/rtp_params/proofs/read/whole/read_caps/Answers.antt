use Rattle.serde_json.specs.Data.{object}
use Rattle.serde_json.specs.View.{members_view}
use Rattle.rtp_params.proofs.HoldsWhole.{caps_readable}
use Rattle.rtp_params.proofs.read.whole.read_caps.Goals as goal

pub returns-in-Some-clause-readable : goal.returns-in-Some-clause-readable
returns-in-Some-clause-readable c =
    caps_readable (object (members_view c.in-Some.members.now.entries)) c.read_caps_members.result c.read_caps_members.ensures.reads c.read_caps_members.ensures.ascending
