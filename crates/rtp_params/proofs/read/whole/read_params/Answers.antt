use Rattle.serde_json.specs.Data.{object}
use Rattle.serde_json.specs.View.{members_view}
use Rattle.rtp_params.proofs.HoldsWhole.{params_readable}
use Rattle.rtp_params.proofs.read.whole.read_params.Goals as goal

pub returns-in-Some-clause-readable : goal.returns-in-Some-clause-readable
returns-in-Some-clause-readable c =
    params_readable (object (members_view c.in-Some.members.now.entries)) c.read_params_members.result c.read_params_members.ensures.reads c.read_params_members.ensures.ascending
