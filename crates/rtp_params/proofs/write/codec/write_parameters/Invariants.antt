use Rattle.std.proofs.Common.{◌≡◌, drop}
use Rattle.serde_json.specs.Data.{no_members}
use Rattle.serde_json.specs.View.{members_view}
use Rattle.rtp_params.specs.Writing.{put_parameters}
use Rattle.rtp_params.proofs.write.codec.write_parameters.Given as goal

-- what is left, put beside what has been put, comes to what the whole comes to
abbrev pub invariant-loop-name : goal.invariant-loop-name
invariant-loop-name l =
    put_parameters (drop l.name-index l.parameters) (members_view l.members.entries) ≡ put_parameters l.parameters no_members
