use Rattle.std.proofs.Common.{Some, ap, ◌∙◌}
use Rattle.channel_msgs.proofs.WriteLemmas.{begins_with_a_brace, request_back, message_back}
use Rattle.channel_msgs.proofs.write.write_value.Goals as goal

pub returns-clause-request : goal.returns-clause-request
returns-clause-request c ms e nests =
    let written = c.in_ok-to_vec.ensures in
    rw c.from_vec.ensures (request_back _ ms written.utf8 (written.reads_back (rw e nests) ∙ ap Some e))

pub returns-clause-message : goal.returns-clause-message
returns-clause-message c ms e nests =
    let written = c.in_ok-to_vec.ensures in
    let brace = begins_with_a_brace _ ms written.compact (rw e at written.order) in
    rw c.from_vec.ensures (message_back _ ms brace written.utf8 (written.reads_back (rw e nests) ∙ ap Some e))
