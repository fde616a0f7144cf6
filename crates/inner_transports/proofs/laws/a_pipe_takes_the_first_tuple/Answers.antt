use Rattle.std.proofs.Common.{false, ap, ◌∙◌}
use Rattle.plain_transport.specs.Connection.{Connection}
use Rattle.inner_transports.proofs.PipeLemmas.{remote-connection, tuple-told}
use Rattle.inner_transports.proofs.laws.a_pipe_takes_the_first_tuple.Goals as goal

pub returns : goal.returns
returns c = λ calls.
    remote-connection calls ∙ ap (λ (s : Connection). s.remote) (c.the_tuple_is_the_first.ensures false calls) ∙ tuple-told calls
