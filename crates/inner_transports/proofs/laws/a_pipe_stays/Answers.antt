use Rattle.std.proofs.Common.{◌≡◌, ◌↔◌, ◌++◌, false, None, Some, sym, ap, subst, ◌∙◌}
use Rattle.plain_transport.specs.declared.accept.Accept.TheVariants.{Yes, No}
use Rattle.plain_transport.specs.Connection.{Connection, accept_of}
use Rattle.plain_transport.specs.Calls.{tuple_of}
use Rattle.inner_transports.proofs.PipeLemmas.{remote-connection, connection-plain}
use Rattle.inner_transports.proofs.laws.a_pipe_stays.Goals as goal

pub returns-clause-stays : goal.returns-clause-stays
returns-clause-stays c = λ calls later tuple is.
    let first : tuple_of false calls ≡ Some tuple =
    sym (ap (λ (s : Connection). s.remote) (c.the_tuple_is_the_first.ensures false calls)) ∙ sym (remote-connection calls) ∙ is in
    remote-connection (calls ++ later) ∙ c.a_tuple_stays.ensures.stays false calls later tuple first

pub returns-clause-alone : goal.returns-clause-alone
returns-clause-alone c = λ calls later tuple from is.
    let first : tuple_of false calls ≡ Some tuple =
    sym (ap (λ (s : Connection). s.remote) (c.the_tuple_is_the_first.ensures false calls)) ∙ sym (remote-connection calls) ∙ is in
    subst (λ (s : Connection). ((accept_of s from ≡ Yes) ↔ (from ≡ tuple)) × ((accept_of s from ≡ No) ↔ (from ≡ tuple → ⊥))) (connection-plain None (calls ++ later))
    (c.a_tuple_stays.ensures.alone false calls later tuple from first)
