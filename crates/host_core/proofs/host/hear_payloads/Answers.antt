use Rattle.std.proofs.Common.{List, ℕ, Ok, ap, subst}
use Rattle.channel_msgs.specs.Read.{message_of}
use Rattle.host_model.specs.Step.{Says, step}
use Rattle.host_core.specs.Tables.{Goes}
use Rattle.host_core.proofs.HostLemmas.{hearing-done, hearing-more, hearing-rest}
use Rattle.host_core.proofs.host.hear_payloads.Goals as goal

pub loop-payload-preserved : goal.loop-payload-preserved
loop-payload-preserved c =
    let found = rw c.in-Ok-Some.field-0-is at c.in-Ok-Some.ensures.payload in
    hearing-more c.hosts_are_sound.ensures.step c.args.worker c.args.tables.now c.loop-payload.tables c.hear_said.new.tables c.args.readers.now c.loop-payload.readers c.next_payload.new.self
    c.in-Ok-Some.payload c.loop-payload.invariant found c.next_payload.ensures.others
    (subst (λ (p : List ℕ). Goes (λ s. step s (Says c.args.worker (message_of p))) c.loop-payload.tables c.hear_said.new.tables) c.as_slice.ensures c.in_ok-hear_said-in-Ok-Some.ensures.ok)
    c.hear_said.ensures.shown

pub returns-in-Ok-None-clause-rest : goal.returns-in-Ok-None-clause-rest
returns-in-Ok-None-clause-rest c =
    hearing-rest c.args.worker c.args.tables.now c.loop-payload.tables c.args.readers.now c.loop-payload.readers c.next_payload.new.self c.loop-payload.invariant
    (c.in-Ok-None.ensures.none (ap Ok c.in-Ok-None.field-0-is))

pub returns-in-Ok-None-clause-tables : goal.returns-in-Ok-None-clause-tables
returns-in-Ok-None-clause-tables c =
    hearing-done c.args.worker c.args.tables.now c.loop-payload.tables c.args.readers.now c.loop-payload.readers c.loop-payload.invariant
    (c.in-Ok-None.ensures.none (ap Ok c.in-Ok-None.field-0-is)).0
