use Rattle.std.proofs.Common.{◌≡◌, ◌++◌, true, false, arith, rules}
use Rattle.std.proofs.lemmas.Grind.{common_steps}
use Rattle.channel_frames.specs.Frames.{is_broken}
use Rattle.channel_msgs.specs.Read.{message_of}
use Rattle.host_model.specs.State.{is_up}
use Rattle.host_model.specs.Step.{Says}
use Rattle.host_core.specs.LookUps.{unread_of}
use Rattle.host_core.proofs.HostLemmas.{down-held, held-up, on_ok_both}
use Rattle.host_core.proofs.host.hear_chunk.Goals as goal

pub returns-then-not-is_up-clause-ok : goal.returns-then-not-is_up-clause-ok
returns-then-not-is_up-clause-ok c =
    let down : is_up c.args.tables.now.slots.slots c.args.worker ≡ false = first_of (search rules, grind (arith, common_steps)) in
    down-held c.args.worker c.args.bytes.now c.args.tables.now c.args.readers.now down

pub returns-clause-ok : goal.returns-clause-ok
returns-clause-ok c =
    let law = c.frames_of_a_cut_stream.ensures in
    let up : is_up c.args.tables.now.slots.slots c.args.worker ≡ true = first_of (search rules, grind (arith, common_steps)) in
    let whole : is_broken (unread_of c.args.readers.now c.args.worker ++ c.args.bytes.now) ≡ false = first_of (search rules, grind (arith, common_steps)) in
    on_ok_both c.hear_payloads.result _ _ _
    (λ goes rest.
    held-up c.hosts_are_sound.ensures.step c.args.worker (λ payload s. c.streams_stand.ensures s (Says c.args.worker (message_of payload))) law.fresh law.rest law.broken c.args.bytes.now
    c.args.tables.now c.settle_awaits.new.self c.hear_payloads.new.tables c.args.readers.now c.feed.new.self c.hear_payloads.new.readers up whole c.in_ok-feed.ensures.ok
    c.in_ok-settle_awaits.ensures.ok goes rest c.hear_payloads.ensures.others)
    c.hear_payloads.ensures.tables c.hear_payloads.ensures.rest
