use Rattle.std.proofs.Common.{is_some, sym, ap, ◌∙◌}
use Rattle.channel_frames.specs.Frames.{frames}
use Rattle.host_core.specs.LookUps.{unread_in}
use Rattle.host_core.proofs.IndexLemmas.{of_channel, written, told-here, told-there}
use Rattle.host_core.proofs.ReadersLemmas.{no_frames, handed_out, none_left, broken}
use Rattle.host_core.proofs.readers.Readers.next_payload.Goals as goal

pub returns-in-Some-clause-payload : goal.returns-in-Some-clause-payload
returns-in-Some-clause-payload c =
    let old = c.args.self.now.items in
    let now = c.next_payload.new.self in
    let new = c.get_mut.follows.lender now in
    let here = told-here old new c.args.worker now (written old new c.args.worker now ((c.get_mut.follows.holds now).3 (ap is_some (sym c.in-Some.ensures.value)))) in
    handed_out c.next_payload.result _ _ c.in-Some.reader.now.unread now.unread (sym (ap unread_in c.in-Some.ensures.value)) (ap unread_in here)
    c.next_payload.ensures.others c.next_payload.ensures.rest

pub returns-in-Some-clause-none : goal.returns-in-Some-clause-none
returns-in-Some-clause-none c =
    let old = c.args.self.now.items in
    let now = c.next_payload.new.self in
    let new = c.get_mut.follows.lender now in
    let here = told-here old new c.args.worker now (written old new c.args.worker now ((c.get_mut.follows.holds now).3 (ap is_some (sym c.in-Some.ensures.value)))) in
    none_left c.next_payload.result _ _ c.in-Some.reader.now now (sym (ap unread_in c.in-Some.ensures.value)) (ap unread_in here)
    c.next_payload.ensures.none c.next_payload.ensures.ok

pub returns-in-Some-clause-broken : goal.returns-in-Some-clause-broken
returns-in-Some-clause-broken c =
    broken c.next_payload.result _ c.in-Some.reader.now (sym (ap unread_in c.in-Some.ensures.value)) c.next_payload.ensures.payload c.next_payload.ensures.otherwise

pub returns-in-Some-clause-others : goal.returns-in-Some-clause-others
returns-in-Some-clause-others c = λ w other.
    let old = c.args.self.now.items in
    let now = c.next_payload.new.self in
    let new = c.get_mut.follows.lender now in
    ap unread_in (told-there old new c.args.worker now (written old new c.args.worker now ((c.get_mut.follows.holds now).3 (ap is_some (sym c.in-Some.ensures.value)))) w other)

pub returns-in-None-clause-none : goal.returns-in-None-clause-none
returns-in-None-clause-none c =
    let none = sym (ap unread_in c.in-None.ensures.value) in
    λ _. (ap frames none ∙ no_frames, ap (λ table. unread_in (of_channel table c.args.worker)) c.get_mut.follows.holds-at-none)
