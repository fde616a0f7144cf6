use Rattle.std.proofs.Common.{◌++◌, is_some, sym, ap, ◌∙◌}
use Rattle.std.proofs.lemmas.Result.{on_ok_weaker, on_err_weaker}
use Rattle.channel_frames.specs.Reading.{Reading}
use Rattle.host_core.specs.LookUps.{unread_in}
use Rattle.host_core.proofs.IndexLemmas.{written, inserted, told, told-same}
use Rattle.host_core.proofs.readers.Readers.feed.Goals as goal

pub returns-in-Some-clause-ok : goal.returns-in-Some-clause-ok
returns-in-Some-clause-ok c =
    let old = c.args.self.now.items in
    let now = c.feed.new.self in
    let new = c.get_mut.follows.lender now in
    on_ok_weaker c.feed.result
    (λ grown.
    told old new c.args.worker now (written old new c.args.worker now ((c.get_mut.follows.holds now).3 (ap is_some (sym c.in-Some.ensures.value)))) unread_in (λ b. b ++ c.args.bytes.now)
    (ap (λ (r : Reading). r.unread) grown ∙ ap (λ b. b ++ c.args.bytes.now) (ap unread_in c.in-Some.ensures.value)))
    c.feed.ensures.ok

pub returns-in-Some-clause-err : goal.returns-in-Some-clause-err
returns-in-Some-clause-err c =
    let old = c.args.self.now.items in
    let now = c.feed.new.self in
    let new = c.get_mut.follows.lender now in
    on_err_weaker c.feed.result
    (λ same.
    told-same old new c.args.worker now (written old new c.args.worker now ((c.get_mut.follows.holds now).3 (ap is_some (sym c.in-Some.ensures.value)))) unread_in
    (ap (λ (r : Reading). r.unread) same ∙ ap unread_in c.in-Some.ensures.value))
    c.feed.ensures.err

pub returns-in_ok-insert-in-None-clause-ok : goal.returns-in_ok-insert-in-None-clause-ok
returns-in_ok-insert-in-None-clause-ok c =
    let old = c.args.self.now.items in
    let now = c.feed-in-None.new.self in
    told old c.insert.new.self c.args.worker now
    (inserted old c.get_mut.follows.lender-at-none c.insert.new.self c.args.worker now c.get_mut.follows.holds-at-none c.in_ok-insert-in-None.ensures.updates)
    unread_in (λ b. b ++ c.args.bytes.now)
    (ap (λ (r : Reading). r.unread) c.in_ok-feed-in-None.ensures.ok
    ∙ ap (λ b. b ++ c.args.bytes.now) (ap (λ (r : Reading). r.unread) c.new-reader.ensures ∙ ap unread_in c.in-None.ensures.value))
