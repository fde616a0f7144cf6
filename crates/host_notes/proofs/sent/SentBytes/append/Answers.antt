use Rattle.std.proofs.Common.{List, ℕ, ◌++◌, Option, Some, cond, ap, ◌∙◌, rules}
use Rattle.std.proofs.lemmas.Result.{on_ok_weaker, on_err_weaker}
use Rattle.std.specs.HashMap as hash
use Rattle.ms_base.specs.declared.keys.WorkerKey.{WorkerKey}
use Rattle.channel_frames.specs.Frames.{frame}
use Rattle.host_notes.specs.Indexes.{same_slot}
use Rattle.host_notes.specs.Keys.{same_worker}
use Rattle.host_notes.proofs.SentLemmas.{read, changed, unchanged}
use Rattle.host_notes.proofs.sent.SentBytes.append.Goals as goal

pub returns-in-Some-clause-ok : goal.returns-in-Some-clause-ok
returns-in-Some-clause-ok c =
    let old : WorkerKey → Option (List ℕ) = λ w. hash.get same_slot c.args.self.now.items (w.slot, w.generation) in
    let new : WorkerKey → Option (List ℕ) = λ w. hash.get same_slot (c.get_mut.follows.lender c.add_frame.new.into) (w.slot, w.generation) in
    on_ok_weaker c.add_frame.result
    (λ grown.
    changed old new c.args.worker c.add_frame.new.into
    (λ w. ((c.get_mut.follows.holds c.add_frame.new.into).3 (search rules)).0 (w.slot, w.generation))
    (λ b. b ++ frame (c.args.head.now ++ c.args.rest.now)) (grown ∙ ap (λ b. b ++ frame (c.args.head.now ++ c.args.rest.now)) (ap read c.in-Some.ensures.value)))
    c.add_frame.ensures.ok

pub returns-in-Some-clause-err : goal.returns-in-Some-clause-err
returns-in-Some-clause-err c =
    let old : WorkerKey → Option (List ℕ) = λ w. hash.get same_slot c.args.self.now.items (w.slot, w.generation) in
    let new : WorkerKey → Option (List ℕ) = λ w. hash.get same_slot (c.get_mut.follows.lender c.add_frame.new.into) (w.slot, w.generation) in
    on_err_weaker c.add_frame.result
    (λ same.
    unchanged old new c.args.worker c.add_frame.new.into
    (λ w. ((c.get_mut.follows.holds c.add_frame.new.into).3 (search rules)).0 (w.slot, w.generation))
    (same ∙ ap read c.in-Some.ensures.value))
    c.add_frame.ensures.err

pub returns-in_ok-insert-in-None-clause-ok : goal.returns-in_ok-insert-in-None-clause-ok
returns-in_ok-insert-in-None-clause-ok c =
    let old : WorkerKey → Option (List ℕ) = λ w. hash.get same_slot c.args.self.now.items (w.slot, w.generation) in
    let new : WorkerKey → Option (List ℕ) = λ w. hash.get same_slot c.insert.new.self (w.slot, w.generation) in
    changed old new c.args.worker c.add_frame-in-None.new.into
    (λ w.
    c.in_ok-insert-in-None.ensures.updates.0 (w.slot, w.generation)
    ∙ ap (λ m. cond (same_worker c.args.worker w) (Some c.add_frame-in-None.new.into) (hash.get same_slot m (w.slot, w.generation))) c.get_mut.follows.holds-at-none)
    (λ b. b ++ frame (c.args.head.now ++ c.args.rest.now))
    (c.in_ok-add_frame-in-None.ensures.ok ∙ ap (λ b. b ++ frame (c.args.head.now ++ c.args.rest.now)) (c.new-bytes.ensures ∙ ap read c.in-None.ensures.value))
