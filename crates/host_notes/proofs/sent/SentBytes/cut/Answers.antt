use Rattle.std.proofs.Common.{List, ℕ, ◌-◌, Option, length, take, ap, ◌∙◌, rules}
use Rattle.std.specs.HashMap as hash
use Rattle.ms_base.specs.declared.keys.WorkerKey.{WorkerKey}
use Rattle.host_notes.specs.Indexes.{same_slot}
use Rattle.host_notes.proofs.SentLemmas.{read, changed}
use Rattle.host_notes.proofs.sent.SentBytes.cut.Goals as goal

pub returns-in-Some : goal.returns-in-Some
returns-in-Some c =
    let old : WorkerKey → Option (List ℕ) = λ w. hash.get same_slot c.args.self.now.items (w.slot, w.generation) in
    let new : WorkerKey → Option (List ℕ) = λ w. hash.get same_slot (c.get_mut.follows.lender c.truncate.new.self) (w.slot, w.generation) in
    changed old new c.args.worker c.truncate.new.self
    (λ w. ((c.get_mut.follows.holds c.truncate.new.self).3 (search rules)).0 (w.slot, w.generation))
    (λ b. take (length b - c.args.count) b)
    (c.truncate.ensures
    ∙ ap (λ (n : ℕ). take n c.in-Some.bytes.now) (c.saturating_sub-left.ensures ∙ ap (λ (n : ℕ). n - c.args.count) c.len.ensures)
    ∙ ap (λ (b : List ℕ). take (length b - c.args.count) b) (ap read c.in-Some.ensures.value))
