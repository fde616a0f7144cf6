use Rattle.std.proofs.Common.{◌≡◌, ◌+◌, ◌++◌, length, None}
use Rattle.std.specs.Prelude.{reverse}
use Rattle.host_model.specs.State.{start}
use Rattle.journal_text.specs.Gives.{told_line}
use Rattle.run_top.specs.Replay.{first_unbuilt}
use Rattle.run_top.proofs.ReplayLemmas.{heard}
use Rattle.run_top.proofs.apply.apply_all.Given as goal

-- the host has heard the entries that are no longer left, and all of them are built
abbrev pub invariant-loop-entry : goal.invariant-loop-entry
invariant-loop-entry l =
    let seed = l.fn.host.journal.seed in
    let ys = l.host.journal.entries in
    record {
      host : l.host ≡ heard seed ys;
      whole : ys ++ reverse l.left.items ≡ l.fn.entries.items;
      line : l.line ≡ told_line (2 + length ys);
      built : first_unbuilt (start seed) 2 ys ≡ None;
    }

abbrev pub decreases-loop-entry : goal.decreases-loop-entry
decreases-loop-entry l = length l.left.items
