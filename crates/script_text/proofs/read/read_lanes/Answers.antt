use Rattle.std.proofs.Common.{◌≡◌, ℕ, ◌+◌, ◌<◌, ◌≤◌, List, ◌∷◌, Ok, Option, IfSome, Bor, length, ap, sym, ◌∙◌, subst, arith}
use Rattle.std.specs.Option.{option_copied}
use Rattle.script_text.specs.declared.script.Step.{Step}
use Rattle.script_text.specs.Words.{lines}
use Rattle.script_text.specs.Script.{row_of, script_lines, script_lines_behind, with_row, workers_of}
use Rattle.script_text.proofs.Rows.{all_lanes, lanes_from, lanes_step, workers_more}
use Rattle.script_text.proofs.read.read_lanes.Goals as goal

pub lines-init : goal.lines-init
lines-init c =
    let none = c.new-lanes.ensures in
    record {
      same = all_lanes (script_lines (lines c.args.text.now)) ∙ ap (λ (ls : List (List Step)). lanes_from 2 ls (script_lines (lines c.args.text.now))) (sym none);
      counted = ap workers_of (sym none);
      few = omega arith;
      room = omega arith;
    }

pub lines-preserved : goal.lines-preserved
lines-preserved c =
    let n : ℕ = c.lines.number in
    let lanes : List (List Step) = c.lines.lanes in
    let line : List ℕ = c.script_line.result.0.now in
    let next : List (List ℕ) = script_lines (lines c.in-Some.next.now) in
    let pieces = c.script_line.ensures.pieces ∙ ap (λ (o : Option (Bor (List ℕ))). line ∷ script_lines_behind (option_copied o)) c.in-Some.is in
    let read : row_of (length lanes) (workers_of lanes) line ≡ Ok c.in-Ok.row =
    ap (λ (w : ℕ). row_of (length lanes) w line) (sym c.lines.invariant.counted)
    ∙ ap (λ (k : ℕ). row_of k c.lines.workers line) (sym c.len.ensures)
    ∙ c.in-Ok.ensures in
    let added : c.add.new.self ≡ with_row lanes c.in-Ok.row = c.in_ok-add.ensures.ok in
    let more = workers_more lanes c.in-Ok.row line read in
    let one = c.worker_lines-workers.ensures in
    let shorter : length c.in-Some.next.now < length c.lines.rest.now =
    subst (λ (o : Option (Bor (List ℕ))). IfSome (option_copied o) (λ r. length r < length c.lines.rest.now)) c.in-Some.is c.script_line.ensures.shorter in
    let room : n + length c.lines.rest.now ≤ length c.args.text.now + 2 = c.lines.invariant.room in
    record {
      same =
          c.lines.invariant.same
          ∙ ap (lanes_from n lanes) pieces
          ∙ lanes_step n lanes line next c.in-Ok.row read
          ∙ ap (λ (ls : List (List Step)). lanes_from (n + 1) ls next) (sym added);
      counted = omega (arith, more, one.value, ap workers_of added, c.lines.invariant.counted);
      few = omega (arith, one.few, c.lines.invariant.few);
      room = omega arith;
    }
