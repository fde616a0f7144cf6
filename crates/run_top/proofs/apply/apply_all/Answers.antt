use Rattle.std.proofs.Common.{◌≡◌, ◌+◌, ◌++◌, ◌∷◌, [], length, Err, ap, sym, ◌∙◌, append_assoc, List}
use Rattle.std.proofs.lemmas.List.{reverse-append}
use Rattle.std.specs.Prelude.{reverse}
use Rattle.ms_base.specs.declared.entry.Entry.{Entry}
use Rattle.host_model.specs.Run.{HostView, with_entry}
use Rattle.host_model.specs.State.{start}
use Rattle.run_top.specs.Replay.{first_unbuilt}
use Rattle.journal_text.specs.Gives.{told_line}
use Rattle.run_top.proofs.ReplayLemmas.{heard, next-left, unbuilt-at, unbuilt-came, never-full, told-more, built-came, built-more}
use Rattle.run_top.proofs.apply.apply_all.Goals as goal

pub returns-in-Err-Unbuilt-clause-err : goal.returns-in-Err-Unbuilt-clause-err
returns-in-Err-Unbuilt-clause-err c =
    let seed = c.args.host.now.journal.seed in
    let ys = c.loop-entry.host.journal.entries in
    let e = c.in-Some.entry in
    let zs = reverse c.give_back_room.new.left.items in
    let all = next-left ys e c.loop-entry.left.items c.pop.new.self.items c.give_back_room.new.left.items c.args.entries.items c.loop-entry.invariant.whole c.in-Some.ensures.items c.give_back_room.ensures in
    let came = c.in-Err-Unbuilt.is ∙ ap Err c.in-Err-Unbuilt.field-0-is in
    let unbuilt = unbuilt-came seed ys c.loop-entry.host e c.apply.result c.loop-entry.invariant.host c.apply.ensures.fault c.apply.ensures.no_other came in
    (2 + length ys, ap (first_unbuilt (start seed) 2) all ∙ unbuilt-at seed ys zs e c.loop-entry.invariant.built unbuilt, c.loop-entry.invariant.line)

pub unreachable-requires : goal.unreachable-requires
unreachable-requires c =
    let seed = c.args.host.now.journal.seed in
    let ys = c.loop-entry.host.journal.entries in
    let e = c.in-Some.entry in
    let zs = reverse c.give_back_room.new.left.items in
    let all = next-left ys e c.loop-entry.left.items c.pop.new.self.items c.give_back_room.new.left.items c.args.entries.items c.loop-entry.invariant.whole c.in-Some.ensures.items c.give_back_room.ensures in
    let came = c.in-Err-Full.is ∙ ap Err c.in-Err-Full.field-0-is in
    never-full seed c.args.entries.items ys zs c.loop-entry.host e c.apply.result c.in-Err-Full.field-0-0 c.loop-entry.invariant.host (all ∙ sym (append_assoc ys (e ∷ []) zs))
    (c.journals_grow_by_lines.ensures.more seed ys e) (c.journals_grow_by_lines.ensures.front seed (ys ++ e ∷ []) zs) c.requires.limit c.apply.ensures.fault c.apply.ensures.no_other came

pub loop-entry-preserved : goal.loop-entry-preserved
loop-entry-preserved c =
    let seed = c.args.host.now.journal.seed in
    let ys = c.loop-entry.host.journal.entries in
    let e = c.in-Some.entry in
    let zs = reverse c.give_back_room.new.left.items in
    let all = next-left ys e c.loop-entry.left.items c.pop.new.self.items c.give_back_room.new.left.items c.args.entries.items c.loop-entry.invariant.whole c.in-Some.ensures.items c.give_back_room.ensures in
    let heard-on : c.apply.new.self ≡ heard seed (ys ++ e ∷ []) = c.in-Ok.ensures.ok ∙ ap (λ (h : HostView). let k : HostView = record h { journal = with_entry h.journal e } in k) c.loop-entry.invariant.host in
    let entries : c.apply.new.self.journal.entries ≡ ys ++ e ∷ [] = ap (λ (h : HostView). h.journal.entries) heard-on in
    record {
      host = heard-on ∙ ap (heard seed) (sym entries);
      whole = ap (λ (ws : List Entry). ws ++ zs) entries ∙ (append_assoc ys (e ∷ []) zs ∙ sym all);
      line = told-more c.loop-entry.line ys e c.saturating_add-line.result c.loop-entry.invariant.line c.saturating_add-line.ensures ∙ ap (λ (ws : List Entry). told_line (2 + length ws)) (sym entries);
      built = ap (first_unbuilt (start seed) 2) entries ∙ built-more seed ys e c.loop-entry.invariant.built (built-came seed ys c.loop-entry.host e c.apply.result c.in-Ok.field-0 c.loop-entry.invariant.host c.apply.ensures.fault c.in-Ok.is);
    }
