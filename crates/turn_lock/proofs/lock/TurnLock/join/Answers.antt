use Rattle.std.proofs.Common.{rules, List, Option as Maybe, ap, sym, subst, ◌∙◌}
use Rattle.atomic_table.specs.Table.{Me}
use Rattle.turn_lock.specs.declared.rule.View.{View}
use Rattle.turn_lock.specs.Lists.{StartsWith}
use Rattle.turn_lock.proofs.Journals.{longer_both}
use Rattle.turn_lock.proofs.Keeps.{join_allowed}
use Rattle.turn_lock.proofs.lock.TurnLock.join.Goals as goal

pub join_seat-requires : goal.join_seat-requires
join_seat-requires g c = (search rules, search rules, search rules, search rules, join_allowed g.V.Book.journal g.V.Book.start _ _ _ _ _ c.requires.idle.0.0 c.requires.idle.1.0 (search rules))

pub returns-clause-begins : goal.returns-clause-begins
returns-clause-begins g c =
    let v = c.args.pass.now.seat.me.0 in let w = c.args.other.seat.me.0 in
    let is = ap (λ (m : Me (Maybe g.row.V.Denot) (View g.row.V-Entry.Denot)). m.0) c.join_seat.ensures.2 in
    let told = subst (λ (u : View g.row.V-Entry.Denot). StartsWith u.seen u.told) is c.recall.ensures.told.0 in
    let now = ap (λ (m : Me (Maybe g.row.V.Denot) (View g.row.V-Entry.Denot)). m.0.seen) c.recall.ensures.same ∙ ap (λ (u : View g.row.V-Entry.Denot). u.seen) is in
    subst (λ (l : List g.row.V-Entry.Denot). StartsWith l v.seen × StartsWith l w.seen) (sym now) (longer_both v.seen w.seen told)
