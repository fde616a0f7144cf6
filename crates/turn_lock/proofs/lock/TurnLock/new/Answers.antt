use Rattle.std.proofs.Common.{◌≡◌, List, [], ◌∷◌, ◌++◌, length, Some, Option as Maybe, refl, sym, ap, subst, ◌∙◌}
use Rattle.turn_lock.specs.Turns.{Kept, opened}
use Rattle.atomic_table.specs.Table.{opening}
use Rattle.turn_lock.specs.declared.rule.View.{View}
use Rattle.turn_lock.specs.Lists.{EachOnce}
use Rattle.turn_lock.proofs.Journals.{numbered_once}
use Rattle.turn_lock.proofs.Keeps.{opens}
use Rattle.turn_lock.proofs.lock.TurnLock.new.Goals as goal

pub new-requires-2 : goal.new-requires-2
new-requires-2 g c =
    let about = c.of-about.result.value in
    let items : c.push.new.self.items ≡ Some about ∷ [] =
    c.in_ok-push.ensures.items
    ∙ (ap (λ l. l ++ Some c.args.value ∷ []) c.new-slots.ensures.items ∙ ap (λ (x : g.row.V.Denot). Some x ∷ []) (sym c.of-about.ensures))
    in
    subst
    (λ (xs : List (Maybe g.row.V.Denot)). Kept g.V.Book.journal g.V.Book.start (g.V.Book.start about) (opening (0 ∷ 0 ∷ c.entries-entries.result ∷ []) xs (opened (g.V.Book.journal about) (g.V.Book.start about))))
    (sym items)
    (opens g.V.Book.journal g.V.Book.start (g.V.Book.start about) about c.entries-entries.result
    (c.entries-entries.ensures ∙ ap (λ (x : g.row.V.Denot). length (g.V.Book.journal x)) (sym c.of-about.ensures)) refl)

pub returns-clause-whole : goal.returns-clause-whole
returns-clause-whole g c =
    subst (λ (v : View g.row.V-Entry.Denot). EachOnce v.seen v.own) (sym (ap (λ m. m.0) c.in-Ok.ensures.ok.4)) (numbered_once (g.V.Book.journal c.of-about.result.value))
