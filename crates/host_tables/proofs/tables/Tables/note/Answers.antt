use Rattle.std.proofs.Common.{[], ◌∷◌, refl}
use Rattle.std.proofs.lemmas.Result.{on_ok_weaker}
use Rattle.host_tables.proofs.Parts.{hears-moves, note-hears, shown-noted, shown-same}
use Rattle.host_tables.proofs.tables.Tables.note.Goals as goal

pub returns-in_err-hear-clause-shown : goal.returns-in_err-hear-clause-shown
returns-in_err-hear-clause-shown c = shown-same c.args.self.now _ refl refl

pub returns-clause-ok : goal.returns-clause-ok
returns-clause-ok c =
    on_ok_weaker c.push.result
    (λ e. hears-moves (c.args.note ∷ []) c.args.self.now _
    (note-hears c.args.note c.args.self.now c.hear.new.self c.push.new.self c.in_ok-hear.ensures.waiting c.in_ok-hear.ensures.times e))
    c.push.ensures.ok

pub returns-clause-heard : goal.returns-clause-heard
returns-clause-heard c =
    on_ok_weaker c.push.result
    (note-hears c.args.note c.args.self.now c.hear.new.self c.push.new.self c.in_ok-hear.ensures.waiting c.in_ok-hear.ensures.times)
    c.push.ensures.ok

pub returns-clause-shown : goal.returns-clause-shown
returns-clause-shown c = shown-noted c.push.result c.args.self.now _ c.args.note c.push.ensures.ok c.push.ensures.err refl
