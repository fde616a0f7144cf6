use Rattle.std.proofs.Common.{option_copied}
use Rattle.std.proofs.lemmas.Result.{on_ok_weaker}
use Rattle.host_tables.specs.Kept.{names_in}
use Rattle.host_tables.proofs.Parts.{settled-moves}
use Rattle.host_tables.proofs.ShownLemmas.{shown-then}
use Rattle.host_tables.proofs.tables.Tables.settle_call.Goals as goal

pub returns-clause-ok : goal.returns-clause-ok
returns-clause-ok c =
    on_ok_weaker c.note.result
    (settled-moves c.args.self.now c.lose_by.new.self c.note.new.self c.args.call c.args.outcome (names_in (option_copied c.args.makes)) c.in_ok-lose_by.ensures.ok)
    c.note.ensures.ok

pub returns-clause-shown : goal.returns-clause-shown
returns-clause-shown c = shown-then c.args.self.now c.lose_by.new.self c.note.new.self c.lose_by.ensures.shown c.note.ensures.shown
