use Rattle.std.proofs.Common.{ap, sym, ◌∙◌}
use Rattle.std.specs.List.{position}
use Rattle.object_tree.specs.Tables.{is_end}
use Rattle.object_tree.proofs.EndLemmas.{is-found, is-there}
use Rattle.object_tree.proofs.ends.place_of.Goals as goal

pub returns-in_err-behind-clause-some : goal.returns-in_err-behind-clause-some
returns-in_err-behind-clause-some c = λ there.
    absurd
    (is-found c.args.pairs.now c.start_of-start.result c.args.at c.args.serial c.start_of-start.ensures.point there
    (sym c.in_err-behind.was ∙ (c.first_of.ensures ∙ ap (position (is_end c.args.at c.args.serial)) c.split_at.ensures.back)))

pub returns-clause-found : goal.returns-clause-found
returns-clause-found c =
    is-there c.args.pairs.now c.start_of-start.result c.args.at c.args.serial c.in_ok-behind.behind c.start_of-start.ensures.within
    (sym (ap (position (is_end c.args.at c.args.serial)) c.split_at.ensures.back) ∙ (sym c.first_of.ensures ∙ c.in_ok-behind.was))
