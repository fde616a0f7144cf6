use Rattle.std.proofs.Common.{◌≡◌, ap, sym, ◌∙◌}
use Rattle.std.proofs.lemmas.Bool.{cond-true, cond-false}
use Rattle.std.proofs.lemmas.Str.{is_utf8-from_IsUtf8}
use Rattle.script_text.specs.Words.{seed_of_line, seed_of_words, words}
use Rattle.script_text.proofs.Pieces.{not_utf8}
use Rattle.script_text.proofs.Cuts.{head_other}
use Rattle.script_text.proofs.words.read_head.Goals as goal

pub returns-in_default : goal.returns-in_default
unfolding seed_of_line
returns-in_default c = sym (cond-false _ _ _ (not_utf8 _ c.in_default.ensures.cases.0))

pub returns-in-Some : goal.returns-in-Some
unfolding seed_of_line seed_of_words
returns-in-Some c =
    let same : c.in-Ok.line.now ≡ c.args.line.now = c.in-Ok.ensures.cases.0 in
    c.read_seed.ensures
    ∙ sym (
    cond-true _ _ _ (is_utf8-from_IsUtf8 c.args.line.now c.in-Ok.ensures.cases.1)
    ∙ ap (λ l. seed_of_words c.args.word.now (words l)) (sym same)
    ∙ ap (seed_of_words c.args.word.now) c.in-Some.ensures
    )

pub returns-in-None : goal.returns-in-None
unfolding seed_of_line
returns-in-None c =
    let same : c.in-Ok.line.now ≡ c.args.line.now = c.in-Ok.ensures.cases.0 in
    sym (
    cond-true _ _ _ (is_utf8-from_IsUtf8 c.args.line.now c.in-Ok.ensures.cases.1)
    ∙ ap (λ l. seed_of_words c.args.word.now (words l)) (sym same)
    ∙ head_other c.args.word.now (words c.in-Ok.line.now) c.in-None.ensures
    )
