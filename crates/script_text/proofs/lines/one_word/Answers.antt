use Rattle.std.proofs.Common.{ℕ, List, ◌∷◌, false, Option, Bor, refl, ap, ◌∙◌}
use Rattle.std.specs.Option.{option_copied}
use Rattle.script_text.specs.Forms.{cut}
use Rattle.script_text.specs.Words.{words, words_behind}
use Rattle.script_text.proofs.Cuts.{one_too_many, some_words}
use Rattle.script_text.proofs.lines.one_word.Goals as goal

pub returns-in_default-Some : goal.returns-in_default-Some
returns-in_default-Some c =
    let word = c.in_ok-word.field-0.0.now in
    let more = c.in_default-Some.field-0-1.now in (
      refl,
      ap (cut false 0) (c.in_ok-word.ensures ∙ ap (λ (o : Option (Bor (List ℕ))). word ∷ words_behind (option_copied o)) c.in_default-Some.is-1)
          ∙ one_too_many word (words more) (some_words more),
    )
