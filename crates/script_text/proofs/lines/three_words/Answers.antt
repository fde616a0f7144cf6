use Rattle.std.proofs.Common.{ℕ, List, Option, Bor, ap, arith, length}
use Rattle.std.specs.Option.{option_copied}
use Rattle.script_text.specs.Words.{words_behind}
use Rattle.script_text.proofs.Cuts.{some_words}
use Rattle.script_text.proofs.lines.three_words.Goals as goal

pub returns-in_default-Some : goal.returns-in_default-Some
returns-in_default-Some c = λ three.
    let behind = λ (o : Option (Bor (List ℕ))). length (words_behind (option_copied o)) in
    let two = ap length c.in_ok-first.ensures in
    let second = ap behind c.in_ok-first.rest-is in
    let found = ap behind c.in_ok-rest.was in
    let third = ap length c.first_word.ensures in
    let tail = ap behind c.in_default-Some.is-1 in
    let more = some_words c.in_default-Some.field-0-1.now in
    omega arith
