use Rattle.std.proofs.Common.{List, sym, subst}
use Rattle.rtp_extension.specs.Elements.{Element, Spells}
use Rattle.rtp_extension.proofs.Grammar.{read_from_grammar, grammar_from_read}
use Rattle.rtp_extension.proofs.laws.reading_is_the_grammar.Goals as goal

pub returns : goal.returns
returns c form es words fits =
    (λ read. subst (λ (es : List Element). Spells form es words) (sym read) (grammar_from_read form words fits), λ spells. read_from_grammar spells fits)
