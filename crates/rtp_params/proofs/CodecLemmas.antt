-- How a text is cut at its first slash.
use Rattle.std.proofs.Common.{◌≡◌, ℕ, List, [], length, eqb, sym, arith, drop_of_length-le}
use Rattle.std.proofs.lemmas.List.{take_all}
use Rattle.std.specs.List.{before_first, after_first, position_or_len}
use Rattle.rtp_params.specs.Codecs.{is_slash}

pub no_slash : (text : List ℕ) → position_or_len (λ b. eqb b 47) text ≡ length text → (text ≡ before_first is_slash text) × ([] ≡ after_first is_slash text)
no_slash text none =
    (sym (take_all (position_or_len (λ b. eqb b 47) text) text (omega arith)), sym (drop_of_length-le text (omega arith)))
