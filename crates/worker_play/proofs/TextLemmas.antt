-- Texts put together.
use Rattle.std.proofs.Common.{◌≡◌, ℕ, List, ◌++◌, sym, ap, ◌∙◌, append_assoc}

pub joined : (before word bytes end : List ℕ) → before ++ word ++ bytes ++ end ≡ before ++ (word ++ bytes ++ end)
joined before word bytes end = append_assoc (before ++ word) bytes end ∙ append_assoc before word (bytes ++ end) ∙ ap (λ t. before ++ t) (sym (append_assoc word bytes end))
