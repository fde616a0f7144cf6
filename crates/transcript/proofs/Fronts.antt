-- What begins with a longer front begins with the shorter one.
use Rattle.std.proofs.Common.{◌≡◌, ℕ, List, ◌++◌, length, take, drop, sym, ◌∙◌, ap, append_assoc}
use Rattle.std.proofs.Math.Seq.{take-append_seam}
use Rattle.std.proofs.lemmas.List.{take-append-drop}

pub shorter_front : (a x c : List ℕ) → take (length (a ++ x)) c ≡ a ++ x → take (length a) c ≡ a
shorter_front a x c h =
    let rest : List ℕ = drop (length (a ++ x)) c in
    ap (take (length a)) (sym (ap (λ front. front ++ rest) (sym h) ∙ take-append-drop (length (a ++ x)) c) ∙ append_assoc a x rest)
    ∙ take-append_seam a (x ++ rest)
