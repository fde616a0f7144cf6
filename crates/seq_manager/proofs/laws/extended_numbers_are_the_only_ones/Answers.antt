use Rattle.std.proofs.Common.{[], List, ℤ, sym, subst}
use Rattle.seq_manager.specs.Extended.{extended_numbers, AreExtended}
use Rattle.seq_manager.proofs.Places.{length-extended_after, each_extended, only_extended}
use Rattle.seq_manager.proofs.laws.extended_numbers_are_the_only_ones.Goals as goal

pub returns : goal.returns
returns c = λ stretch extended all.
    let they_are : AreExtended stretch (extended_numbers stretch) =
    record { count = length-extended_after [] stretch; each = each_extended [] stretch all } in (
      λ same. subst (λ (es : List ℤ). AreExtended stretch es) (sym same) they_are,
      λ h. only_extended [] stretch extended h.count h.each,
    )
