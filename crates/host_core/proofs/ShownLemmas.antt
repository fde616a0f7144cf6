-- What is shown stays as it is.
use Rattle.std.proofs.Common.{◌≡◌, ◌≤◌, List, length, take, refl, sym, ap, ◌∙◌, arith, take-take, take_all, length-take}
use Rattle.transcript.specs.declared.note.Note.{Note}
use Rattle.host_tables.specs.Kept.{ShowsTheSame}
use Rattle.host_tables.specs.declared.tables.Tables.{Tables}

pub shown-itself : (t : Tables) → ShowsTheSame t t
shown-itself t = record { notes = take_all (length t.notes) t.notes (omega arith); slots = refl }

take-then : (a b c : List Note) → take (length a) b ≡ a → take (length b) c ≡ b → take (length a) c ≡ a
take-then a b c h k =
    let le : length a ≤ length b = omega (arith, ap length h, length-take (length a) b) in
    sym (take-take (length a) (length b) c le) ∙ ap (take (length a)) k ∙ h

pub shown-then : (a b c : Tables) → ShowsTheSame a b → ShowsTheSame b c → ShowsTheSame a c
shown-then a b c h k = record { notes = take-then a.notes b.notes c.notes h.notes k.notes; slots = k.slots ∙ h.slots }
