-- How a text is read from a source, piece by piece.
use Rattle.std.proofs.Common.{ℕ, List, ◌++◌, Option, Some, None, sym, ap, ◌∙◌, append_assoc}
use Rattle.ms_devices.specs.Told.{Tells}
use Rattle.run_top.specs.Reading.{Moves}
use Rattle.run_top.specs.Replay.{ReadsFront}

-- a read behind others, and what all of them read
pub front_behind : (text grown : List ℕ) (first middle last : Option (List ℕ)) → Tells (Moves text grown) first middle → Tells ReadsFront middle last → Tells ReadsFront first last
front_behind text grown None None None before now = tt
front_behind text grown None None (Some c) before now = absurd now
front_behind text grown None (Some b) last before now = absurd before
front_behind text grown (Some a) None None before now = tt
front_behind text grown (Some a) None (Some c) before now = absurd now
front_behind text grown (Some a) (Some b) None before now = tt
front_behind text grown (Some a) (Some b) (Some c) before now =
    (before.0 ++ now.0, before.2 ∙ (ap (λ x. before.0 ++ x) now.1 ∙ sym (append_assoc before.0 now.0 c)))
