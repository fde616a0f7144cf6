use Rattle.std.proofs.Common.{ℕ, List, Bor, map, ap, ◌∙◌, subst}
use Rattle.worker_play.specs.Reading.{Gives, IsEvent}
use Rattle.worker_play.proofs.line.read_event_line.Goals as goal

pub returns : goal.returns
returns c =
    let same = ap (λ (slices : List (Bor (List ℕ))). map (λ slice. slice.now) slices) c.as_slice.ensures.value ∙ c.in_ok-words.ensures in
    subst (λ (words : List (List ℕ)). Gives (IsEvent words) c.read_event.result) same c.read_event.ensures
