-- A run goes on from the state that the events before it left.
use Rattle.std.proofs.Common.{◌≡◌, List, [], ◌∷◌, ◌++◌, refl, sym, ap, ◌∙◌, append_assoc}
use Rattle.worker_calls.specs.Requests.{Outgoing}
use Rattle.worker_calls.specs.State.{Worker}
use Rattle.worker_engine.specs.Run.{Event, after, out, after_all, out_from}

pub after-more : (w : Worker) (before later : List Event) → after_all w (before ++ later) ≡ after_all (after_all w before) later
after-more w [] later = refl
after-more w (e ∷ es) later = after-more (after w e) es later

pub out-more : (w : Worker) (before later : List Event) → out_from w (before ++ later) ≡ out_from w before ++ out_from (after_all w before) later
out-more w [] later = refl
out-more w (e ∷ es) later =
    ap (λ (t : List Outgoing). out w e ++ t) (out-more (after w e) es later) ∙ sym (append_assoc (out w e) (out_from (after w e) es) (out_from (after_all w (e ∷ es)) later))
