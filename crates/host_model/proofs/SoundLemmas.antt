-- What the code of a step needs of a host: at the start, after a step, after a journal; and what it says of requests.
use Rattle.std.proofs.Common.{◌≤◌, ◌<◌, ◌^◌, ℕ, refl, count_by}
use Rattle.ms_base.specs.declared.keys.Serial.{Serial}
use Rattle.ms_base.specs.declared.keys.WorkerKey.{WorkerKey}
use Rattle.host_requests.specs.Requests.{is_on, is_start_of}
use Rattle.host_model.specs.Fit.{BuildsFit}
use Rattle.host_model.specs.Run.{Journal, state_of}
use Rattle.host_model.specs.Sound.{IsSound}
use Rattle.host_model.specs.State.{State, start, waiting}
use Rattle.host_model.specs.Step.{Micro, step}
use Rattle.host_model.proofs.Along.{along}
use Rattle.host_model.proofs.Changes.{reply_to, start_of}
use Rattle.host_model.proofs.FitLemmas.{drawn-start, drawn-step, fit-start, fit-step}
use Rattle.host_model.proofs.NumberLemmas.{numbered-step}
use Rattle.host_model.proofs.SettleLemmas.{keys-once, starts-start, starts-step}

pub sound-start : (seed : ℕ) → seed < 2 ^ 60 → IsSound seed (start seed)
sound-start seed h = record { fits = fit-start seed h; drawn = drawn-start seed; numbered = λ w. refl; starts = starts-start seed }

pub sound-step : BuildsFit → (seed : ℕ) (s : State) (m : Micro) → IsSound seed s → IsSound seed (step s m)
sound-step b seed s m h =
    record {
      fits = fit-step b s m h.fits;
      drawn = drawn-step b seed s m h.fits h.drawn;
      numbered = numbered-step s m h.numbered;
      starts = starts-step b s m h.fits.whole h.starts;
    }

pub sound-after : BuildsFit → (j : Journal) → j.seed < 2 ^ 60 → IsSound j.seed (state_of j)
sound-after b j h = along (IsSound j.seed) (sound-step b j.seed) (start j.seed) j.entries (sound-start j.seed h)

pub one-on : (seed : ℕ) (s : State) (worker : WorkerKey) (id : ℕ) → IsSound seed s → count_by (is_on worker id) (waiting s.requests) ≤ 1
one-on seed s worker id h = keys-once s.requests s.next h.numbered h.starts (reply_to worker id)

pub one-start : (seed : ℕ) (s : State) (worker : Serial) → IsSound seed s → count_by (is_start_of worker) (waiting s.requests) ≤ 1
one-start seed s worker h = keys-once s.requests s.next h.numbered h.starts (start_of worker)
