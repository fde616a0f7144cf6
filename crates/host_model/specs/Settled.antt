-- How requests settle over a whole journal: each at most once. This project's own.
use Rattle.std.specs.Prelude.{◌≡◌, ⊤, ℕ, ◌+◌, List, [], ◌∷◌, count_by, Bool, true, not, ◌&&◌}
use Rattle.std.specs.List.{list_any}
use Rattle.host_requests.specs.declared.request.Request.{Request}
use Rattle.host_model.specs.declared.due.Due.{Due}
use Rattle.host_model.specs.Run.{Journal, Moment, state_of, trace}
use Rattle.host_model.specs.State.{State, Issued, waiting}
use Rattle.host_model.specs.Step.{step}

-- ---- nothing is taken out of the requests, and none is settled back

-- it is what it was, and is settled where it was
pub record IsStill (before after : Issued) : Type 0 where
  pub request : after.request ≡ before.request
  pub settled : before.settled ≡ true → after.settled ≡ true

-- each stands where it stood, and later ones stand behind them
abbrev pub Stay : List Issued → List Issued → Type 0
Stay [] after = ⊤
Stay (r ∷ rs) [] = ⊥
Stay (r ∷ rs) (q ∷ qs) = IsStill r q × Stay rs qs

-- ---- requests that pass a test, such as those of an id on a channel, or for the start of a Worker

-- so many were issued, settled ones too
abbrev pub times_issued : (Request Due → Bool) → List Issued → ℕ
times_issued test requests = count_by (λ r. test r.request) requests

-- one of them waits for its settlement
abbrev pub waits : (Request Due → Bool) → State → Bool
waits test s = list_any test (waiting s.requests)

-- one of them has settled
abbrev pub has_settled : (Request Due → Bool) → State → Bool
has_settled test s = list_any (λ r. r.settled && test r.request) s.requests

-- the first of them settles in this micro step
abbrev pub settles_request : (Request Due → Bool) → Moment → Bool
settles_request test m = not (has_settled test m.before) && has_settled test (step m.before m.micro)

-- in so many micro steps of a journal
abbrev pub times_settling : (Request Due → Bool) → Journal → ℕ
times_settling test j = count_by (settles_request test) (trace j)

-- each that was issued has settled in a micro step, or waits
abbrev pub SettledOrWaits : (Request Due → Bool) → Journal → Type 0
SettledOrWaits test j = times_settling test j + count_by test (waiting (state_of j).requests) ≡ times_issued test (state_of j).requests
