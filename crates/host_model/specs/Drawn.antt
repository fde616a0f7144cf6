-- Serials and SSRCs are drawn once: what is given out of them over a whole journal. This project's own.
use Rattle.std.specs.Prelude.{◌≡◌, ◌≤◌, ℕ, ◌+◌, List, count_by, Bool, false, ◌&&◌, nat_le, nat_lt}
use Rattle.ms_base.specs.Kinds.{same_kind}
use Rattle.ms_base.specs.declared.keys.Kind.TheVariants as kind
use Rattle.object_tree.specs.declared.object.Object.{Object}
use Rattle.host_model.specs.Fit.{has_serial, is_drawn, makes_serial, one_if}
use Rattle.host_model.specs.Run.{Moment}
use Rattle.host_model.specs.State.{State, Issued}
use Rattle.host_model.specs.Step.{step}

-- ---- serials

-- so many requests were issued that are to make an object of this serial, settled ones too
abbrev pub times_asked : ℕ → List Issued → ℕ
times_asked n requests = count_by (λ r. makes_serial n r.request) requests

abbrev pub is_worker : Object → Bool
is_worker o = same_kind o.kind kind.Worker

abbrev pub is_worker_with : ℕ → Object → Bool
is_worker_with n o = has_serial n o && is_worker o

-- a serial is that of one object at most that a request was ever to make, or of one Worker; and of none where it was not drawn
abbrev pub EachGivenOnce : State → Type 0
EachGivenOnce s = (n : ℕ) → times_asked n s.requests + count_by (is_worker_with n) s.objects ≤ one_if (is_drawn s.next n)

-- but for a Worker, which no request makes, an object has the serial of one that a request was to make
abbrev pub IsAskedFor : List Issued → Object → Type 0
IsAskedFor requests o = is_worker o ≡ false → 1 ≤ times_asked o.serial.0 requests

-- ---- SSRCs

-- a number from one on, below another
abbrev pub is_between : ℕ → ℕ → ℕ → Bool
is_between from to n = nat_le from n && nat_lt n to

-- the SSRC was drawn in this micro step
abbrev pub draws_ssrc : ℕ → Moment → Bool
draws_ssrc n m = is_between m.before.next.ssrc (step m.before m.micro).next.ssrc n
