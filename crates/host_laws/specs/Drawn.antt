-- How much a host draws, by the size of its journal's text. This project's own.
use Rattle.std.specs.Prelude.{◌≤◌, ℕ, ◌+◌, ◌*◌, length}
use Rattle.host_model.specs.State.{State, first_ssrc}

-- A call or an await takes two bytes at least, and draws one serial and sixteen SSRCs at most.
pub record DrawsWithin (size : ℕ) (s : State) : Type 0 where
  pub calls : 2 * length s.calls ≤ size
  pub serials : 2 * s.next.serial ≤ size + 2
  pub ssrcs : s.next.ssrc ≤ first_ssrc + 8 * size
