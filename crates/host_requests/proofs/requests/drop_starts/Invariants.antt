use Rattle.std.proofs.Common.{◌≡◌, filter, length, not}
use Rattle.host_requests.specs.Kept.{AreTied, lasts_of}
use Rattle.host_requests.specs.Requests.{is_start_of}
use Rattle.host_requests.proofs.requests.drop_starts.Given as goal

abbrev pub invariant-loop-number : goal.invariant-loop-number
invariant-loop-number g l = record {
  rest : filter (λ e. not (is_start_of l.worker e.1)) l.filed ≡ filter (λ e. not (is_start_of l.worker e.1)) l.initial.filed;
  tied : AreTied l.initial.filed l.initial.channels → AreTied l.filed l.channels;
  lasts : lasts_of l.channels ≡ lasts_of l.initial.channels;
}

abbrev pub decreases-loop-number : goal.decreases-loop-number
decreases-loop-number g l = length l.filed
