-- What a call has come to, with and without its texts (this project's own).
use Rattle.ms_base.specs.declared.outcome.Outcome.{Outcome}
use Rattle.ms_base.specs.declared.outcome.Outcome.TheVariants as outcome
use Rattle.ms_base.specs.declared.outcome.Verdict.{Verdict}
use Rattle.ms_base.specs.declared.outcome.Verdict.TheVariants as verdict

-- an outcome without its texts
abbrev pub verdict_of_outcome : Outcome → Verdict
verdict_of_outcome outcome.Done = verdict.Done
verdict_of_outcome (outcome.Answer a) = verdict.Answer a
verdict_of_outcome outcome.NameTaken = verdict.NameTaken
verdict_of_outcome outcome.NoName = verdict.NoName
verdict_of_outcome outcome.WrongKind = verdict.WrongKind
verdict_of_outcome outcome.InvalidState = verdict.InvalidState
verdict_of_outcome (outcome.TypeError code) = verdict.TypeError code
verdict_of_outcome (outcome.Unsupported code) = verdict.Unsupported code
verdict_of_outcome outcome.IdsSpent = verdict.IdsSpent
verdict_of_outcome outcome.TooBig = verdict.TooBig
verdict_of_outcome (outcome.Worker error reason) = verdict.Worker error
verdict_of_outcome (outcome.Closed by) = verdict.Closed
verdict_of_outcome outcome.Missed = verdict.Missed
