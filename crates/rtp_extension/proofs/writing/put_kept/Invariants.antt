use Rattle.rtp_extension.specs.Ids.{kept_id}
use Rattle.rtp_extension.proofs.Writes.{Puts}
use Rattle.rtp_extension.proofs.writing.put_kept.Given as goal

abbrev pub invariant-loop-id : goal.invariant-loop-id
invariant-loop-id l =
    (goal.iterator-loop-id).can_next l.id-iterator
    × (goal.iterator-loop-id).is_finite l.id-iterator
    × Puts (kept_id l.map l.only) l.form l.words l.initial.into l.into l.id-iterator l.at l.end
