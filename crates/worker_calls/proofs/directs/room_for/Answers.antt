use Rattle.worker_calls.proofs.directs.room_for.Goals as goal

pub returns-clause-table : goal.returns-clause-table
returns-clause-table c id = c.reserve.ensures.entries.2 id.0
