use Rattle.std.proofs.Common.{map, take}
use Rattle.std.specs.List.{AllZip}
use Rattle.worker_play.specs.Reading.{IsEventLine}
use Rattle.worker_play.proofs.script.read_lines.Given as goal

abbrev pub invariant-loop-count : goal.invariant-loop-count
invariant-loop-count l = AllZip IsEventLine (map (λ line. line.now) (take l.count l.rest)) l.events.items
