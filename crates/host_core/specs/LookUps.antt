-- What is read of the streams of workers. This project's own.
use Rattle.std.specs.Prelude.{ℕ, List, [], Bool, Option, Some, None, nat_eq, ◌&&◌}
use Rattle.std.specs.HashMap as hash
use Rattle.ms_base.specs.declared.keys.WorkerKey.{WorkerKey}
use Rattle.channel_frames.specs.Reading.{Reading}
use Rattle.host_core.specs.declared.readers.Readers.{Readers}

abbrev pub same_channel : ℕ × ℕ → ℕ × ℕ → Bool
same_channel a b = nat_eq a.0 b.0 && nat_eq a.1 b.1

abbrev pub unread_in : Option Reading → List ℕ
unread_in None = []
unread_in (Some reader) = reader.unread

-- what has come from a worker behind its last whole frame
abbrev pub unread_of : Readers → WorkerKey → List ℕ
unread_of r w = unread_in (hash.get same_channel r.items (w.slot, w.generation))
