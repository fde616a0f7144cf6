-- How often each event was noted for objects of a name. This project's own.
use Rattle.std.specs.Prelude.{ℕ}
use Rattle.ms_base.specs.declared.keys.Event.{Event}
use Rattle.ms_base.specs.declared.keys.Event.TheVariants as event
use Rattle.host_awaits.specs.declared.times.Times.{Times}

abbrev pub time_of : Times → Event → ℕ
time_of t event.Running = t.running
time_of t event.Opened = t.opened
time_of t event.Closed = t.closed
time_of t event.Paused = t.paused
time_of t event.Resumed = t.resumed
time_of t event.Tuple = t.tuple
time_of t event.Rtp = t.rtp
