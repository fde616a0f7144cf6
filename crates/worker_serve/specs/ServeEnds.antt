-- What serving promises, by why it ended (this project's own).
use Rattle.std.specs.Prelude.{◌≡◌, ℕ, List, ⊤}
use Rattle.ms_devices.specs.Causes.{Rose}
use Rattle.ms_devices.specs.declared.events.GivenEvent.{GivenEvent}
use Rattle.ms_devices.specs.declared.events.OutCall.{OutCall}
use Rattle.worker_serve.specs.Hearing.{IsBreakOf}
use Rattle.worker_serve.specs.Serving.{WorkerOutside, Since, IsUnbroken, IsToTheEnd, IsOutput, IsCutByAFault, IsCutShort, IsOfLinks, stream_of}
use Rattle.worker_serve.specs.declared.fault.ServeFault.{ServeFault}
use Rattle.worker_serve.specs.declared.fault.ServeFault.TheVariants as fault
use Rattle.worker_serve.specs.declared.serving.ServeEnd.{ServeEnd}
use Rattle.worker_serve.specs.declared.serving.ServeEnd.TheVariants as ends

-- how serving ends by a fault
abbrev pub end_of : ServeFault → ServeEnd
end_of fault.Write = ends.Write
end_of (fault.TooLong place told) = ends.TooLong place told
end_of fault.NoMemory = ends.NoMemory

-- ---- what holds then

-- of what was given
abbrev pub GivenBy : ServeEnd → List GivenEvent → Type 0
GivenBy ends.End events = IsToTheEnd events
GivenBy ends.Read events = IsUnbroken events
GivenBy ends.Write events = ⊤
GivenBy (ends.TooLong place told) events = IsBreakOf (stream_of events) place told
GivenBy ends.NoMemory events = ⊤

-- of the calls that were made
abbrev pub MadeBy : ServeEnd → List GivenEvent → List OutCall → Type 0
MadeBy ends.End events calls = IsOutput events calls
MadeBy ends.Read events calls = IsOutput events calls
MadeBy ends.Write events calls = IsCutByAFault events calls
MadeBy (ends.TooLong place told) events calls = IsOutput events calls
MadeBy ends.NoMemory events calls = IsCutShort events calls

-- of the count of the inbox's faults: none is passed over
abbrev pub ReadsBy : ServeEnd → ℕ → ℕ → Type 0
ReadsBy ends.End before now = now ≡ before
ReadsBy ends.Read before now = Rose before now
ReadsBy ends.Write before now = now ≡ before
ReadsBy (ends.TooLong place told) before now = now ≡ before
ReadsBy ends.NoMemory before now = now ≡ before

-- of the count of the channel's faults
abbrev pub WritesBy : ServeEnd → ℕ → ℕ → Type 0
WritesBy ends.End before now = now ≡ before
WritesBy ends.Read before now = now ≡ before
WritesBy ends.Write before now = Rose before now
WritesBy (ends.TooLong place told) before now = now ≡ before
WritesBy ends.NoMemory before now = now ≡ before

pub record IsServe (end : ServeEnd) (before now : WorkerOutside) : Type 0 where
  pub served : Since (GivenBy end) (MadeBy end) before now
  pub reads : ReadsBy end before.read_faults now.read_faults
  pub writes : WritesBy end before.channel_faults now.channel_faults
  pub links : IsOfLinks before.link_faults now.link_faults before.calls now.calls
