-- The calls by which what a worker gives out is done on its outside, and what is told of them. This project's own.
use Rattle.std.specs.Prelude.{◌≡◌, ℕ, Bool, true, false, List, [], ◌∷◌, ◌++◌, map, Option, None}
use Rattle.std.specs.List.{list_any}
use Rattle.channel_frames.specs.Frames.{frame}
use Rattle.ms_devices.specs.declared.events.OutCall.{OutCall}
use Rattle.ms_devices.specs.declared.events.OutCall.TheVariants.{Bind, Shut, Channel, Datagram}
use Rattle.ms_devices.specs.Told.{Tells}
use Rattle.worker_calls.specs.Requests.{Outgoing, say, bind, shut, send}

-- a payload goes as a frame
abbrev pub call_of : Outgoing → OutCall
call_of (say payload) = Channel (frame payload) false
call_of (bind link ip) = Bind link ip None
call_of (shut link) = Shut link
call_of (send link to packet) = Datagram link to packet false

-- A call without what the outside answered to it: which port a link got, and whether a datagram failed. A worker goes on all the same.
abbrev pub unanswered : OutCall → OutCall
unanswered (Bind link ip port) = Bind link ip None
unanswered (Shut link) = Shut link
unanswered (Channel bytes failed) = Channel bytes failed
unanswered (Datagram link to packet failed) = Datagram link to packet false

abbrev pub is_failed_datagram : OutCall → Bool
is_failed_datagram (Datagram link to packet failed) = failed
is_failed_datagram other = false

-- These calls were made, and the count of the links' faults rose with none but failed datagrams.
pub record Adds (wanted : List OutCall) (links later : ℕ) (before now : List OutCall) : Type 0 where
  pub calls : List OutCall
  pub whole : now ≡ before ++ calls
  pub same : map unanswered calls ≡ wanted
  pub still : list_any is_failed_datagram calls ≡ false → later ≡ links

-- as far as it is told
abbrev pub Made : List OutCall → ℕ → ℕ → Option (List OutCall) → Option (List OutCall) → Type 0
Made wanted links later before now = Tells (Adds wanted links later) before now

-- A call on the channel failed, the last that was made: those for what was to go out before it were made.
pub record StopsAtAFault (outs : List Outgoing) (links later : ℕ) (before now : Option (List OutCall)) : Type 0 where
  pub sent : List Outgoing
  pub failed : List ℕ
  pub left : List Outgoing
  pub outs_are : outs ≡ sent ++ say failed ∷ left
  pub made : Made (map call_of sent ++ Channel (frame failed) true ∷ []) links later before now
