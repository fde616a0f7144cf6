-- What a transport knows of its other end, and what its calls make of it. This project's own; the word `comedia` is that of
-- RFC 4145, section 4, for an end that waits for the other to begin.
use Rattle.std.specs.Prelude.{◌==◌, ◌&&◌, Bool, true, false, is_some, bytes_eq, if◌then◌else◌, Option, Some, None}
use Rattle.ms_base.specs.declared.tuple.Tuple.{Tuple}
use Rattle.plain_transport.specs.declared.accept.Accept.{Accept}
use Rattle.plain_transport.specs.declared.accept.Accept.TheVariants.{Yes, Learnt, No}
use Rattle.plain_transport.specs.declared.fault.PlainFault.{PlainFault}
use Rattle.plain_transport.specs.declared.fault.PlainFault.TheVariants.{NotWithComedia, AlreadyConnected}

pub record Connection : Type 0 where
  -- whether it learns its tuple from the first packet
  pub comedia : Bool
  -- its tuple, once it is set
  pub remote : Option Tuple

abbrev pub unconnected : Bool → Connection
unconnected comedia = record { comedia = comedia; remote = None }

-- one address and one port
abbrev pub same_tuple : Tuple → Tuple → Bool
same_tuple a b = bytes_eq a.ip b.ip && a.port == b.port

-- ---- being told a tuple

abbrev pub connect_fault_of : Connection → Option PlainFault
connect_fault_of c = if c.comedia then Some NotWithComedia else if is_some c.remote then Some AlreadyConnected else None

-- a refusal changes nothing
abbrev pub connected : Connection → Tuple → Connection
connected c to = if is_some (connect_fault_of c) then c else record c { remote = Some to }

-- ---- a packet from a tuple

abbrev pub accept_by : Bool → Option Tuple → Tuple → Accept
accept_by comedia (Some remote) from = if same_tuple remote from then Yes else No
accept_by true None from = Learnt
accept_by false None from = No

abbrev pub accept_of : Connection → Tuple → Accept
accept_of c from = accept_by c.comedia c.remote from

-- the tuple behind a packet from this one: it is learnt where none is set
abbrev pub remote_by : Bool → Option Tuple → Tuple → Option Tuple
remote_by comedia (Some remote) from = Some remote
remote_by true None from = Some from
remote_by false None from = None

abbrev pub accepted : Connection → Tuple → Connection
accepted c from = record c { remote = remote_by c.comedia c.remote from }
