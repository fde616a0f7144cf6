-- One end of a pipe: a transport that is told its tuple and never learns one. This project's own, after mediasoup's PipeTransport.
use Rattle.std.specs.Prelude.{ℕ, ◌≡◌, false, List, [], ◌∷◌, Option, Some, None, refl}
use Rattle.ms_base.specs.declared.tuple.Tuple.{Tuple}
use Rattle.plain_transport.specs.declared.accept.Accept.{Accept}
use Rattle.plain_transport.specs.declared.accept.Accept.TheVariants.{Yes, No}
use Rattle.plain_transport.specs.Connection.{Connection, connected, accept_of}
use Rattle.plain_transport.specs.Calls.{Call, connect, accepts}

-- the same as a plain transport without comedia
abbrev pub plain : Option Tuple → Connection
plain remote = record { comedia = false; remote = remote }

-- the tuple behind being told one; a refusal changes nothing
abbrev pub piped : Option Tuple → Tuple → Option Tuple
piped remote to = (connected (plain remote) to).remote

-- the answer to a packet from a tuple
abbrev pub takes : Option Tuple → Tuple → Accept
takes remote from = accept_of (plain remote) from

-- the tuple behind a list of calls; packets set none
abbrev pub remote_after : Option Tuple → List Call → Option Tuple
remote_after remote [] = remote
remote_after remote (connect to ∷ calls) = remote_after (piped remote to) calls
remote_after remote (accepts from ∷ calls) = remote_after remote calls

-- the tuple that a call tells
abbrev pub told_by : Call → Option Tuple
told_by (connect to) = Some to
told_by (accepts from) = None

-- ---- worked rows

abbrev tuple : ℕ → Tuple
tuple port = record { ip = 127 ∷ 0 ∷ 0 ∷ 1 ∷ []; port = port }

first-row : remote_after None (accepts (tuple 1) ∷ connect (tuple 2) ∷ connect (tuple 3) ∷ []) ≡ Some (tuple 2)
first-row = refl

unset-row : takes None (tuple 1) ≡ No
unset-row = refl

own-row : takes (Some (tuple 1)) (tuple 1) ≡ Yes
own-row = refl

other-row : takes (Some (tuple 1)) (tuple 2) ≡ No
other-row = refl
