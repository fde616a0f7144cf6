-- Lists of calls of a transport.
use Rattle.std.specs.Prelude.{ℕ, ◌≡◌, Bool, true, false, List, [], ◌∷◌, filter_map, slice_get, Option, Some, None, refl}
use Rattle.ms_base.specs.declared.tuple.Tuple.{Tuple}
use Rattle.plain_transport.specs.declared.accept.Accept.TheVariants.{Yes, Learnt, No}
use Rattle.plain_transport.specs.Connection.{Connection, unconnected, connected, accepted, accept_of}

pub data Call : Type 0 where
  -- the tuple is told
  connect : Tuple → Call
  -- a packet comes from this tuple
  accepts : Tuple → Call

abbrev pub after : Connection → Call → Connection
after c (connect to) = connected c to
after c (accepts from) = accepted c from

-- what is known behind a list of calls
abbrev pub connection_after : Connection → List Call → Connection
connection_after c [] = c
connection_after c (call ∷ calls) = connection_after (after c call) calls

-- the tuple that a call sets where none is set: one that is told, or with `comedia` that of a packet
abbrev pub tuple_set_by : Bool → Call → Option Tuple
tuple_set_by false (connect to) = Some to
tuple_set_by false (accepts from) = None
tuple_set_by true (connect to) = None
tuple_set_by true (accepts from) = Some from

-- the tuple of a list of calls: that of the first call which sets one
abbrev pub tuple_of : Bool → List Call → Option Tuple
tuple_of comedia calls = slice_get (filter_map (tuple_set_by comedia) calls) 0

-- ---- worked rows

abbrev tuple : ℕ → Tuple
tuple port = record { ip = 192 ∷ 0 ∷ 2 ∷ 1 ∷ []; port = port }

-- another than the first that was told changes nothing
told-row : connection_after (unconnected false) (accepts (tuple 1) ∷ connect (tuple 2) ∷ connect (tuple 3) ∷ accepts (tuple 4) ∷ [])
    ≡ record { comedia = false; remote = Some (tuple 2) }
told-row = refl

learnt-row : connection_after (unconnected true) (connect (tuple 1) ∷ accepts (tuple 2) ∷ accepts (tuple 3) ∷ [])
    ≡ record { comedia = true; remote = Some (tuple 2) }
learnt-row = refl

first-row : tuple_of true (connect (tuple 1) ∷ accepts (tuple 2) ∷ accepts (tuple 3) ∷ []) ≡ Some (tuple 2)
first-row = refl

learns-row : accept_of (unconnected true) (tuple 2) ≡ Learnt
learns-row = refl

takes-row : accept_of (record { comedia = true; remote = Some (tuple 2) }) (tuple 2) ≡ Yes
takes-row = refl

-- another port
refuses-row : accept_of (record { comedia = true; remote = Some (tuple 2) }) (tuple 3) ≡ No
refuses-row = refl
