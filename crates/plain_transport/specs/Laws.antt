-- What holds of every list of calls.
use Rattle.std.specs.Prelude.{◌≡◌, ◌↔◌, Bool, List, ◌++◌, Some}
use Rattle.ms_base.specs.declared.tuple.Tuple.{Tuple}
use Rattle.plain_transport.specs.declared.accept.Accept.TheVariants.{Yes, No}
use Rattle.plain_transport.specs.Connection.{unconnected, accept_of}
use Rattle.plain_transport.specs.Calls.{Call, connection_after, tuple_of}

-- what is known is that of the whole list of calls
abbrev pub TupleIsTheFirst : Type 0
TupleIsTheFirst =
    (comedia : Bool) (calls : List Call) →
    connection_after (unconnected comedia) calls ≡ record { comedia = comedia; remote = tuple_of comedia calls }

-- a tuple is set at most once
abbrev pub TupleStays : Type 0
TupleStays =
    (comedia : Bool) (calls later : List Call) (tuple : Tuple) → tuple_of comedia calls ≡ Some tuple →
    (connection_after (unconnected comedia) (calls ++ later)).remote ≡ Some tuple

-- and from then on packets of this tuple are taken, and no others
abbrev pub TakesItsTupleAlone : Type 0
TakesItsTupleAlone =
    (comedia : Bool) (calls later : List Call) (tuple from : Tuple) → tuple_of comedia calls ≡ Some tuple →
    ((accept_of (connection_after (unconnected comedia) (calls ++ later)) from ≡ Yes) ↔ (from ≡ tuple))
    × ((accept_of (connection_after (unconnected comedia) (calls ++ later)) from ≡ No) ↔ (from ≡ tuple → ⊥))
