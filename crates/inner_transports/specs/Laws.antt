-- What holds of every list of calls.
use Rattle.std.specs.Prelude.{◌≡◌, ◌↔◌, List, ◌++◌, slice_get, filter_map, Some, None}
use Rattle.ms_base.specs.declared.tuple.Tuple.{Tuple}
use Rattle.plain_transport.specs.declared.accept.Accept.TheVariants.{Yes, No}
use Rattle.plain_transport.specs.Calls.{Call}
use Rattle.inner_transports.specs.Pipe.{takes, remote_after, told_by}

-- the tuple is the first that was told
abbrev pub TupleIsTheFirst : Type 0
TupleIsTheFirst = (calls : List Call) → remote_after None calls ≡ slice_get (filter_map told_by calls) 0

-- a tuple is set at most once
abbrev pub TupleStays : Type 0
TupleStays =
    (calls later : List Call) (tuple : Tuple) → remote_after None calls ≡ Some tuple → remote_after None (calls ++ later) ≡ Some tuple

-- and from then on packets of this tuple are taken, and no others
abbrev pub TakesItsTupleAlone : Type 0
TakesItsTupleAlone =
    (calls later : List Call) (tuple from : Tuple) → remote_after None calls ≡ Some tuple →
    ((takes (remote_after None (calls ++ later)) from ≡ Yes) ↔ (from ≡ tuple))
    × ((takes (remote_after None (calls ++ later)) from ≡ No) ↔ (from ≡ tuple → ⊥))
