-- A pipe's end is a plain transport without comedia.
use Rattle.std.proofs.Common.{◌≡◌, false, List, [], ◌∷◌, Option, Some, None, refl, sym, ap, ◌∙◌, slice_get}
use Rattle.std.specs.List.{filter_map}
use Rattle.ms_base.specs.declared.tuple.Tuple.{Tuple}
use Rattle.plain_transport.specs.Connection.{Connection, unconnected, connected}
use Rattle.plain_transport.specs.Calls.{Call, connect, accepts, connection_after, tuple_set_by, tuple_of}
use Rattle.inner_transports.specs.Pipe.{plain, piped, remote_after, told_by}

-- a refused tuple and a taken one leave a plain transport
connected-plain : (remote : Option Tuple) (to : Tuple) → connected (plain remote) to ≡ plain (piped remote to)
connected-plain None to = refl
connected-plain (Some own) to = refl

-- the states of both are one behind any calls
pub connection-plain : (remote : Option Tuple) (calls : List Call) → connection_after (plain remote) calls ≡ plain (remote_after remote calls)
connection-plain remote [] = refl
connection-plain remote (connect to ∷ calls) =
    ap (λ (c : Connection). connection_after c calls) (connected-plain remote to) ∙ connection-plain (piped remote to) calls
connection-plain None (accepts from ∷ calls) = connection-plain None calls
connection-plain (Some own) (accepts from ∷ calls) = connection-plain (Some own) calls

told-tuples : (calls : List Call) → filter_map (tuple_set_by false) calls ≡ filter_map told_by calls
told-tuples [] = refl
told-tuples (connect to ∷ calls) = ap (λ ts. to ∷ ts) (told-tuples calls)
told-tuples (accepts from ∷ calls) = told-tuples calls

pub tuple-told : (calls : List Call) → tuple_of false calls ≡ slice_get (filter_map told_by calls) 0
tuple-told calls = ap (λ (ts : List Tuple). slice_get ts 0) (told-tuples calls)

pub remote-connection : (calls : List Call) → remote_after None calls ≡ (connection_after (unconnected false) calls).remote
remote-connection calls = ap (λ (c : Connection). c.remote) (sym (connection-plain None calls))
