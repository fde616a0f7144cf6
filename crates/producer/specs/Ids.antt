-- The new ids of a Producer's elements: RFC 8285 has ids that parameters give to URIs; that an element goes over to the id which
-- the table of a Router has for its URI is this project's own, after mediasoup.
use Rattle.std.specs.Prelude.{ℕ, ◌==◌, List, Bool, bytes_eq, find, if◌then◌else◌, Option, Some, None, option_and_then}
use Rattle.rtp_params.specs.declared.ext.Ext.{Ext}
use Rattle.rtp_params.specs.declared.params.Params.{Params}

abbrev pub has_uri : List ℕ → Ext → Bool
has_uri uri ext = bytes_eq ext.uri uri

-- an id that an element can have: 0 is that of padding
abbrev pub if_id : ℕ → Option ℕ
if_id id = if id == 0 then None else Some id

-- the id that a table has for a URI
abbrev pub table_id : List Ext → List ℕ → Option ℕ
table_id table uri = option_and_then (λ ext. if_id ext.id) (find (has_uri uri) table)

-- the new id of an element: that of the URI which the first extension of its id has
abbrev pub element_id : Params → List Ext → ℕ → Option ℕ
element_id params table id = option_and_then (λ ext. table_id table ext.uri) (find (λ ext. ext.id == id) params.exts)
