-- Names, and ids of Producers in their Routers, each as often as it was added and not yet removed. This project's own.
use Rattle.std.specs.Prelude.{ℕ, ◌==◌, ◌&&◌, List, Bool, if◌then◌else◌, bytes_eq, unwrap_or}
use Rattle.std.specs.BTreeMap.{get_by_text}
use Rattle.std.specs.HashMap as hash
use Rattle.ms_base.specs.declared.id.Id.{Id}
use Rattle.ms_base.specs.declared.keys.Serial.{Serial}
use Rattle.request_build.specs.declared.names.Names.{Names}
use Rattle.request_build.specs.declared.router_ids.RouterIds.{RouterIds}

abbrev pub one_if : Bool → ℕ
one_if b = if b then 1 else 0

-- how often a name is there
abbrev pub times_named : Names → List ℕ → ℕ
times_named names name = unwrap_or (get_by_text names.counts name) 0

-- a Router's serial, and the bytes of an id
abbrev pub same_key : ℕ × List ℕ → ℕ × List ℕ → Bool
same_key a b = (a.0 == b.0) && bytes_eq a.1 b.1

abbrev pub key_of : Serial → Id → ℕ × List ℕ
key_of router id = (router.0, id.0)

-- how often a Producer's id is there in a Router
abbrev pub times_in : RouterIds → Serial → Id → ℕ
times_in ids router id = unwrap_or (hash.get same_key ids.counts (key_of router id)) 0
