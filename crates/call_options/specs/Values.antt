-- What the members of options are read as, by the reading rules of parameters (this project's own).
use Rattle.std.specs.Prelude.{ℕ, List, Bool, codes, Option, Some, None, Result, Ok}
use Rattle.std.specs.Net.Reader.{read_ipv4, whole_value}
use Rattle.serde_json.specs.Data.{Data, Members}
use Rattle.serde_json.specs.Find.{get_member, as_object}
use Rattle.serde_json.specs.Read.{read}
use Rattle.ms_base.specs.Id.{id_of_text}
use Rattle.ms_base.specs.declared.code.Code.{Code}
use Rattle.ms_base.specs.declared.id.Id.{Id}
use Rattle.rtp_params.specs.Reading.{◌>>=◌, or_form, number_of, text_of, bool_of, required, or_default}

-- what the options are the JSON text of
abbrev pub value_of : List ℕ → Result Data Code
value_of options = or_form (read options)

-- the octets of an IPv4 address: four numbers 0 to 255 in decimal digits without leading zeros, with dots between them
abbrev pub ip_named : List ℕ → Option (List ℕ)
ip_named text = whole_value (read_ipv4 text)

abbrev pub ip_of : Data → Result (List ℕ) Code
ip_of d = text_of d >>= (λ text. or_form (ip_named text))

-- where a transport is to listen: an address, or an object whose `ip` is one
abbrev pub listen_ip_by : Option Members → Data → Result (List ℕ) Code
listen_ip_by (Some members) d = required ip_of (get_member (codes "ip") members)
listen_ip_by None d = ip_of d

abbrev pub listen_ip_of : Data → Result (List ℕ) Code
listen_ip_of d = listen_ip_by (as_object d) d

-- a UDP port that can be sent to
abbrev pub port_of : Data → Result ℕ Code
port_of d = number_of 1 65535 d

-- an id, which is a UUID in its hyphenated form, in either case of letters (RFC 9562, section 4)
abbrev pub id_in : List ℕ → Result Id Code
id_in text = or_form (id_of_text text) >>= (λ bytes. Ok (record { 0 = bytes }))

abbrev pub id_of : Data → Result Id Code
id_of d = text_of d >>= id_in

-- whether the member of a name is true, where it may be left out
abbrev pub flag_in : List ℕ → Bool → Members → Result Bool Code
flag_in name value members = or_default value bool_of (get_member name members)
