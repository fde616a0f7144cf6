-- A packet as the payload of a channel: the letter `R`, the text of an object's id, and the packet's bytes.
-- This project's own.
use Rattle.std.specs.Prelude.{ℕ, ◌==◌, List, [], ◌∷◌, ◌++◌, take, drop, if◌then◌else◌, Option, None, option_map}
use Rattle.ms_base.specs.Id.{id_text, id_of_text}
use Rattle.ms_base.specs.declared.id.Id.{Id}

-- the code of `R`
abbrev pub packet_letter : ℕ
packet_letter = 82

-- what stands before a packet: the letter and the 36 characters of the id, in lower case
abbrev pub packet_head : Id → List ℕ
packet_head id = packet_letter ∷ id_text id.0

abbrev pub packet_payload : Id → List ℕ → List ℕ
packet_payload id packet = packet_head id ++ packet

-- the id, whose letters may be of either case, and the packet behind the letter
abbrev pub packet_behind : List ℕ → Option (Id × List ℕ)
packet_behind rest = option_map (λ id. (record { 0 = id }, drop 36 rest)) (id_of_text (take 36 rest))

-- the id and the packet of a payload that is of this kind
unfoldable pub packet_in : List ℕ → Option (Id × List ℕ)
packet_in [] = None
packet_in (c ∷ rest) = if c == packet_letter then packet_behind rest else None
