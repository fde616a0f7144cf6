-- What happens to a worker, as text (this project's own): the answers to `bind` on the first line, and behind it an
-- event a line. A word is what stands between two spaces.
use Rattle.std.specs.Prelude.{◌≡◌, ℕ, ◌+◌, ◌-◌, ◌^◌, ◌==◌, ◌≤◌, ◌⊎◌, List, [], ◌∷◌, ◌++◌, codes, decimal, length, if◌then◌else◌, Option, Some, None, Result, Ok, Err, Vec, ⊤}
use Rattle.std.specs.List.{AllZip, slice_split}
use Rattle.std.specs.Net.Grammar.{IsDotted}
use Rattle.hex.specs.Hex.{decode_of}
use Rattle.ms_base.specs.Words.{space, line_feed}
use Rattle.ms_base.specs.declared.tuple.Tuple.{Tuple}
use Rattle.ms_devices.specs.declared.events.MemEvent.{MemEvent}
use Rattle.ms_devices.specs.declared.events.MemEvent.TheVariants as memory
use Rattle.worker_play.specs.declared.fault.WordFault.{WordFault}
use Rattle.worker_play.specs.declared.fault.WordFault.TheVariants as word
use Rattle.worker_play.specs.declared.fault.PlayFault.{PlayFault}
use Rattle.worker_play.specs.declared.fault.PlayFault.TheVariants as play

-- the words of a line: two spaces have an empty word between them
abbrev pub words : List ℕ → List (List ℕ)
words line = slice_split (λ b. b == space) line

-- nothing behind the last line feed is no line
abbrev pub without_empty_end : List (List ℕ) → List (List ℕ)
without_empty_end [] = []
without_empty_end (last ∷ []) = if length last == 0 then [] else last ∷ []
without_empty_end (line ∷ next ∷ more) = line ∷ without_empty_end (next ∷ more)

-- the lines of a text; the last one may lack its line feed
abbrev pub lines : List ℕ → List (List ℕ)
lines text = without_empty_end (slice_split (λ b. b == line_feed) text)

-- decimal digits without a leading zero other than `0` itself, of a number up to the greatest
abbrev pub IsNumber : ℕ → List ℕ → ℕ → Type 0
IsNumber greatest word number = (word ≡ decimal number) × (number ≤ greatest)

-- an answer to `bind`: a port, or `-` where it fails
abbrev pub IsAnswer : List ℕ → Option ℕ → Type 0
IsAnswer word None = word ≡ codes "-"
IsAnswer word (Some port) = IsNumber 65535 word port

-- `ports P P - P`
abbrev pub ArePorts : List (List ℕ) → List (Option ℕ) → Type 0
ArePorts [] answers = ⊥
ArePorts (kind ∷ ports) answers = (kind ≡ codes "ports") × AllZip IsAnswer ports answers

-- bytes in hexadecimal digits, in either case of letters
abbrev pub IsHex : List ℕ → List ℕ → Type 0
IsHex word bytes = decode_of word ≡ Ok bytes

-- behind `channel`: `HEX`
abbrev pub AreBytes : List (List ℕ) → List ℕ → Type 0
AreBytes (hex ∷ []) bytes = IsHex hex bytes
AreBytes other bytes = ⊥

abbrev pub IsChannelEvent : List (List ℕ) → MemEvent → Type 0
IsChannelEvent words (memory.Channel bytes) = AreBytes words bytes
IsChannelEvent words (memory.Datagram link from packet) = ⊥

-- behind `datagram`: `LINK IP PORT HEX`
abbrev pub IsDatagram : List (List ℕ) → ℕ → Tuple → List ℕ → Type 0
IsDatagram (number ∷ ip ∷ port ∷ hex ∷ []) link from packet =
    IsNumber (2 ^ 32 - 1) number link × IsDotted ip from.ip × IsNumber 65535 port from.port × IsHex hex packet
IsDatagram other link from packet = ⊥

abbrev pub IsDatagramEvent : List (List ℕ) → MemEvent → Type 0
IsDatagramEvent words (memory.Channel bytes) = ⊥
IsDatagramEvent words (memory.Datagram link from packet) = IsDatagram words link from packet

-- an event, by the words of its line
abbrev pub IsEvent : List (List ℕ) → MemEvent → Type 0
IsEvent [] event = ⊥
IsEvent (kind ∷ rest) event =
    ((kind ≡ codes "channel") × IsChannelEvent rest event) ⊎ ((kind ≡ codes "datagram") × IsDatagramEvent rest event)

-- a line of an event, and the first line
abbrev pub IsEventLine : List ℕ → MemEvent → Type 0
IsEventLine line event = IsEvent (words line) event

abbrev pub IsPortsLine : List ℕ → List (Option ℕ) → Type 0
IsPortsLine line answers = ArePorts (words line) answers

-- The whole text: the answers and the events that it has.
abbrev pub HasLines : List (List ℕ) → List (Option ℕ) → List MemEvent → Type 0
HasLines [] answers events = ⊥
HasLines (first ∷ rest) answers events = IsPortsLine first answers × AllZip IsEventLine rest events

-- the first of the lines that is no event's has so many before it
pub record FirstOther (lines : List (List ℕ)) (count : ℕ) : Type 0 where
  pub before : List (List ℕ)
  pub line : List ℕ
  pub behind : List (List ℕ)
  pub events : List MemEvent
  pub place : lines ≡ before ++ line ∷ behind
  pub counted : length before ≡ count
  pub are_events : AllZip IsEventLine before events
  pub is_none : (event : MemEvent) → IsEventLine line event → ⊥

-- the number, from 1, of the first line that can't be read; where there is no line it is the first
abbrev pub FirstBad : List (List ℕ) → ℕ → Type 0
FirstBad [] number = number ≡ 1
FirstBad (first ∷ rest) number =
    ((number ≡ 1) × ((answers : List (Option ℕ)) → IsPortsLine first answers → ⊥))
    ⊎ ((answers : List (Option ℕ)) × (count : ℕ) × IsPortsLine first answers × FirstOther rest count × (number ≡ count + 2))

-- What was returned for words: what they are, or that they are nothing of the kind. Memory may run out.
abbrev pub Gives : {A : Type 0} → (A → Type 0) → Result A WordFault → Type 0
Gives {A} Is (Ok x) = Is x
Gives {A} Is (Err word.Bad) = (x : A) → Is x → ⊥
Gives {A} Is (Err word.NoMemory) = ⊤

-- the same where a vector was returned
abbrev pub GivesItems : {A Z : Type 0} → (List A → Type 0) → Result (Vec A Z) WordFault → Type 0
GivesItems {A} Is (Ok found) = Is found.items
GivesItems {A} Is (Err word.Bad) = (items : List A) → Is items → ⊥
GivesItems {A} Is (Err word.NoMemory) = ⊤

-- a fault that is told for lines: their first bad one
abbrev pub TellsBad : PlayFault → List (List ℕ) → Type 0
TellsBad (play.BadLine line) lines = FirstBad lines line
TellsBad play.Read lines = ⊥
TellsBad play.Write lines = ⊥
TellsBad play.NoMemory lines = ⊤
