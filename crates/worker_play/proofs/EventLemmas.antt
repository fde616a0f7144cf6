-- Words that are an event.
use Rattle.std.proofs.Common.{◌≡◌, ◌≢◌, ℕ, List, [], ◌∷◌, length, codes, Option, Vec, Result, Ok, Err, refl, inl, inr}
use Rattle.std.specs.List.{AllZip}
use Rattle.std.specs.Net.Grammar.{IsDotted}
use Rattle.ms_base.specs.declared.tuple.Tuple.{Tuple}
use Rattle.ms_devices.specs.declared.events.MemEvent.{MemEvent}
use Rattle.ms_devices.specs.declared.events.MemEvent.TheVariants as memory
use Rattle.worker_play.specs.declared.fault.WordFault.{WordFault}
use Rattle.worker_play.specs.declared.fault.WordFault.TheVariants as word
use Rattle.worker_play.specs.Reading.{Gives, GivesItems, AreBytes, IsAnswer, ArePorts, IsEventLine, IsPortsLine, IsDatagram, IsChannelEvent, IsDatagramEvent, IsEvent}

not_both : (kind : List ℕ) → kind ≡ codes "channel" → kind ≡ codes "datagram" → ⊥
not_both kind one other = cc

pub channel_event : (kind : List ℕ) (rest : List (List ℕ)) (r : Result MemEvent WordFault) → kind ≡ codes "channel"
    → Gives (IsChannelEvent rest) r → Gives (IsEvent (kind ∷ rest)) r
channel_event kind rest (Ok event) is gives = inl (is, gives)
channel_event kind rest (Err word.Bad) is gives =
    λ event either. elim either [ inl h ↦ gives event h.1 | inr h ↦ not_both kind is h.0 ]
channel_event kind rest (Err word.NoMemory) is gives = tt

pub datagram_event : (kind : List ℕ) (rest : List (List ℕ)) (r : Result MemEvent WordFault) → kind ≡ codes "datagram"
    → Gives (IsDatagramEvent rest) r → Gives (IsEvent (kind ∷ rest)) r
datagram_event kind rest (Ok event) is gives = inr (is, gives)
datagram_event kind rest (Err word.Bad) is gives =
    λ event either. elim either [ inl h ↦ not_both kind h.0 is | inr h ↦ gives event h.1 ]
datagram_event kind rest (Err word.NoMemory) is gives = tt

pub no_event : (kind : List ℕ) (rest : List (List ℕ)) → (kind ≡ codes "channel" → ⊥) → (kind ≡ codes "datagram" → ⊥)
    → (event : MemEvent) → IsEvent (kind ∷ rest) event → ⊥
no_event kind rest one other event either = elim either [ inl h ↦ one h.0 | inr h ↦ other h.0 ]

no_bytes : (words : List (List ℕ)) (bytes : List ℕ) → length words ≢ 1 → AreBytes words bytes → ⊥
no_bytes [] bytes other h = h
no_bytes (hex ∷ []) bytes other h = other refl
no_bytes (hex ∷ more ∷ words) bytes other h = h

pub no_channel : (words : List (List ℕ)) → length words ≢ 1 → (event : MemEvent) → IsChannelEvent words event → ⊥
no_channel words other (memory.Channel bytes) h = no_bytes words bytes other h
no_channel words other (memory.Datagram link from packet) h = h

no_four : (words : List (List ℕ)) (link : ℕ) (from : Tuple) (packet : List ℕ) → length words ≢ 4 → IsDatagram words link from packet → ⊥
no_four [] link from packet other h = h
no_four (a ∷ []) link from packet other h = h
no_four (a ∷ b ∷ []) link from packet other h = h
no_four (a ∷ b ∷ c ∷ []) link from packet other h = h
no_four (a ∷ b ∷ c ∷ d ∷ []) link from packet other h = other refl
no_four (a ∷ b ∷ c ∷ d ∷ e ∷ words) link from packet other h = h

pub no_datagram : (words : List (List ℕ)) → length words ≢ 4 → (event : MemEvent) → IsDatagramEvent words event → ⊥
no_datagram words other (memory.Channel bytes) h = h
no_datagram words other (memory.Datagram link from packet) h = no_four words link from packet other h

-- the second word is no address
pub no_address : (number ip port hex : List ℕ) → ((octets : List ℕ) → IsDotted ip octets → ⊥)
    → (event : MemEvent) → IsDatagramEvent (number ∷ ip ∷ port ∷ hex ∷ []) event → ⊥
no_address number ip port hex none (memory.Channel bytes) h = h
no_address number ip port hex none (memory.Datagram link from packet) h = none from.ip h.1

-- what a fault says
pub no_ports : (Z : Type 0) (line : List ℕ) (fault : WordFault) → fault ≡ word.Bad → GivesItems {A = Option ℕ} {Z = Z} (IsPortsLine line) (Err fault)
    → (answers : List (Option ℕ)) → IsPortsLine line answers → ⊥
no_ports Z line word.Bad is gives = gives
no_ports Z line word.NoMemory is gives = cc

pub no_event_line : (line : List ℕ) (fault : WordFault) → fault ≡ word.Bad → Gives (IsEventLine line) (Err fault)
    → (event : MemEvent) → IsEventLine line event → ⊥
no_event_line line word.Bad is gives = gives
no_event_line line word.NoMemory is gives = cc

-- the answers behind `ports`
pub ports_read : {Z : Type 0} (kind : List ℕ) (rest : List (List ℕ)) (r : Result (Vec (Option ℕ) Z) WordFault) → kind ≡ codes "ports"
    → GivesItems (AllZip IsAnswer rest) r → GivesItems (ArePorts (kind ∷ rest)) r
ports_read kind rest (Ok found) is gives = (is, gives)
ports_read kind rest (Err word.Bad) is gives = λ answers h. gives answers h.1
ports_read kind rest (Err word.NoMemory) is gives = tt
