-- Worked rows for the inbox and the outbox in memory.
use Rattle.std.specs.Prelude.{◌≡◌, ℕ, List, [], ◌∷◌, Option, Some, None, refl}
use Rattle.ms_base.specs.declared.tuple.Tuple.{Tuple}
use Rattle.ms_devices.specs.declared.events.MemEvent.TheVariants as memory
use Rattle.ms_devices.specs.declared.events.GivenEvent.TheVariants as given
use Rattle.ms_devices.specs.WorkerMemory.{OutboxState, pieces_within, given_of, next_event, bind_answer, answers_left}

abbrev pub peer : Tuple
peer = record { ip = 127 ∷ 0 ∷ 0 ∷ 1 ∷ []; port = 6000 }

-- bytes of the channel are an event, no bytes are none, and an empty datagram is one
pub some_events : given_of (memory.Channel (7 ∷ 8 ∷ []) ∷ memory.Channel [] ∷ memory.Datagram 3 peer [] ∷ [])
    ≡ given.Channel (7 ∷ 8 ∷ []) ∷ given.Datagram 3 peer [] ∷ []
unfolding pieces_within
some_events = refl

pub behind_all : next_event [] ≡ given.End
behind_all = refl

-- an outbox with a port, a `bind` that fails, and a port; its second call that can fail is to fail
abbrev pub outbox : ℕ → List (Option ℕ) → OutboxState
outbox made answers = record { answers = answers; told = Some []; calls = record { fails = 2 ∷ []; made = made }; channel_faults = 0; link_faults = 0 }

pub first_bind : bind_answer (outbox 0 (Some 40000 ∷ None ∷ Some 40002 ∷ [])) ≡ Some 40000
first_bind = refl

-- to fail by its number: it takes no answer
pub second_bind : bind_answer (outbox 1 (Some 40000 ∷ [])) ≡ None
second_bind = refl

pub second_takes_none : answers_left (outbox 1 (Some 40000 ∷ [])) ≡ Some 40000 ∷ []
second_takes_none = refl

pub by_its_answer : bind_answer (outbox 2 (None ∷ Some 40002 ∷ [])) ≡ None
by_its_answer = refl

pub its_answer_is_taken : answers_left (outbox 2 (None ∷ Some 40002 ∷ [])) ≡ Some 40002 ∷ []
its_answer_is_taken = refl

pub none_left : bind_answer (outbox 5 []) ≡ None
none_left = refl
