-- The pieces of bytes, and the events of an inbox in memory.
use Rattle.std.proofs.Common.{◌≡◌, ℕ, zero, suc, ◌+◌, ◌<◌, ◌≤◌, min, false, List, [], ◌∷◌, ◌++◌, length, map, take, drop, All, refl, sym, ap, ◌∙◌, inl, inr, arith, append_assoc, append-nil, length-append}
use Rattle.std.proofs.lemmas.Bool.{cases_lt}
use Rattle.std.proofs.lemmas.List.{length-drop, length-take, take_all, drop_all}
use Rattle.std.proofs.lemmas.List.Elements.{All-append, All-cons, All-nil}
use Rattle.std.proofs.lemmas.List.Concat.{flat_map-cons}
use Rattle.std.proofs.lemmas.List.Folds.{list_any-append}
use Rattle.ms_devices.specs.declared.events.MemEvent.{MemEvent}
use Rattle.ms_devices.specs.declared.events.MemEvent.TheVariants as memory
use Rattle.ms_devices.specs.declared.events.GivenEvent.{GivenEvent}
use Rattle.ms_devices.specs.declared.events.GivenEvent.TheVariants as given
use Rattle.ms_devices.specs.declared.events.TheConstants.{EVENT_BYTES}
use Rattle.ms_devices.specs.Outside.{is_end, has_ended}
use Rattle.ms_devices.specs.WorkerMemory.{pieces_within, pieces, events_of, given_of, IsFitEvent, IsInbox}

pub enough : (n m : ℕ) (bytes : List ℕ) → length bytes ≤ n → length bytes ≤ m → pieces_within n bytes ≡ pieces_within m bytes
unfolding pieces_within
enough zero zero bytes short also = refl
enough zero (suc m) [] short also = refl
enough zero (suc m) (b ∷ bytes) short also = absurd (omega arith)
enough (suc n) zero [] short also = refl
enough (suc n) zero (b ∷ bytes) short also = absurd (omega arith)
enough (suc n) (suc m) [] short also = refl
enough (suc n) (suc m) (b ∷ bytes) short also =
    let shorter = length-drop EVENT_BYTES (b ∷ bytes) in
    ap (λ rest. take EVENT_BYTES (b ∷ bytes) ∷ rest)
    (enough n m (drop EVENT_BYTES (b ∷ bytes)) (omega arith) (omega arith))

pub none_left : (all : List GivenEvent) (rest : List ℕ) → length rest ≡ 0 → all ≡ all ++ map given.Channel (pieces rest)
unfolding pieces_within
none_left all [] empty = sym (append-nil all)
none_left all (b ∷ rest) empty = absurd (omega arith)

-- the first piece, and those of the rest
pub first_piece : (bytes : List ℕ) → 0 < length bytes → pieces bytes ≡ take EVENT_BYTES bytes ∷ pieces (drop EVENT_BYTES bytes)
unfolding pieces_within
first_piece [] some = absurd (omega arith)
first_piece (b ∷ bytes) some =
    let shorter = length-drop EVENT_BYTES (b ∷ bytes) in
    enough (length (b ∷ bytes)) (suc (length bytes)) (b ∷ bytes) (omega arith) (omega arith)
    ∙ ap (λ rest. take EVENT_BYTES (b ∷ bytes) ∷ rest)
    (enough (length bytes) (length (drop EVENT_BYTES (b ∷ bytes))) (drop EVENT_BYTES (b ∷ bytes)) (omega arith) (omega arith))

take_min : (n : ℕ) (xs : List ℕ) → take (min (length xs) n) xs ≡ take n xs
take_min n xs =
    elim (cases_lt (length xs) n) [
      | inl short ↦ take_all (min (length xs) n) xs (omega arith) ∙ sym (take_all n xs (omega arith))
      | inr long ↦ ap (λ k. take k xs) (omega arith)
    ]

drop_min : (n : ℕ) (xs : List ℕ) → drop (min (length xs) n) xs ≡ drop n xs
drop_min n xs =
    elim (cases_lt (length xs) n) [
      | inl short ↦ drop_all (min (length xs) n) xs (omega arith) ∙ sym (drop_all n xs (omega arith))
      | inr long ↦ ap (λ k. drop k xs) (omega arith)
    ]

-- one piece more is an event
pub piece_added : (before all : List GivenEvent) (rest piece behind : List ℕ) → 0 < length rest
    → piece ≡ take (min (length rest) EVENT_BYTES) rest → behind ≡ drop (min (length rest) EVENT_BYTES) rest
    → all ≡ before ++ given.Channel piece ∷ []
    → all ++ map given.Channel (pieces behind) ≡ before ++ map given.Channel (pieces rest)
piece_added before all rest piece behind some front back added =
    rw (added, front, back, take_min EVENT_BYTES rest, drop_min EVENT_BYTES rest, first_piece rest some)
    (append_assoc before (given.Channel (take EVENT_BYTES rest) ∷ []) (map given.Channel (pieces (drop EVENT_BYTES rest))))

-- each piece is fit
pub pieces_fit : (n : ℕ) (bytes : List ℕ) → All IsFitEvent (map given.Channel (pieces_within n bytes))
unfolding pieces_within
pieces_fit zero bytes = All-nil IsFitEvent
pieces_fit (suc n) [] = All-nil IsFitEvent
pieces_fit (suc n) (b ∷ bytes) =
    let long = length-take EVENT_BYTES (b ∷ bytes) in
    All-cons IsFitEvent (given.Channel (take EVENT_BYTES (b ∷ bytes))) (map given.Channel (pieces_within n (drop EVENT_BYTES (b ∷ bytes))))
    (omega arith, omega arith) (pieces_fit n (drop EVENT_BYTES (b ∷ bytes)))

pub event_fit : (event : MemEvent) → All IsFitEvent (events_of event)
event_fit (memory.Channel bytes) = pieces_fit (length bytes) bytes
event_fit (memory.Datagram link from packet) = let long = length-take EVENT_BYTES packet in
    All-cons IsFitEvent (given.Datagram link from (take EVENT_BYTES packet)) [] (omega arith) (All-nil IsFitEvent)

pub all_fit : (events : List MemEvent) → All IsFitEvent (given_of events)
all_fit [] = All-nil IsFitEvent
all_fit (event ∷ events) = rw (flat_map-cons events_of event events) (All-append IsFitEvent (events_of event) (given_of events) (event_fit event) (all_fit events))

pieces_open : (n : ℕ) (bytes : List ℕ) → has_ended (map given.Channel (pieces_within n bytes)) ≡ false
unfolding pieces_within
pieces_open zero bytes = refl
pieces_open (suc n) [] = refl
pieces_open (suc n) (b ∷ bytes) = pieces_open n (drop EVENT_BYTES (b ∷ bytes))

event_open : (event : MemEvent) → has_ended (events_of event) ≡ false
event_open (memory.Channel bytes) = pieces_open (length bytes) bytes
event_open (memory.Datagram link from packet) = refl

-- no end is among what is given of events
pub all_open : (events : List MemEvent) → has_ended (given_of events) ≡ false
all_open [] = refl
all_open (event ∷ events) =
    rw (flat_map-cons events_of event events, list_any-append is_end (events_of event) (given_of events), event_open event, all_open events) refl

-- an inbox that gave nothing yet
pub new_inbox : (events : List MemEvent) (all : List GivenEvent) → all ≡ given_of events → IsInbox all 0
new_inbox events all same =
    record {
      within = omega arith;
      fit = rw same (all_fit events);
      before_end = rw same (all_open events);
      behind_end = λ ended. absurd (cc);
    }

-- the end behind them
pub end_given : (events now : List GivenEvent) (given_count : ℕ) → given_count ≡ length events → IsInbox events given_count
    → now ≡ events ++ given.End ∷ [] → IsInbox now (given_count + 1)
end_given events now given_count all inbox added =
    let long : length (events ++ given.End ∷ []) ≡ length events + 1 = length-append events (given.End ∷ []) in
    record {
      within = rw added (omega arith);
      fit = rw added (All-append IsFitEvent events (given.End ∷ []) inbox.fit (All-cons IsFitEvent given.End [] tt (All-nil IsFitEvent)));
      before_end = rw (added, drop_all (given_count + 1) (events ++ given.End ∷ []) (omega arith)) refl;
      behind_end = λ ended. rw added (omega arith);
    }

pub all_given : (given_count : ℕ) (events : List GivenEvent) → given_count ≤ length events → drop given_count events ≡ [] → given_count ≡ length events
all_given given_count events within nothing =
    let rest = length-drop given_count events in
    let none : length (drop given_count events) ≡ 0 = ap length nothing in
    omega arith
