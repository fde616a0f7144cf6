-- What holds of every list of calls.
use Rattle.std.specs.Prelude.{◌≡◌, ℕ, List, [], ◌∷◌, ◌++◌, ◌&&◌, not, if◌then◌else◌, option_to_list}
use Rattle.rtp_extension.specs.declared.mapped.Flags.{Flags}
use Rattle.rtp_extension.specs.Activity.{is_active}
use Rattle.rtp_params.specs.declared.params.Params.{Params}
use Rattle.simple_consumer.specs.Sending.{Offer, sending_of, passed}
use Rattle.simple_consumer.specs.Calls.{Call, set_flags, pass, ArePackets, sending_after, emissions}
use Rattle.simple_consumer.specs.Emits.{spans, flags_behind, with_offer, emits}

-- what is written call by call is what the whole list emits
abbrev pub EmissionsAreOfTheWholeList : Type 0
EmissionsAreOfTheWholeList =
    (params : Params) (mapped : ℕ) (flags : Flags) (calls : List Call) → ArePackets calls →
    emissions (sending_of params mapped flags) calls ≡ emits params mapped flags calls

-- a further `pass` writes what the whole list has beyond that of the calls before
abbrev pub EachPassGoesOn : Type 0
EachPassGoesOn =
    (params : Params) (mapped : ℕ) (flags : Flags) (calls : List Call) (o : Offer) → ArePackets (calls ++ pass o ∷ []) →
    emits params mapped flags (calls ++ pass o ∷ [])
    ≡ emits params mapped flags calls ++ option_to_list (passed (sending_after (sending_of params mapped flags) calls) o)

-- and a further `set_flags` adds nothing
abbrev pub FlagsEmitNothing : Type 0
FlagsEmitNothing =
    (params : Params) (mapped : ℕ) (flags further : Flags) (calls : List Call) → ArePackets calls →
    emits params mapped flags (calls ++ set_flags further ∷ []) ≡ emits params mapped flags calls

-- An offer belongs to the last span exactly where the Consumer is active behind the calls before it, and to none otherwise.
abbrev pub OffersBelongToActivity : Type 0
OffersBelongToActivity =
    (flags : Flags) (calls : List Call) (o : Offer) →
    spans (is_active flags) (calls ++ pass o ∷ [])
    ≡ (if is_active (flags_behind flags calls) then with_offer (spans (is_active flags) calls) o else spans (is_active flags) calls)

-- A span begins exactly where the Consumer becomes active.
abbrev pub SpansBeginWithActivity : Type 0
SpansBeginWithActivity =
    (flags further : Flags) (calls : List Call) →
    spans (is_active flags) (calls ++ set_flags further ∷ [])
    ≡ (if is_active further && not (is_active (flags_behind flags calls)) then spans (is_active flags) calls ++ [] ∷ [] else spans (is_active flags) calls)
