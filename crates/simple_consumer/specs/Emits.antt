-- What a Consumer emits, over its whole list of calls. This project's own; the output numbers are those of seq_manager's `Outputs`.
use Rattle.std.specs.Prelude.{ℕ, List, [], ◌∷◌, ◌++◌, Bool, true, false, map, filter, if◌then◌else◌}
use Rattle.rtp_extension.specs.declared.mapped.Flags.{Flags}
use Rattle.rtp_extension.specs.Activity.{is_active}
use Rattle.rtp_params.specs.declared.params.Params.{Params}
use Rattle.seq_manager.specs.Outputs.{sent_numbers}
use Rattle.simple_consumer.specs.Sending.{Offer, seq_of, is_for, can_begin, emitted}
use Rattle.simple_consumer.specs.Calls.{Call, set_flags, pass}

-- ---- when the Consumer is active

-- the offers up to the call by which an active Consumer is no longer active
abbrev pub first_span : List Call → List Offer
first_span [] = []
first_span (pass o ∷ calls) = o ∷ first_span calls
first_span (set_flags f ∷ calls) = if is_active f then first_span calls else []

-- the spans that begin behind the first call, where the Consumer is active or not
abbrev pub later_spans : Bool → List Call → List (List Offer)
later_spans active [] = []
later_spans active (pass o ∷ calls) = later_spans active calls
later_spans true (set_flags f ∷ calls) = later_spans (is_active f) calls
later_spans false (set_flags f ∷ calls) = if is_active f then first_span calls ∷ later_spans true calls else later_spans false calls

-- the maximal spans of a list of calls in which the Consumer is active, each with what it is offered there
abbrev pub spans : Bool → List Call → List (List Offer)
spans true calls = first_span calls ∷ later_spans true calls
spans false calls = later_spans false calls

-- the flags behind a list of calls: the latest that were set
abbrev pub flags_behind : Flags → List Call → Flags
flags_behind flags [] = flags
flags_behind flags (pass o ∷ calls) = flags_behind flags calls
flags_behind flags (set_flags f ∷ calls) = flags_behind f calls

-- an offer more at the end of the last span
abbrev pub with_offer : List (List Offer) → Offer → List (List Offer)
with_offer [] o = []
with_offer (span ∷ []) o = (span ++ o ∷ []) ∷ []
with_offer (span ∷ next ∷ later) o = span ∷ with_offer (next ∷ later) o

-- ---- its stretches

-- the list from its first item that passes on
abbrev pub from_first : (Offer → Bool) → List Offer → List Offer
from_first p [] = []
from_first p (o ∷ os) = if p o then o ∷ os else from_first p os

-- the stretch of a span: the offers that are for the Consumer, of video from the first that starts a key frame on
abbrev pub stretch_of : Params → ℕ → List Offer → List Offer
stretch_of params mapped span = from_first (λ o. can_begin o.mapped) (filter (λ o. is_for params mapped o.mapped) span)

abbrev pub stretches : Params → ℕ → Flags → List Call → List (List Offer)
stretches params mapped flags calls = map (stretch_of params mapped) (spans (is_active flags) calls)

-- ---- what it emits

-- the offers of all stretches, one behind the other
abbrev pub joined : List (List Offer) → List Offer
joined [] = []
joined (stretch ∷ later) = stretch ++ joined later

-- each under its output number
abbrev pub emitted_under : Params → List Offer → List ℕ → List (List ℕ)
emitted_under params [] numbers = []
emitted_under params (o ∷ os) [] = []
emitted_under params (o ∷ os) (n ∷ ns) = emitted params o n ∷ emitted_under params os ns

abbrev pub emits_of : Params → List (List Offer) → List (List ℕ)
emits_of params found = emitted_under params (joined found) (sent_numbers (map (map seq_of) found))

-- all packets that a Consumer with these parameters, mapped SSRC and first flags emits by these calls
abbrev pub emits : Params → ℕ → Flags → List Call → List (List ℕ)
emits params mapped flags calls = emits_of params (stretches params mapped flags calls)
