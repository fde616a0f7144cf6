-- What holds of every list of calls.
use Rattle.std.specs.Prelude.{◌≡◌, ℕ, ◌==◌, ◌<◌, false, List, [], ◌∷◌, ◌++◌, length, slice_index_or, None, option_to_list}
use Rattle.std.specs.List.{IsDistinct, list_any}
use Rattle.rtp_extension.specs.declared.mapped.Flags.{Flags}
use Rattle.rtp_params.specs.declared.encoding.Encoding.{Encoding}
use Rattle.rtp_params.specs.declared.params.Params.{Params}
use Rattle.simple_consumer.specs.Sending.{Offer}
use Rattle.simple_consumer.specs.Calls.{Call, pass, ArePackets}
use Rattle.simple_consumer.specs.Emits.{emits}
use Rattle.pipe_consumer.specs.Emits.{pipe_emits}
use Rattle.pipe_consumer.specs.Streams.{with_encoding, streams_of, streams_after, passed_by, sent, packets_of}

-- no SSRC stands twice
abbrev pub AreDifferent : List ℕ → Type 0
AreDifferent ssrcs = IsDistinct (λ one other. one == other) ssrcs

-- What is written call by call, with the mapped SSRC of each packet, is what the whole list emits.
abbrev pub EmissionsAreOfTheWholeList : Type 0
EmissionsAreOfTheWholeList =
    (params : Params) (ssrcs : List ℕ) (flags : Flags) (calls : List Call) → ArePackets calls →
    sent (streams_of params ssrcs flags) calls ≡ pipe_emits params ssrcs flags calls

-- What is written for the mapped SSRC at a place is what a simple Consumer of it emits by the same calls, with the parameters that
-- have the encoding at this place alone: so each mapped SSRC has stretches, key frames and numbers of its own.
abbrev pub EachStreamEmitsByItself : Type 0
EachStreamEmitsByItself =
    (params : Params) (ssrcs : List ℕ) (flags : Flags) (calls : List Call) → AreDifferent ssrcs → ArePackets calls →
    (place : ℕ) (e : Encoding) → place < length ssrcs → place < length params.encodings →
    packets_of (slice_index_or ssrcs place 0) (sent (streams_of params ssrcs flags) calls)
    ≡ emits (with_encoding params (slice_index_or params.encodings place e)) (slice_index_or ssrcs place 0) flags calls

-- Nothing is written for any other SSRC.
abbrev pub OthersEmitNothing : Type 0
OthersEmitNothing =
    (params : Params) (ssrcs : List ℕ) (flags : Flags) (calls : List Call) (ssrc : ℕ) →
    list_any (λ own. ssrc == own) ssrcs ≡ false →
    packets_of ssrc (sent (streams_of params ssrcs flags) calls) ≡ []

-- A further `pass` writes what its mapped SSRC's simple Consumer then emits beyond what it emitted before.
abbrev pub EachPassGoesOn : Type 0
EachPassGoesOn =
    (params : Params) (ssrcs : List ℕ) (flags : Flags) (calls : List Call) (o : Offer) → AreDifferent ssrcs → ArePackets (calls ++ pass o ∷ []) →
    (place : ℕ) (e : Encoding) → place < length ssrcs → place < length params.encodings → o.mapped.ssrc ≡ slice_index_or ssrcs place 0 →
    emits (with_encoding params (slice_index_or params.encodings place e)) (slice_index_or ssrcs place 0) flags (calls ++ pass o ∷ [])
    ≡ emits (with_encoding params (slice_index_or params.encodings place e)) (slice_index_or ssrcs place 0) flags calls
    ++ option_to_list (passed_by (streams_after (streams_of params ssrcs flags) calls) o)

-- One of any other SSRC writes nothing.
abbrev pub OthersArePassedOver : Type 0
OthersArePassedOver =
    (params : Params) (ssrcs : List ℕ) (flags : Flags) (calls : List Call) (o : Offer) →
    list_any (λ own. o.mapped.ssrc == own) ssrcs ≡ false →
    passed_by (streams_after (streams_of params ssrcs flags) calls) o ≡ None
