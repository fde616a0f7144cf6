-- What a pipe Consumer keeps of its calls, and what each of them makes of it: a list of streams, one for each mapped SSRC, and each
-- does what a simple Consumer does. This project's own, after mediasoup's PipeConsumer.
use Rattle.std.specs.Prelude.{ℕ, ◌==◌, Bool, false, List, [], ◌∷◌, map, filter, if◌then◌else◌, Option, Some, None, option_map, option_and_then}
use Rattle.std.specs.List.{zip, cons_option}
use Rattle.rtp_extension.specs.declared.mapped.Flags.{Flags}
use Rattle.rtp_extension.specs.declared.mapped.Mapped.{Mapped}
use Rattle.rtp_params.specs.declared.encoding.Encoding.{Encoding}
use Rattle.rtp_params.specs.declared.params.Params.{Params}
use Rattle.simple_consumer.specs.Sending.{Offer, Sending, sending_of, takes, passed, behind_packet, behind_flags}
use Rattle.simple_consumer.specs.Calls.{Call, set_flags, pass}

-- ---- its streams

-- the parameters of one stream: the Consumer's, with this encoding alone
abbrev pub with_encoding : Params → Encoding → Params
with_encoding params e = record params { encodings = e ∷ [] }

-- the stream of a mapped SSRC and the encoding at the same place, before the first call
abbrev pub stream_of : Params → Flags → ℕ × Encoding → Sending
stream_of params flags at = sending_of (with_encoding params at.1) at.0 flags

-- all of them
abbrev pub streams_of : Params → List ℕ → Flags → List Sending
streams_of params ssrcs flags = map (stream_of params flags) (zip ssrcs params.encodings)

-- the stream that sends on what is mapped to an SSRC
abbrev pub stream_for : List Sending → ℕ → Option Sending
stream_for [] ssrc = None
stream_for (s ∷ ss) ssrc = if ssrc == s.mapped then Some s else stream_for ss ssrc

-- ---- call by call

abbrev pub taken_by : Option Sending → Mapped → Bool
taken_by None m = false
taken_by (Some s) m = takes s m

-- whether a packet is sent on
abbrev pub takes_one : List Sending → Mapped → Bool
takes_one ss m = taken_by (stream_for ss m.ssrc) m

-- what is written for an offer, if it is sent on: what its stream writes
abbrev pub passed_by : List Sending → Offer → Option (List ℕ)
passed_by ss o = option_and_then (λ s. passed s o) (stream_for ss o.mapped.ssrc)

-- only its stream goes on
abbrev pub behind_offer : List Sending → Offer → List Sending
behind_offer [] o = []
behind_offer (s ∷ ss) o = if o.mapped.ssrc == s.mapped then behind_packet s o ∷ ss else s ∷ behind_offer ss o

-- flags are set on every stream
abbrev pub behind_setting : Flags → List Sending → List Sending
behind_setting f ss = map (λ s. behind_flags s f) ss

-- ---- lists of calls

-- the state behind a list of calls
abbrev pub streams_after : List Sending → List Call → List Sending
streams_after ss [] = ss
streams_after ss (set_flags f ∷ calls) = streams_after (behind_setting f ss) calls
streams_after ss (pass o ∷ calls) = streams_after (behind_offer ss o) calls

-- a packet that was written, with the SSRC that what was offered is mapped to
abbrev pub sent_for : ℕ → List ℕ → ℕ × List ℕ
sent_for ssrc packet = (ssrc, packet)

-- what its `pass` calls write, in order
abbrev pub sent : List Sending → List Call → List (ℕ × List ℕ)
sent ss [] = []
sent ss (set_flags f ∷ calls) = sent (behind_setting f ss) calls
sent ss (pass o ∷ calls) = cons_option (option_map (sent_for o.mapped.ssrc) (passed_by ss o)) (sent (behind_offer ss o) calls)

-- those of one mapped SSRC
abbrev pub packets_of : ℕ → List (ℕ × List ℕ) → List (List ℕ)
packets_of ssrc all = map (λ one. one.1) (filter (λ one. one.0 == ssrc) all)
