-- What a pipe Consumer emits, over its whole list of calls: by each `pass`, in order, what the simple Consumer of its mapped SSRC
-- emits by it. This project's own.
use Rattle.std.specs.Prelude.{ℕ, ◌==◌, List, [], ◌∷◌, ◌++◌, length, map, drop, if◌then◌else◌}
use Rattle.std.specs.List.{zip}
use Rattle.rtp_extension.specs.declared.mapped.Flags.{Flags}
use Rattle.rtp_params.specs.declared.encoding.Encoding.{Encoding}
use Rattle.rtp_params.specs.declared.params.Params.{Params}
use Rattle.simple_consumer.specs.Sending.{Offer}
use Rattle.simple_consumer.specs.Calls.{Call, set_flags, pass}
use Rattle.simple_consumer.specs.Emits.{emits}
use Rattle.pipe_consumer.specs.Streams.{with_encoding, sent_for}

-- what a simple Consumer emits by one `pass` more: what all calls emit beyond those before
abbrev pub emitted_by_pass : Params → ℕ → Flags → List Call → Offer → List (List ℕ)
emitted_by_pass params ssrc flags before o = drop (length (emits params ssrc flags before)) (emits params ssrc flags (before ++ pass o ∷ []))

-- the simple Consumer is that of the packet's mapped SSRC, with the encoding at the same place
abbrev pub emitted_at : Params → Flags → List Call → Offer → List (ℕ × Encoding) → List (ℕ × List ℕ)
emitted_at params flags before o [] = []
emitted_at params flags before o (at ∷ later) =
    if o.mapped.ssrc == at.0
    then map (sent_for o.mapped.ssrc) (emitted_by_pass (with_encoding params at.1) at.0 flags before o)
    else emitted_at params flags before o later

-- what calls emit behind others
abbrev pub emitted_behind : Params → List (ℕ × Encoding) → Flags → List Call → List Call → List (ℕ × List ℕ)
emitted_behind params places flags before [] = []
emitted_behind params places flags before (set_flags f ∷ calls) = emitted_behind params places flags (before ++ set_flags f ∷ []) calls
emitted_behind params places flags before (pass o ∷ calls) =
    emitted_at params flags before o places ++ emitted_behind params places flags (before ++ pass o ∷ []) calls

-- all packets that a pipe Consumer with these parameters, mapped SSRCs and first flags emits by these calls, each with its mapped SSRC
abbrev pub pipe_emits : Params → List ℕ → Flags → List Call → List (ℕ × List ℕ)
pipe_emits params ssrcs flags calls = emitted_behind params (zip ssrcs params.encodings) flags [] calls
