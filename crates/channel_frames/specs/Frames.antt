-- The channel between the host and a worker. This project's own.
use Rattle.std.specs.Prelude.{◌≡◌, ◌≤◌, ℕ, zero, suc, ◌+◌, List, [], ◌∷◌, ◌++◌, length, take, drop, Bool, false, ◌&&◌, nat_le, nat_lt, if◌then◌else◌, All, flat_map}
use Rattle.byteorder.specs.Endian.{little_bytes, little_number}

-- how long a payload may be
abbrev pub max_payload : ℕ
max_payload = 4194304

-- a payload on the channel: its length in four bytes, least significant first, and then its bytes
abbrev pub frame : List ℕ → List ℕ
frame payload = little_bytes 4 (length payload) ++ payload

-- the length that the first four bytes give
abbrev pub told_length : List ℕ → ℕ
told_length bytes = little_number 4 bytes

-- a length stands there, and it is over the limit
abbrev pub begins_too_long : List ℕ → Bool
begins_too_long bytes = nat_le 4 (length bytes) && nat_lt max_payload (told_length bytes)

-- a whole frame stands there, within the limit
abbrev pub begins_with_frame : List ℕ → Bool
begins_with_frame bytes = nat_le 4 (length bytes) && nat_le (told_length bytes) max_payload && nat_le (4 + told_length bytes) (length bytes)

-- The payloads of a stream: as many frames as follow one another from its start. A frame has four bytes at
-- least, so there are no more than the stream has bytes.
unfoldable pub frames_within : ℕ → List ℕ → List (List ℕ)
frames_within zero stream = []
frames_within (suc n) stream =
    if begins_with_frame stream
    then take (told_length stream) (drop 4 stream) ∷ frames_within n (drop (4 + told_length stream) stream)
    else []

unfoldable pub rest_within : ℕ → List ℕ → List ℕ
rest_within zero stream = stream
rest_within (suc n) stream =
    if begins_with_frame stream then rest_within n (drop (4 + told_length stream) stream) else stream

abbrev pub frames : List ℕ → List (List ℕ)
frames stream = frames_within (length stream) stream

-- what stands behind the frames
abbrev pub rest_of : List ℕ → List ℕ
rest_of stream = rest_within (length stream) stream

-- behind the frames a length over the limit stands in a frame's place
abbrev pub is_broken : List ℕ → Bool
is_broken stream = begins_too_long (rest_of stream)

-- where that length stands: how many bytes of the stream come before its four bytes
abbrev pub break_place : List ℕ → ℕ
break_place stream = length (flat_map frame (frames stream))

-- and how much it says
abbrev pub break_length : List ℕ → ℕ
break_length stream = told_length (rest_of stream)

-- what a stream has beyond what it had before these bytes came
abbrev pub new_frames : List ℕ → List ℕ → List (List ℕ)
new_frames stream bytes = drop (length (frames stream)) (frames (stream ++ bytes))

-- The stream begins with the frames of these payloads, each within the limit.
pub record BeginsWith (stream : List ℕ) (payloads : List (List ℕ)) (behind : List ℕ) : Type 0 where
  pub whole : stream ≡ flat_map frame payloads ++ behind
  pub each : All (λ payload. length payload ≤ max_payload) payloads

-- The stream is the frames of these payloads, and then a rest that begins with no whole frame.
pub record Splits (stream : List ℕ) (payloads : List (List ℕ)) (rest : List ℕ) : Type 0 where
  pub whole : stream ≡ flat_map frame payloads ++ rest
  pub each : All (λ payload. length payload ≤ max_payload) payloads
  pub most : begins_with_frame rest ≡ false
