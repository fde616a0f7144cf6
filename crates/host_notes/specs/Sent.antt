-- The bytes that go to a worker, as they are read off the notes: the frames of its requests and of the packets for it.
-- This project's own.
use Rattle.std.specs.Prelude.{◌≤◌, ℕ, List, [], length, flat_map, if◌then◌else◌, Option, Some, None, ⊤}
use Rattle.ms_base.specs.declared.keys.WorkerKey.{WorkerKey}
use Rattle.channel_frames.specs.Frames.{frame, max_payload}
use Rattle.channel_msgs.specs.Packet.{packet_payload}
use Rattle.transcript.specs.declared.note.Note.{Note}
use Rattle.transcript.specs.declared.note.Note.TheVariants as note
use Rattle.host_notes.specs.Keys.{same_worker}

-- how long a packet may be
abbrev pub max_packet : ℕ
max_packet = 65535

-- the payload that a note sends, and the worker that it goes to
abbrev pub sent_in : Note → Option (WorkerKey × List ℕ)
sent_in (note.Sent worker payload) = Some (worker, payload)
sent_in (note.SentRtp worker id packet) = Some (worker, packet_payload id packet)
sent_in other = None

-- its frame, if it goes to this worker
abbrev pub frame_to : WorkerKey → Option (WorkerKey × List ℕ) → List ℕ
frame_to worker None = []
frame_to worker (Some sent) = if same_worker sent.0 worker then frame sent.1 else []

abbrev pub sent_of : List Note → WorkerKey → List ℕ
sent_of notes worker = flat_map (λ n. frame_to worker (sent_in n)) notes

-- what is sent is within its limit
abbrev pub IsShort : Note → Type 0
IsShort (note.Sent worker payload) = length payload ≤ max_payload
IsShort (note.SentRtp worker id packet) = length packet ≤ max_packet
IsShort other = ⊤
