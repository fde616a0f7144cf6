-- Worked rows of the definitions, which compute: a Consumer of opus and one of VP8, each of the mapped SSRC 100,000,000.
use Rattle.std.specs.Prelude.{ℕ, ◌≡◌, List, [], ◌∷◌, Bool, true, false, codes, Some, None, refl}
use Rattle.ms_base.specs.declared.keys.Media.TheVariants as media
use Rattle.rtp_extension.specs.declared.mapped.Flags.{Flags}
use Rattle.rtp_extension.specs.declared.mapped.Mapped.{Mapped}
use Rattle.rtp_packet.specs.Reading.{fields_of}
use Rattle.rtp_params.specs.declared.codec.Codec.{Codec}
use Rattle.rtp_params.specs.declared.ext.Ext.{Ext}
use Rattle.rtp_params.specs.declared.params.Params.{Params}
use Rattle.simple_consumer.specs.Sending.{sending_of}
use Rattle.simple_consumer.specs.Calls.{Call, set_flags, pass, emissions}
use Rattle.simple_consumer.specs.Emits.{emits}

abbrev codec : Codec
codec = record {
  media = media.Audio;
  name = codes "opus";
  payload_type = Some 100;
  clock_rate = 48000;
  channels = Some 2;
  parameters = [];
  feedback = [];
}

abbrev ext : ℕ → Ext
ext id = record { media = None; uri = codes "uri"; id = id; sends = true }

-- of the header extensions it has the id 10 alone
abbrev params : Params
params = record {
  codecs = codec ∷ [];
  exts = ext 10 ∷ [];
  encodings = record { ssrc = 100000001; rtx = None } ∷ [];
  cname = [];
  reduced_size = true;
}

abbrev active : Flags
active = record { connected = true; paused = false; producer_paused = false }

abbrev paused : Flags
paused = record { connected = true; paused = true; producer_paused = false }

-- a packet of two bytes with this sequence number
abbrev packet : ℕ → ℕ → List ℕ
packet high low = 0x80 ∷ 0x6f ∷ high ∷ low ∷ 0 ∷ 0 ∷ 0 ∷ 0x0a ∷ 0 ∷ 0 ∷ 0x08 ∷ 0xae ∷ 0xaa ∷ 0xbb ∷ []

abbrev audio : Mapped
audio = record { ssrc = 100000000; payload_type = 100; key = false; video = false }

abbrev video : Bool → Mapped
video key = record { ssrc = 100000000; payload_type = 100; key = key; video = true }

abbrev offered : Mapped → ℕ → ℕ → Call
offered mapped high low = pass (record { mapped = mapped; ids = []; packet = packet high low })

-- it under the number, for the Consumer's SSRC
abbrev passed : ℕ → List ℕ
passed number = 0x80 ∷ 0x64 ∷ 0 ∷ number ∷ 0 ∷ 0 ∷ 0 ∷ 0x0a ∷ 0x05 ∷ 0xf5 ∷ 0xe1 ∷ 0x01 ∷ 0xaa ∷ 0xbb ∷ []

abbrev made : List Call → List (List ℕ)
made calls = emits params 100000000 active calls

-- 65,534, 65,535, 0 give 1, 2, 3, and a late 65,533 gives 0
pub numbers-row : made (offered audio 0xff 0xfe ∷ offered audio 0xff 0xff ∷ offered audio 0 0 ∷ offered audio 0xff 0xfd ∷ []) ≡ passed 1 ∷ passed 2 ∷ passed 3 ∷ passed 0 ∷ []
unfolding fields_of
numbers-row = refl

-- paused behind the output number 3 and resumed: the next is 4, whatever its own number; what comes in between is not sent on
pub resumed-row : made (offered audio 0 1 ∷ offered audio 0 3 ∷ set_flags paused ∷ offered audio 0 4 ∷ set_flags active ∷ offered audio 0x30 0 ∷ []) ≡ passed 1 ∷ passed 3 ∷ passed 4 ∷ []
unfolding fields_of
resumed-row = refl

-- the same with no packet in between
pub parted-row : made (offered audio 0 1 ∷ set_flags paused ∷ set_flags active ∷ offered audio 0 3 ∷ []) ≡ passed 1 ∷ passed 2 ∷ []
unfolding fields_of
parted-row = refl

-- flags that leave it active part nothing
pub not-parted-row : made (offered audio 0 1 ∷ set_flags active ∷ offered audio 0 3 ∷ []) ≡ passed 1 ∷ passed 3 ∷ []
unfolding fields_of
not-parted-row = refl

-- of video nothing before a key frame starts, at first and behind a resume
pub key-row : made (offered (video false) 0 1 ∷ offered (video true) 0 2 ∷ offered (video false) 0 3 ∷ set_flags paused ∷ set_flags active ∷ offered (video false) 0 4 ∷ offered (video true) 0 9 ∷ []) ≡ passed 1 ∷ passed 2 ∷ passed 3 ∷ []
unfolding fields_of
key-row = refl

-- one of another mapped SSRC, and one of a payload type that it doesn't have
pub others-row : made (offered (record audio { ssrc = 100000001 }) 0 1 ∷ offered (record audio { payload_type = 101 }) 0 2 ∷ []) ≡ []
unfolding fields_of
others-row = refl

-- of the elements 1, 2 and 3 the map has new ids for the first two, and the Consumer the id of the second alone
pub elements-row : made (pass (record {
  mapped = audio;
  ids = None ∷ Some 4 ∷ Some 10 ∷ None ∷ [];
  packet = 0x90 ∷ 0x6f ∷ 0 ∷ 1 ∷ 0 ∷ 0 ∷ 0 ∷ 0x0a ∷ 0 ∷ 0 ∷ 0x08 ∷ 0xae ∷ 0xbe ∷ 0xde ∷ 0 ∷ 2 ∷ 0x10 ∷ 0x11 ∷ 0x20 ∷ 0x22 ∷ 0x30 ∷ 0x33 ∷ 0 ∷ 0 ∷ 0xaa ∷ [];
}) ∷ [])
    ≡ (0x90 ∷ 0x64 ∷ 0 ∷ 1 ∷ 0 ∷ 0 ∷ 0 ∷ 0x0a ∷ 0x05 ∷ 0xf5 ∷ 0xe1 ∷ 0x01 ∷ 0xbe ∷ 0xde ∷ 0 ∷ 1 ∷ 0xa0 ∷ 0x22 ∷ 0 ∷ 0 ∷ 0xaa ∷ []) ∷ []
unfolding fields_of
elements-row = refl

-- call by call it is the same
pub call-by-call-row : emissions (sending_of params 100000000 paused) (offered audio 0 1 ∷ set_flags active ∷ offered (video false) 0 2 ∷ offered (video true) 0 4 ∷ offered (video false) 0 5 ∷ []) ≡ passed 1 ∷ passed 2 ∷ []
unfolding fields_of
call-by-call-row = refl
