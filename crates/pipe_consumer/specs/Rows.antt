-- Worked rows of the definitions, which compute: a Consumer of opus with the mapped SSRCs 100,000,000 and 100,000,001, which sends
-- on under 100,000,002 and 100,000,003.
use Rattle.std.specs.Prelude.{ℕ, ◌≡◌, List, [], ◌∷◌, true, false, codes, Some, None, refl}
use Rattle.ms_base.specs.declared.keys.Media.TheVariants as media
use Rattle.rtp_extension.specs.declared.mapped.Flags.{Flags}
use Rattle.rtp_extension.specs.declared.mapped.Mapped.{Mapped}
use Rattle.rtp_packet.specs.Reading.{fields_of}
use Rattle.rtp_params.specs.declared.codec.Codec.{Codec}
use Rattle.rtp_params.specs.declared.params.Params.{Params}
use Rattle.simple_consumer.specs.Calls.{Call, set_flags, pass}
use Rattle.pipe_consumer.specs.Emits.{pipe_emits}
use Rattle.pipe_consumer.specs.Streams.{streams_of, sent, packets_of}

abbrev codec : Codec
codec = record {
  media = media.Audio;
  name = codes "opus";
  payload_type = Some 100;
  clock_rate = 48000;
  channels = Some 2;
  parameters = [];
  feedback = [];
}

abbrev params : Params
params = record {
  codecs = codec ∷ [];
  exts = [];
  encodings = record { ssrc = 100000002; rtx = None } ∷ record { ssrc = 100000003; rtx = None } ∷ [];
  cname = [];
  reduced_size = true;
}

abbrev active : Flags
active = record { connected = true; paused = false; producer_paused = false }

abbrev paused : Flags
paused = record { connected = true; paused = true; producer_paused = false }

abbrev audio : ℕ → Mapped
audio ssrc = record { ssrc = ssrc; payload_type = 100; key = false; video = false }

-- packets of one byte from the SSRCs 2222 and 3333, with this sequence number
abbrev one : ℕ → Call
one number = pass (record {
  mapped = audio 100000000;
  ids = [];
  packet = 0x80 ∷ 0x6f ∷ 0 ∷ number ∷ 0 ∷ 0 ∷ 0 ∷ 0x0a ∷ 0 ∷ 0 ∷ 0x08 ∷ 0xae ∷ 0xaa ∷ [];
})

abbrev other : ℕ → Call
other number = pass (record {
  mapped = audio 100000001;
  ids = [];
  packet = 0x80 ∷ 0x6f ∷ 0 ∷ number ∷ 0 ∷ 0 ∷ 0 ∷ 0x0a ∷ 0 ∷ 0 ∷ 0x0d ∷ 0x05 ∷ 0xbb ∷ [];
})

-- as they are sent on, under this number
abbrev one_sent : ℕ → List ℕ
one_sent number = 0x80 ∷ 0x64 ∷ 0 ∷ number ∷ 0 ∷ 0 ∷ 0 ∷ 0x0a ∷ 0x05 ∷ 0xf5 ∷ 0xe1 ∷ 0x02 ∷ 0xaa ∷ []

abbrev other_sent : ℕ → List ℕ
other_sent number = 0x80 ∷ 0x64 ∷ 0 ∷ number ∷ 0 ∷ 0 ∷ 0 ∷ 0x0a ∷ 0x05 ∷ 0xf5 ∷ 0xe1 ∷ 0x03 ∷ 0xbb ∷ []

abbrev made : List Call → List (ℕ × List ℕ)
made calls = sent (streams_of params (100000000 ∷ 100000001 ∷ []) active) calls

-- each SSRC begins with the number 1
pub both-row : made (one 5 ∷ other 9 ∷ []) ≡ (100000000, one_sent 1) ∷ (100000001, other_sent 1) ∷ []
unfolding fields_of
both-row = refl

-- and goes on by itself
pub numbers-row : made (one 5 ∷ one 6 ∷ other 9 ∷ one 8 ∷ other 10 ∷ [])
    ≡ (100000000, one_sent 1) ∷ (100000000, one_sent 2) ∷ (100000001, other_sent 1) ∷ (100000000, one_sent 4) ∷ (100000001, other_sent 2) ∷ []
unfolding fields_of
numbers-row = refl

-- a pause parts the packets of every SSRC
pub paused-row : made (one 5 ∷ other 9 ∷ set_flags paused ∷ one 6 ∷ other 10 ∷ set_flags active ∷ one 30 ∷ other 40 ∷ [])
    ≡ (100000000, one_sent 1) ∷ (100000001, other_sent 1) ∷ (100000000, one_sent 2) ∷ (100000001, other_sent 2) ∷ []
unfolding fields_of
paused-row = refl

-- those of one of them alone
pub one-row : packets_of 100000001 (made (one 5 ∷ other 9 ∷ one 6 ∷ other 10 ∷ [])) ≡ other_sent 1 ∷ other_sent 2 ∷ []
unfolding fields_of
one-row = refl

-- nothing of an SSRC that it doesn't have
pub others-row : made (pass (record { mapped = audio 100000002; ids = []; packet = 0x80 ∷ 0x6f ∷ 0 ∷ 1 ∷ 0 ∷ 0 ∷ 0 ∷ 0x0a ∷ 0 ∷ 0 ∷ 0x08 ∷ 0xae ∷ 0xaa ∷ [] }) ∷ []) ≡ []
unfolding fields_of
others-row = refl

-- the same over the whole list
pub whole-row : pipe_emits params (100000000 ∷ 100000001 ∷ []) active (one 5 ∷ other 9 ∷ one 7 ∷ []) ≡ (100000000, one_sent 1) ∷ (100000001, other_sent 1) ∷ (100000000, one_sent 3) ∷ []
unfolding fields_of
whole-row = refl
