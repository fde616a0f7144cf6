-- What a Consumer keeps of its calls, and what each of them makes of it. RFC 3550, section 5.1, has the fields of a packet and
-- RFC 8285 the elements of its header extension; which packets are sent on, and under which numbers and ids, is this project's own,
-- after mediasoup's SimpleConsumer. That a list of calls gives what is defined over the whole of it is the law of `Laws`.
use Rattle.std.specs.Prelude.{ℕ, ◌==◌, ◌&&◌, ◌||◌, Bool, true, false, not, List, [], ◌∷◌, if◌then◌else◌, Option, Some, None, option_and_then}
use Rattle.std.specs.List.{list_any}
use Rattle.rtp_extension.specs.declared.mapped.Flags.{Flags}
use Rattle.rtp_extension.specs.declared.mapped.Mapped.{Mapped}
use Rattle.rtp_extension.specs.Activity.{is_active}
use Rattle.rtp_extension.specs.Ids.{new_id}
use Rattle.rtp_extension.specs.Rewriting.{with_ids}
use Rattle.rtp_packet.specs.Packet.{Fields, packet_of}
use Rattle.rtp_packet.specs.Reading.{fields_of}
use Rattle.rtp_packet.specs.Rewriting.{with_fields}
use Rattle.rtp_params.specs.declared.encoding.Encoding.{Encoding}
use Rattle.rtp_params.specs.declared.params.Params.{Params}
use Rattle.seq_manager.specs.Numbering.{Numbering, unnumbered, next_stretch, output_number, numbered}

-- a packet that the Consumer is offered, with what its Producer says of it: what it is mapped to, and the new ids of its elements
pub record Offer : Type 0 where
  pub mapped : Mapped
  pub ids : List (Option ℕ)
  pub packet : List ℕ

abbrev pub offer : Mapped → List (Option ℕ) → List ℕ → Offer
offer mapped ids packet = record { mapped = mapped; ids = ids; packet = packet }

-- its sequence number
abbrev pub seq_of : Offer → ℕ
seq_of o = (fields_of o.packet).seq

-- ---- the Consumer's parameters

-- a payload type is this one
abbrev pub has_type : Option ℕ → ℕ → Bool
has_type (Some own) t = own == t
has_type None t = false

-- the parameters have a codec of this payload type
abbrev pub has_payload_type : Params → ℕ → Bool
has_payload_type params t = list_any (λ codec. has_type codec.payload_type t) params.codecs

-- the parameters have a header extension of this id
abbrev pub has_ext : Params → ℕ → Bool
has_ext params id = list_any (λ ext. ext.id == id) params.exts

abbrev pub first_ssrc : List Encoding → ℕ
first_ssrc [] = 0
first_ssrc (e ∷ es) = e.ssrc

-- the SSRC of the one encoding
abbrev pub ssrc_of : Params → ℕ
ssrc_of params = first_ssrc params.encodings

-- ---- which packets are for a Consumer

-- it is of the Consumer's mapped SSRC, and has a payload type of its parameters
abbrev pub is_for : Params → ℕ → Mapped → Bool
is_for params mapped m = m.ssrc == mapped && has_payload_type params m.payload_type

-- a stretch can begin with it: any packet of audio, and of video one that starts a key frame
abbrev pub can_begin : Mapped → Bool
can_begin m = not m.video || m.key

-- ---- what is emitted

abbrev pub own_ext : Params → ℕ → Option ℕ
own_ext params id = if has_ext params id then Some id else None

-- the new ids under which elements are kept: those that the parameters have
abbrev pub own_ids : Params → List (Option ℕ) → ℕ → Option ℕ
own_ids params ids id = option_and_then (own_ext params) (new_id ids id)

-- the fields of a packet as it is emitted under an output number: this number, the Consumer's SSRC, the mapped payload type, and
-- the kept elements under their new ids; all others stay
abbrev pub emitted_fields : Params → Offer → ℕ → Fields → Fields
emitted_fields params o number f = with_fields (with_ids (own_ids params o.ids) f) number (ssrc_of params) o.mapped.payload_type

-- its bytes
abbrev pub emitted : Params → Offer → ℕ → List ℕ
emitted params o number = packet_of (emitted_fields params o number (fields_of o.packet))

-- ---- call by call

pub record Sending : Type 0 where
  pub params : Params
  -- the SSRC of the packets that it sends on
  pub mapped : ℕ
  pub flags : Flags
  -- whether this stretch has begun
  pub begun : Bool
  -- how its packets have been numbered so far
  pub numbering : Numbering

-- before the first call
abbrev pub sending_of : Params → ℕ → Flags → Sending
sending_of params mapped flags = record { params = params; mapped = mapped; flags = flags; begun = false; numbering = unnumbered }

-- whether a packet is sent on
abbrev pub takes : Sending → Mapped → Bool
takes s m = is_active s.flags && is_for s.params s.mapped m && (s.begun || can_begin m)

-- what is written for an offer, if it is sent on
abbrev pub passed : Sending → Offer → Option (List ℕ)
passed s o = if takes s o.mapped then Some (emitted s.params o (output_number s.numbering (seq_of o))) else None

abbrev pub behind_packet : Sending → Offer → Sending
behind_packet s o = if takes s o.mapped then record s { begun = true; numbering = numbered s.numbering (seq_of o) } else s

-- a further stretch begins where the Consumer has become active
abbrev pub behind_flags : Sending → Flags → Sending
behind_flags s f =
    if is_active f && not (is_active s.flags)
    then record s { flags = f; begun = false; numbering = next_stretch s.numbering }
    else record s { flags = f }
