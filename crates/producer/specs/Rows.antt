-- Worked rows of the definitions, which compute.
use Rattle.std.specs.Prelude.{ℕ, ◌≡◌, List, [], ◌∷◌, true, false, codes, Some, None, refl}
use Rattle.ms_base.specs.declared.keys.Media.{Media}
use Rattle.ms_base.specs.declared.keys.Media.TheVariants.{Audio, Video}
use Rattle.rtp_packet.specs.Packet.{Fields}
use Rattle.rtp_params.specs.declared.codec.Codec.{Codec}
use Rattle.rtp_params.specs.declared.ext.Ext.{Ext}
use Rattle.rtp_params.specs.declared.mapping.Mapping.{Mapping}
use Rattle.rtp_params.specs.declared.params.Params.{Params}
use Rattle.producer.specs.Received.{received}
use Rattle.producer.specs.Ids.{element_id}

abbrev codec : Media → List ℕ → ℕ → Codec
codec media name t = record { media = media; name = name; payload_type = Some t; clock_rate = 90000; channels = None; parameters = []; feedback = [] }

abbrev ext : List ℕ → ℕ → Ext
ext uri id = record { media = None; uri = uri; id = id; sends = true }

abbrev params : List Codec → List Ext → Params
params codecs exts = record { codecs = codecs; exts = exts; encodings = record { ssrc = 2222; rtx = Some 2223 } ∷ []; cname = []; reduced_size = true }

abbrev mapping : Mapping
mapping = record { codecs = (111, 100) ∷ (111, 101) ∷ (96, 102) ∷ []; encodings = (2222, 100000000) ∷ (2224, 100000001) ∷ [] }

abbrev packet : ℕ → ℕ → List ℕ → Fields
packet t ssrc payload = record {
  marker = false;
  payload_type = t;
  seq = 1;
  timestamp = 10;
  ssrc = ssrc;
  csrcs = [];
  extension = None;
  payload = payload;
  padding = None;
}

abbrev opus : Params
opus = params (codec Audio (codes "opus") 111 ∷ []) []

-- a codec of retransmissions stands in front of the one of its payload type
abbrev vp8 : Params
vp8 = params (codec Video (codes "RTX") 96 ∷ codec Video (codes "vp8") 96 ∷ []) []

-- the first pair of the mapping counts
pub audio-row : received opus mapping (packet 111 2222 (0x10 ∷ 0x00 ∷ [])) ≡ Some (record { ssrc = 100000000; payload_type = 100; key = false; video = false })
audio-row = refl

pub key-row : received vp8 mapping (packet 96 2222 (0x10 ∷ 0x00 ∷ [])) ≡ Some (record { ssrc = 100000000; payload_type = 102; key = true; video = true })
key-row = refl

pub no-key-row : received vp8 mapping (packet 96 2222 (0x10 ∷ 0x01 ∷ [])) ≡ Some (record { ssrc = 100000000; payload_type = 102; key = false; video = true })
no-key-row = refl

-- H264, and VP9 by its first byte
pub other-video-row : received (params (codec Video (codes "H264") 96 ∷ []) []) mapping (packet 96 2222 (0x10 ∷ 0x00 ∷ [])) ≡ Some (record { ssrc = 100000000; payload_type = 102; key = false; video = true })
other-video-row = refl

pub vp9-row : received (params (codec Video (codes "VP9") 96 ∷ []) []) mapping (packet 96 2222 (0x88 ∷ [])) ≡ Some (record { ssrc = 100000000; payload_type = 102; key = true; video = true })
vp9-row = refl

-- retransmissions: their SSRC, and their payload type
pub rtx-ssrc-row : received opus mapping (packet 111 2223 []) ≡ None
rtx-ssrc-row = refl

pub rtx-type-row : received (params (codec Video (codes "rtx") 96 ∷ []) []) mapping (packet 96 2222 []) ≡ None
rtx-type-row = refl

-- one that is mapped and isn't the parameters' own
pub mapped-only-row : received opus mapping (packet 111 2224 []) ≡ None
mapped-only-row = refl

-- of two extensions with one id the first counts, whether or not the table has its URI
abbrev own_exts : List Ext
own_exts = ext (codes "b") 3 ∷ ext (codes "a") 3 ∷ ext (codes "c") 4 ∷ ext (codes "a") 4 ∷ ext (codes "a") 5 ∷ []

abbrev table : List Ext
table = ext (codes "a") 1 ∷ ext (codes "b") 10 ∷ []

pub id-row : element_id (params [] own_exts) table 3 ≡ Some 10
id-row = refl

pub unknown-uri-row : element_id (params [] own_exts) table 4 ≡ None
unknown-uri-row = refl

pub shared-uri-row : element_id (params [] own_exts) table 5 ≡ Some 1
shared-uri-row = refl

pub no-ext-row : element_id (params [] own_exts) table 6 ≡ None
no-ext-row = refl
