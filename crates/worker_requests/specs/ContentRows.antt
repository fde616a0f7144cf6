-- Worked rows for contents, which compute.
use Rattle.std.specs.Prelude.{◌≡◌, ℕ, ◌+◌, List, [], ◌∷◌, Bool, true, false, codes, Some, None, refl}
use Rattle.ms_base.specs.declared.keys.Media.{Media}
use Rattle.ms_base.specs.declared.keys.Media.TheVariants.{Audio, Video}
use Rattle.rtp_params.specs.declared.codec.Codec.{Codec}
use Rattle.rtp_params.specs.declared.encoding.Encoding.{Encoding}
use Rattle.rtp_params.specs.declared.mapping.Mapping.{Mapping}
use Rattle.rtp_params.specs.declared.params.Params.{Params}
use Rattle.worker_requests.specs.declared.content.ProduceContent.{ProduceContent}
use Rattle.worker_requests.specs.declared.content.ConsumeContent.{ConsumeContent}
use Rattle.worker_requests.specs.Contents.{valid_produce, valid_consume}

abbrev codec : Media → List ℕ → ℕ → Codec
codec media name payload_type = record {
  media = media;
  name = name;
  payload_type = Some payload_type;
  clock_rate = 48000;
  channels = Some 2;
  parameters = [];
  feedback = [];
}

abbrev opus : ℕ → Codec
opus payload_type = codec Audio (codes "opus") payload_type

abbrev rtx : ℕ → Codec
rtx payload_type = codec Audio (codes "rtx") payload_type

abbrev encoding : ℕ → Encoding
encoding ssrc = record { ssrc = ssrc; rtx = Some (10 + ssrc) }

abbrev params : List Codec → List Encoding → Params
params codecs encodings = record { codecs = codecs; exts = []; encodings = encodings; cname = []; reduced_size = true }

abbrev mapping : Mapping
mapping = record { codecs = (111, 100) ∷ (112, 101) ∷ (111, 102) ∷ []; encodings = (2222, 100000000) ∷ [] }

abbrev produced : Media → Params → ProduceContent
produced media params = record { media = media; paused = false; mapping = mapping; params = params }

abbrev consumed : Bool → List Encoding → Params → ConsumeContent
consumed simple consumable params = record { media = Audio; paused = false; consumable = consumable; params = params; simple = simple }

-- ---- Producers and Consumers

without-codecs : valid_produce (produced Audio (params [] (encoding 1 ∷ []))) ≡ Some (produced Audio (params [] (encoding 1 ∷ [])))
without-codecs = refl

without-encodings : valid_produce (produced Audio (params (opus 111 ∷ []) [])) ≡ None
without-encodings = refl

of-two : valid_produce (produced Video (params [] (encoding 1 ∷ encoding 2 ∷ []))) ≡ Some (produced Video (params [] (encoding 1 ∷ encoding 2 ∷ [])))
of-two = refl

consumes-none : valid_consume (consumed false [] (params [] [])) ≡ None
consumes-none = refl

consumes-fewer : valid_consume (consumed false (encoding 1 ∷ encoding 2 ∷ []) (params [] (encoding 3 ∷ []))) ≡ None
consumes-fewer = refl

simple-of-two : valid_consume (consumed true (encoding 1 ∷ encoding 2 ∷ []) (params [] (encoding 3 ∷ encoding 4 ∷ []))) ≡ None
simple-of-two = refl

pipe-of-two : valid_consume (consumed false (encoding 1 ∷ encoding 2 ∷ []) (params [] (encoding 3 ∷ encoding 4 ∷ [])))
    ≡ Some (consumed false (encoding 1 ∷ encoding 2 ∷ []) (params [] (encoding 3 ∷ encoding 4 ∷ [])))
pipe-of-two = refl
