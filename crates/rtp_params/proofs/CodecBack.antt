-- A codec reads back from what it is written as.
use Rattle.std.proofs.Common.{◌≡◌, ℕ, List, [], ◌∷◌, ◌++◌, Bool, true, false, map, codes, cond, Option, Some, None, option_map, IsSome, Ok, pos, negsuc, Less, Greater, nat_cmp, leb, refl, sym, ap, ◌∙◌, append_assoc, append-nil, arith}
use Rattle.std.proofs.lemmas.Bool.{false≢true, leb-true}
use Rattle.std.proofs.lemmas.Cmp.{nat_list_cmp_total}
use Rattle.std.proofs.lemmas.Slice.Eq.{bytes_eq-Decides}
use Rattle.std.specs.Cmp.Lexicographic.{slice_cmp}
use Rattle.std.specs.List.{AllByRecursion}
use Rattle.std.specs.List.Sorted.{IsStrictlySortedBy}
use Rattle.std.specs.Ordering.{ordering_reverse}
use Rattle.std.specs.Str.{bytes_eq}
use Rattle.serde_json.specs.Data.{Data, string, Members, no_members, member, put}
use Rattle.serde_json.specs.Find.{get_member}
use Rattle.ms_base.specs.declared.keys.Media.{Media}
use Rattle.ms_base.specs.declared.keys.Media.TheVariants.{Audio, Video}
use Rattle.rtp_params.specs.declared.codec.Codec.{Codec}
use Rattle.rtp_params.specs.declared.codec.Scalar.{Scalar}
use Rattle.rtp_params.specs.declared.codec.Scalar.TheVariants.{Number, Word}
use Rattle.rtp_params.specs.declared.place.Place.{Place}
use Rattle.rtp_params.specs.declared.place.Place.TheVariants.{InParams, InCaps}
use Rattle.rtp_params.specs.Reading.{members_list}
use Rattle.rtp_params.specs.Codecs.{mime_type_in, apt_value_of, channels_of, payload_type_name, payload_type_of, scalar_of, value_of, parameter_of, parameters_of, feedback_in, feedback_of, codec_in, codec_of}
use Rattle.rtp_params.specs.Names.{as_payload_type}
use Rattle.rtp_params.specs.Writing.{number_value, put_optional, list_value, mime_type_text, written_channels, scalar_value, put_parameters, parameters_value, feedback_value, codec_value}
use Rattle.rtp_params.specs.Readable.{Each, HasChannels, HasPayloadType, IsScalar, IsParameter, AreAscending, IsCodec}
use Rattle.rtp_params.proofs.Back.{number_back, filled_back, read_back, each_behind, list_back}

mime_type_back : (media : Media) (name : List ℕ) → (name ≡ [] → ⊥) → mime_type_in (mime_type_text media name) ≡ Ok (media, name)
unfolding mime_type_in
mime_type_back Audio name filled = rw (filled_back name filled) refl
mime_type_back Video name filled = rw (filled_back name filled) refl

channels_back : (media : Media) (channels : Option ℕ) → HasChannels media channels
    → channels_of media (option_map number_value (written_channels media channels)) ≡ Ok channels
channels_back Audio (Some n) h = rw (number_back 1 255 n h) refl
channels_back Audio None h = absurd h
channels_back Video (Some n) h = absurd h
channels_back Video None h = refl

payload_type_back : (place : Place) (payload_type : Option ℕ) → HasPayloadType place payload_type
    → payload_type_of place (option_map number_value payload_type) ≡ Ok payload_type
payload_type_back InParams (Some n) h = rw (number_back 0 127 n (omega arith, h)) refl
payload_type_back InParams None h = absurd h
payload_type_back InCaps (Some n) h = rw (number_back 0 127 n (omega arith, h)) refl
payload_type_back InCaps None h = refl

-- ---- parameters

scalar_back : (scalar : Scalar) → IsScalar scalar → scalar_of (scalar_value scalar) ≡ Ok scalar
scalar_back (Number (pos n)) h = rw h refl
scalar_back (Number (negsuc n)) h = rw h refl
scalar_back (Word text) h = refl

apt_by : (b : Bool) (n : ℕ) → leb n 127 ≡ b → IsSome (cond b (Some n) None) → apt_value_of (number_value n) ≡ Ok (Number (pos n))
apt_by true n is h = rw (number_back 0 127 n (omega arith, leb-true n 127 is)) refl
apt_by false n is h = absurd (false≢true h)

apt_back : (scalar : Scalar) → IsSome (as_payload_type scalar) → apt_value_of (scalar_value scalar) ≡ Ok scalar
apt_back (Number (pos n)) h = apt_by (leb n 127) n refl h
apt_back (Number (negsuc n)) h = absurd (false≢true h)
apt_back (Word text) h = absurd (false≢true h)

value_back_by : (b : Bool) (name : List ℕ) (scalar : Scalar) → bytes_eq name (codes "apt") ≡ b → IsParameter (name, scalar) → value_of name (scalar_value scalar) ≡ Ok scalar
value_back_by true name scalar is h = rw is (apt_back scalar (h.1 ((bytes_eq-Decides name (codes "apt")).0 is)))
value_back_by false name scalar is h = rw is (scalar_back scalar h.0)

parameter_back : (p : List ℕ × Scalar) → IsParameter p → parameter_of (p.0, scalar_value p.1) ≡ Ok p
unfolding parameter_of
parameter_back p h = rw (value_back_by (bytes_eq p.0 (codes "apt")) p.0 p.1 refl h) refl

-- the members of an object of these parameters, where their names ascend
abbrev in_order : List (List ℕ × Scalar) → Members
in_order [] = no_members
in_order (p ∷ ps) = member p.0 (scalar_value p.1) (in_order ps)

below_middle : (name : List ℕ) (done : List (List ℕ × Scalar)) (p : List ℕ × Scalar) (more : List (List ℕ × Scalar))
    → AllByRecursion (λ y. slice_cmp nat_cmp name y ≡ Less) (map (λ (q : List ℕ × Scalar). q.0) (done ++ p ∷ more)) → slice_cmp nat_cmp name p.0 ≡ Less
below_middle name [] p more h = h.0
below_middle name (q ∷ done) p more h = below_middle name done p more h.1

put_last : (done : List (List ℕ × Scalar)) (p : List ℕ × Scalar) (more : List (List ℕ × Scalar)) → AreAscending (done ++ p ∷ more)
    → put p.0 (scalar_value p.1) (in_order done) ≡ in_order (done ++ p ∷ [])
unfolding IsStrictlySortedBy
put_last [] p more h = refl
put_last (q ∷ done) p more h =
    let above : slice_cmp nat_cmp p.0 q.0 ≡ Greater = nat_list_cmp_total.antisymm p.0 q.0 ∙ ap ordering_reverse (below_middle q.0 done p more h.0) in
    rw above (ap (member q.0 (scalar_value q.1)) (put_last done p more h.1))

put_all : (done ps : List (List ℕ × Scalar)) → AreAscending (done ++ ps) → put_parameters ps (in_order done) ≡ in_order (done ++ ps)
put_all done [] h = ap in_order (sym (append-nil done))
put_all done (p ∷ ps) h =
    let next : AreAscending ((done ++ p ∷ []) ++ ps) = rw (append_assoc done (p ∷ []) ps) h in
    rw (put_last done p ps h) (put_all (done ++ p ∷ []) ps next ∙ ap in_order (append_assoc done (p ∷ []) ps))

members_in_order : (ps : List (List ℕ × Scalar)) → members_list (in_order ps) ≡ map (λ p. (p.0, scalar_value p.1)) ps
members_in_order [] = refl
members_in_order (p ∷ ps) = ap (λ ms. (p.0, scalar_value p.1) ∷ ms) (members_in_order ps)

parameters_back : (ps : List (List ℕ × Scalar)) → Each IsParameter ps → AreAscending ps → parameters_of (parameters_value ps) ≡ Ok ps
parameters_back ps h ascending =
    rw (put_all [] ps ascending, members_in_order ps)
    (read_back (λ _. parameter_of) (λ (p : List ℕ × Scalar). (p.0, scalar_value p.1)) [] ps (each_behind IsParameter _ parameter_back [] ps h))

each_any : {A : Type 0} (xs : List A) → Each (λ _. Unit {0}) xs
each_any [] = tt
each_any (x ∷ xs) = (tt, each_any xs)

feedback_back : (f : List ℕ × List ℕ) → feedback_of (feedback_value f) ≡ Ok f
unfolding feedback_in
feedback_back f = refl

-- ---- the whole codec

-- what is found under each name
found : (place : Place) (channels payload_type : Option ℕ) (clock_rate mime_type parameters feedback : Data)
    → let ms : Members =
    put_optional (codes "channels") (option_map number_value channels) (
    put_optional (payload_type_name place) (option_map number_value payload_type) (
    member (codes "clockRate") clock_rate (member (codes "mimeType") mime_type (member (codes "parameters") parameters (member (codes "rtcpFeedback") feedback no_members)))
    )
    ) in
    (get_member (codes "mimeType") ms ≡ Some mime_type)
    × (get_member (codes "clockRate") ms ≡ Some clock_rate)
    × (get_member (codes "channels") ms ≡ option_map number_value channels)
    × (get_member (payload_type_name place) ms ≡ option_map number_value payload_type)
    × (get_member (codes "parameters") ms ≡ Some parameters)
    × (get_member (codes "rtcpFeedback") ms ≡ Some feedback)
found InParams (Some n) (Some m) clock_rate mime_type parameters feedback = (refl, refl, refl, refl, refl, refl)
found InParams (Some n) None clock_rate mime_type parameters feedback = (refl, refl, refl, refl, refl, refl)
found InParams None (Some m) clock_rate mime_type parameters feedback = (refl, refl, refl, refl, refl, refl)
found InParams None None clock_rate mime_type parameters feedback = (refl, refl, refl, refl, refl, refl)
found InCaps (Some n) (Some m) clock_rate mime_type parameters feedback = (refl, refl, refl, refl, refl, refl)
found InCaps (Some n) None clock_rate mime_type parameters feedback = (refl, refl, refl, refl, refl, refl)
found InCaps None (Some m) clock_rate mime_type parameters feedback = (refl, refl, refl, refl, refl, refl)
found InCaps None None clock_rate mime_type parameters feedback = (refl, refl, refl, refl, refl, refl)

pub codec_back : (place : Place) (codec : Codec) → IsCodec place codec → codec_of place (codec_value place codec) ≡ Ok codec
unfolding codec_in codec_value
codec_back place codec h =
    let at = found place (written_channels codec.media codec.channels) codec.payload_type (number_value codec.clock_rate) (string (mime_type_text codec.media codec.name)) (parameters_value codec.parameters) (list_value feedback_value codec.feedback) in
    let every : Each {A = List ℕ × List ℕ} (λ _. Unit {0}) codec.feedback = each_any codec.feedback in
    rw (
      at.0,
      mime_type_back codec.media codec.name h.named,
      at.1,
      number_back 1 4294967295 codec.clock_rate h.clock_rate,
      at.2,
      channels_back codec.media codec.channels h.channels,
      at.3,
      payload_type_back place codec.payload_type h.payload_type,
      at.4,
      parameters_back codec.parameters h.parameters h.ascending,
      at.5,
      list_back feedback_of feedback_value (λ _. Unit {0}) (λ f _. feedback_back f) codec.feedback every,
    ) refl
