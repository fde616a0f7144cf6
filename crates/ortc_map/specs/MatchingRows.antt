-- Worked rows: codecs that match, and that don't.
use Rattle.std.specs.Prelude.{◌≡◌, ℕ, List, [], ◌∷◌, true, false, codes, Some, None, pos, negsuc, refl}
use Rattle.ms_base.specs.declared.keys.Media.TheVariants.{Audio, Video}
use Rattle.rtp_params.specs.declared.codec.Codec.{Codec}
use Rattle.rtp_params.specs.declared.codec.Scalar.{Scalar}
use Rattle.rtp_params.specs.declared.codec.Scalar.TheVariants.{Number, Word}
use Rattle.ortc_map.specs.Matching.{matches, strictly_matches}

-- codecs of one type of media, as parameters and capabilities have them
abbrev pub audio : List ℕ → ℕ → ℕ → ℕ → Codec
audio name type clock_rate channels = record { media = Audio; name = name; payload_type = Some type; clock_rate = clock_rate; channels = Some channels; parameters = []; feedback = [] }

abbrev pub video : List ℕ → ℕ → List (List ℕ × Scalar) → Codec
video name type parameters = record { media = Video; name = name; payload_type = Some type; clock_rate = 90000; channels = None; parameters = parameters; feedback = [] }

-- names match in any case, whatever the payload types
vp8_in_any_case : matches (video (codes "VP8") 96 []) (video (codes "vp8") 101 []) ≡ true
vp8_in_any_case = refl

other_name : matches (video (codes "VP8") 96 []) (video (codes "VP9") 96 []) ≡ false
other_name = refl

other_clock_rate : matches (audio (codes "opus") 111 48000 2) (audio (codes "opus") 111 44100 2) ≡ false
other_clock_rate = refl

other_channels : matches (audio (codes "opus") 111 48000 2) (audio (codes "opus") 111 48000 1) ≡ false
other_channels = refl

other_media : matches (audio (codes "VP8") 96 90000 1) (video (codes "VP8") 96 []) ≡ false
other_media = refl

abbrev vp9 : Scalar → Codec
vp9 profile = video (codes "VP9") 98 ((codes "profile-id", profile) ∷ [])

no_profile_is_0 : strictly_matches (video (codes "vp9") 98 []) (vp9 (Number (pos 0))) ≡ true
no_profile_is_0 = refl

other_profile : strictly_matches (vp9 (Number (pos 0))) (vp9 (Number (pos 2))) ≡ false
other_profile = refl

-- digits count as their number, with zeros before them and of any length
digits : strictly_matches (vp9 (Word (codes "002"))) (vp9 (Number (pos 2))) ≡ true
digits = refl

zeros : strictly_matches (vp9 (Word (codes "00"))) (video (codes "VP9") 98 []) ≡ true
zeros = refl

many_digits : strictly_matches (vp9 (Word (codes "123456789012345678901234567890"))) (vp9 (Word (codes "0123456789012345678901234567890"))) ≡ true
many_digits = refl

-- other texts, and the empty one, count as themselves
empty_text : strictly_matches (vp9 (Word [])) (video (codes "VP9") 98 []) ≡ false
empty_text = refl

sign : strictly_matches (vp9 (Word (codes "-1"))) (vp9 (Number (negsuc 0))) ≡ false
sign = refl

same_text : strictly_matches (vp9 (Word (codes "main"))) (vp9 (Word (codes "main"))) ≡ true
same_text = refl

case_of_text : strictly_matches (vp9 (Word (codes "main"))) (vp9 (Word (codes "Main"))) ≡ false
case_of_text = refl

-- VP8 has no profile
vp8_profiles : strictly_matches (video (codes "VP8") 96 ((codes "profile-id", Number (pos 1)) ∷ [])) (video (codes "VP8") 96 []) ≡ true
vp8_profiles = refl
