-- What is received is such as reading can give.
use Rattle.std.proofs.Common.{◌≡◌, ℕ, ◌≤◌, List, [], ◌∷◌, map, filter, Bool, true, false, cond, Ok, refl, sym, inl, inr, subst, arith}
use Rattle.std.specs.List.{list_any}
use Rattle.std.proofs.lemmas.Bool.{cases_Bool}
use Rattle.rtp_params.specs.declared.codec.Codec.{Codec}
use Rattle.rtp_params.specs.declared.params.Caps.{Caps}
use Rattle.rtp_params.specs.declared.params.Params.{Params}
use Rattle.rtp_params.specs.Names.{is_rtx}
use Rattle.rtp_params.specs.Readable.{Each, IsCodec, IsEncoding, IsParams}
use Rattle.ortc_map.specs.ConsumerParams.{consumer_params, is_known, stays}
use Rattle.ortc_map.proofs.ConsumerLaws.{changed, codecs_for, is_made, stream}

pub Each-filter : {A : Type 0} (P : A → Type 0) (test : A → Bool) (xs : List A) → Each P xs → Each P (filter test xs)
Each-filter P test [] each = tt
Each-filter P test (x ∷ xs) each =
    let rest = Each-filter P test xs each.1 in
    elim (cases_Bool (test x)) [
      | inl e ↦ subst (λ b. Each P (cond b (x ∷ filter test xs) (filter test xs))) (sym e) (each.0, rest)
      | inr e ↦ subst (λ b. Each P (cond b (x ∷ filter test xs) (filter test xs))) (sym e) rest
    ]

pub Each-map : {A B : Type 0} (P : A → Type 0) (Q : B → Type 0) (f : A → B) → ((x : A) → P x → Q (f x)) → (xs : List A) → Each P xs → Each Q (map f xs)
Each-map P Q f keeps [] each = tt
Each-map P Q f keeps (x ∷ xs) each = (keeps x each.0, Each-map P Q f keeps xs each.1)

-- other feedback changes nothing of what reading asks for
changed_reads : (place : _) (consumable : Params) (caps : Caps) (codec : Codec) → IsCodec place codec → IsCodec place (changed consumable caps codec)
changed_reads place consumable caps codec h =
    record {
      named = h.named;
      clock_rate = h.clock_rate;
      channels = h.channels;
      payload_type = h.payload_type;
      parameters = h.parameters;
      ascending = h.ascending;
    }

stream_reads : (first : ℕ) (b : Bool) → first ≤ 4294967294 → Each IsEncoding (stream first b)
stream_reads first true fits = ((omega arith, omega arith), tt)
stream_reads first false fits = ((omega arith, tt), tt)

pub received_reads : (consumable : Params) (caps : Caps) (first : ℕ) (params : Params) → IsParams consumable → first ≤ 4294967294 → consumer_params consumable caps first ≡ Ok params → IsParams params
received_reads consumable caps first params h fits e =
    let stay = filter (stays caps.codecs consumable.codecs) consumable.codecs in
    subst IsParams (is_made consumable caps first params e) (
    record {
      codecs = Each-map _ _ (changed consumable caps) (changed_reads _ consumable caps) stay (Each-filter _ (stays caps.codecs consumable.codecs) consumable.codecs h.codecs);
      exts = Each-filter _ (is_known caps.exts) consumable.exts h.exts;
      encodings = stream_reads first (list_any is_rtx (codecs_for consumable caps)) fits;
      apart = (refl, tt);
    }
    )
