-- Lemmas on the codecs of a Consumer: the codec that is first found, and the first that stays.
use Rattle.std.proofs.Common.{◌≡◌, ℕ, ◌&&◌, ◌||◌, ◌⊎◌, List, [], ◌∷◌, map, filter, find, Bool, true, false, not, cond, Option, Some, refl, ap, sym, ◌∙◌, inl, inr, subst}
use Rattle.std.specs.Option.{is_some, IsSomeAnd}
use Rattle.std.specs.List.{list_any, list_all}
use Rattle.std.proofs.lemmas.Bool.{both_ways, cases_Bool, and_from, and_left, and_parts, or_left}
use Rattle.rtp_params.specs.declared.codec.Codec.{Codec}
use Rattle.rtp_params.specs.declared.ext.Ext.{Ext}
use Rattle.rtp_params.specs.declared.params.Caps.{Caps}
use Rattle.rtp_params.specs.declared.params.Params.{Params}
use Rattle.rtp_params.specs.Names.{is_rtx}
use Rattle.ortc_map.specs.ProducerMapping.{is_media}
use Rattle.ortc_map.specs.ConsumerParams.{carries_media, consumer_codecs, consumer_exts, consumer_params, received, start_with_media}
use Rattle.ortc_map.specs.ConsumerLaws.{are_of_one}

-- those stay that pass p, and carry media or pass r
abbrev pub staying : (Codec → Bool) → (Codec → Bool) → Codec → Bool
staying p r codec = p codec && (is_media codec || r codec)

-- a change that leaves the name
abbrev pub KeepsNames : (Codec → Codec) → Type 0
KeepsNames f = (codec : Codec) → is_rtx (f codec) ≡ is_rtx codec

starts_at : (f : Codec → Codec) (x : Codec) (ys : List Codec) (b : Bool) → b ≡ true → start_with_media (map f (cond b (x ∷ ys) ys)) ≡ is_media (f x)
starts_at f x ys b e = ap (λ t. start_with_media (map f (cond t (x ∷ ys) ys))) e

starts_behind : (f : Codec → Codec) (x : Codec) (ys : List Codec) (b : Bool) → b ≡ false → start_with_media (map f (cond b (x ∷ ys) ys)) ≡ start_with_media (map f ys)
starts_behind f x ys b e = ap (λ t. start_with_media (map f (cond t (x ∷ ys) ys))) e

found_at : (x : Codec) (o : Option Codec) (b : Bool) → b ≡ true → carries_media (cond b (Some x) o) ≡ is_media x
found_at x o b e = ap (λ t. carries_media (cond t (Some x) o)) e

found_behind : (x : Codec) (o : Option Codec) (b : Bool) → b ≡ false → carries_media (cond b (Some x) o) ≡ carries_media o
found_behind x o b e = ap (λ t. carries_media (cond t (Some x) o)) e

stays_by : (b m r : Bool) → b ≡ true → m ≡ true → (b && (m || r)) ≡ true
stays_by b m r e h = and_from b (m || r) e (or_left m r h)

-- where the first that is found carries media, so does the first that stays
pub carried : (p r : Codec → Bool) (f : Codec → Codec) → KeepsNames f → (xs : List Codec) → carries_media (find p xs) ≡ true → start_with_media (map f (filter (staying p r) xs)) ≡ true
carried p r f keeps [] h = h
carried p r f keeps (x ∷ xs) h =
    elim (cases_Bool (p x)) [
      | inl e ↦
          let carries : is_media x ≡ true = sym (found_at x (find p xs) (p x) e) ∙ h in
          starts_at f x (filter (staying p r) xs) (staying p r x) (stays_by (p x) (is_media x) (r x) e carries) ∙ (ap not (keeps x) ∙ carries)
      | inr e ↦
          starts_behind f x (filter (staying p r) xs) (staying p r x) (and_left (p x) (is_media x || r x) e)
          ∙ carried p r f keeps xs (sym (found_behind x (find p xs) (p x) e) ∙ h)
    ]

-- the first that is found is for retransmissions, and doesn't stay
abbrev pub Loses : (Codec → Bool) → (Codec → Bool) → Option Codec → Type 0
Loses p r found = IsSomeAnd found (λ codec. (is_rtx codec ≡ true) × (staying p r codec ≡ false))

abbrev Outcome : (Codec → Bool) → (Codec → Bool) → Option Codec → Type 0
Outcome p r found = (carries_media found ≡ true) ⊎ Loses p r found

-- where the first that stays carries media, so does the first that is found, or that one doesn't stay
pub started : (p r : Codec → Bool) (f : Codec → Codec) → KeepsNames f → (xs : List Codec) → start_with_media (map f (filter (staying p r) xs)) ≡ true → Outcome p r (find p xs)
started p r f keeps [] h = inl h
started p r f keeps (x ∷ xs) h =
    elim (cases_Bool (p x)) [
      | inl e ↦
          subst (λ b. Outcome p r (cond b (Some x) (find p xs))) (sym e) (
          elim (cases_Bool (is_rtx x)) [
            | inr media ↦ inl (ap not media)
            | inl rtx ↦
                elim (cases_Bool (staying p r x)) [
                  | inr goes ↦ inr (rtx, goes)
                  | inl stays ↦
                      let carries : is_media (f x) ≡ true = sym (starts_at f x (filter (staying p r) xs) (staying p r x) stays) ∙ h in
                      let other : is_media (f x) ≡ false = ap not (keeps x ∙ rtx) in
                      absurd (both_ways (is_media (f x)) other carries)
                ]
          ]
          )
      | inr e ↦
          subst (λ b. Outcome p r (cond b (Some x) (find p xs))) (sym e)
          (started p r f keeps xs (sym (starts_behind f x (filter (staying p r) xs) (staying p r x) (and_left (p x) (is_media x || r x) e)) ∙ h))
    ]

-- Where all are for retransmissions, none that is found or stays carries media.

none_found : (p : Codec → Bool) (xs : List Codec) → list_all is_rtx xs ≡ true → carries_media (find p xs) ≡ false
none_found p [] h = refl
none_found p (x ∷ xs) h =
    let parts : (is_rtx x ≡ true) × (list_all is_rtx xs ≡ true) = and_parts (is_rtx x) (list_all is_rtx xs) h in
    elim (cases_Bool (p x)) [
      | inl e ↦ found_at x (find p xs) (p x) e ∙ ap not parts.0
      | inr e ↦ found_behind x (find p xs) (p x) e ∙ none_found p xs parts.1
    ]

none_starts : (q : Codec → Bool) (f : Codec → Codec) → KeepsNames f → (xs : List Codec) → list_all is_rtx xs ≡ true → start_with_media (map f (filter q xs)) ≡ false
none_starts q f keeps [] h = refl
none_starts q f keeps (x ∷ xs) h =
    let parts : (is_rtx x ≡ true) × (list_all is_rtx xs ≡ true) = and_parts (is_rtx x) (list_all is_rtx xs) h in
    elim (cases_Bool (q x)) [
      | inl e ↦ starts_at f x (filter q xs) (q x) e ∙ ap not (keeps x ∙ parts.0)
      | inr e ↦ starts_behind f x (filter q xs) (q x) e ∙ none_starts q f keeps xs parts.1
    ]

-- where only the first of all may carry media, both say the same
pub of_one : (p r : Codec → Bool) (f : Codec → Codec) → KeepsNames f → (xs : List Codec) → are_of_one xs ≡ true → start_with_media (map f (filter (staying p r) xs)) ≡ carries_media (find p xs)
of_one p r f keeps [] h = refl
of_one p r f keeps (x ∷ xs) h =
    elim (cases_Bool (p x)) [
      | inl e ↦
          elim (cases_Bool (is_rtx x)) [
            | inl rtx ↦
                let all : list_all is_rtx (x ∷ xs) ≡ true = and_from (is_rtx x) (list_all is_rtx xs) rtx h in
                none_starts (staying p r) f keeps (x ∷ xs) all ∙ sym (none_found p (x ∷ xs) all)
            | inr media ↦
                starts_at f x (filter (staying p r) xs) (staying p r x) (stays_by (p x) (is_media x) (r x) e (ap not media))
                ∙ (ap not (keeps x) ∙ sym (found_at x (find p xs) (p x) e))
          ]
      | inr e ↦
          starts_behind f x (filter (staying p r) xs) (staying p r x) (and_left (p x) (is_media x || r x) e)
          ∙ (none_starts (staying p r) f keeps xs h ∙ sym (found_behind x (find p xs) (p x) e ∙ none_found p xs h))
    ]

found_or_any : (b : Bool) {X : Type 0} (x : X) (o : Option X) (any : Bool) → is_some o ≡ any → is_some (cond b (Some x) o) ≡ (b || any)
found_or_any true x o any e = refl
found_or_any false x o any e = e

-- one is found where there is one
pub found_is_any : {X : Type 0} (test : X → Bool) (xs : List X) → is_some (find test xs) ≡ list_any test xs
found_is_any test [] = refl
found_is_any test (x ∷ xs) = found_or_any (test x) x (find test xs) (list_any test xs) (found_is_any test xs)

-- what is received of these extensions, and of the codecs that stay with them
pub received_is : (consumable : Params) (caps : Caps) (first : ℕ) (codecs : List Codec) (exts : List Ext) → exts ≡ consumer_exts caps.exts consumable.exts → codecs ≡ consumer_codecs caps.codecs exts consumable.codecs → received consumable codecs exts first ≡ consumer_params consumable caps first
unfolding consumer_params
received_is consumable caps first codecs exts same_exts same_codecs =
    ap (λ (kept : List Codec). received consumable kept exts first) same_codecs
    ∙ ap (λ (known : List Ext). received consumable (consumer_codecs caps.codecs known consumable.codecs) known first) same_exts
