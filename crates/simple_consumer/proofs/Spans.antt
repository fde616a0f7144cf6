-- The spans of one call more.
use Rattle.std.proofs.Common.{◌≡◌, List, [], ◌∷◌, ◌++◌, Bool, true, false, cond, not, ◌&&◌, refl, sym, ap, ◌∙◌, inl, inr}
use Rattle.std.proofs.lemmas.Bool.{cases_Bool}
use Rattle.rtp_extension.specs.declared.mapped.Flags.{Flags}
use Rattle.rtp_extension.specs.Activity.{is_active}
use Rattle.simple_consumer.specs.Sending.{Offer}
use Rattle.simple_consumer.specs.Calls.{Call, set_flags, pass}
use Rattle.simple_consumer.specs.Emits.{first_span, later_spans, spans, flags_behind, with_offer}

-- whether a Consumer is active behind calls
abbrev active_behind : Bool → List Call → Bool
active_behind active [] = active
active_behind active (pass o ∷ calls) = active_behind active calls
active_behind active (set_flags f ∷ calls) = active_behind (is_active f) calls

behind-flags : (flags : Flags) (calls : List Call) → is_active (flags_behind flags calls) ≡ active_behind (is_active flags) calls
behind-flags flags [] = refl
behind-flags flags (pass o ∷ calls) = behind-flags flags calls
behind-flags flags (set_flags f ∷ calls) = behind-flags f calls

-- an offer in front of the first span
abbrev front : Offer → List (List Offer) → List (List Offer)
front o [] = []
front o (span ∷ later) = (o ∷ span) ∷ later

with-front : (p o : Offer) (span : List Offer) (later : List (List Offer)) → with_offer (front p (span ∷ later)) o ≡ front p (with_offer (span ∷ later) o)
with-front p o span [] = refl
with-front p o span (next ∷ later) = refl

-- there is a span where the Consumer is active
record IsFilled (found : List (List Offer)) : Type 0 where
  first : List Offer
  later : List (List Offer)
  is : found ≡ first ∷ later

filled : (active : Bool) (calls : List Call) → active_behind active calls ≡ true → IsFilled (spans active calls)
filled true calls h = record { first = first_span calls; later = later_spans true calls; is = refl }
filled false [] h = absurd cc
filled false (pass o ∷ calls) h = filled false calls h
filled false (set_flags f ∷ calls) h = elim (cases_Bool (is_active f)) [
  | inl t ↦ rw t (record { first = first_span calls; later = later_spans true calls; is = refl })
  | inr n ↦ rw n (filled false calls (rw n at h))
]

behind-empty : (found : List (List Offer)) (o : Offer) → IsFilled found → with_offer ([] ∷ found) o ≡ [] ∷ with_offer found o
behind-empty found o h = rw h.is refl

-- ---- flags in front

stays : (f : Flags) (calls : List Call) → is_active f ≡ true → spans true (set_flags f ∷ calls) ≡ spans true calls
stays f calls t = rw t refl

stops : (f : Flags) (calls : List Call) → is_active f ≡ false → spans true (set_flags f ∷ calls) ≡ [] ∷ spans false calls
stops f calls n = rw n refl

starts : (f : Flags) (calls : List Call) → is_active f ≡ true → spans false (set_flags f ∷ calls) ≡ spans true calls
starts f calls t = rw t refl

waits : (f : Flags) (calls : List Call) → is_active f ≡ false → spans false (set_flags f ∷ calls) ≡ spans false calls
waits f calls n = rw n refl

-- what is so behind the flags is so behind calls that begin with them
became : (f : Flags) (calls : List Call) (now goal : Bool) → is_active f ≡ now → active_behind (is_active f) calls ≡ goal → active_behind now calls ≡ goal
became f calls now goal is h = ap (λ (a : Bool). active_behind a calls) (sym is) ∙ h

abbrev behind_no_offer : List (List Offer) → List (List Offer)
behind_no_offer found = [] ∷ found

offered-active : (active : Bool) (calls : List Call) (o : Offer) → active_behind active calls ≡ true → spans active (calls ++ pass o ∷ []) ≡ with_offer (spans active calls) o
offered-active true [] o h = refl
offered-active false [] o h = absurd cc
offered-active true (pass p ∷ calls) o h = ap (front p) (offered-active true calls o h) ∙ sym (with-front p o (first_span calls) (later_spans true calls))
offered-active false (pass p ∷ calls) o h = offered-active false calls o h
offered-active true (set_flags f ∷ calls) o h = elim (cases_Bool (is_active f)) [
  | inl t ↦ stays f (calls ++ pass o ∷ []) t ∙ offered-active true calls o (became f calls true true t h) ∙ ap (λ found. with_offer found o) (sym (stays f calls t))
  | inr n ↦
      stops f (calls ++ pass o ∷ []) n ∙ ap behind_no_offer (offered-active false calls o (became f calls false true n h))
      ∙ sym (behind-empty (spans false calls) o (filled false calls (became f calls false true n h))) ∙ ap (λ found. with_offer found o) (sym (stops f calls n))
]
offered-active false (set_flags f ∷ calls) o h = elim (cases_Bool (is_active f)) [
  | inl t ↦ starts f (calls ++ pass o ∷ []) t ∙ offered-active true calls o (became f calls true true t h) ∙ ap (λ found. with_offer found o) (sym (starts f calls t))
  | inr n ↦ waits f (calls ++ pass o ∷ []) n ∙ offered-active false calls o (became f calls false true n h) ∙ ap (λ found. with_offer found o) (sym (waits f calls n))
]

-- a call that changes nothing: an offer to one that isn't active, and flags that don't make one active
module _ (x : Call) (active : Bool) (alone : spans active (x ∷ []) ≡ spans active []) where
  pub changes-nothing : (was : Bool) (calls : List Call) → active_behind was calls ≡ active → spans was (calls ++ x ∷ []) ≡ spans was calls
  changes-nothing was [] h = rw h alone
  changes-nothing true (pass p ∷ calls) h = ap (front p) (changes-nothing true calls h)
  changes-nothing false (pass p ∷ calls) h = changes-nothing false calls h
  changes-nothing true (set_flags f ∷ calls) h = elim (cases_Bool (is_active f)) [
    | inl t ↦ stays f (calls ++ x ∷ []) t ∙ changes-nothing true calls (became f calls true active t h) ∙ sym (stays f calls t)
    | inr n ↦ stops f (calls ++ x ∷ []) n ∙ ap behind_no_offer (changes-nothing false calls (became f calls false active n h)) ∙ sym (stops f calls n)
  ]
  changes-nothing false (set_flags f ∷ calls) h = elim (cases_Bool (is_active f)) [
    | inl t ↦ starts f (calls ++ x ∷ []) t ∙ changes-nothing true calls (became f calls true active t h) ∙ sym (starts f calls t)
    | inr n ↦ waits f (calls ++ x ∷ []) n ∙ changes-nothing false calls (became f calls false active n h) ∙ sym (waits f calls n)
  ]

abbrev and_no_offer : List (List Offer) → List (List Offer)
and_no_offer found = found ++ [] ∷ []

begins : (was : Bool) (calls : List Call) (f : Flags) → active_behind was calls ≡ false → is_active f ≡ true → spans was (calls ++ set_flags f ∷ []) ≡ spans was calls ++ [] ∷ []
begins true [] f h t = absurd cc
begins false [] f h t = rw t refl
begins true (pass p ∷ calls) f h t = ap (front p) (begins true calls f h t)
begins false (pass p ∷ calls) f h t = begins false calls f h t
begins true (set_flags g ∷ calls) f h t = elim (cases_Bool (is_active g)) [
  | inl a ↦ stays g (calls ++ set_flags f ∷ []) a ∙ begins true calls f (became g calls true false a h) t ∙ ap and_no_offer (sym (stays g calls a))
  | inr n ↦ stops g (calls ++ set_flags f ∷ []) n ∙ ap behind_no_offer (begins false calls f (became g calls false false n h) t) ∙ ap and_no_offer (sym (stops g calls n))
]
begins false (set_flags g ∷ calls) f h t = elim (cases_Bool (is_active g)) [
  | inl a ↦ starts g (calls ++ set_flags f ∷ []) a ∙ begins true calls f (became g calls true false a h) t ∙ ap and_no_offer (sym (starts g calls a))
  | inr n ↦ waits g (calls ++ set_flags f ∷ []) n ∙ begins false calls f (became g calls false false n h) t ∙ ap and_no_offer (sym (waits g calls n))
]

no-flags : (f : Flags) → spans true (set_flags f ∷ []) ≡ [] ∷ []
no-flags f = elim (cases_Bool (is_active f)) [ inl t ↦ rw t refl | inr n ↦ rw n refl ]

pub spans-offered : (flags : Flags) (calls : List Call) (o : Offer)
    → spans (is_active flags) (calls ++ pass o ∷ []) ≡ cond (is_active (flags_behind flags calls)) (with_offer (spans (is_active flags) calls) o) (spans (is_active flags) calls)
spans-offered flags calls o = elim (cases_Bool (active_behind (is_active flags) calls)) [
  | inl t ↦ rw (behind-flags flags calls) (rw t (offered-active (is_active flags) calls o t))
  | inr n ↦ rw (behind-flags flags calls) (rw n (changes-nothing (pass o) false refl (is_active flags) calls n))
]

pub spans-set : (flags further : Flags) (calls : List Call)
    → spans (is_active flags) (calls ++ set_flags further ∷ [])
    ≡ cond (is_active further && not (is_active (flags_behind flags calls))) (spans (is_active flags) calls ++ [] ∷ []) (spans (is_active flags) calls)
spans-set flags further calls = elim (cases_Bool (active_behind (is_active flags) calls)) [
  | inl t ↦ rw (behind-flags flags calls) (elim (cases_Bool (is_active further)) [
    | inl a ↦ rw (t, a) (changes-nothing (set_flags further) true (no-flags further) (is_active flags) calls t)
    | inr n ↦ rw n (changes-nothing (set_flags further) true (no-flags further) (is_active flags) calls t)
  ])
  | inr i ↦ rw (behind-flags flags calls) (elim (cases_Bool (is_active further)) [
    | inl a ↦ rw (i, a) (begins (is_active flags) calls further i a)
    | inr n ↦ rw n (changes-nothing (set_flags further) false (rw n refl) (is_active flags) calls i)
  ])
]
