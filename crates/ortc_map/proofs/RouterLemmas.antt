-- The first that passes, and payload types that are used once.
use Rattle.std.proofs.Common.{◌≡◌, ℕ, zero, suc, ◌+◌, ◌<◌, ◌≤◌, Bool, true, false, ◌||◌, not, List, [], ◌∷◌, ◌++◌, Option, Some, None, Result, Ok, Err, refl, ap, sym, ◌∙◌, subst, arith, ◌⊎◌, inl, inr}
use Rattle.std.specs.List.{find}
use Rattle.std.specs.Option.{ok_or, IsSome}
use Rattle.std.proofs.lemmas.Bool.{cases_lt}
use Rattle.std.proofs.lemmas.Bool.Decides.{eqb_tells}
use Rattle.ms_base.specs.declared.keys.Media.{Media}
use Rattle.ms_base.specs.declared.keys.Media.TheVariants.{Audio, Video}
use Rattle.rtp_params.specs.declared.codec.Codec.{Codec}
use Rattle.rtp_params.specs.declared.params.Caps.{Caps}
use Rattle.rtp_params.specs.Table.{ext_table}
use Rattle.ortc_map.specs.declared.fault.MapFault.{MapFault}
use Rattle.ortc_map.specs.Rules.{◌>>=◌, unsupported_codec, no_type_left}
use Rattle.ortc_map.specs.Matching.{is_same_number, matches}
use Rattle.ortc_map.specs.Supported.{supported_codecs}
use Rattle.ortc_map.specs.RouterCaps.{is_number, has_type, is_taken, dynamic_types, next_type, type_for, unused, new_type, router_codec, rtx_codec, with_rtx, with_codec, with_codecs, router_caps}
use Rattle.ortc_map.specs.Laws.{AllFail, IsFirst, AreTypedOnce}

-- one of two, with its equation
pub known : (b : Bool) → (b ≡ true) ⊎ (b ≡ false)
known true = inl refl
known false = inr refl

-- what a rule gave comes of what the one before it gave
pub bound : {A B : Type 0} (r : Result A MapFault) (f : A → Result B MapFault) (y : B) → (r >>= f) ≡ Ok y → (x : A) × (r ≡ Ok x) × (f x ≡ Ok y)
bound (Ok x) f y e = (x, refl, e)
bound (Err w) f y e = cc

pub found_of : {A : Type 0} (o : Option A) (w : MapFault) (x : A) → ok_or o w ≡ Ok x → o ≡ Some x
found_of (Some y) w x e = cc
found_of None w x e = cc

abbrev pub fine : {A : Type 0} → A → Result A MapFault
fine x = Ok x

pub same_ok : {A : Type 0} (x y : A) → fine x ≡ fine y → x ≡ y
same_ok x y e = cc

-- The first that passes.

pub first_found : {A : Type 0} (test : A → Bool) (xs : List A) (x : A) → find test xs ≡ Some x → IsFirst test xs x
first_found test [] x e = cc
first_found test (y ∷ ys) x e =
    elim (known (test y)) [
      | inl passing ↦
          let this : Some y ≡ Some x = rw passing at e in
          let is : y ≡ x = cc in
          record { before = []; behind = ys; whole = ap (λ z. z ∷ ys) is; passes = sym (ap test is) ∙ passing; none_before = tt }
      | inr failing ↦
          let later : find test ys ≡ Some x = rw failing at e in
          let rest = first_found test ys x later in
          record { before = y ∷ rest.before; behind = rest.behind; whole = ap (λ zs. y ∷ zs) rest.whole; passes = rest.passes; none_before = (failing, rest.none_before) }
    ]

first_of_parts : {A : Type 0} (test : A → Bool) (before : List A) (x : A) (behind : List A) → AllFail test before → test x ≡ true → find test (before ++ x ∷ behind) ≡ Some x
first_of_parts test [] x behind none passing = rw passing refl
first_of_parts test (y ∷ ys) x behind none passing = rw none.0 (first_of_parts test ys x behind none.1 passing)

pub found_first : {A : Type 0} (test : A → Bool) (xs : List A) (x : A) → IsFirst test xs x → find test xs ≡ Some x
found_first test xs x f = ap (find test) f.whole ∙ first_of_parts test f.before x f.behind f.none_before f.passes

none_found : {A : Type 0} (test : A → Bool) (xs : List A) → find test xs ≡ None → AllFail test xs
none_found test [] e = tt
none_found test (y ∷ ys) e =
    elim (known (test y)) [
      | inl passing ↦ let this : Some y ≡ None = rw passing at e in cc
      | inr failing ↦ let later : find test ys ≡ None = rw failing at e in (failing, none_found test ys later)
    ]

none_passes : {A : Type 0} (test : A → Bool) (xs : List A) → AllFail test xs → find test xs ≡ None
none_passes test [] none = refl
none_passes test (y ∷ ys) none = rw none.0 (none_passes test ys none.1)

-- Payload types in a row.

abbrev from : ℕ → ℕ → List ℕ
from low zero = []
from low (suc n) = low ∷ from (low + 1) n

fail_at : (test : ℕ → Bool) (low n t : ℕ) → AllFail test (from low n) → low ≤ t → t < low + n → test t ≡ false
fail_at test low zero t none up down = absurd (omega arith)
fail_at test low (suc n) t none up down =
    elim (eqb_tells t low) [
      | inl w ↦ ap test w.1 ∙ none.0
      | inr w ↦ let other = w.1 in fail_at test (low + 1) n t none.1 (omega arith) (omega arith)
    ]

all_fail : (test : ℕ → Bool) (low n : ℕ) → ((t : ℕ) → low ≤ t → t < low + n → test t ≡ false) → AllFail test (from low n)
all_fail test low zero none = tt
all_fail test low (suc n) none =
    (none low (omega arith) (omega arith), all_fail test (low + 1) n (λ t up down. none t (omega arith) (omega arith)))

fail-append : {A : Type 0} (test : A → Bool) (xs ys : List A) → AllFail test (xs ++ ys) → AllFail test xs × AllFail test ys
fail-append test [] ys none = (tt, none)
fail-append test (x ∷ xs) ys none = let both = fail-append test xs ys none.1 in ((none.0, both.0), both.1)

append-fail : {A : Type 0} (test : A → Bool) (xs ys : List A) → AllFail test xs → AllFail test ys → AllFail test (xs ++ ys)
append-fail test [] ys first second = second
append-fail test (x ∷ xs) ys first second = (first.0, append-fail test xs ys first.1 second)

dynamic_types-are : dynamic_types ≡ from 100 28 ++ from 96 4
unfolding dynamic_types
dynamic_types-are = refl

turned_true : (b : Bool) → not b ≡ true → b ≡ false
turned_true true e = cc
turned_true false e = refl

turned_false : (b : Bool) → not b ≡ false → b ≡ true
turned_false true e = refl
turned_false false e = cc

abbrev is_free : List Codec → ℕ → Bool
is_free codecs type = not (is_taken codecs type)

none_left : (o : Option ℕ) → ok_or o no_type_left ≡ Err no_type_left → o ≡ None
none_left None e = refl
none_left (Some t) e = cc

no_type : (codecs : List Codec) → next_type codecs ≡ Err no_type_left → find (is_free codecs) dynamic_types ≡ None
no_type codecs e = none_left (find (is_free codecs) dynamic_types) e

pub all_taken : (codecs : List Codec) → next_type codecs ≡ Err no_type_left → (type : ℕ) → 96 ≤ type → type < 128 → is_taken codecs type ≡ true
all_taken codecs e type up down =
    let whole : AllFail (is_free codecs) (from 100 28 ++ from 96 4) = subst (AllFail (is_free codecs)) dynamic_types-are (none_found (is_free codecs) dynamic_types (no_type codecs e)) in
    let both = fail-append (is_free codecs) (from 100 28) (from 96 4) whole in
    turned_false (is_taken codecs type)
    (
    elim (cases_lt type 100) [
      | inl low ↦ fail_at (is_free codecs) 96 4 type both.1 up (omega arith)
      | inr high ↦ fail_at (is_free codecs) 100 28 type both.0 high (omega arith)
    ]
    )

taken_fails : (codecs : List Codec) → ((type : ℕ) → 96 ≤ type → type < 128 → is_taken codecs type ≡ true) → (type : ℕ) → 96 ≤ type → type < 128 → is_free codecs type ≡ false
taken_fails codecs all type up down = ap not (all type up down)

pub none_is_left : (codecs : List Codec) → ((type : ℕ) → 96 ≤ type → type < 128 → is_taken codecs type ≡ true) → next_type codecs ≡ Err no_type_left
none_is_left codecs all =
    let high = all_fail (is_free codecs) 100 28 (λ t up down. taken_fails codecs all t (omega arith) (omega arith)) in
    let low = all_fail (is_free codecs) 96 4 (λ t up down. taken_fails codecs all t (omega arith) (omega arith)) in
    let whole : AllFail (is_free codecs) dynamic_types = subst (AllFail (is_free codecs)) (sym dynamic_types-are) (append-fail (is_free codecs) (from 100 28) (from 96 4) high low) in
    ap (λ o. ok_or o no_type_left) (none_passes (is_free codecs) dynamic_types whole)

-- Payload types that are used once.

next_is_free : (codecs : List Codec) (t : ℕ) → next_type codecs ≡ Ok t → is_taken codecs t ≡ false
next_is_free codecs t e =
    let found = found_of (find (is_free codecs) dynamic_types) no_type_left t e in
    turned_true (is_taken codecs t) (first_found (is_free codecs) dynamic_types t found).passes

unused_is : (codecs : List Codec) (type t : ℕ) → unused codecs type ≡ Ok t → (type ≡ t) × (is_taken codecs type ≡ false)
unused_is codecs type t e =
    elim (known (is_taken codecs type)) [
      | inl passing ↦ let not_so = rw passing at e in cc
      | inr failing ↦ let this : fine type ≡ fine t = rw failing at e in (same_ok type t this, failing)
    ]

pub unused_gives : (codecs : List Codec) (type t : ℕ) → unused codecs type ≡ Ok t → type ≡ t
unused_gives codecs type t e = (unused_is codecs type t e).0

unused_is_free : (codecs : List Codec) (type t : ℕ) → unused codecs type ≡ Ok t → is_taken codecs t ≡ false
unused_is_free codecs type t e = let is = unused_is codecs type t e in sym (ap (is_taken codecs) is.0) ∙ is.1

new_is_free : (codecs : List Codec) (given fixed : Option ℕ) (t : ℕ) → new_type codecs given fixed ≡ Ok t → is_taken codecs t ≡ false
new_is_free codecs given fixed t e =
    let drawn = bound (type_for codecs given fixed) (unused codecs) t e in
    unused_is_free codecs drawn.0 t drawn.2

neither : (a b : Bool) → (a || b) ≡ false → (a ≡ false) × (b ≡ false)
neither true b e = cc
neither false b e = (refl, e)

same_type : (m : Option ℕ) (t : ℕ) → is_number t m ≡ false → is_same_number m (Some t) ≡ false
same_type (Some m) t e = e
same_type None t e = refl

others_differ : (type : Option ℕ) (codecs : List Codec) (c : Codec) → AllFail (λ other. is_same_number type other.payload_type) codecs → is_same_number type c.payload_type ≡ false → AllFail (λ other. is_same_number type other.payload_type) (codecs ++ c ∷ [])
others_differ type [] c none failing = (failing, tt)
others_differ type (o ∷ os) c none failing = (none.0, others_differ type os c none.1 failing)

has_some : (o : Option ℕ) (t : ℕ) → o ≡ Some t → IsSome o
has_some (Some m) t e = refl
has_some None t e = cc

one_more : (codecs : List Codec) (c : Codec) (t : ℕ) → c.payload_type ≡ Some t → is_taken codecs t ≡ false → AreTypedOnce codecs → AreTypedOnce (codecs ++ c ∷ [])
one_more [] c t own free once = (has_some c.payload_type t own, tt, tt)
one_more (o ∷ os) c t own free once =
    let both = neither (has_type t o) (is_taken os t) free in
    let apart : is_same_number o.payload_type c.payload_type ≡ false = ap (is_same_number o.payload_type) own ∙ same_type o.payload_type t both.0 in
    (once.0, others_differ o.payload_type os c once.1 apart, one_more os c t own both.1 once.2)

once_with_rtx : (media : Media) (clock_rate apt : ℕ) (codecs now : List Codec) → with_rtx media clock_rate apt codecs ≡ Ok now → AreTypedOnce codecs → AreTypedOnce now
once_with_rtx Audio clock_rate apt codecs now e once = subst AreTypedOnce (same_ok codecs now e) once
once_with_rtx Video clock_rate apt codecs now e once =
    let drawn = bound (next_type codecs) (λ type. Ok (codecs ++ rtx_codec type clock_rate apt ∷ [])) now e in
    subst AreTypedOnce (same_ok (codecs ++ rtx_codec drawn.0 clock_rate apt ∷ []) now drawn.2)
    (one_more codecs (rtx_codec drawn.0 clock_rate apt) drawn.0 refl (next_is_free codecs drawn.0 drawn.1) once)

abbrev pub typed : List Codec → Codec → Codec → ℕ → Result (List Codec) MapFault
typed codecs given supported type = with_rtx supported.media supported.clock_rate type (codecs ++ router_codec given supported type ∷ [])

once_with_codec : (codecs : List Codec) (given : Codec) (now : List Codec) → with_codec codecs given ≡ Ok now → AreTypedOnce codecs → AreTypedOnce now
unfolding with_codec
once_with_codec codecs given now e once =
    let row = bound (ok_or (find (matches given) supported_codecs) unsupported_codec) (λ supported. new_type codecs given.payload_type supported.payload_type >>= typed codecs given supported) now e in
    let drawn = bound (new_type codecs given.payload_type row.0.payload_type) (typed codecs given row.0) now row.2 in
    once_with_rtx row.0.media row.0.clock_rate drawn.0 (codecs ++ router_codec given row.0 drawn.0 ∷ []) now drawn.2
    (one_more codecs (router_codec given row.0 drawn.0) drawn.0 refl (new_is_free codecs given.payload_type row.0.payload_type drawn.0 drawn.1) once)

once_with_codecs : (codecs given now : List Codec) → with_codecs codecs given ≡ Ok now → AreTypedOnce codecs → AreTypedOnce now
once_with_codecs codecs [] now e once = subst AreTypedOnce (same_ok codecs now e) once
once_with_codecs codecs (given ∷ others) now e once =
    let added = bound (with_codec codecs given) (λ more. with_codecs more others) now e in
    once_with_codecs added.0 others now added.2 (once_with_codec codecs given added.0 added.1 once)

abbrev pub caps_of : List Codec → Caps
caps_of codecs = record { codecs = codecs; exts = ext_table }

pub used_once : (given : List Codec) (caps : Caps) → router_caps given ≡ Ok caps → AreTypedOnce caps.codecs
used_once given caps e =
    let made = bound (with_codecs [] given) (λ codecs. Ok (caps_of codecs)) caps e in
    subst (λ c. AreTypedOnce c.codecs) (same_ok (caps_of made.0) caps made.2) (once_with_codecs [] given made.0 made.1 tt)
