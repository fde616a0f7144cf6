-- What holds of that which is read, from what holds of its parts.
use Rattle.std.proofs.Common.{◌≡◌, ℕ, List, [], ◌∷◌, ◌++◌, Bool, true, false, cond, leb, Option, Some, None, option_and_then, Result, Ok, Err, refl, subst}
use Rattle.std.proofs.lemmas.Bool.{and_parts, leb-true}
use Rattle.serde_json.specs.Data.{Data}
use Rattle.serde_json.specs.Find.{as_number, as_u64, as_array}
use Rattle.ms_base.specs.declared.code.Code.{Code}
use Rattle.ms_base.specs.declared.code.Code.TheVariants as code
use Rattle.rtp_params.specs.Reading.{◌>>=◌, or_form, within, is_within, number_of, not_empty, text_of, filled_text_of, required, optional, or_default, items_list, read_behind, list_of}
use Rattle.rtp_params.specs.Readable.{IsWithin, Each}
use Rattle.rtp_params.proofs.ReadLemmas.{each_push}

pub bind_ok : {A B : Type 0} (r : Result A Code) (f : A → Result B Code) (y : B) → (r >>= f) ≡ Ok y → (x : A) × (r ≡ Ok x) × (f x ≡ Ok y)
bind_ok (Ok x) f y h = (x, refl, h)
bind_ok (Err e) f y h = absurd cc

pub ok_is : {A : Type 0} (x y : A) → ◌≡◌ {A = Result A Code} (Ok x) (Ok y) → x ≡ y
ok_is x y h = cc

pub chosen : {A : Type 0} (b : Bool) (x y : A) (c : Code) → cond b (Ok x) (Err c) ≡ Ok y → (b ≡ true) × (x ≡ y)
chosen true x y c h = (refl, cc)
chosen false x y c h = absurd cc

pub number_holds : (low high : ℕ) (d : Data) (n : ℕ) → number_of low high d ≡ Ok n → IsWithin low high n
unfolding number_of
number_holds low high d n h =
    let read = bind_ok (or_form (option_and_then as_u64 (as_number d))) (within low high) n h in
    let fits = chosen (is_within low high read.0) read.0 n code.Form read.2 in
    let both = and_parts (leb low read.0) (leb read.0 high) fits.0 in
    subst (IsWithin low high) fits.1 (leb-true low read.0 both.0, leb-true read.0 high both.1)

pub not_empty_holds : (text found : List ℕ) → not_empty text ≡ Ok found → found ≡ [] → ⊥
not_empty_holds [] found h none = cc
not_empty_holds (c ∷ cs) found h none = cc

pub filled_text_holds : (d : Data) (found : List ℕ) → filled_text_of d ≡ Ok found → found ≡ [] → ⊥
filled_text_holds d found h = let read = bind_ok (text_of d) not_empty found h in not_empty_holds read.0 found read.2

pub required_holds : {A : Type 0} (P : A → Type 0) (reads : Data → Result A Code) → ((d : Data) (x : A) → reads d ≡ Ok x → P x)
    → (found : Option Data) (x : A) → required reads found ≡ Ok x → P x
required_holds P reads so None x h = absurd cc
required_holds P reads so (Some d) x h = so d x h

pub default_holds : {A : Type 0} (P : A → Type 0) (reads : Data → Result A Code) (value : A) → P value → ((d : Data) (x : A) → reads d ≡ Ok x → P x)
    → (found : Option Data) (x : A) → or_default value reads found ≡ Ok x → P x
default_holds P reads value own so None x h = subst P (ok_is value x h) own
default_holds P reads value own so (Some d) x h = so d x h

pub optional_holds : {A : Type 0} (P : Option A → Type 0) (reads : Data → Result A Code) → P None → ((d : Data) (x : A) → reads d ≡ Ok x → P (Some x))
    → (found : Option Data) (o : Option A) → optional reads found ≡ Ok o → P o
optional_holds P reads none so None o h = subst P (ok_is None o h) none
optional_holds P reads none so (Some d) o h =
    let read = bind_ok (reads d) (λ x. Ok (Some x)) o h in subst P (ok_is (Some read.0) o read.2) (so d read.0 read.1)

-- what holds of the items read, and keeps holding with one more, holds of all
pub read_keeps : {A B : Type 0} (P : List B → Type 0) (reads : List B → A → Result B Code) → ((before : List B) (x : A) (y : B) → P before → reads before x ≡ Ok y → P (before ++ y ∷ []))
    → (before : List B) (xs : List A) (ys : List B) → P before → read_behind reads before xs ≡ Ok ys → P ys
read_keeps P reads step before [] ys own h = subst P (ok_is before ys h) own
read_keeps P reads step before (x ∷ xs) ys own h =
    let read = bind_ok (reads before x) _ ys h in read_keeps P reads step (before ++ read.0 ∷ []) xs ys (step before x read.0 own read.1) read.2

pub each_read : {A B : Type 0} (P : B → Type 0) (reads : A → Result B Code) → ((x : A) (y : B) → reads x ≡ Ok y → P y)
    → (xs : List A) (ys : List B) → read_behind (λ _. reads) [] xs ≡ Ok ys → Each P ys
each_read P reads so xs ys h = read_keeps (Each P) (λ _. reads) (λ before x y own e. each_push P before y own (so x y e)) [] xs ys tt h

pub list_holds : {B : Type 0} (P : B → Type 0) (reads : Data → Result B Code) → ((d : Data) (y : B) → reads d ≡ Ok y → P y)
    → (d : Data) (ys : List B) → list_of reads d ≡ Ok ys → Each P ys
list_holds P reads so d ys h =
    let read = bind_ok (or_form (as_array d)) _ ys h in each_read P reads so (items_list read.0) ys read.2

-- what each item has, under what else holds of each
pub each_both : {A : Type 0} (P Q R : A → Type 0) → ((x : A) → P x → Q x → R x) → (xs : List A) → Each P xs → Each Q xs → Each R xs
each_both P Q R so [] p q = tt
each_both P Q R so (x ∷ xs) p q = (so x p.0 q.0, each_both P Q R so xs p.1 q.1)
