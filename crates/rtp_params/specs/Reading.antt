-- How a JSON value is read (this project's own): member by member, and a list from its first item on.
-- The first fault counts.
use Rattle.std.specs.Prelude.{ℕ, ◌&&◌, nat_le, List, [], ◌∷◌, ◌++◌, Bool, if◌then◌else◌, Option, Some, None, option_and_then, Result, Ok, Err}
use Rattle.serde_json.specs.Data.{Data, Items, no_items, item, Members, no_members, member}
use Rattle.serde_json.specs.Find.{as_u64, as_bool, as_number, as_str, as_array, as_object}
use Rattle.ms_base.specs.declared.code.Code.{Code}
use Rattle.ms_base.specs.declared.code.Code.TheVariants as code

-- what is read, or the code of the first fault
infixl 10 ◌>>=◌
abbrev pub ◌>>=◌ : {A B : Type 0} → Result A Code → (A → Result B Code) → Result B Code
(Ok x) >>= f = f x
(Err e) >>= f = Err e

-- a value of another form than it is to have has the code `form`
abbrev pub or_form : {A : Type 0} → Option A → Result A Code
or_form (Some x) = Ok x
or_form None = Err code.Form

abbrev pub is_within : ℕ → ℕ → ℕ → Bool
is_within low high n = nat_le low n && nat_le n high

-- a whole number from low to high
abbrev pub within : ℕ → ℕ → ℕ → Result ℕ Code
within low high n = if is_within low high n then Ok n else Err code.Form

unfoldable pub number_of : ℕ → ℕ → Data → Result ℕ Code
number_of low high d = or_form (option_and_then as_u64 (as_number d)) >>= within low high

abbrev pub text_of : Data → Result (List ℕ) Code
text_of d = or_form (as_str d)

abbrev pub bool_of : Data → Result Bool Code
bool_of d = or_form (as_bool d)

abbrev pub object_of : Data → Result Members Code
object_of d = or_form (as_object d)

-- a text that isn't empty
abbrev pub not_empty : List ℕ → Result (List ℕ) Code
not_empty [] = Err code.Form
not_empty (c ∷ cs) = Ok (c ∷ cs)

abbrev pub filled_text_of : Data → Result (List ℕ) Code
filled_text_of d = text_of d >>= not_empty

-- The members of an object: what is found under a name is read. A `null` is no want of the member.

-- a member that has to be there
abbrev pub required : {A : Type 0} → (Data → Result A Code) → Option Data → Result A Code
required reads None = Err code.Form
required reads (Some d) = reads d

-- a member that may be left out
abbrev pub optional : {A : Type 0} → (Data → Result A Code) → Option Data → Result (Option A) Code
optional reads None = Ok None
optional reads (Some d) = reads d >>= (λ x. Ok (Some x))

-- a member that has a default
abbrev pub or_default : {A : Type 0} → A → (Data → Result A Code) → Option Data → Result A Code
or_default value reads None = Ok value
or_default value reads (Some d) = reads d

-- Lists.

abbrev pub items_list : Items → List Data
items_list no_items = []
items_list (item d ds) = d ∷ items_list ds

abbrev pub members_list : Members → List (List ℕ × Data)
members_list no_members = []
members_list (member k d ms) = (k, d) ∷ members_list ms

-- the items behind those that have been read: each is read with those before it at hand
abbrev pub read_behind : {A B : Type 0} → (List B → A → Result B Code) → List B → List A → Result (List B) Code
read_behind reads before [] = Ok before
read_behind reads before (x ∷ xs) = do
  y ← reads before x
  read_behind reads (before ++ y ∷ []) xs

-- a list whose items are read each by itself
abbrev pub list_of : {B : Type 0} → (Data → Result B Code) → Data → Result (List B) Code
list_of reads d = do
  items ← or_form (as_array d)
  read_behind (λ _. reads) [] (items_list items)
