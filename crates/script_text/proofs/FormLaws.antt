-- Words of a shape: what is written is a line and is read back; what is read has such words, and is written as it stood
-- but for the case of hexadecimal digits.
use Rattle.std.proofs.Common.{◌≡◌, ℕ, zero, suc, ◌^◌, ◌<◌, List, [], ◌∷◌, ◌++◌, Bool, true, false, ◌&&◌, ◌||◌, ltb, length, Result, Ok, is_some, refl, sym, ◌∙◌, ap, subst, arith}
use Rattle.std.proofs.lemmas.Bool.{and_parts, and_from, or_parts, ltb-true, cond-true}
use Rattle.std.specs.List.{list_all}
use Rattle.serde_json.specs.Read.{read}
use Rattle.ms_base.specs.declared.code.Code.{Code}
use Rattle.ms_base.specs.declared.code.Code.TheVariants as code
use Rattle.script_text.specs.Words.{◌>>=◌, words, rest_of_line, is_line, events, event_word}
use Rattle.script_text.specs.Forms.{Form, Name, Number, Event, Hex, Json, Shape, Last, Then, Value, Values, cut, takes_rest, before_last, pieces, value_of, values_of, args_of, value_word, value_words, lower_word, is_tight, is_value, are_values}
use Rattle.script_text.specs.Parted.{bind_ok, ok_is}
use Rattle.script_text.proofs.Cuts.{rest_piece}
use Rattle.script_text.proofs.WordLaws.{IsLine, by_word_is, line_from, line_tested, line_behind, plain_line, joined_line, last_word, next_word, IsPlain, within, number_plain, number_reads, number_back, name_plain, name_back, event_plain, event_reads, are_bytes, hex_plain, hex_reads, hex_back, json_reads, json_back}

-- a JSON text stands at the end alone
abbrev pub is_sound : Shape → Bool
is_sound (Last Json) = true
is_sound (Last form) = is_tight form
is_sound (Then form shape) = is_tight form && is_sound shape

-- ---- what is written is read

pub value_plain : (form : Form) (x : Value form) → is_tight form ≡ true → is_value form x ≡ true → IsPlain (value_word form x)
value_plain Name name t h = name_plain name h
value_plain (Number low high) n t h =
    let fits : high < 2 ^ 64 = ltb-true high (2 ^ 64) t in
    let bounds = within low high n h in number_plain n (omega arith)
value_plain Event e t h = event_plain e
value_plain Hex bytes t h = hex_plain bytes (are_bytes bytes (and_parts (ltb 0 (length bytes)) (list_all (λ b. ltb b 256) bytes) h).1)
value_plain Json text t h = absurd cc

pub value_reads : (form : Form) (x : Value form) → is_tight form ≡ true → is_value form x ≡ true → value_of form (value_word form x) ≡ Ok x
value_reads Name name t h = cond-true _ _ _ h
value_reads (Number low high) n t h = number_reads low high n (ltb-true high (2 ^ 64) t) h
value_reads Event e t h = event_reads e
value_reads Hex bytes t h =
    let parts = and_parts (ltb 0 (length bytes)) (list_all (λ b. ltb b 256) bytes) h in
    hex_reads bytes parts.0 (are_bytes bytes parts.1)
value_reads Json text t h = absurd cc

-- behind a word stands the rest
pub joined : (w : List ℕ) (shape : Shape) (xs : Values shape) → rest_of_line (w ∷ value_words shape xs) ≡ w ++ 32 ∷ rest_of_line (value_words shape xs)
joined w (Last form) xs = refl
joined w (Then form shape) xs = refl

-- the text of words of a shape, that it is a line and how it is cut
record IsCut (shape : Shape) (xs : Values shape) : Type 0 where
  pub line : IsLine (rest_of_line (value_words shape xs))
  pub found : pieces shape (words (rest_of_line (value_words shape xs))) ≡ Ok (value_words shape xs)

cut_one : (form : Form) (x : Value form) → takes_rest (Last form) ≡ false → IsPlain (value_word form x) → IsCut (Last form) x
cut_one form x e h = record {
  line = plain_line (value_word form x) h;
  found = ap (λ ws. pieces (Last form) ws) (last_word (value_word form x) h) ∙ ap (λ b. cut b 0 (value_word form x ∷ [])) e;
}

cut_more : (form : Form) (shape : Shape) (x : Value form) (xs : Values shape) → IsPlain (value_word form x) → IsCut shape xs → IsCut (Then form shape) (x, xs)
cut_more form shape x xs h more =
    let rest : List ℕ = rest_of_line (value_words shape xs) in
    let whole = joined (value_word form x) shape xs in record {
      line = subst IsLine (sym whole) (joined_line (value_word form x) rest h more.line);
      found = ap (λ t. pieces (Then form shape) (words t)) whole
          ∙ ap (λ ws. pieces (Then form shape) ws) (next_word (value_word form x) rest h)
          ∙ ap (λ (r : Result (List (List ℕ)) Code). r >>= λ others. Ok (value_word form x ∷ others)) more.found;
    }

is_cut : (shape : Shape) (xs : Values shape) → is_sound shape ≡ true → are_values shape xs ≡ true → IsCut shape xs
is_cut (Last Name) x t h = cut_one Name x refl (value_plain Name x t h)
is_cut (Last (Number low high)) x t h = cut_one (Number low high) x refl (value_plain (Number low high) x t h)
is_cut (Last Event) x t h = cut_one Event x refl (value_plain Event x t h)
is_cut (Last Hex) x t h = cut_one Hex x refl (value_plain Hex x t h)
is_cut (Last Json) text t h = record {
  line = line_from text (and_parts (is_line text) (is_some (read text)) h).0;
  found = rest_piece text;
}
is_cut (Then form shape) (x, xs) t h =
    let tight = and_parts (is_tight form) (is_sound shape) t in
    let fit = and_parts (is_value form x) (are_values shape xs) h in
    cut_more form shape x xs (value_plain form x tight.0 fit.0) (is_cut shape xs tight.1 fit.1)

values_read : (shape : Shape) (xs : Values shape) → is_sound shape ≡ true → are_values shape xs ≡ true → values_of shape (value_words shape xs) ≡ Ok xs
values_read (Last Name) x t h = value_reads Name x t h
values_read (Last (Number low high)) x t h = value_reads (Number low high) x t h
values_read (Last Event) x t h = value_reads Event x t h
values_read (Last Hex) x t h = value_reads Hex x t h
values_read (Last Json) text t h = json_reads text (and_parts (is_line text) (is_some (read text)) h).1
values_read (Then form shape) (x, xs) t h =
    let tight = and_parts (is_tight form) (is_sound shape) t in
    let fit = and_parts (is_value form x) (are_values shape xs) h in
    ap (λ (r : Result (Value form) Code). r >>= λ y. values_of shape (value_words shape xs) >>= λ ys. Ok (y, ys)) (value_reads form x tight.0 fit.0)
    ∙ ap (λ (r : Result (Values shape) Code). r >>= λ ys. Ok (x, ys)) (values_read shape xs tight.1 fit.1)

-- the text of values that have such words is a line, and is read as the values
pub args_read : (shape : Shape) (xs : Values shape) → is_sound shape ≡ true → are_values shape xs ≡ true
    → IsLine (rest_of_line (value_words shape xs)) × (args_of shape (words (rest_of_line (value_words shape xs))) ≡ Ok xs)
args_read shape xs t h =
    let text = is_cut shape xs t h in (
      text.line,
      ap (λ (r : Result (List (List ℕ)) Code). r >>= values_of shape) text.found ∙ values_read shape xs t h,
    )

-- ---- what is read is written so

-- the words of a shape as they are written
abbrev pub lower_by : Shape → List (List ℕ) → List (List ℕ)
lower_by (Last form) (word ∷ []) = lower_word form word ∷ []
lower_by (Then form shape) (word ∷ more) = lower_word form word ∷ lower_by shape more
lower_by _ other = other

-- a shape without digits leaves words as they are
abbrev is_hex : Form → Bool
is_hex Hex = true
is_hex _ = false

abbrev pub has_hex : Shape → Bool
has_hex (Last form) = is_hex form
has_hex (Then form shape) = is_hex form || has_hex shape

same_word : (form : Form) (word : List ℕ) → is_hex form ≡ false → lower_word form word ≡ word
same_word Name word h = refl
same_word (Number low high) word h = refl
same_word Event word h = refl
same_word Hex word h = absurd cc
same_word Json word h = refl

pub same_words : (shape : Shape) (ws : List (List ℕ)) → has_hex shape ≡ false → lower_by shape ws ≡ ws
same_words (Last form) [] h = refl
same_words (Last form) (w ∷ []) h = ap (λ (u : List ℕ). u ∷ []) (same_word form w h)
same_words (Last form) (w ∷ v ∷ ws) h = refl
same_words (Then form shape) [] h = refl
same_words (Then form shape) (w ∷ ws) h =
    let parts = or_parts (is_hex form) (has_hex shape) h in
    ap (λ (u : List ℕ). u ∷ lower_by shape ws) (same_word form w parts.0) ∙ ap (λ (us : List (List ℕ)). w ∷ us) (same_words shape ws parts.1)

pub value_back : (form : Form) (word : List ℕ) (x : Value form) → is_tight form ≡ true → value_of form word ≡ Ok x
    → (value_word form x ≡ lower_word form word) × (is_value form x ≡ true)
value_back Name word x t h = name_back word x h
value_back (Number low high) word x t h = number_back low high word x (ltb-true high (2 ^ 64) t) h
value_back Event word x t h = (sym (by_word_is event_word word code.Event events x h), refl)
value_back Hex word x t h = let found = hex_back word x h in (found.0, and_from _ _ found.1 found.2)
value_back Json word x t h = absurd cc

-- what was read of words is written as they stood but for case, and has such words where they stand in one line
pub record IsBack (shape : Shape) (ws : List (List ℕ)) (xs : Values shape) : Type 0 where
  pub written : rest_of_line (value_words shape xs) ≡ rest_of_line (lower_by shape ws)
  pub fits : IsLine (rest_of_line ws) → are_values shape xs ≡ true

pub no_words : (b : Bool) (n : ℕ) (ps : List (List ℕ)) → cut b n [] ≡ Ok ps → ⊥
no_words true zero ps h = cc
no_words false zero ps h = cc
no_words b (suc n) ps h = cc

pub lower_joined : (w : List ℕ) (shape : Shape) (v : List ℕ) (vs : List (List ℕ)) → rest_of_line (w ∷ lower_by shape (v ∷ vs)) ≡ w ++ 32 ∷ rest_of_line (lower_by shape (v ∷ vs))
lower_joined w (Last form) v [] = refl
lower_joined w (Last form) v (u ∷ us) = refl
lower_joined w (Then form shape) v vs = refl

last_back : (form : Form) (ws ps : List (List ℕ)) (x : Value form) → is_tight form ≡ true → takes_rest (Last form) ≡ false
    → cut false 0 ws ≡ Ok ps → values_of (Last form) ps ≡ Ok x → IsBack (Last form) ws x
last_back form [] ps x t e h g = absurd (no_words false 0 ps h)
last_back form (w ∷ []) ps x t e h g =
    let same : w ∷ [] ≡ ps = ok_is {F = Code} _ ps h in
    let found = value_back form w x t (subst (λ qs. values_of (Last form) qs ≡ Ok x) (sym same) g) in
    record { written = found.0; fits = λ line. found.1 }
last_back form (w ∷ v ∷ ws) ps x t e h g = absurd cc

rest_back : (ws ps : List (List ℕ)) (text : List ℕ) → cut true 0 ws ≡ Ok ps → values_of (Last Json) ps ≡ Ok text → IsBack (Last Json) ws text
rest_back [] ps text h g = absurd (no_words true 0 ps h)
rest_back (w ∷ ws) ps text h g =
    let same : rest_of_line (w ∷ ws) ∷ [] ≡ ps = ok_is {F = Code} _ ps h in
    let found = json_back (rest_of_line (w ∷ ws)) text (subst (λ qs. values_of (Last Json) qs ≡ Ok text) (sym same) g) in record {
      written = sym found.0 ∙ ap rest_of_line (sym (same_words (Last Json) (w ∷ ws) refl));
      fits = λ line. and_from _ _ (subst (λ u. is_line u ≡ true) found.0 (line_tested _ line)) found.1;
    }

then_back : (form : Form) (shape : Shape) (word v : List ℕ) (vs : List (List ℕ)) (x : Value form) (xs : Values shape)
    → (value_word form x ≡ lower_word form word) × (is_value form x ≡ true) → IsBack shape (v ∷ vs) xs → IsBack (Then form shape) (word ∷ v ∷ vs) (x, xs)
then_back form shape word v vs x xs one more = record {
  written = joined (value_word form x) shape xs
      ∙ ap (λ w. w ++ 32 ∷ rest_of_line (value_words shape xs)) one.0
      ∙ ap (λ rest. lower_word form word ++ 32 ∷ rest) more.written
      ∙ sym (lower_joined (lower_word form word) shape v vs);
  fits = λ line. and_from _ _ one.1 (more.fits (line_behind word (rest_of_line (v ∷ vs)) line));
}

back : (shape : Shape) (ws ps : List (List ℕ)) (xs : Values shape) → is_sound shape ≡ true → pieces shape ws ≡ Ok ps → values_of shape ps ≡ Ok xs → IsBack shape ws xs
back (Last Name) ws ps xs t h g = last_back Name ws ps xs t refl h g
back (Last (Number low high)) ws ps xs t h g = last_back (Number low high) ws ps xs t refl h g
back (Last Event) ws ps xs t h g = last_back Event ws ps xs t refl h g
back (Last Hex) ws ps xs t h g = last_back Hex ws ps xs t refl h g
back (Last Json) ws ps xs t h g = rest_back ws ps xs h g
back (Then form shape) [] ps xs t h g = absurd cc
back (Then form shape) (word ∷ []) ps xs t h g =
    let others = bind_ok (pieces shape []) _ ps h in
    absurd (no_words (takes_rest shape) (before_last shape) others.0 others.1)
back (Then form shape) (word ∷ v ∷ vs) ps xs t h g =
    let tight = and_parts (is_tight form) (is_sound shape) t in
    let others = bind_ok (pieces shape (v ∷ vs)) _ ps h in
    let same : word ∷ others.0 ≡ ps = ok_is _ ps others.2 in
    let x = bind_ok (value_of form word) _ xs (subst (λ qs. values_of (Then form shape) qs ≡ Ok xs) (sym same) g) in
    let ys = bind_ok (values_of shape others.0) _ xs x.2 in
    subst (IsBack (Then form shape) (word ∷ v ∷ vs)) (ok_is _ xs ys.2)
    (then_back form shape word v vs x.0 ys.0 (value_back form word x.0 tight.0 x.1) (back shape (v ∷ vs) others.0 ys.0 tight.1 others.1 ys.1))

pub args_back : (shape : Shape) (ws : List (List ℕ)) (xs : Values shape) → is_sound shape ≡ true → args_of shape ws ≡ Ok xs → IsBack shape ws xs
args_back shape ws xs t h = let found = bind_ok (pieces shape ws) _ xs h in back shape ws found.0 xs t found.1 found.2
