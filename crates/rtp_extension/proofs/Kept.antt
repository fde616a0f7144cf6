-- The kept elements: they can be spelled, they take no more bytes, and they are read again.
use Rattle.std.proofs.Common.{◌≡◌, ℕ, zero, suc, ◌+◌, ◌-◌, ◌%◌, ◌≤◌, Bool, true, false, List, [], ◌∷◌, ◌++◌, length, replicate, Option, Some, None, refl, ap, ◌∙◌, arith, length-append, append_assoc}
use Rattle.std.specs.Prelude.{nat_le, if◌then◌else◌, IfSome}
use Rattle.std.specs.Option.{option_map, option_and_then}
use Rattle.std.specs.List.{AllByRecursion, cons_option}
use Rattle.std.proofs.lemmas.Bool.{leb-true}
use Rattle.std.proofs.lemmas.List.{length-replicate}
use Rattle.rtp_packet.specs.Packet.{AreBytes, IsExtension}
use Rattle.rtp_extension.specs.declared.form.Form.{Form}
use Rattle.rtp_extension.specs.declared.form.Form.TheVariants.{OneByte, TwoByte}
use Rattle.rtp_extension.specs.Elements.{Element, IsElement, form_of, spelled, spelling}
use Rattle.rtp_extension.specs.Reading.{elements_in, elements_of, elements_under}
use Rattle.rtp_extension.specs.Rewriting.{usable, renamed, kept, missing, in_words, words_with, extension_with, kept_under, kept_of}
use Rattle.rtp_extension.specs.Laws.{AreIds}
use Rattle.rtp_extension.proofs.Grammar.{are_elements, spelling_len, elements_in-spelled}

-- ---- they can be spelled

limited : (b : Bool) (id : ℕ) (content : List ℕ) → (b ≡ true → id ≤ 14) → 1 ≤ id → IsElement OneByte (1, content)
    → IfSome (option_map (λ (id : ℕ). (id, content)) (if b then Some id else None)) (IsElement OneByte)
limited true id content top low is = (low, top refl, is.2, is.3)
limited false id content top low is = tt

usable_element : (form : Form) (e : Element) (o : Option ℕ) → IfSome o (λ new. (1 ≤ new) × (new ≤ 255)) → IsElement form e
    → IfSome (option_map (λ (id : ℕ). (id, e.1)) (option_and_then (usable form) o)) (IsElement form)
usable_element form e None fits is = tt
usable_element OneByte e (Some new) fits is =
    limited (nat_le new 14) new e.1 (leb-true new 14) fits.0 (omega arith, omega arith, is.2, is.3)
usable_element TwoByte e (Some new) fits is = (fits.0, fits.1, is.2)

all_cons : (form : Form) (o : Option Element) (es : List Element) → IfSome o (IsElement form) → AllByRecursion (IsElement form) es
    → AllByRecursion (IsElement form) (cons_option o es)
all_cons form None es is all = all
all_cons form (Some e) es is all = (is, all)

pub kept_elements : (ids : ℕ → Option ℕ) (form : Form) (es : List Element) → AreIds ids → AllByRecursion (IsElement form) es
    → AllByRecursion (IsElement form) (kept ids form es)
kept_elements ids form [] fits all = tt
kept_elements ids form (e ∷ es) fits all =
    all_cons form (renamed ids form e) (kept ids form es) (usable_element form e (ids e.0) (fits e.0) all.0) (kept_elements ids form es fits all.1)

-- ---- they take no more bytes

pub same_len : (form : Form) (id other : ℕ) (content : List ℕ) → length (spelled form (id, content)) ≡ length (spelled form (other, content))
same_len OneByte id other content = refl
same_len TwoByte id other content = refl

cons_len : (form : Form) (e : Element) (o : Option ℕ) (es : List Element)
    → length (spelling form (cons_option (option_map (λ (id : ℕ). (id, e.1)) o) es)) ≤ length (spelled form e) + length (spelling form es)
cons_len form e None es = omega arith
cons_len form e (Some id) es = omega (arith, length-append (spelled form (id, e.1)) (spelling form es), same_len form id e.0 e.1)

pub kept_len : (ids : ℕ → Option ℕ) (form : Form) (es : List Element) → length (spelling form (kept ids form es)) ≤ length (spelling form es)
kept_len ids form [] = omega arith
kept_len ids form (e ∷ es) =
    omega (arith, cons_len form e (option_and_then (usable form) (ids e.0)) (kept ids form es), kept_len ids form es, length-append (spelled form e) (spelling form es))

-- whole words of bytes that fit into whole words
in_words_len : (bytes : List ℕ) (n : ℕ) → length bytes ≤ n → n % 4 ≡ 0 → (length (in_words bytes) ≤ n) × (length (in_words bytes) % 4 ≡ 0)
in_words_len bytes n fits whole =
    let len : length (in_words bytes) ≡ length bytes + (4 - length bytes % 4) % 4 =
    omega (arith, length-append bytes (replicate (missing (length bytes)) 0), length-replicate {A = ℕ} (missing (length bytes)) 0) in
    (omega arith, omega arith)

pub words_len : (ids : ℕ → Option ℕ) (o : Option Form) (words : List ℕ) → AreBytes words → length words % 4 ≡ 0
    → (length (words_with ids o words) ≤ length words) × (length (words_with ids o words) % 4 ≡ 0)
words_len ids None words fits whole = (omega arith, whole)
words_len ids (Some form) words fits whole =
    in_words_len (spelling form (kept ids form (elements_in form words))) (length words)
    (omega (arith, kept_len ids form (elements_in form words), spelling_len form words fits)) whole

-- ---- they are read again

elements_in-zeros : (form : Form) (n : ℕ) → elements_in form (replicate n 0) ≡ []
elements_in-zeros form zero = refl
elements_in-zeros form (suc n) = elements_in-zeros form n

elements_in-spelling : (form : Form) (es : List Element) (n : ℕ) → AllByRecursion (IsElement form) es → elements_in form (spelling form es ++ replicate n 0) ≡ es
elements_in-spelling form [] n all = elements_in-zeros form n
elements_in-spelling form (e ∷ es) n all =
    ap (elements_in form) (append_assoc (spelled form e) (spelling form es) (replicate n 0))
    ∙ elements_in-spelled form e (spelling form es ++ replicate n 0) all.0
    ∙ ap (λ (xs : List Element). e ∷ xs) (elements_in-spelling form es n all.1)

words_elements : (ids : ℕ → Option ℕ) (o : Option Form) (words : List ℕ) → AreIds ids → AreBytes words
    → elements_under o (words_with ids o words) ≡ kept_under ids o (elements_under o words)
words_elements ids None words are fits = refl
words_elements ids (Some form) words are fits =
    let es : List Element = kept ids form (elements_in form words) in
    elements_in-spelling form es (missing (length (spelling form es))) (kept_elements ids form (elements_in form words) are (are_elements form words fits))

pub extension_elements : (ids : ℕ → Option ℕ) (extension : Option (ℕ × List ℕ)) → AreIds ids → IfSome extension (λ e. AreBytes e.1)
    → elements_of (extension_with ids extension) ≡ kept_of ids extension
extension_elements ids None are fits = refl
extension_elements ids (Some e) are fits = words_elements ids (form_of e.0) e.1 are fits

pub extension_is : (ids : ℕ → Option ℕ) (extension : Option (ℕ × List ℕ)) → IfSome extension (λ e. AreBytes e.1)
    → IfSome extension (λ e. IsExtension e.0 e.1) → IfSome (extension_with ids extension) (λ e. IsExtension e.0 e.1)
extension_is ids None fits is = tt
extension_is ids (Some e) fits is =
    let len = words_len ids (form_of e.0) e.1 fits is.whole in
    record { profile_fits = is.profile_fits; whole = len.1; count_fits = omega (arith, len.0, is.count_fits) }
