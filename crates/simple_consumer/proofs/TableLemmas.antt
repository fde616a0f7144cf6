-- The set of the ids of header extensions.
use Rattle.std.proofs.Common.{◌≡◌, ◌≢◌, ℕ, ◌+◌, ◌<◌, ◌==◌, List, [], ◌∷◌, ◌++◌, length, get_or, take, Bool, true, false, ◌||◌, Option, Some, None, refl, sym, ap, subst, ◌∙◌, if◌then◌else◌}
use Rattle.std.specs.List.{list_any}
use Rattle.std.specs.Option.{option_and_then}
use Rattle.std.proofs.lemmas.Bool.{eqb-true}
use Rattle.std.proofs.lemmas.Bool.Decides.{Decides-eqb}
use Rattle.std.proofs.lemmas.List.{take_more}
use Rattle.std.proofs.lemmas.List.Folds.{list_any-append}
use Rattle.rtp_extension.specs.Ids.{new_id, has_id, kept_id}
use Rattle.rtp_params.specs.declared.ext.Ext.{Ext}
use Rattle.rtp_params.specs.declared.params.Params.{Params}
use Rattle.simple_consumer.specs.Sending.{has_ext, own_ids}

-- one id more: `same` tells whether it is this one
one-more : (front after before same : Bool) → before ≡ front → (same ≡ true → after ≡ true) → (same ≡ false → after ≡ before) → after ≡ (front || (same || false))
one-more true after before true was t f = t refl
one-more false after before true was t f = t refl
one-more true after before false was t f = f refl ∙ was
one-more false after before false was t f = f refl ∙ was

pub exts-added : (before after : List Bool) (exts : List Ext) (i : ℕ) (e : Ext) → i < length exts → e ≡ get_or exts i e
    → ((id : ℕ) → has_id before id ≡ list_any (λ ext. ext.id == id) (take i exts))
    → has_id after e.id ≡ true → ((other : ℕ) → other ≢ e.id → has_id after other ≡ has_id before other)
    → (id : ℕ) → has_id after id ≡ list_any (λ ext. ext.id == id) (take (i + 1) exts)
exts-added before after exts i e within item was added others id =
    let P : Ext → Bool = λ ext. ext.id == id in
    let more : take (i + 1) exts ≡ take i exts ++ e ∷ [] = take_more exts i e within ∙ ap (λ x. take i exts ++ x ∷ []) (sym item) in
    one-more (list_any P (take i exts)) (has_id after id) (has_id before id) (e.id == id) (was id)
    (λ same. subst (λ (n : ℕ). has_id after n ≡ true) (eqb-true e.id id same) added)
    (λ apart. others id (λ is. (let t : (e.id == id) ≡ true = (Decides-eqb e.id id).1 (sym is) in absurd cc)))
    ∙ sym (list_any-append P (take i exts) (e ∷ []))
    ∙ ap (list_any P) (sym more)

-- the ids that are kept by the set are the parameters' own
pub kept-own : (params : Params) (set : List Bool) (ids : List (Option ℕ)) → ((id : ℕ) → has_id set id ≡ has_ext params id) → kept_id ids set ≡ own_ids params ids
kept-own params set ids are = λ j. λ id. option_and_then (λ n. if are n j then Some n else None) (new_id ids id)
