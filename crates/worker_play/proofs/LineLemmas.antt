-- Lists of words and of lines, and what each of them is.
use Rattle.std.proofs.Common.{◌≡◌, ◌≢◌, ℕ, suc, ◌+◌, ◌-◌, ◌<◌, ◌≤◌, List, [], ◌∷◌, ◌++◌, Bor, length, map, take, drop, get_or, sym, ap, ◌∙◌, subst, arith, append_assoc}
use Rattle.std.proofs.lemmas.Bool.{cond-true, cond-false, eq-eqb, ne_eqb}
use Rattle.std.proofs.lemmas.List.{take_more, take-append-drop, map-append, length-map, length-take-le}
use Rattle.std.specs.List.{AllZip}
use Rattle.ms_devices.specs.declared.events.MemEvent.{MemEvent}
use Rattle.worker_play.specs.Reading.{FirstOther, IsEventLine, without_empty_end}

abbrev texts : List (Bor (List ℕ)) → List (List ℕ)
texts slices = map (λ slice. slice.now) slices

zip_push : {A : Type 0} (Is : List ℕ → A → Type 0) (words : List (List ℕ)) (xs : List A) (word : List ℕ) (x : A)
    → AllZip Is words xs → Is word x → AllZip Is (words ++ word ∷ []) (xs ++ x ∷ [])
zip_push Is [] [] word x all is = (is, tt)
zip_push Is [] (y ∷ ys) word x all is = absurd all
zip_push Is (w ∷ words) [] word x all is = absurd all
zip_push Is (w ∷ words) (y ∷ ys) word x all is = (all.0, zip_push Is words ys word x all.1 is)

-- one more word, and what it is
pub zip_more : {A : Type 0} (Is : List ℕ → A → Type 0) (slices : List (Bor (List ℕ))) (i : ℕ) (d : Bor (List ℕ)) (xs more : List A) (x : A)
    → i < length slices → AllZip Is (map (λ slice. slice.now) (take i slices)) xs → Is (get_or slices i d).now x → more ≡ xs ++ x ∷ []
    → AllZip Is (map (λ slice. slice.now) (take (i + 1) slices)) more
zip_more Is slices i d xs more x within all is added =
    rw (added, take_more slices i d within, map-append (λ (slice : Bor (List ℕ)). slice.now) (take i slices) (get_or slices i d ∷ []))
    (zip_push Is (texts (take i slices)) xs (get_or slices i d).now x all is)

-- the word at a place, between those before and behind it
parts : (slices : List (Bor (List ℕ))) (i : ℕ) (d : Bor (List ℕ)) → i < length slices
    → texts slices ≡ texts (take i slices) ++ (get_or slices i d).now ∷ texts (drop (i + 1) slices)
parts slices i d within =
    ap texts (sym (take-append-drop (i + 1) slices))
    ∙ map-append (λ (slice : Bor (List ℕ)). slice.now) (take (i + 1) slices) (drop (i + 1) slices)
    ∙ ap (λ front. texts front ++ texts (drop (i + 1) slices)) (take_more slices i d within)
    ∙ ap (λ front. front ++ texts (drop (i + 1) slices)) (map-append (λ (slice : Bor (List ℕ)). slice.now) (take i slices) (get_or slices i d ∷ []))
    ∙ append_assoc (texts (take i slices)) ((get_or slices i d).now ∷ []) (texts (drop (i + 1) slices))

no_zip_at : {A : Type 0} (Is : List ℕ → A → Type 0) (before : List (List ℕ)) (word : List ℕ) (behind : List (List ℕ))
    → ((x : A) → Is word x → ⊥) → (xs : List A) → AllZip Is (before ++ word ∷ behind) xs → ⊥
no_zip_at Is [] word behind none [] all = all
no_zip_at Is [] word behind none (x ∷ xs) all = none x all.0
no_zip_at Is (b ∷ before) word behind none [] all = all
no_zip_at Is (b ∷ before) word behind none (x ∷ xs) all = no_zip_at Is before word behind none xs all.1

-- a word that is nothing of the kind
pub no_zip : {A : Type 0} (Is : List ℕ → A → Type 0) (slices : List (Bor (List ℕ))) (i : ℕ) (d : Bor (List ℕ)) → i < length slices
    → ((x : A) → Is (get_or slices i d).now x → ⊥) → (xs : List A) → AllZip Is (map (λ slice. slice.now) slices) xs → ⊥
no_zip Is slices i d within none xs all =
    no_zip_at Is (texts (take i slices)) (get_or slices i d).now (texts (drop (i + 1) slices)) none xs
    (subst (λ ws. AllZip Is ws xs) (parts slices i d within) all)

-- a line that is no event's, the first of them
pub other_at : (slices : List (Bor (List ℕ))) (i : ℕ) (d : Bor (List ℕ)) (events : List MemEvent) → i < length slices
    → AllZip IsEventLine (map (λ slice. slice.now) (take i slices)) events → ((event : MemEvent) → IsEventLine (get_or slices i d).now event → ⊥)
    → FirstOther (map (λ slice. slice.now) slices) i
other_at slices i d events within all none =
    record {
      before = texts (take i slices);
      line = (get_or slices i d).now;
      behind = texts (drop (i + 1) slices);
      events = events;
      place = parts slices i d within;
      counted = length-map (take i slices) (λ (slice : Bor (List ℕ)). slice.now) ∙ length-take-le i slices (omega arith);
      are_events = all;
      is_none = none;
    }

pub drop_end : (slices : List (Bor (List ℕ))) (d : Bor (List ℕ)) → 1 ≤ length slices → length (get_or slices (length slices - 1) d).now ≡ 0
    → map (λ slice. slice.now) (take (length slices - 1) slices) ≡ without_empty_end (map (λ slice. slice.now) slices)
drop_end [] d some empty = absurd (omega arith)
drop_end (p ∷ []) d some empty = sym (cond-true _ _ _ (eq-eqb _ _ empty))
drop_end (p ∷ q ∷ slices) d some empty =
    let next : length (p ∷ q ∷ slices) - 1 ≡ suc (length (q ∷ slices) - 1) = omega arith in
    let still : length (get_or (q ∷ slices) (length (q ∷ slices) - 1) d).now ≡ 0 = subst (λ n. length (get_or (p ∷ q ∷ slices) n d).now ≡ 0) next empty in
    ap (λ n. texts (take n (p ∷ q ∷ slices))) next ∙ ap (λ rest. p.now ∷ rest) (drop_end (q ∷ slices) d (omega arith) still)

pub keep_end : (slices : List (Bor (List ℕ))) (d : Bor (List ℕ)) → 1 ≤ length slices → length (get_or slices (length slices - 1) d).now ≢ 0
    → map (λ slice. slice.now) slices ≡ without_empty_end (map (λ slice. slice.now) slices)
keep_end [] d some full = absurd (omega arith)
keep_end (p ∷ []) d some full = sym (cond-false _ _ _ (ne_eqb _ _ full))
keep_end (p ∷ q ∷ slices) d some full =
    let next : length (p ∷ q ∷ slices) - 1 ≡ suc (length (q ∷ slices) - 1) = omega arith in
    let still : length (get_or (q ∷ slices) (length (q ∷ slices) - 1) d).now ≢ 0 = subst (λ n. length (get_or (p ∷ q ∷ slices) n d).now ≢ 0) next full in
    ap (λ rest. p.now ∷ rest) (keep_end (q ∷ slices) d (omega arith) still)
