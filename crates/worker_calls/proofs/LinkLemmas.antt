-- The tables of links, without one of them.
use Rattle.std.proofs.Common.{◌≡◌, ℕ, ◌+◌, ◌≤◌, ◌&&◌, List, [], ◌∷◌, length, filter, find, Bool, true, false, not, cond, nat_eq, Option, Some, None, is_some, refl, sym, ap, ◌∙◌, true≢false}
use Rattle.std.proofs.lemmas.Bool.{eqb-true}
use Rattle.std.proofs.lemmas.Bool.Decides.{Decides-eqb}
use Rattle.std.specs.HashMap.{HashMap, get, hash_map_len, spare}
use Rattle.worker_calls.specs.State.{LinkAt, same_place}
use Rattle.worker_calls.specs.Tables.{TellsLinks, ids_of, same_ids}
use Rattle.worker_calls.specs.declared.place.Place.{Place}
use Rattle.worker_calls.proofs.EntryLemmas.{swapped}
use Rattle.worker_calls.proofs.TableLemmas.{find-dropped, find-kept, none-of, once, roomy-pop, same-is, some-found}

abbrev pub left : Place → List LinkAt → List LinkAt
left place links = filter (λ (l : LinkAt). not (same_place l.place place)) links

left-at : (place : Place) (l : LinkAt) (ls : List LinkAt) (b : Bool) → cond b (Some l) (find (λ (k : LinkAt). same_place k.place place) ls) ≡ None
    → (find (λ (k : LinkAt). same_place k.place place) ls ≡ None → left place ls ≡ ls) → cond (not b) (l ∷ left place ls) (left place ls) ≡ l ∷ ls
left-at place l ls true none more = absurd (true≢false (ap is_some none))
left-at place l ls false none more = ap (λ ks. l ∷ ks) (more none)

-- without a link nothing is taken out
pub none-left : (place : Place) (links : List LinkAt) → find (λ (l : LinkAt). same_place l.place place) links ≡ None → left place links ≡ links
none-left place [] none = refl
none-left place (l ∷ ls) none = left-at place l ls (same_place l.place place) none (none-left place ls)

place-swapped : (a b : Place) → same_place a b ≡ same_place b a
place-swapped a b = (λ i. swapped a.router.0 b.router.0 i && swapped a.transport.0 b.transport.0 i)

module _ {S T : Type 0} (links : List LinkAt) (numbers fewer : HashMap ℕ LinkAt S) (places rest : HashMap (List ℕ × List ℕ) LinkAt T) (place : Place) (link : LinkAt)
    (told : TellsLinks links numbers places) (there : Some link ≡ get same_ids places (ids_of place)) (one : length (left place links) + 1 ≡ length links)
    (free : is_some (find (λ (l : LinkAt). nat_eq l.link link.link) (left place links)) ≡ false) where
  found : find (λ (l : LinkAt). same_place l.place place) links ≡ Some link
  found = sym (told.by_place place) ∙ sym there

  number-at : (n : ℕ) (b : Bool) → nat_eq link.link n ≡ b → cond b None (get nat_eq numbers n) ≡ find (λ (l : LinkAt). nat_eq l.link n) (left place links)
  number-at n true e =
      let same : link.link ≡ n = eqb-true link.link n e in
      sym (none-of (find (λ (l : LinkAt). nat_eq l.link n) (left place links)) (ap (λ k. is_some (find (λ (l : LinkAt). nat_eq l.link k) (left place links))) (sym same) ∙ free))
  number-at n false e = told.by_number n ∙ sym (once (λ (l : LinkAt). same_place l.place place) (λ (l : LinkAt). nat_eq l.link n) link e links found one)

  place-at : (p : Place) (b : Bool) → same_place place p ≡ b → cond b None (get same_ids places (ids_of p)) ≡ find (λ (l : LinkAt). same_place l.place p) (left place links)
  place-at p true e =
      sym
      (find-dropped (λ (l : LinkAt). not (same_place l.place place)) (λ (l : LinkAt). same_place l.place p) links
      (λ l t. ap not (ap (same_place l.place) (same-is place p e) ∙ t)))
  place-at p false e =
      told.by_place p
      ∙ sym
      (find-kept (λ (l : LinkAt). not (same_place l.place place)) (λ (l : LinkAt). same_place l.place p) links
      (λ l t. ap not (ap (λ (q : Place). same_place q place) (same-is l.place p t) ∙ (place-swapped p place ∙ e))))

  -- the tables lose one link
  pub popped : ((n : ℕ) → get nat_eq fewer n ≡ cond (nat_eq link.link n) None (get nat_eq numbers n)) → hash_map_len fewer + cond (is_some (get nat_eq numbers link.link)) 1 0 ≡ hash_map_len numbers
      → spare numbers ≤ spare fewer → ((p : Place) → get same_ids rest (ids_of p) ≡ cond (same_place place p) None (get same_ids places (ids_of p)))
      → hash_map_len rest + cond (is_some (get same_ids places (ids_of place))) 1 0 ≡ hash_map_len places → spare places ≤ spare rest → TellsLinks (left place links) fewer rest
  popped by_number numbers_less numbers_room by_place places_less places_room = record {
    by_number = λ n. by_number n ∙ number-at n (nat_eq link.link n) refl;
    by_place = λ p. by_place p ∙ place-at p (same_place place p) refl;
    numbers_room =
        roomy-pop numbers fewer (length links) (length (left place links)) (is_some (get nat_eq numbers link.link)) told.numbers_room one
        (ap is_some (told.by_number link.link) ∙ some-found (λ (l : LinkAt). same_place l.place place) (λ (l : LinkAt). nat_eq l.link link.link) link ((Decides-eqb link.link link.link).1 refl) links found)
        numbers_less numbers_room;
    places_room =
        roomy-pop places rest (length links) (length (left place links)) (is_some (get same_ids places (ids_of place))) told.places_room one (ap is_some (sym there)) places_less places_room;
  }
