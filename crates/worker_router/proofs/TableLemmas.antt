-- What the tables of a Router tell after a change.
use Rattle.std.proofs.Common.{◌≡◌, ℕ, List, [], ◌∷◌, ◌++◌, ◌&&◌, ◌||◌, ◌==◌, Bool, true, false, cond, not, map, filter, find, Option, Some, None, is_some, bytes_eq, refl, sym, ap, subst, ◌∙◌, true≢false}
use Rattle.std.specs.List.{AllByRecursion, IsDistinct, list_any}
use Rattle.std.specs.Map.{lookup}
use Rattle.std.specs.Option.{option_map}
use Rattle.std.proofs.lemmas.Bool.{eqb-true}
use Rattle.ms_base.specs.declared.id.Id.{Id}
use Rattle.rtp_params.specs.declared.encoding.Encoding.{Encoding}
use Rattle.rtp_params.specs.Encodings.{is_own}
use Rattle.worker_router.specs.State.{same_id}
use Rattle.worker_router.specs.Calls.{change, without}
use Rattle.worker_router.specs.Tables.{AreDifferent, AreTables, Outlet, Outline, id_of, owner_in, owns, places_of, present, same_place}
use Rattle.worker_router.proofs.ByIdLemmas.{same-bytes, swapped}
use Rattle.worker_router.proofs.ListLemmas.{filter-by, kept-by, kept-present, map-map, map-none, find-map, present-map, all-under, all-filter, all-kept, all-map, all-both, all-push, filter-same, filter-filter, find-test, find-push, guard, guarded, not-found, find-filter, find-by, founds, is, self-same}

abbrev pub is_fed : Id → Outlet → Bool
is_fed p c = same_id c.producer p

abbrev pub place : Outlet → Id × Id
place c = (c.id, c.transport)

abbrev pub pid : Outline → Id
pid p = p.id

abbrev pub cid : Outlet → Id
cid c = c.id

abbrev Ssrcs : Type 0
Ssrcs = List ((List ℕ × ℕ) × List ℕ)

-- ---- truth values

pub and-split : (a b : Bool) → a && b ≡ true → (a ≡ true) × (b ≡ true)
and-split true b h = (refl, h)
and-split false b h = absurd (true≢false (sym h))

pub and-join : (a b : Bool) → a ≡ true → b ≡ true → a && b ≡ true
and-join a b p q = ap (λ c. c && b) p ∙ q

-- ---- lists of Consumers

list-at : (P : Id × Id → Bool) (stays : Outlet → Bool) (p : Id) (c : Outlet) (cs : List Outlet) (b s : Bool) → is_fed p c ≡ b → P (place c) ≡ s
    → filter P (places_of cs p) ≡ places_of (filter stays cs) p
    → filter P (map place (cond b (c ∷ filter (is_fed p) cs) (filter (is_fed p) cs))) ≡ map place (filter (is_fed p) (cond s (c ∷ filter stays cs) (filter stays cs)))
list-at P stays p c cs true true e1 e2 more =
    ap (λ k. cond k (place c ∷ filter P (places_of cs p)) (filter P (places_of cs p))) e2
    ∙ (ap (λ ys. place c ∷ ys) more ∙ sym (ap (λ k. map place (cond k (c ∷ filter (is_fed p) (filter stays cs)) (filter (is_fed p) (filter stays cs)))) e1))
list-at P stays p c cs true false e1 e2 more = ap (λ k. cond k (place c ∷ filter P (places_of cs p)) (filter P (places_of cs p))) e2 ∙ more
list-at P stays p c cs false true e1 e2 more =
    more ∙ sym (ap (λ k. map place (cond k (c ∷ filter (is_fed p) (filter stays cs)) (filter (is_fed p) (filter stays cs)))) e1)
list-at P stays p c cs false false e1 e2 more = more

pub list-kept : (P : Id × Id → Bool) (stays : Outlet → Bool) (p : Id) (cs : List Outlet) → AllByRecursion (λ c. P (place c) ≡ stays c) cs
    → filter P (places_of cs p) ≡ places_of (filter stays cs) p
list-kept P stays p [] h = refl
list-kept P stays p (c ∷ cs) h = list-at P stays p c cs (is_fed p c) (stays c) refl h.0 (list-kept P stays p cs h.1)

places-push-at : (p : Id) (c d : Outlet) (cs : List Outlet) (b : Bool) → places_of (cs ++ c ∷ []) p ≡ cond (is_fed p c) (places_of cs p ++ place c ∷ []) (places_of cs p)
    → map place (cond b (d ∷ filter (is_fed p) (cs ++ c ∷ [])) (filter (is_fed p) (cs ++ c ∷ [])))
    ≡ cond (is_fed p c) (map place (cond b (d ∷ filter (is_fed p) cs) (filter (is_fed p) cs)) ++ place c ∷ []) (map place (cond b (d ∷ filter (is_fed p) cs) (filter (is_fed p) cs)))
places-push-at p c d cs false more = more
places-push-at p c d cs true more = ap (λ ys. place d ∷ ys) more ∙ by (is_fed p c)
  where
    by : (k : Bool) → place d ∷ cond k (places_of cs p ++ place c ∷ []) (places_of cs p) ≡ cond k (place d ∷ places_of cs p ++ place c ∷ []) (place d ∷ places_of cs p)
    by true = refl
    by false = refl

places-one : (p : Id) (c : Outlet) (k : Bool) → map place (cond k (c ∷ []) []) ≡ cond k (place c ∷ []) []
places-one p c true = refl
places-one p c false = refl

pub places-push : (p : Id) (c : Outlet) (cs : List Outlet) → places_of (cs ++ c ∷ []) p ≡ cond (is_fed p c) (places_of cs p ++ place c ∷ []) (places_of cs p)
places-push p c [] = places-one p c (is_fed p c)
places-push p c (d ∷ cs) = places-push-at p c d cs (is_fed p d) (places-push p c cs)

none-fed-at : (p : Id) (ps : List Outline) (c : Outlet) (ys : List Outlet) (b : Bool) → is_fed p c ≡ b → present pid ps c.producer ≡ true → present pid ps p ≡ false → ys ≡ []
    → cond b (c ∷ ys) ys ≡ []
none-fed-at p ps c ys true e there free more =
    let same : c.producer.0 ≡ p.0 = same-bytes c.producer.0 p.0 e in
    absurd (true≢false (sym there ∙ (ap (λ b. present pid ps (id_of b)) same ∙ free)))
none-fed-at p ps c ys false e there free more = more

-- a Producer that isn't there has no Consumers
pub none-fed : (p : Id) (ps : List Outline) (cs : List Outlet) → AllByRecursion (λ c. present pid ps c.producer ≡ true) cs → present pid ps p ≡ false → filter (is_fed p) cs ≡ []
none-fed p ps [] h free = refl
none-fed p ps (c ∷ cs) h free = none-fed-at p ps c (filter (is_fed p) cs) (is_fed p c) refl h.0 free (none-fed p ps cs h.1 free)

-- ---- own SSRCs

same-pair : (a b : List ℕ × ℕ) → same_place a b ≡ true → a ≡ b
same-pair a b h =
    let both = and-split (bytes_eq a.0 b.0) (a.1 == b.1) h in
    let first : a.0 ≡ b.0 = same-bytes a.0 b.0 both.0 in
    let second : a.1 ≡ b.1 = eqb-true a.1 b.1 both.1 in
    (λ j. (first j, second j))

gone-at : (k : List ℕ × ℕ) (T : List ℕ → Bool) (e : (List ℕ × ℕ) × List ℕ) (es : Ssrcs) (b : Bool) → same_place k e.0 ≡ false
    → lookup (same_place k) (filter (λ d. T d.1) es) ≡ None → lookup (same_place k) (cond b (e ∷ filter (λ d. T d.1) es) (filter (λ d. T d.1) es)) ≡ None
gone-at k T e es true t more = ap (λ c. cond c (Some e.1) (lookup (same_place k) (filter (λ d. T d.1) es))) t ∙ more
gone-at k T e es false t more = more

gone : (k : List ℕ × ℕ) (T : List ℕ → Bool) (es : Ssrcs) → AllByRecursion (λ o. same_place k o ≡ false) (map (λ e. e.0) es)
    → lookup (same_place k) (filter (λ e. T e.1) es) ≡ None
gone k T [] h = refl
gone k T (e ∷ es) h = gone-at k T e es (T e.1) h.0 (gone k T es h.1)

keep-at : (k : List ℕ × ℕ) (T : List ℕ → Bool) (e : (List ℕ × ℕ) × List ℕ) (es : Ssrcs) (t b : Bool) → T e.1 ≡ t → same_place k e.0 ≡ b
    → AllByRecursion (λ o. same_place e.0 o ≡ false) (map (λ d. d.0) es)
    → lookup (same_place k) (filter (λ d. T d.1) es) ≡ guard T (lookup (same_place k) es)
    → lookup (same_place k) (cond t (e ∷ filter (λ d. T d.1) es) (filter (λ d. T d.1) es)) ≡ guard T (cond b (Some e.1) (lookup (same_place k) es))
keep-at k T e es true true p q apart more = ap (λ c. cond c (Some e.1) (lookup (same_place k) (filter (λ d. T d.1) es))) q ∙ sym (ap (λ c. cond c (Some e.1) None) p)
keep-at k T e es false true p q apart more =
    gone k T es (subst (λ (h : List ℕ × ℕ). AllByRecursion (λ o. same_place h o ≡ false) (map (λ d. d.0) es)) (sym (same-pair k e.0 q)) apart) ∙ sym (ap (λ c. cond c (Some e.1) None) p)
keep-at k T e es true false p q apart more = ap (λ c. cond c (Some e.1) (lookup (same_place k) (filter (λ d. T d.1) es))) q ∙ more
keep-at k T e es false false p q apart more = more

pub lookup-kept : (k : List ℕ × ℕ) (T : List ℕ → Bool) (es : Ssrcs) → IsDistinct same_place (map (λ e. e.0) es)
    → lookup (same_place k) (filter (λ e. T e.1) es) ≡ guard T (lookup (same_place k) es)
unfolding IsDistinct
lookup-kept k T [] apart = refl
lookup-kept k T (e ∷ es) apart = keep-at k T e es (T e.1) (same_place k e.0) refl refl apart.0 (lookup-kept k T es apart.1)

-- ---- what is taken out

abbrev pub trimmed : List Outlet → Outline → Outline
trimmed cs p = record p { consumers = filter (λ at. present cid cs at.0) p.consumers }

map-id-map : (g : Outline → Outline) → ((p : Outline) → (g p).id ≡ p.id) → (o : Option Outline) → option_map (λ p. p.id.0) (option_map g o) ≡ option_map (λ p. p.id.0) o
map-id-map g same None = refl
map-id-map g same (Some p) = ap (λ (i : Id). Some i.0) (same p)

module _ (ps : List Outline) (cs : List Outlet) (own : Ssrcs) (t : AreTables ps cs own) where
  -- a Producer that has an own SSRC is the one that stands under it
  pub owner-is : (tr : Id) (s : ℕ) (q : Outline) → find (owns tr s) ps ≡ Some q → AllByRecursion (λ p. owns tr s p ≡ true → is pid q.id p ≡ true) ps
  owner-is tr s q e =
      all-map (λ p. (ssrc : ℕ) → is_own p.encodings ssrc ≡ true → owner_in own p.transport ssrc ≡ Some p.id.0) (λ p. owns tr s p ≡ true → is pid q.id p ≡ true)
      (λ p lead has.
      let parts = and-split (same_id p.transport tr) (is_own p.encodings s) has in
      let here : owner_in own p.transport s ≡ owner_in own tr s = ap (λ b. lookup (same_place (b, s)) own) (same-bytes p.transport.0 tr.0 parts.0) in
      let both : Some p.id.0 ≡ Some q.id.0 = sym (lead s parts.1) ∙ (here ∙ (t.owners tr s ∙ ap (option_map (λ (o : Outline). o.id.0)) e)) in
      let equal : p.id.0 ≡ q.id.0 = cc in
      ap (bytes_eq p.id.0) (sym equal) ∙ self-same p.id.0) ps t.leads

  module _ (keep : Outline → Bool) (d1 : AreDifferent pid (filter keep ps)) where
    abbrev T : List ℕ → Bool
    T b = present pid (filter keep ps) (id_of b)

    owner-by : (tr : Id) (s : ℕ) (q : Outline) (k : Bool) → keep q ≡ k → find (owns tr s) ps ≡ Some q → cond (T q.id.0) (Some q.id.0) None ≡ option_map (λ p. p.id.0) (find (owns tr s) (filter keep ps))
    owner-by tr s q k e found =
        let same = owner-is tr s q found in
        let there : find (is pid q.id) ps ≡ Some q = guarded (owns tr s) (find (is pid q.id) ps) q (sym (find-by pid q.id (owns tr s) ps t.producers_differ same) ∙ found) in
        let left : find (is pid q.id) (filter keep ps) ≡ cond k (Some q) None =
        find-filter pid q.id keep ps t.producers_differ ∙ (ap (guard keep) there ∙ ap (λ b. cond b (Some q) None) e)
        in
        let whole : find (owns tr s) (filter keep ps) ≡ guard (owns tr s) (cond k (Some q) None) =
        find-by pid q.id (owns tr s) (filter keep ps) d1 (all-filter (λ p. owns tr s p ≡ true → is pid q.id p ≡ true) keep ps same) ∙ ap (guard (owns tr s)) left
        in
        ap (λ b. cond b (Some q.id.0) None) (ap is_some left) ∙ (by k ∙ sym (ap (option_map (λ (p : Outline). p.id.0)) whole))
      where
        by : (k : Bool) → cond (is_some (cond k (Some q) None)) (Some q.id.0) None ≡ option_map (λ p. p.id.0) (guard (owns tr s) (cond k (Some q) None))
        by true = sym (ap (λ b. option_map (λ (p : Outline). p.id.0) (cond b (Some q) None)) (find-test (owns tr s) ps q found))
        by false = refl

    owner-at : (tr : Id) (s : ℕ) (o : Option Outline) → find (owns tr s) ps ≡ o → guard T (option_map (λ p. p.id.0) o) ≡ option_map (λ p. p.id.0) (find (owns tr s) (filter keep ps))
    owner-at tr s None e = sym (ap (option_map (λ (p : Outline). p.id.0)) (not-found (owns tr s) keep ps e))
    owner-at tr s (Some q) e = owner-by tr s q (keep q) refl e

    module _ (stays : Outlet → Bool) (new : Ssrcs) (fed : AllByRecursion (λ c. stays c ≡ true → present pid (filter keep ps) c.producer ≡ true) cs)
        (d2 : AreDifferent cid (filter stays cs)) (owned : new ≡ filter (λ e. T e.1) own) (d3 : IsDistinct same_place (map (λ e. e.0) new))
        (there : AllByRecursion (λ c. present cid (filter stays cs) c.id ≡ stays c) cs) where
      new-owner : (k : List ℕ × ℕ) → lookup (same_place k) new ≡ guard T (lookup (same_place k) own)
      new-owner k = ap (lookup (same_place k)) owned ∙ lookup-kept k T own t.places_differ

      abbrev kept : List Outline
      kept = filter keep ps

      pub tables-kept : AreTables (map (trimmed (filter stays cs)) (filter keep ps)) (filter stays cs) new
      tables-kept = record {
        producers_differ = subst (IsDistinct bytes_eq) (sym (map-map (trimmed (filter stays cs)) (λ (p : Outline). p.id.0) kept)) d1;
        consumers_differ = d2;
        lists =
            all-under (trimmed (filter stays cs)) (λ p. p.consumers ≡ places_of (filter stays cs) p.id) kept
            (all-filter (λ p. (trimmed (filter stays cs) p).consumers ≡ places_of (filter stays cs) p.id) keep ps
            (all-map (λ p. p.consumers ≡ places_of cs p.id) (λ p. (trimmed (filter stays cs) p).consumers ≡ places_of (filter stays cs) p.id)
            (λ p h. ap (filter (λ at. present cid (filter stays cs) at.0)) h ∙ list-kept (λ at. present cid (filter stays cs) at.0) stays p.id cs there) ps t.lists));
        sources =
            all-kept (λ c. present pid (map (trimmed (filter stays cs)) kept) c.producer ≡ true) stays cs
            (all-map (λ c. stays c ≡ true → present pid kept c.producer ≡ true) (λ c. stays c ≡ true → present pid (map (trimmed (filter stays cs)) kept) c.producer ≡ true)
            (λ c h e. present-map (trimmed (filter stays cs)) pid kept c.producer ∙ h e) cs fed);
        leads =
            all-under (trimmed (filter stays cs)) (λ p. (ssrc : ℕ) → is_own p.encodings ssrc ≡ true → owner_in new p.transport ssrc ≡ Some p.id.0) kept
            (all-both (λ p. (ssrc : ℕ) → is_own p.encodings ssrc ≡ true → owner_in own p.transport ssrc ≡ Some p.id.0) (λ p. find (is pid p.id) kept ≡ Some p)
            (λ p. (ssrc : ℕ) → is_own p.encodings ssrc ≡ true → owner_in new p.transport ssrc ≡ Some p.id.0)
            (λ p lead found ssrc has. new-owner (p.transport.0, ssrc) ∙ (ap (guard T) (lead ssrc has) ∙ ap (λ b. cond b (Some p.id.0) None) (ap is_some found))) kept
            (all-filter (λ p. (ssrc : ℕ) → is_own p.encodings ssrc ≡ true → owner_in own p.transport ssrc ≡ Some p.id.0) keep ps t.leads) (founds pid kept d1));
        owners = λ tr s.
            new-owner (tr.0, s)
            ∙ (ap (guard T) (t.owners tr s)
            ∙ (owner-at tr s (find (owns tr s) ps) refl
            ∙ sym (ap (option_map (λ (p : Outline). p.id.0)) (find-map (trimmed (filter stays cs)) (owns tr s) kept)
            ∙ map-id-map (trimmed (filter stays cs)) (λ p. refl) (find (owns tr s) kept))));
        places_differ = d3;
      }

-- ---- a Producer less

module _ (ps : List Outline) (cs : List Outlet) (own : Ssrcs) (t : AreTables ps cs own) (i : Id) (new : Ssrcs) (d1 : AreDifferent pid (without (is pid i) ps))
    (d2 : AreDifferent cid (without (is_fed i) cs)) (owned : new ≡ filter (λ e. present pid (without (is pid i) ps) (id_of e.1)) own) (d3 : IsDistinct same_place (map (λ e. e.0) new)) where
  abbrev stays : Outlet → Bool
  stays c = not (is_fed i c)

  fed : AllByRecursion (λ c. stays c ≡ true → present pid (without (is pid i) ps) c.producer ≡ true) cs
  fed =
      all-map (λ c. present pid ps c.producer ≡ true) (λ c. stays c ≡ true → present pid (without (is pid i) ps) c.producer ≡ true)
      (λ c there kept.
      kept-by pid ps t.producers_differ (λ p. not (is pid i p)) c.producer there true
      (λ p found. ap (λ b. not (bytes_eq b i.0)) (same-bytes p.id.0 c.producer.0 (find-test (is pid c.producer) ps p found)) ∙ kept)) cs t.sources

  other-fed : (p : Id) → not (same_id p i) ≡ true → (c : Outlet) (b : Bool) → is_fed i c ≡ b → not b && is_fed p c ≡ is_fed p c
  other-fed p other c true e =
      let same : c.producer.0 ≡ i.0 = same-bytes c.producer.0 i.0 e in
      sym (ap (λ b. bytes_eq b p.0) same ∙ (swapped i.0 p.0 ∙ is-false (same_id p i) other))
    where
      is-false : (b : Bool) → not b ≡ true → b ≡ false
      is-false true h = absurd (true≢false (sym h))
      is-false false h = refl
  other-fed p other c false e = refl

  -- the lists of the others are as they were
  same-list : (p : Outline) → p.consumers ≡ places_of cs p.id → not (is pid i p) ≡ true → trimmed (filter stays cs) p ≡ p
  same-list p list other =
      let kept : filter (λ at. present cid (filter stays cs) at.0) (places_of cs p.id) ≡ places_of (filter stays cs) p.id =
      list-kept (λ at. present cid (filter stays cs) at.0) stays p.id cs (kept-present cid stays cs t.consumers_differ)
      in
      let all : places_of (filter stays cs) p.id ≡ places_of cs p.id =
      ap (map place) (filter-filter (is_fed p.id) stays cs ∙ filter-by (λ c. stays c && is_fed p.id c) (is_fed p.id) (λ c. other-fed p.id other c (is_fed i c) refl) cs)
      in
      ap (λ l. record p { consumers = l }) (ap (filter (λ at. present cid (filter stays cs) at.0)) list ∙ (kept ∙ (all ∙ sym list)))

  pub tables-without-producer : AreTables (without (is pid i) ps) (without (is_fed i) cs) new
  tables-without-producer =
      subst (λ (l : List Outline). AreTables l (without (is_fed i) cs) new)
      (map-none (trimmed (filter stays cs)) (without (is pid i) ps)
      (all-kept (λ p. trimmed (filter stays cs) p ≡ p) (λ p. not (is pid i p)) ps
      (all-map (λ p. p.consumers ≡ places_of cs p.id) (λ p. not (is pid i p) ≡ true → trimmed (filter stays cs) p ≡ p) same-list ps t.lists)))
      (tables-kept ps cs own t (λ p. not (is pid i p)) d1 stays new fed d2 owned d3 (kept-present cid stays cs t.consumers_differ))

-- ---- a Producer more

free-at : (F : ℕ → Bool) (e : Encoding) (es : List Encoding) (s : ℕ) (a b : Bool) → (e.ssrc == s) ≡ a → F e.ssrc ≡ b → b || list_any (λ d. F d.ssrc) es ≡ false → a || is_own es s ≡ true
    → (list_any (λ d. F d.ssrc) es ≡ false → is_own es s ≡ true → F s ≡ false) → F s ≡ false
free-at F e es s a true p q none has more = absurd (true≢false none)
free-at F e es s true false p q none has more = ap F (sym (eqb-true e.ssrc s p)) ∙ q
free-at F e es s false false p q none has more = more none has

-- none of the own SSRCs is one of which the test holds
pub free-of : (F : ℕ → Bool) (es : List Encoding) (s : ℕ) → list_any (λ e. F e.ssrc) es ≡ false → is_own es s ≡ true → F s ≡ false
free-of F [] s none has = absurd (true≢false (sym has))
free-of F (e ∷ es) s none has = free-at F e es s (e.ssrc == s) (F e.ssrc) refl refl none has (free-of F es s)

pub no-value : {X : Type 0} (o : Option X) → is_some o ≡ false → o ≡ None
no-value None h = refl
no-value (Some x) h = absurd (true≢false h)

some-or-none : {X : Type 0} (o : Option X) → cond (is_some o) o None ≡ o
some-or-none None = refl
some-or-none (Some x) = refl

pub no-map : {X Y : Type 0} (g : X → Y) (o : Option X) → option_map g o ≡ None → o ≡ None
no-map g None h = refl
no-map g (Some x) h = absurd (true≢false (ap is_some h))

module _ (ps : List Outline) (cs : List Outlet) (own new : Ssrcs) (t : AreTables ps cs own) (p : Outline) (empty : p.consumers ≡ []) (free : present pid ps p.id ≡ false)
    (apart : list_any (λ e. is_some (owner_in own p.transport e.ssrc)) p.encodings ≡ false)
    (table : (tr : Id) (s : ℕ) → owner_in new tr s ≡ cond (same_id p.transport tr && is_own p.encodings s) (Some p.id.0) (owner_in own tr s))
    (d1 : AreDifferent pid (ps ++ p ∷ [])) (d3 : IsDistinct same_place (map (λ e. e.0) new)) where
  unowned : (tr : Id) (s : ℕ) → owns tr s p ≡ true → owner_in own tr s ≡ None
  unowned tr s has =
      let parts = and-split (same_id p.transport tr) (is_own p.encodings s) has in
      ap (λ b. lookup (same_place (b, s)) own) (sym (same-bytes p.transport.0 tr.0 parts.0))
      ∙ no-value (owner_in own p.transport s) (free-of (λ n. is_some (owner_in own p.transport n)) p.encodings s apart parts.1)

  lead-by : (q : Outline) (s : ℕ) (b : Bool) → owns q.transport s p ≡ b → owner_in own q.transport s ≡ Some q.id.0 → cond b (Some p.id.0) (owner_in own q.transport s) ≡ Some q.id.0
  lead-by q s true e lead = absurd (true≢false (sym (ap is_some lead) ∙ ap is_some (unowned q.transport s e)))
  lead-by q s false e lead = lead

  owner-here : (tr : Id) (s : ℕ) (b : Bool) → owns tr s p ≡ b → cond b (Some p.id.0) (owner_in own tr s) ≡ option_map (λ (q : Outline). q.id.0) (cond (is_some (find (owns tr s) ps)) (find (owns tr s) ps) (cond b (Some p) None))
  owner-here tr s true e =
      let none : find (owns tr s) ps ≡ None = no-map (λ (q : Outline). q.id.0) (find (owns tr s) ps) (sym (t.owners tr s) ∙ unowned tr s e) in
      sym (ap (λ o. option_map (λ (q : Outline). q.id.0) (cond (is_some o) o (Some p))) none)
  owner-here tr s false e = t.owners tr s ∙ sym (ap (option_map (λ (q : Outline). q.id.0)) (some-or-none (find (owns tr s) ps)))

  still-there : (i : Id) (o : Option Outline) (q : Option Outline) → is_some o ≡ true → is_some (cond (is_some o) o q) ≡ true
  still-there i None q h = absurd (true≢false (sym h))
  still-there i (Some x) q h = refl

  pub tables-with-producer : AreTables (ps ++ p ∷ []) cs new
  tables-with-producer = record {
    producers_differ = d1;
    consumers_differ = t.consumers_differ;
    lists = all-push (λ q. q.consumers ≡ places_of cs q.id) ps p t.lists (empty ∙ sym (ap (map place) (none-fed p.id ps cs t.sources free)));
    sources =
        all-map (λ c. present pid ps c.producer ≡ true) (λ c. present pid (ps ++ p ∷ []) c.producer ≡ true)
        (λ c h. ap is_some (find-push (is pid c.producer) ps p) ∙ still-there c.producer (find (is pid c.producer) ps) (cond (is pid c.producer p) (Some p) None) h) cs t.sources;
    leads =
        all-push (λ q. (ssrc : ℕ) → is_own q.encodings ssrc ≡ true → owner_in new q.transport ssrc ≡ Some q.id.0) ps p
        (all-map (λ q. (ssrc : ℕ) → is_own q.encodings ssrc ≡ true → owner_in own q.transport ssrc ≡ Some q.id.0) (λ q. (ssrc : ℕ) → is_own q.encodings ssrc ≡ true → owner_in new q.transport ssrc ≡ Some q.id.0)
        (λ q lead ssrc has. table q.transport ssrc ∙ lead-by q ssrc (owns q.transport ssrc p) refl (lead ssrc has)) ps t.leads)
        (λ ssrc has. table p.transport ssrc ∙ ap (λ b. cond b (Some p.id.0) (owner_in own p.transport ssrc)) (and-join (same_id p.transport p.transport) (is_own p.encodings ssrc) (self-same p.transport.0) has));
    owners = λ tr s. table tr s ∙ (owner-here tr s (owns tr s p) refl ∙ sym (ap (option_map (λ (q : Outline). q.id.0)) (find-push (owns tr s) ps p)));
    places_differ = d3;
  }

-- ---- the list of one Producer is changed

abbrev pub relisted : (List (Id × Id) → List (Id × Id)) → Outline → Outline
relisted h p = record p { consumers = h p.consumers }

module _ (who : Id) (h : List (Id × Id) → List (Id × Id)) where
  abbrev pub relisted-at : List Outline → List Outline
  relisted-at ps = change (λ p. same_id p.id who) (relisted h) ps

  ids-kept-at : (p : Outline) (b : Bool) → (cond b (relisted h p) p).id ≡ p.id
  ids-kept-at p true = refl
  ids-kept-at p false = refl

  ids-kept : (ps : List Outline) → map pid (relisted-at ps) ≡ map pid ps
  ids-kept [] = refl
  ids-kept (p ∷ ps) = let first = ids-kept-at p (same_id p.id who) in let rest = ids-kept ps in (λ j. first j ∷ rest j)

  list-by : (cs : List Outlet) (p : Outline) (b : Bool) → cond b (h p.consumers) p.consumers ≡ places_of cs p.id → (cond b (relisted h p) p).consumers ≡ places_of cs (cond b (relisted h p) p).id
  list-by cs p true is = is
  list-by cs p false is = is

  -- each list tells the new Consumers, if it told the old ones
  lists-by : (cs new : List Outlet)
      → ((p : Outline) → p.consumers ≡ places_of cs p.id → (b : Bool) → same_id p.id who ≡ b → cond b (h p.consumers) p.consumers ≡ places_of new p.id)
      → (ps : List Outline) → AllByRecursion (λ p. p.consumers ≡ places_of cs p.id) ps → AllByRecursion (λ p. p.consumers ≡ places_of new p.id) (relisted-at ps)
  lists-by cs new each [] all = all
  lists-by cs new each (p ∷ ps) all = (list-by new p (same_id p.id who) (each p all.0 (same_id p.id who) refl), lists-by cs new each ps all.1)

  module _ (own : Ssrcs) where
    lead-by-list : (p : Outline) (b : Bool) → ((ssrc : ℕ) → is_own p.encodings ssrc ≡ true → owner_in own p.transport ssrc ≡ Some p.id.0)
        → (ssrc : ℕ) → is_own (cond b (relisted h p) p).encodings ssrc ≡ true → owner_in own (cond b (relisted h p) p).transport ssrc ≡ Some (cond b (relisted h p) p).id.0
    lead-by-list p true lead = lead
    lead-by-list p false lead = lead

    leads-by : (ps : List Outline) → AllByRecursion (λ p. (ssrc : ℕ) → is_own p.encodings ssrc ≡ true → owner_in own p.transport ssrc ≡ Some p.id.0) ps
        → AllByRecursion (λ p. (ssrc : ℕ) → is_own p.encodings ssrc ≡ true → owner_in own p.transport ssrc ≡ Some p.id.0) (relisted-at ps)
    leads-by [] all = all
    leads-by (p ∷ ps) all = (lead-by-list p (same_id p.id who) all.0, leads-by ps all.1)

  owner-by-at : (tr : Id) (s : ℕ) (p : Outline) (b k : Bool) (o q : Option Outline) → owns tr s p ≡ k → option_map (λ (x : Outline). x.id.0) o ≡ option_map (λ (x : Outline). x.id.0) q
      → option_map (λ (x : Outline). x.id.0) (cond (owns tr s (cond b (relisted h p) p)) (Some (cond b (relisted h p) p)) o) ≡ option_map (λ (x : Outline). x.id.0) (cond k (Some p) q)
  owner-by-at tr s p true true o q e more = ap (λ k. option_map (λ (x : Outline). x.id.0) (cond k (Some (relisted h p)) o)) e
  owner-by-at tr s p false true o q e more = ap (λ k. option_map (λ (x : Outline). x.id.0) (cond k (Some p) o)) e
  owner-by-at tr s p true false o q e more = ap (λ k. option_map (λ (x : Outline). x.id.0) (cond k (Some (relisted h p)) o)) e ∙ more
  owner-by-at tr s p false false o q e more = ap (λ k. option_map (λ (x : Outline). x.id.0) (cond k (Some p) o)) e ∙ more

  owner-by-list : (tr : Id) (s : ℕ) (ps : List Outline) → option_map (λ (x : Outline). x.id.0) (find (owns tr s) (relisted-at ps)) ≡ option_map (λ (x : Outline). x.id.0) (find (owns tr s) ps)
  owner-by-list tr s [] = refl
  owner-by-list tr s (p ∷ ps) = owner-by-at tr s p (same_id p.id who) (owns tr s p) (find (owns tr s) (relisted-at ps)) (find (owns tr s) ps) refl (owner-by-list tr s ps)

  present-ids : (ps : List Outline) (i : Id) → present pid ps i ≡ present (λ j. j) (map pid ps) i
  present-ids ps i = sym (present-map pid (λ j. j) ps i)

  present-by : (ps : List Outline) (i : Id) → present pid (relisted-at ps) i ≡ present pid ps i
  present-by ps i = present-ids (relisted-at ps) i ∙ (ap (λ is. present (λ j. j) is i) (ids-kept ps) ∙ sym (present-ids ps i))

  -- the Consumers are others, and the one list with them
  tables-relisted : (ps : List Outline) (cs new : List Outlet) (own : Ssrcs) → AreTables ps cs own → AreDifferent cid new → AllByRecursion (λ c. present pid ps c.producer ≡ true) new
      → ((p : Outline) → p.consumers ≡ places_of cs p.id → (b : Bool) → same_id p.id who ≡ b → cond b (h p.consumers) p.consumers ≡ places_of new p.id) → AreTables (relisted-at ps) new own
  tables-relisted ps cs new own t differ fed each = record {
    producers_differ =
        subst (IsDistinct bytes_eq)
        (sym (map-map pid (λ (i : Id). i.0) ps) ∙ (ap (map (λ (i : Id). i.0)) (sym (ids-kept ps)) ∙ map-map pid (λ (i : Id). i.0) (relisted-at ps))) t.producers_differ;
    consumers_differ = differ;
    lists = lists-by cs new each ps t.lists;
    sources = all-map (λ c. present pid ps c.producer ≡ true) (λ c. present pid (relisted-at ps) c.producer ≡ true) (λ c there. present-by ps c.producer ∙ there) new fed;
    leads = leads-by own ps t.leads;
    owners = λ tr s. t.owners tr s ∙ sym (owner-by-list tr s ps);
    places_differ = t.places_differ;
  }

-- ---- a Consumer more

abbrev pub with-place : Id × Id → List (Id × Id) → List (Id × Id)
with-place at ats = ats ++ at ∷ []

module _ (c : Outlet) where
  list-with : (cs : List Outlet) (p : Outline) (b : Bool) → is_fed p.id c ≡ b → p.consumers ≡ places_of cs p.id → cond b (with-place (place c) p.consumers) p.consumers ≡ places_of (cs ++ c ∷ []) p.id
  list-with cs p true e list = ap (with-place (place c)) list ∙ sym (places-push p.id c cs ∙ ap (λ b. cond b (places_of cs p.id ++ place c ∷ []) (places_of cs p.id)) e)
  list-with cs p false e list = list ∙ sym (places-push p.id c cs ∙ ap (λ b. cond b (places_of cs p.id ++ place c ∷ []) (places_of cs p.id)) e)

  pub tables-with-consumer : (ps : List Outline) (cs : List Outlet) (own : Ssrcs) → AreTables ps cs own → present pid ps c.producer ≡ true → AreDifferent cid (cs ++ c ∷ [])
      → AreTables (relisted-at c.producer (with-place (place c)) ps) (cs ++ c ∷ []) own
  tables-with-consumer ps cs own t fed differ =
      tables-relisted c.producer (with-place (place c)) ps cs (cs ++ c ∷ []) own t differ (all-push (λ o. present pid ps o.producer ≡ true) cs c t.sources fed)
      (λ p list b e. list-with cs p b (swapped c.producer.0 p.id.0 ∙ e) list)

-- ---- a Consumer less

abbrev pub without-place : Id → List (Id × Id) → List (Id × Id)
without-place i ats = without (λ at. same_id at.0 i) ats

module _ (ps : List Outline) (cs : List Outlet) (own : Ssrcs) (t : AreTables ps cs own) (i : Id) (c : Outlet) (found : find (is cid i) cs ≡ Some c)
    (differ : AreDifferent cid (without (is cid i) cs)) where
  -- no other has the id
  only : AllByRecursion (λ d. is cid i d ≡ true → d ≡ c) cs
  only =
      all-map (λ d. find (is cid d.id) cs ≡ Some d) (λ d. is cid i d ≡ true → d ≡ c)
      (λ d there named.
      let same : d.id ≡ i = ap id_of (same-bytes d.id.0 i.0 named) in
      let both : Some d ≡ Some c = sym there ∙ (ap (λ (k : Id). find (is cid k) cs) same ∙ found) in
      cc) cs (founds cid cs t.consumers_differ)

  stays-elsewhere : (p : Id) → is_fed p c ≡ false → (d : Outlet) (b : Bool) → is cid i d ≡ b → (is cid i d ≡ true → d ≡ c) → not b && is_fed p d ≡ is_fed p d
  stays-elsewhere p other d true e same = sym (ap (is_fed p) (same e) ∙ other)
  stays-elsewhere p other d false e same = refl

  list-without : (p : Outline) (b : Bool) → is_fed p.id c ≡ b → p.consumers ≡ places_of cs p.id → cond b (without-place i p.consumers) p.consumers ≡ places_of (without (is cid i) cs) p.id
  list-without p true e list =
      ap (without-place i) list
      ∙ list-kept (λ at. not (same_id at.0 i)) (λ d. not (is cid i d)) p.id cs
      (all-map (λ d. is cid i d ≡ true → d ≡ c) (λ d. not (same_id d.id i) ≡ not (is cid i d)) (λ d same. refl) cs only)
  list-without p false e list =
      list
      ∙ sym (ap (map place) (filter-filter (is_fed p.id) (λ d. not (is cid i d)) cs
      ∙ filter-same (λ d. not (is cid i d) && is_fed p.id d) (is_fed p.id) cs
      (all-map (λ d. is cid i d ≡ true → d ≡ c) (λ d. (not (is cid i d) && is_fed p.id d) ≡ is_fed p.id d) (λ d same. stays-elsewhere p.id e d (is cid i d) refl same) cs only)))

  pub tables-without-consumer : AreTables (relisted-at c.producer (without-place i) ps) (without (is cid i) cs) own
  tables-without-consumer =
      tables-relisted c.producer (without-place i) ps cs (without (is cid i) cs) own t differ
      (all-filter (λ d. present pid ps d.producer ≡ true) (λ d. not (is cid i d)) cs t.sources) (λ p list b e. list-without p b (swapped c.producer.0 p.id.0 ∙ e) list)
