-- The requests without a settlement, where some are settled and where one is issued.
use Rattle.std.proofs.Common.{◌≡◌, List, [], ◌∷◌, ◌++◌, map, Bool, true, false, not, ◌||◌, cond, Some, refl, sym, ap, subst}
use Rattle.std.specs.List.{AllByRecursion, filter}
use Rattle.host_requests.specs.declared.request.Request.{Request}
use Rattle.host_model.specs.declared.due.Due.{Due}
use Rattle.host_model.specs.State.{Issued, settled_where, waiting, waiting_for, with_request}
use Rattle.host_model.proofs.Changes.{done}
use Rattle.host_model.proofs.Counts.{all-append, all-behind, all-filter, all-found, all-front, all-mapped}

pub waiting-more : (rs : List Issued) (r : Request Due) → waiting (with_request r rs) ≡ waiting rs ++ r ∷ []
waiting-more [] r = refl
waiting-more (x ∷ xs) r = at x.settled (waiting-more xs r)
  where
    at : (b : Bool) → waiting (with_request r xs) ≡ waiting xs ++ r ∷ []
        → cond b (waiting (with_request r xs)) (x.request ∷ waiting (with_request r xs)) ≡ cond b (waiting xs) (x.request ∷ waiting xs) ++ r ∷ []
    at true h = h
    at false h = ap (λ (l : List (Request Due)). x.request ∷ l) h

abbrev pub others : (Request Due → Bool) → List (Request Due) → List (Request Due)
others test rs = filter (λ r. not (test r)) rs

pub waiting-settled : (test : Request Due → Bool) (rs : List Issued) → waiting (settled_where test rs) ≡ others test (waiting rs)
waiting-settled test [] = refl
waiting-settled test (x ∷ xs) = at x.settled (waiting-settled test xs)
  where
    unsettled : (t : Bool) → waiting (settled_where test xs) ≡ others test (waiting xs)
        → cond t (waiting (settled_where test xs)) (x.request ∷ waiting (settled_where test xs)) ≡ cond (not t) (x.request ∷ others test (waiting xs)) (others test (waiting xs))
    unsettled true h = h
    unsettled false h = ap (λ (l : List (Request Due)). x.request ∷ l) h

    at : (b : Bool) → waiting (settled_where test xs) ≡ others test (waiting xs)
        → cond (b || test x.request) (waiting (settled_where test xs)) (x.request ∷ waiting (settled_where test xs)) ≡ others test (cond b (waiting xs) (x.request ∷ waiting xs))
    at true h = h
    at false h = unsettled (test x.request) h

-- ---- what holds of each of those in hand and of those that wait

-- those that don't pass a test
pub all-others : {X : Type 0} (P Q : X → Type 0) (test : X → Bool) → ((x : X) → P x → test x ≡ false → Q x) → (xs : List X) → AllByRecursion P xs
    → AllByRecursion Q (filter (λ x. not (test x)) xs)
all-others P Q test more [] h = tt
all-others P Q test more (x ∷ xs) h = at (test x) refl (all-others P Q test more xs h.1)
  where
    at : (b : Bool) → test x ≡ b → AllByRecursion Q (filter (λ y. not (test y)) xs)
        → AllByRecursion Q (cond (not b) (x ∷ filter (λ y. not (test y)) xs) (filter (λ y. not (test y)) xs))
    at true e rest = rest
    at false e rest = (more x h.0 e, rest)

module _ (P : Request Due → Type 0) (rs : List Issued) (test : Request Due → Bool) where
  all-waiting : AllByRecursion P (waiting rs) → AllByRecursion P (waiting (settled_where test rs))
  all-waiting h = subst (AllByRecursion P) (sym (waiting-settled test rs)) (all-filter P (λ r. not (test r)) (waiting rs) h)

  pub all-settled : (taken : List (Request Due)) → AllByRecursion P (taken ++ waiting rs) → AllByRecursion P (taken ++ waiting (settled_where test rs))
  all-settled taken h =
      all-append P taken (waiting (settled_where test rs)) (all-front P taken (waiting rs) h) (all-waiting (all-behind P taken (waiting rs) h))

  -- one is taken in hand
  pub all-taken : (taken : List (Request Due)) (r : Request Due) → waiting_for test rs ≡ Some r → AllByRecursion P (taken ++ waiting rs)
      → AllByRecursion P (r ∷ (taken ++ waiting (settled_where test rs)))
  all-taken taken r e h = (all-found P test (waiting rs) r (all-behind P taken (waiting rs) h) e, all-settled taken h)

-- all that pass are taken in hand, and nothing is due of them any more
pub all-fallen : (P Q : Request Due → Type 0) (rs : List Issued) (test : Request Due → Bool) → ((r : Request Due) → P r → test r ≡ false → Q r) → ((r : Request Due) → Q (done r))
    → AllByRecursion P (waiting rs) → AllByRecursion Q (map done (filter test (waiting rs)) ++ waiting (settled_where test rs))
all-fallen P Q rs test more none h =
    all-append Q (map done (filter test (waiting rs))) (waiting (settled_where test rs))
    (all-mapped P Q done (λ r k. none r) (filter test (waiting rs)) (all-filter P test (waiting rs) h))
    (subst (AllByRecursion Q) (sym (waiting-settled test rs)) (all-others P Q test more (waiting rs) h))
