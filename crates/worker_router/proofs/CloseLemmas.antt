-- What closes leave of a Router.
use Rattle.std.proofs.Common.{◌≡◌, ℕ, List, [], ◌∷◌, ◌&&◌, ◌||◌, Bool, true, false, cond, not, map, filter, find, Some, bytes_eq, refl, sym, ap, subst, ◌∙◌}
use Rattle.std.specs.List.{AllByRecursion, IsDistinct}
use Rattle.std.specs.Option.{option_map}
use Rattle.ms_base.specs.declared.id.Id.{Id}
use Rattle.worker_router.specs.State.{RouterState, Sink, Source, TransportAt, goes_over, is_of, is_on, same_id}
use Rattle.worker_router.specs.Calls.{change, comes_by, without, without_consumer, without_producer, without_transport}
use Rattle.worker_router.specs.Tables.{AreDifferent, AreTables, FeedView, Outlet, Outline, detached, id_of, outlet_of, outline_of, present, router_of, same_place, with_present}
use Rattle.worker_router.proofs.ListLemmas.{map-map, map-filter, present-map, filter-by, filter-same, kept-by, filter-filter, all-over, all-map, find-map, kept-present, is}
use Rattle.worker_router.proofs.TableLemmas.{and-split, cid, is_fed, pid, relisted, relisted-at, tables-kept, tables-without-consumer, tables-without-producer, trimmed, without-place}
use Rattle.worker_router.proofs.RouterLemmas.{comes-some, feeds-differ, fid, source, source-attach}

abbrev pub sid : Sink → Id
sid s = s.id

abbrev Ssrcs : Type 0
Ssrcs = List ((List ℕ × ℕ) × List ℕ)

-- ---- lists

map-by : {X Y : Type 0} (f g : X → Y) → ((x : X) → f x ≡ g x) → (xs : List X) → map f xs ≡ map g xs
map-by f g same [] = refl
map-by f g same (x ∷ xs) = let here = same x in let rest = map-by f g same xs in (λ j. here j ∷ rest j)

all-of : {X : Type 0} (P : X → Type 0) → ((x : X) → P x) → (xs : List X) → AllByRecursion P xs
all-of P p [] = tt
all-of P p (x ∷ xs) = (p x, all-of P p xs)

de-morgan : (a b : Bool) → not a && not b ≡ not (a || b)
de-morgan true b = refl
de-morgan false b = refl

-- ---- one list of Consumers

relist-at : (h : List (Id × Id) → List (Id × Id)) (f : FeedView) (b : Bool) → outline_of (cond b (record f { consumers = h f.consumers }) f) ≡ cond b (relisted h (outline_of f)) (outline_of f)
relist-at h f true = refl
relist-at h f false = refl

pub outlines-relisted : (who : Id) (h : List (Id × Id) → List (Id × Id)) (fs : List FeedView)
    → map outline_of (change (λ f. same_id f.source.id who) (λ f. record f { consumers = h f.consumers }) fs) ≡ relisted-at who h (map outline_of fs)
outlines-relisted who h [] = refl
outlines-relisted who h (f ∷ fs) = let here = relist-at h f (same_id f.source.id who) in let rest = outlines-relisted who h fs in (λ j. here j ∷ rest j)

-- ---- what is trimmed

outline-present : (cs : List Sink) (f : FeedView) → outline_of (with_present cs f) ≡ trimmed (map outlet_of cs) (outline_of f)
outline-present cs f =
    let make : List (Id × Id) → Outline = λ l. record { id = f.source.id; transport = f.source.transport; encodings = f.source.stream.params.encodings; consumers = l } in
    ap make (filter-by (λ at. present sid cs at.0) (λ at. present cid (map outlet_of cs) at.0) (λ at. sym (present-map outlet_of cid cs at.0)) f.consumers)

outlines-present : (cs : List Sink) (fs : List FeedView) → map outline_of (map (with_present cs) fs) ≡ map (trimmed (map outlet_of cs)) (map outline_of fs)
outlines-present cs fs =
    map-map (with_present cs) outline_of fs
    ∙ (map-by (λ f. outline_of (with_present cs f)) (λ f. trimmed (map outlet_of cs) (outline_of f)) (outline-present cs) fs ∙ sym (map-map outline_of (trimmed (map outlet_of cs)) fs))

pub differ-outlines : (fs : List FeedView) → AreDifferent fid fs → AreDifferent pid (map outline_of fs)
differ-outlines fs d = subst (IsDistinct bytes_eq) (sym (map-map outline_of (λ (p : Outline). p.id.0) fs)) d

pub differ-outlets : (cs : List Sink) → AreDifferent sid cs → AreDifferent cid (map outlet_of cs)
differ-outlets cs d = subst (IsDistinct bytes_eq) (sym (map-map outlet_of (λ (c : Outlet). c.id.0) cs)) d

-- ---- the tables

module _ (fs : List FeedView) (cs : List Sink) (own : Ssrcs) (t : AreTables (map outline_of fs) (map outlet_of cs) own) (s : Outlet → Bool)
    (d2 : AreDifferent sid (filter (λ c. s (outlet_of c)) cs)) where
  abbrev cs1 : List Sink
  cs1 = filter (λ c. s (outlet_of c)) cs

  outlets-are : map outlet_of cs1 ≡ filter s (map outlet_of cs)
  outlets-are = map-filter outlet_of s cs

  d-outlets : AreDifferent cid (filter s (map outlet_of cs))
  d-outlets = subst (AreDifferent cid) outlets-are (differ-outlets cs1 d2)

  module _ (k : Outline → Bool) (new : Ssrcs)
      (fed : (c : Outlet) → s c ≡ true → present fid (filter (λ f. k (outline_of f)) fs) c.producer ≡ true)
      (d1 : AreDifferent fid (filter (λ f. k (outline_of f)) fs))
      (put : new ≡ filter (λ e. present fid (filter (λ f. k (outline_of f)) fs) (id_of e.1)) own) (d3 : IsDistinct same_place (map (λ e. e.0) new)) where
    abbrev fs1 : List FeedView
    fs1 = filter (λ f. k (outline_of f)) fs

    outlines-are : map outline_of fs1 ≡ filter k (map outline_of fs)
    outlines-are = map-filter outline_of k fs

    present-is : (i : Id) → present fid fs1 i ≡ present pid (filter k (map outline_of fs)) i
    present-is i = sym (present-map outline_of pid fs1 i) ∙ ap (λ (ps : List Outline). present pid ps i) outlines-are

    swept : AreTables (map outline_of (map (with_present cs1) fs1)) (map outlet_of cs1) new
    swept =
        subst (λ (os : List Outlet). AreTables (map outline_of (map (with_present cs1) fs1)) os new) (sym outlets-are)
        (subst (λ (ps : List Outline). AreTables ps (filter s (map outlet_of cs)) new)
        (sym (outlines-present cs1 fs1 ∙ (λ j. map (trimmed (outlets-are j)) (outlines-are j))))
        (tables-kept (map outline_of fs) (map outlet_of cs) own t k (subst (AreDifferent pid) outlines-are (differ-outlines fs1 d1)) s new
        (all-of (λ c. s c ≡ true → present pid (filter k (map outline_of fs)) c.producer ≡ true) (λ c e. sym (present-is c.producer) ∙ fed c e) (map outlet_of cs)) d-outlets
        (put ∙ filter-by (λ e. present fid fs1 (id_of e.1)) (λ e. present pid (filter k (map outline_of fs)) (id_of e.1)) (λ e. present-is (id_of e.1)) own) d3
        (kept-present cid s (map outlet_of cs) t.consumers_differ)))

-- ---- the closes of a Router

sources-present : (cs : List Sink) (fs : List FeedView) → map source (map (with_present cs) fs) ≡ map source fs
sources-present cs fs = map-map (with_present cs) source fs

abbrev Closed : (ts : List TransportAt) (r : RouterState) (own : Ssrcs) → List FeedView × List Sink → Type 0
Closed ts r own both = AreTables (map outline_of both.0) (map outlet_of both.1) own × (router_of ts both.0 both.1 ≡ r)

module _ (r : RouterState) (ts : List TransportAt) (fs : List FeedView) (cs : List Sink) (whole : router_of ts fs cs ≡ r) (own : Ssrcs) (t : AreTables (map outline_of fs) (map outlet_of cs) own) where
  pub consumer-closed : (id : Id) (s : Sink) (fs2 : List FeedView) (cs2 : List Sink) → Some s ≡ find (is sid id) cs → cs2 ≡ without (is sid id) cs
      → fs2 ≡ change (λ f. same_id f.source.id s.producer) (detached id) fs → AreDifferent sid cs2
      → AreTables (map outline_of fs2) (map outlet_of cs2) own × (router_of ts fs2 cs2 ≡ without_consumer r id)
  consumer-closed id s fs2 cs2 there p q d =
      let sinks : map outlet_of cs2 ≡ without (is cid id) (map outlet_of cs) = ap (map outlet_of) p ∙ map-filter outlet_of (λ c. not (is cid id c)) cs in
      let feeds : map outline_of fs2 ≡ relisted-at s.producer (without-place id) (map outline_of fs) = ap (map outline_of) q ∙ outlines-relisted s.producer (without-place id) fs in
      let found : find (is cid id) (map outlet_of cs) ≡ Some (outlet_of s) = find-map outlet_of (is cid id) cs ∙ ap (option_map outlet_of) (sym there) in
      let tables : AreTables (relisted-at s.producer (without-place id) (map outline_of fs)) (without (is cid id) (map outlet_of cs)) own =
      tables-without-consumer (map outline_of fs) (map outlet_of cs) own t id (outlet_of s) found (subst (AreDifferent cid) sinks (differ-outlets cs2 d))
      in
      let sources : map source fs2 ≡ map source fs = ap (map source) q ∙ source-attach (λ f. same_id f.source.id s.producer) (detached id) (λ f. refl) fs in (
        subst (λ (ps : List Outline). AreTables ps (map outlet_of cs2) own) (sym feeds)
            (subst (λ (os : List Outlet). AreTables (relisted-at s.producer (without-place id) (map outline_of fs)) os own) (sym sinks) tables),
        (λ j. record { transports = ts; producers = sources j; consumers = p j }) ∙ ap (λ (x : RouterState). without_consumer x id) whole,
      )

  pub producer-closed : (id : Id) (fs1 : List FeedView) (cs2 : List Sink) (new : Ssrcs) → fs1 ≡ without (is fid id) fs → AreDifferent fid fs1 → cs2 ≡ without (is_of id) cs → AreDifferent sid cs2
      → new ≡ filter (λ e. present fid fs1 (id_of e.1)) own → IsDistinct same_place (map (λ e. e.0) new)
      → AreTables (map outline_of fs1) (map outlet_of cs2) new × (router_of ts fs1 cs2 ≡ without_producer r id)
  producer-closed id fs1 cs2 new p d1 q d2 put d3 =
      let feeds : map outline_of fs1 ≡ without (is pid id) (map outline_of fs) = ap (map outline_of) p ∙ map-filter outline_of (λ f. not (is pid id f)) fs in
      let sinks : map outlet_of cs2 ≡ without (is_fed id) (map outlet_of cs) = ap (map outlet_of) q ∙ map-filter outlet_of (λ c. not (is_fed id c)) cs in
      let sources : map source fs1 ≡ without (λ x. same_id x.id id) (map source fs) = ap (map source) p ∙ map-filter source (λ x. not (same_id x.id id)) fs in
      let owned : new ≡ filter (λ e. present pid (without (is pid id) (map outline_of fs)) (id_of e.1)) own =
      put
      ∙ filter-by (λ e. present fid fs1 (id_of e.1)) (λ e. present pid (without (is pid id) (map outline_of fs)) (id_of e.1))
      (λ e. sym (present-map outline_of pid fs1 (id_of e.1)) ∙ ap (λ (ps : List Outline). present pid ps (id_of e.1)) feeds) own
      in
      let tables : AreTables (without (is pid id) (map outline_of fs)) (without (is_fed id) (map outlet_of cs)) new =
      tables-without-producer (map outline_of fs) (map outlet_of cs) own t id new (subst (AreDifferent pid) feeds (differ-outlines fs1 d1)) (subst (AreDifferent cid) sinks (differ-outlets cs2 d2)) owned d3
      in (
        subst (λ (ps : List Outline). AreTables ps (map outlet_of cs2) new) (sym feeds)
            (subst (λ (os : List Outlet). AreTables (without (is pid id) (map outline_of fs)) os new) (sym sinks) tables),
        (λ j. record { transports = ts; producers = sources j; consumers = q j }) ∙ ap (λ (x : RouterState). without_producer x id) whole,
      )

  -- Producers are taken out, and Consumers over a transport
  module _ (k : Outline → Bool) (o : Outlet → Bool) (fs1 fs2 : List FeedView) (cs1 cs2 : List Sink) (new : Ssrcs) (p : fs1 ≡ filter (λ f. k (outline_of f)) fs)
      (d1 : AreDifferent fid fs1) (q : cs1 ≡ filter (λ c. o (outlet_of c)) cs) (a : cs2 ≡ filter (λ c. present fid fs1 c.producer) cs1) (b : fs2 ≡ map (with_present cs2) fs1)
      (d2 : AreDifferent sid cs2) (put : new ≡ filter (λ e. present fid fs1 (id_of e.1)) own) (d3 : IsDistinct same_place (map (λ e. e.0) new)) where
    abbrev left : List FeedView
    left = filter (λ f. k (outline_of f)) fs

    abbrev stays : Outlet → Bool
    stays c = o c && present fid left c.producer

    sinks-are : cs2 ≡ filter (λ c. stays (outlet_of c)) cs
    sinks-are =
        a ∙ ((λ j. filter (λ c. present fid (p j) c.producer) (q j)) ∙ filter-filter (λ c. present fid left c.producer) (λ c. o (outlet_of c)) cs)

    feeds-are : fs2 ≡ map (with_present (filter (λ c. stays (outlet_of c)) cs)) left
    feeds-are = b ∙ (λ j. map (with_present (sinks-are j)) (p j))

    gone : (ts2 : List TransportAt) (r2 : RouterState) → record { transports = ts2; producers = map source left; consumers = filter (λ c. stays (outlet_of c)) cs } ≡ r2
        → AreTables (map outline_of fs2) (map outlet_of cs2) new × (router_of ts2 fs2 cs2 ≡ r2)
    gone ts2 r2 is-r =
        let both = swept fs cs own t stays (subst (AreDifferent sid) sinks-are d2) k new (λ c e. (and-split (o c) (present fid left c.producer) e).1)
        (subst (AreDifferent fid) p d1) (put ∙ ap (λ l. filter (λ e. present fid l (id_of e.1)) own) p) d3
        in
        let view : router_of ts2 (map (with_present (filter (λ c. stays (outlet_of c)) cs)) left) (filter (λ c. stays (outlet_of c)) cs) ≡ r2 =
        ap (λ (ps : List Source). record { transports = ts2; producers = ps; consumers = filter (λ c. stays (outlet_of c)) cs }) (sources-present (filter (λ c. stays (outlet_of c)) cs) left) ∙ is-r
        in
        subst (Closed ts2 r2 new) (sym (λ j. (feeds-are j, sinks-are j))) (both, view)

  there-all : AllByRecursion (λ (c : Sink). present fid fs c.producer ≡ true) cs
  there-all =
      all-map (λ (c : Sink). present pid (map outline_of fs) c.producer ≡ true) (λ c. present fid fs c.producer ≡ true) (λ c h. sym (present-map outline_of pid fs c.producer) ∙ h) cs
      (all-over outlet_of (λ c. present pid (map outline_of fs) c.producer ≡ true) cs t.sources)

  pub transport-closed : (id : Id) (ts2 : List TransportAt) (fs1 fs2 : List FeedView) (cs1 cs2 : List Sink) (new : Ssrcs) → ts2 ≡ without (λ x. same_id x.id id) ts
      → fs1 ≡ without (λ f. is_on id f.source) fs → AreDifferent fid fs1 → cs1 ≡ without (goes_over id) cs
      → cs2 ≡ filter (λ c. present fid fs1 c.producer) cs1 → fs2 ≡ map (with_present cs2) fs1 → AreDifferent sid cs2
      → new ≡ filter (λ e. present fid fs1 (id_of e.1)) own → IsDistinct same_place (map (λ e. e.0) new)
      → AreTables (map outline_of fs2) (map outlet_of cs2) new × (router_of ts2 fs2 cs2 ≡ without_transport r id)
  transport-closed id ts2 fs1 fs2 cs1 cs2 new w p d1 q a b d2 put d3 =
      let keep : FeedView → Bool = λ f. not (is_on id f.source) in
      let sources-are : map source (filter keep fs) ≡ filter (λ (x : Source). not (is_on id x)) (map source fs) = map-filter source (λ x. not (is_on id x)) fs in
      let sinks : filter (λ (c : Sink). not (goes_over id c) && present fid (filter keep fs) c.producer) cs ≡ filter (λ c. not (goes_over id c || comes_by (router_of ts fs cs) id c)) cs =
      filter-same (λ (c : Sink). not (goes_over id c) && present fid (filter keep fs) c.producer) (λ c. not (goes_over id c || comes_by (router_of ts fs cs) id c)) cs
      (all-map (λ (c : Sink). present fid fs c.producer ≡ true)
      (λ c. (not (goes_over id c) && present fid (filter keep fs) c.producer) ≡ not (goes_over id c || comes_by (router_of ts fs cs) id c))
      (λ c there.
      ap (λ v. not (goes_over id c) && v)
      (kept-by fid fs (feeds-differ fs t.producers_differ) keep c.producer there (not (comes_by (router_of ts fs cs) id c)) (λ f e. ap not (comes-some (router_of ts fs cs) ts fs cs refl own t id c f e)))
      ∙ de-morgan (goes_over id c) (comes_by (router_of ts fs cs) id c)) cs there-all)
      in
      gone (λ x. not (same_id x.transport id)) (λ c. not (same_id c.transport id)) fs1 fs2 cs1 cs2 new p d1 q a b d2 put d3 ts2 (without_transport r id)
      ((λ j. record { transports = w j; producers = sources-are j; consumers = sinks j }) ∙ ap (λ (x : RouterState). without_transport x id) whole)
