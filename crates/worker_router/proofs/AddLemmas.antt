-- What an object more makes of a Router.
use Rattle.std.proofs.Common.{◌≡◌, ℕ, List, [], ◌∷◌, ◌++◌, ◌&&◌, Bool, true, false, cond, not, map, find, Option, Some, None, Result, Ok, Err, OnOk, OnErr, is_some, refl, sym, ap, subst, ◌∙◌, true≢false}
use mathlib.Core.Bool.{beq}
use Rattle.std.specs.List.{IsDistinct, list_any}
use Rattle.std.specs.Option.{option_map, option_and_then}
use Rattle.std.specs.Result.{is_err}
use Rattle.ms_base.specs.declared.id.Id.{Id}
use Rattle.rtp_extension.specs.declared.mapped.Flags.{Flags}
use Rattle.rtp_params.specs.Encodings.{is_own}
use Rattle.worker_router.specs.State.{Sink, Source, TransportAt, same_id}
use Rattle.worker_router.specs.Calls.{change, differs, first_flags, or_missing, without}
use Rattle.worker_router.specs.Tables.{AreDifferent, AreTables, FeedView, Outlet, Outline, outlet_of, outline_of, owner_in, present, same_place}
use Rattle.worker_router.proofs.ListLemmas.{map-push, present-map}
use Rattle.worker_router.proofs.TableLemmas.{cid, pid, relisted-at, tables-with-consumer, tables-with-producer, with-place}
use Rattle.worker_router.proofs.RouterLemmas.{consumer-flags, fid, producer-fault, source}
use Rattle.worker_router.proofs.CloseLemmas.{differ-outlets, differ-outlines, outlines-relisted, sid}

abbrev Ssrcs : Type 0
Ssrcs = List ((List ℕ × ℕ) × List ℕ)

-- ---- what a test has shown

pub not-taken : (a b k : Bool) (u : Unit) → Ok u ≡ producer-fault a b k → b ≡ false
not-taken true true k u h = cc
not-taken true false k u h = refl
not-taken false b k u h = cc

pub no-clash : (a b k : Bool) (u : Unit) → Ok u ≡ producer-fault a b k → k ≡ false
no-clash true true k u h = cc
no-clash true false true u h = cc
no-clash true false false u h = refl
no-clash false b k u h = cc

pub is-fed : (paused : Bool) (at : Option TransportAt) (of : Option Source) (taken : Bool) (flags : Flags) → Ok flags ≡ consumer-flags paused at of taken → is_some of ≡ true
is-fed paused None of taken flags h = cc
is-fed paused (Some at) None taken flags h = cc
is-fed paused (Some at) (Some p) taken flags h = refl

pub is-free : (paused : Bool) (at : Option TransportAt) (of : Option Source) (taken : Bool) (flags : Flags) → Ok flags ≡ consumer-flags paused at of taken → taken ≡ false
is-free paused None of taken flags h = cc
is-free paused (Some at) None taken flags h = cc
is-free paused (Some at) (Some p) true flags h = cc
is-free paused (Some at) (Some p) false flags h = refl

pub are-flags : (paused : Bool) (at : Option TransportAt) (of : Option Source) (taken : Bool) (flags : Flags) → Ok flags ≡ consumer-flags paused at of taken
    → option_and_then (λ (t : TransportAt). option_map (λ (p : Source). first_flags t p paused) of) at ≡ Some flags
are-flags paused None of taken flags h = cc
are-flags paused (Some at) None taken flags h = cc
are-flags paused (Some at) (Some p) true flags h = cc
are-flags paused (Some at) (Some p) false flags h = cc

pub when-ok : {A E : Type 0} (r : Result A E) (P : Type 0) → OnOk r P → false ≡ is_err r → P
when-ok (Ok a) P p e = p
when-ok (Err x) P p e = absurd (true≢false (sym e))

pub when-err : {A E : Type 0} (r : Result A E) (P : Type 0) → OnErr r P → true ≡ is_err r → P
when-err (Ok a) P p e = absurd (true≢false e)
when-err (Err x) P p e = p

-- ---- a Producer

pub producer-added : (fs fs2 : List FeedView) (cs : List Sink) (own new : Ssrcs) → AreTables (map outline_of fs) (map outlet_of cs) own → (f : FeedView) → fs2 ≡ fs ++ f ∷ [] → f.consumers ≡ []
    → is_some (find (λ g. same_id g.source.id f.source.id) fs) ≡ false
    → list_any (λ e. is_some (owner_in own f.source.transport e.ssrc)) f.source.stream.params.encodings ≡ false
    → ((tr : Id) (s : ℕ) → owner_in new tr s ≡ cond (same_id f.source.transport tr && is_own f.source.stream.params.encodings s) (Some f.source.id.0) (owner_in own tr s))
    → AreDifferent fid fs2 → IsDistinct same_place (map (λ e. e.0) new)
    → AreTables (map outline_of fs2) (map outlet_of cs) new
producer-added fs fs2 cs own new t f put empty free apart table d1 d3 =
    let pushed = map-push outline_of fs f in
    subst (λ (l : List FeedView). AreTables (map outline_of l) (map outlet_of cs) new) (sym put)
    (subst (λ (ps : List Outline). AreTables ps (map outlet_of cs) new) (sym pushed)
    (tables-with-producer (map outline_of fs) (map outlet_of cs) own new t (outline_of f) empty (present-map outline_of pid fs f.source.id ∙ free) apart table
    (subst (AreDifferent pid) pushed (differ-outlines (fs ++ f ∷ []) (subst (AreDifferent fid) put d1))) d3))

-- ---- a Consumer

abbrev pub attach : Id → Id → FeedView → FeedView
attach id transport f = record f { consumers = f.consumers ++ (id, transport) ∷ [] }

pub consumer-added : (fs fs2 : List FeedView) (cs cs2 : List Sink) (own : Ssrcs) → AreTables (map outline_of fs) (map outlet_of cs) own → (s : Sink) → cs2 ≡ cs ++ s ∷ []
    → fs2 ≡ change (λ f. same_id f.source.id s.producer) (attach s.id s.transport) fs → present fid fs s.producer ≡ true → AreDifferent sid cs2
    → AreTables (map outline_of fs2) (map outlet_of cs2) own
consumer-added fs fs2 cs cs2 own t s p q fed d =
    let feeds : map outline_of fs2 ≡ relisted-at s.producer (with-place (s.id, s.transport)) (map outline_of fs) = ap (map outline_of) q ∙ outlines-relisted s.producer (with-place (s.id, s.transport)) fs in
    let sinks : map outlet_of cs2 ≡ map outlet_of cs ++ outlet_of s ∷ [] = ap (map outlet_of) p ∙ map-push outlet_of cs s in
    subst (λ (ps : List Outline). AreTables ps (map outlet_of cs2) own) (sym feeds)
    (subst (λ (os : List Outlet). AreTables (relisted-at s.producer (with-place (s.id, s.transport)) (map outline_of fs)) os own) (sym sinks)
    (tables-with-consumer (outlet_of s) (map outline_of fs) (map outlet_of cs) own t (present-map outline_of pid fs s.producer ∙ fed)
    (subst (AreDifferent cid) sinks (differ-outlets cs2 d))))

none-out-at : (i : Id) (c : Sink) (cs ys : List Sink) (b : Bool) → same_id c.id i ≡ b → is_some (cond b (Some c) (find (λ s. same_id s.id i) cs)) ≡ false
    → (is_some (find (λ s. same_id s.id i) cs) ≡ false → ys ≡ cs) → cond (not b) (c ∷ ys) ys ≡ c ∷ cs
none-out-at i c cs ys true e none more = absurd (true≢false none)
none-out-at i c cs ys false e none more = ap (λ l. c ∷ l) (more none)

-- one that was added last and goes out again
pub out-again : (i : Id) (cs : List Sink) (s : Sink) → same_id s.id i ≡ true → is_some (find (λ c. same_id c.id i) cs) ≡ false → without (λ c. same_id c.id i) (cs ++ s ∷ []) ≡ cs
out-again i [] s same none = ap (λ b. cond (not b) (s ∷ []) []) same
out-again i (c ∷ cs) s same none = none-out-at i c cs (without (λ x. same_id x.id i) (cs ++ s ∷ [])) (same_id c.id i) refl none (λ n. out-again i cs s same n)

-- ---- a pause

differ-is : (before paused : Bool) → not (beq before paused) ≡ differs paused before
differ-is true true = refl
differ-is true false = refl
differ-is false true = refl
differ-is false false = refl

pub pause-answer : (paused before : Bool) (o : Option FeedView) (q : Option Source) → Some before ≡ option_map (λ (f : FeedView). f.source.stream.paused) o → option_map source o ≡ q
    → Ok (not (beq before paused)) ≡ or_missing (option_map (λ (p : Source). differs paused p.stream.paused) q)
pause-answer paused before None q e is = absurd (true≢false (ap is_some e))
pause-answer paused before (Some f) q e is =
    let same : before ≡ f.source.stream.paused = cc in
    ap (λ b. Ok b) (differ-is before paused ∙ ap (differs paused) same) ∙ ap (λ (o : Option Source). or_missing (option_map (λ (p : Source). differs paused p.stream.paused) o)) is
