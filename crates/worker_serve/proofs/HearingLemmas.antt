-- How the payloads of a stream are served, one after another.
use Rattle.std.proofs.Common.{◌≡◌, ◌≤◌, ℕ, ◌+◌, List, [], ◌∷◌, ◌++◌, length, map, flat_map, Option, Some, None, Ok, Err, false, refl, sym, ap, subst, ◌∙◌, append_assoc, arith, zero-add}
use Rattle.std.proofs.lemmas.List.{append-nil}
use Rattle.channel_frames.specs.Frames.{frame, frames, is_broken, break_place, begins_too_long, told_length}
use Rattle.channel_frames.specs.Reading.{Reading, drained, max_place, told_place, unstarted, with_piece}
use Rattle.ms_devices.specs.Told.{Tells}
use Rattle.ms_devices.specs.declared.events.OutCall.{OutCall}
use Rattle.worker_calls.specs.State.{Worker}
use Rattle.worker_engine.specs.Run.{Event, payload}
use Rattle.worker_serve.specs.Hearing.{IsBreakAt, IsReadTo, IsTrueOf, IsTrueOfDrained}
use Rattle.worker_serve.specs.Sending.{AddsBy, IsNoBreak, ServedBy, ServedTo, Serves}
use Rattle.worker_serve.specs.Serving.{is_waiting}
use Rattle.worker_serve.specs.declared.fault.ServeFault.{ServeFault}
use Rattle.worker_serve.specs.declared.fault.ServeFault.TheVariants as fault
use Rattle.worker_serve.proofs.EventLemmas.{all_heard, none_heard, served_before, served_then, serves_nothing, serves_then}
use Rattle.worker_serve.proofs.SendingLemmas.{adds_so, adds_then}

-- ---- payload by payload

-- so much of all is served, and this is left
pub record Part (w : Worker) (all : List Event) (v : Worker) (left : List Event) (calls : List OutCall) : Type 0 where
  pub done : List Event
  pub all_is : all ≡ done ++ left
  pub served : Serves w done v calls

-- where the worker waited for nothing
abbrev pub PartBy : Worker → List Event → Worker → List Event → List OutCall → Type 0
PartBy w all v left calls = is_waiting w ≡ false → Part w all v left calls

pub no_part : (w : Worker) (all : List Event) (told : Option (List OutCall)) → Tells (AddsBy (PartBy w all w all)) told told
no_part w all None = tt
no_part w all (Some had) = ([], sym (append-nil had), λ free. record { done = []; all_is = refl; served = serves_nothing w free })

part-more : (w v u : Worker) (all first rest : List Event) (a b : List OutCall) → Part w all v (first ++ rest) a → Serves v first u b → Part w all u rest (a ++ b)
part-more w v u all first rest a b p q =
    record {
      done = p.done ++ first;
      all_is = p.all_is ∙ sym (append_assoc p.done first rest);
      served = serves_then w v u p.done first a b p.served q;
    }

part-cut : (f : ServeFault) → IsNoBreak f → (w v : Worker) (all first rest : List Event) (a b : List OutCall) → Part w all v (first ++ rest) a → ServedTo f v first b → ServedTo f w all (a ++ b)
part-cut f none w v all first rest a b p q =
    subst (λ (x : List Event). ServedTo f w x (a ++ b)) (append_assoc p.done first rest ∙ sym p.all_is)
    (served_before f none w (p.done ++ first) rest (a ++ b) (served_then f w v p.done first a b p.served q))

pub part_more :
    (w v u : Worker) (all : List Event) (left rest : List (List ℕ)) (p : List ℕ) (before middle now : Option (List OutCall)) → left ≡ p ∷ rest
    → Tells (AddsBy (PartBy w all v (map payload left))) before middle → Tells (AddsBy (ServedBy (Ok (tt {0})) v (payload p ∷ []) u)) middle now
    → Tells (AddsBy (PartBy w all u (map payload rest))) before now
part_more w v u all left rest p before middle now is sent more =
    adds_then (PartBy w all v (map payload left)) (ServedBy (Ok (tt {0})) v (payload p ∷ []) u) (PartBy w all u (map payload rest))
    (λ a b x y free.
    let part = subst (λ (ps : List (List ℕ)). Part w all v (map payload ps) a) is (x free) in
    part-more w v u all (payload p ∷ []) (map payload rest) a b part (y part.served.answered)) before middle now sent more

pub part_cut :
    (f : ServeFault) (w v u : Worker) (all : List Event) (left rest : List (List ℕ)) (p : List ℕ) (before middle now : Option (List OutCall)) → IsNoBreak f → left ≡ p ∷ rest
    → Tells (AddsBy (PartBy w all v (map payload left))) before middle → Tells (AddsBy (ServedBy {T = Unit {0}} (Err f) v (payload p ∷ []) u)) middle now
    → Tells (AddsBy (λ calls. is_waiting w ≡ false → ServedTo f w all calls)) before now
part_cut f w v u all left rest p before middle now none is sent more =
    adds_then (PartBy w all v (map payload left)) (ServedBy {T = Unit {0}} (Err f) v (payload p ∷ []) u) (λ calls. is_waiting w ≡ false → ServedTo f w all calls)
    (λ a b x y free.
    let part = subst (λ (ps : List (List ℕ)). Part w all v (map payload ps) a) is (x free) in
    part-cut f none w v all (payload p ∷ []) (map payload rest) a b part (y part.served.answered)) before middle now sent more

-- ---- where no payload is left

part-all : (w v : Worker) (all : List Event) (left : List (List ℕ)) (a : List OutCall) → left ≡ [] → Part w all v (map payload left) a → Serves w all v a
part-all w v all left a none p =
    subst (λ (x : List Event). Serves w x v a)
    (sym (append-nil p.done) ∙ (ap (λ (ps : List (List ℕ)). p.done ++ map payload ps) (sym none) ∙ sym p.all_is)) p.served

-- all is served
pub part_all :
    (w v : Worker) (all : List Event) (left : List (List ℕ)) (before now : Option (List OutCall)) → left ≡ []
    → Tells (AddsBy (PartBy w all v (map payload left))) before now → Tells (AddsBy (ServedBy (Ok (tt {0})) w all v)) before now
part_all w v all left before now none sent =
    adds_so (PartBy w all v (map payload left)) (ServedBy (Ok (tt {0})) w all v) (λ a p free. part-all w v all left a none (p free)) before now sent

part-short : (w v : Worker) (all left : List Event) (a : List OutCall) → Part w all v left a → ServedTo fault.NoMemory w all a
part-short w v all left a p =
    subst (λ (x : List Event). ServedTo fault.NoMemory w x a) (sym p.all_is) (served_before fault.NoMemory tt w p.done left a (all_heard w v p.done a p.served))

-- no further payload can be had: a break comes behind the last, and memory may run out before that
pub part_till :
    (f : ServeFault) (w v : Worker) (all : List Event) (r : Reading) (before now : Option (List OutCall))
    → (f ≡ fault.Write → ⊥) → ((place told : ℕ) → f ≡ fault.TooLong place told → IsBreakAt r place told)
    → Tells (AddsBy (PartBy w all v (map payload (frames r.unread)))) before now → Tells (AddsBy (λ calls. is_waiting w ≡ false → ServedTo f w all calls)) before now
part_till fault.Write w v all r before now no_write break sent = absurd (no_write refl)
part_till (fault.TooLong place told) w v all r before now no_write break sent =
    adds_so (PartBy w all v (map payload (frames r.unread))) (λ calls. is_waiting w ≡ false → ServedTo (fault.TooLong place told) w all calls)
    (λ a p free. (v, part-all w v all (frames r.unread) a (break place told refl).none_left (p free))) before now sent
part_till fault.NoMemory w v all r before now no_write break sent =
    adds_so (PartBy w all v (map payload (frames r.unread))) (λ calls. is_waiting w ≡ false → ServedTo fault.NoMemory w all calls)
    (λ a p free. part-short w v all (map payload (frames r.unread)) a (p free)) before now sent

-- nothing is served, for want of memory
pub none_served : (w v : Worker) (all : List Event) (told : Option (List OutCall)) → Tells (AddsBy (ServedBy {T = Unit {0}} (Err fault.NoMemory) w all v)) told told
none_served w v all None = tt
none_served w v all (Some had) = ([], sym (append-nil had), λ free. none_heard w all)

-- nothing was to be served
pub nothing_served : (w : Worker) (told : Option (List OutCall)) → Tells (AddsBy (ServedBy (Ok (tt {0})) w [] w)) told told
nothing_served w None = tt
nothing_served w (Some had) = ([], sym (append-nil had), λ free. serves_nothing w free)

-- ---- the break

pub break_told :
    (f : ServeFault) (r : Reading) (left : Reading) → drained r ≡ left
    → ((place told : ℕ) → f ≡ fault.TooLong place told → IsBreakAt r place told) → IsTrueOfDrained left f
break_told fault.Write r left is break = tt
break_told (fault.TooLong place told) r left is break =
    let b = break place told refl in
    let at_end : (drained r).place ≡ told_place (r.place + 0) = ap (λ (ps : List (List ℕ)). told_place (r.place + length (flat_map frame ps))) b.none_left in
    let here : place ≤ max_place = b.fits in
    let place_is : place ≡ r.place = b.place_is in
    let same : place ≡ told_place (r.place + 0) = omega arith in (
      ap (λ (x : Reading). begins_too_long x.unread) (sym is) ∙ b.broken,
      same ∙ (sym at_end ∙ ap (λ (x : Reading). x.place) is),
      b.length_is ∙ ap (λ (x : Reading). told_length x.unread) is,
    )
break_told fault.NoMemory r left is break = tt

pub unbroken_before : (r : Reading) (s : Reading) → drained r ≡ drained s → is_broken r.unread ≡ false → is_broken s.unread ≡ false
unbroken_before r s is unbroken = ap (λ (x : Reading). begins_too_long x.unread) (sym is) ∙ unbroken

-- ---- a piece more of the stream

-- a reading goes on from what is left of it
abbrev pub GoesOnFromTheRest : Type 0
GoesOnFromTheRest = (r : Reading) (piece : List ℕ) → drained (with_piece (drained r) piece) ≡ drained (with_piece r piece)

drained-on :
    GoesOnFromTheRest → (r : Reading) (stream bytes : List ℕ) → IsReadTo r stream → drained (with_piece r bytes) ≡ drained (with_piece unstarted (stream ++ bytes))
drained-on law r stream bytes read =
    sym (law r bytes) ∙ (ap (λ (x : Reading). drained (with_piece x bytes)) read.same ∙ law (with_piece unstarted stream) bytes)

pub read_on :
    GoesOnFromTheRest → (r fed now : Reading) (stream bytes : List ℕ) → fed ≡ with_piece r bytes → drained now ≡ drained fed
    → frames now.unread ≡ [] → is_broken fed.unread ≡ false → IsReadTo r stream → IsReadTo now (stream ++ bytes)
read_on law r fed now stream bytes is same none unbroken read =
    let on : drained fed ≡ drained (with_piece unstarted (stream ++ bytes)) = ap drained is ∙ drained-on law r stream bytes read in
    record {
      none_left = none;
      same = same ∙ on;
      unbroken = ap (λ (x : Reading). begins_too_long x.unread) (sym on) ∙ unbroken;
    }

pub break_on :
    GoesOnFromTheRest → (r fed : Reading) (stream bytes : List ℕ) (f : ServeFault) → fed ≡ with_piece r bytes
    → IsTrueOfDrained (drained fed) f → IsReadTo r stream → IsTrueOf (stream ++ bytes) f
break_on law r fed stream bytes fault.Write is told read = tt
break_on law r fed stream bytes (fault.TooLong place length) is told read =
    let on : drained fed ≡ drained (with_piece unstarted (stream ++ bytes)) = ap drained is ∙ drained-on law r stream bytes read in
    record {
      broken = ap (λ (x : Reading). begins_too_long x.unread) (sym on) ∙ told.0;
      place_is = told.1 ∙ (ap (λ (x : Reading). x.place) on ∙ ap told_place (zero-add (break_place (stream ++ bytes))));
      length_is = told.2 ∙ ap (λ (x : Reading). told_length x.unread) on;
    }
break_on law r fed stream bytes fault.NoMemory is told read = tt
