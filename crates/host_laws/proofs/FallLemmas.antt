-- What a fall makes of objects, requests and slots: what comes behind the close of the objects only issues requests.
use Rattle.std.proofs.Common.{◌≡◌, ℕ, List, [], ◌∷◌, ◌++◌, length, map, take, nat_lt, Bool, true, false, not, ◌&&◌, cond, Option, Some, None, refl, sym, ap, ◌∙◌, append_assoc}
use Rattle.std.specs.List.{filter}
use Rattle.std.proofs.lemmas.List.{append-nil, length-map}
use Rattle.ms_base.specs.declared.keys.Reason.{Reason}
use Rattle.ms_base.specs.declared.keys.Serial.{Serial}
use Rattle.ms_base.specs.declared.keys.WorkerKey.{WorkerKey}
use Rattle.ms_base.specs.declared.outcome.Outcome.{Outcome}
use Rattle.ms_base.specs.declared.outcome.Outcome.TheVariants as outcome
use Rattle.channel_msgs.specs.Read.{max_id}
use Rattle.object_tree.specs.declared.object.Object.{Object}
use Rattle.object_tree.specs.Falls.{closed_by, closed_if, falls, is_among, reason_of}
use Rattle.object_tree.specs.Objects.{is_open, numbered}
use Rattle.pending_calls.specs.declared.waiting.Owner.{Owner}
use Rattle.pending_calls.specs.declared.waiting.Owner.TheVariants as owner
use Rattle.request_build.specs.Close.{close_asked}
use Rattle.worker_requests.specs.declared.asked.Asked.{Asked}
use Rattle.host_requests.specs.declared.request.Request.{Request}
use Rattle.host_requests.specs.Requests.{is_under}
use Rattle.host_model.specs.declared.due.Due.{Due}
use Rattle.host_model.specs.Changes.{owner_settled}
use Rattle.host_model.specs.Falls.{all_closed, close_sent, close_sent_by, close_sent_to, close_sent_under, closes_sent, fallen, is_known, name_of, objects_closed, request_closed, requests_closed, with_over}
use Rattle.host_model.specs.State.{State, Issued, channel_of, issued, names_of, settled_if, settled_where, waiting}
use Rattle.host_laws.proofs.ApartLemmas.{asks_close}

-- objects and slots stay, and requests come behind the others
record Issues (s t : State) : Type 0 where
  objects : t.objects ≡ s.objects
  slots : t.slots ≡ s.slots
  more : List Issued
  requests : t.requests ≡ s.requests ++ more

issues-none : (s t : State) → t.objects ≡ s.objects → t.slots ≡ s.slots → t.requests ≡ s.requests → Issues s t
issues-none s t objects slots requests = record { objects = objects; slots = slots; more = []; requests = requests ∙ sym (append-nil s.requests) }

issues-still : (s : State) → Issues s s
issues-still s = issues-none s s refl refl refl

issues-then : {s t u : State} → Issues s t → Issues t u → Issues s u
issues-then {s} {t} {u} h k =
    record {
      objects = k.objects ∙ h.objects;
      slots = k.slots ∙ h.slots;
      more = h.more ++ k.more;
      requests = k.requests ∙ ap (λ (rs : List Issued). rs ++ k.more) h.requests ∙ append_assoc s.requests h.more k.more;
    }

issues-either : (b : Bool) (s t u : State) → Issues s t → Issues s u → Issues s (cond b t u)
issues-either true s t u h k = h
issues-either false s t u h k = k

issues-owner : (o : Owner) (outcome : Outcome) (names : List (List ℕ)) (s : State) → Issues s (owner_settled o outcome names s)
issues-owner (owner.Call call) outcome names s = issues-none s (owner_settled (owner.Call call) outcome names s) refl refl refl
issues-owner (owner.Job call part) outcome names s = issues-still s
issues-owner owner.Close outcome names s = issues-still s
issues-owner owner.Follow outcome names s = issues-still s

issues-closed : (rs : List (Request Due)) (s : State) → Issues s (all_closed rs s)
issues-closed [] s = issues-still s
issues-closed (r ∷ rs) s = issues-then (issues-owner r.owner (outcome.Closed (name_of s.objects r.under)) (names_of r.due) s) (issues-closed rs (request_closed r s))

issues-by : (channel : Option WorkerKey) (asked : Option Asked) (parent : Serial) (s : State) → Issues s (close_sent_by channel asked parent s)
issues-by (Some channel) (Some asked) parent s =
    issues-either (nat_lt (issued s.requests channel) max_id) s (asks_close channel asked parent s) s
    (record { objects = refl; slots = refl; more = _; requests = refl }) (issues-still s)
issues-by (Some channel) None parent s = issues-still s
issues-by None asked parent s = issues-still s

issues-under : (parent : Option Serial) (down : List Serial) (o : Object) (s : State) → Issues s (close_sent_under parent down o s)
issues-under None down o s = issues-still s
issues-under (Some parent) down o s =
    issues-either (is_among down parent) s s (close_sent_by (channel_of s.slots o.worker) (close_asked s.objects o) parent s) (issues-still s)
    (issues-by (channel_of s.slots o.worker) (close_asked s.objects o) parent s)

issues-to : (o : Option Object) (down : List Serial) (s : State) → Issues s (close_sent_to o down s)
issues-to None down s = issues-still s
issues-to (Some o) down s = issues-under o.parent down o s

issues-all : (down roots : List Serial) (why : Reason) (serials : List Serial) (s : State) → Issues s (closes_sent down roots why serials s)
issues-all down roots why [] s = issues-still s
issues-all down roots why (serial ∷ serials) s =
    issues-then
    (issues-either (is_known why roots serial) s s (close_sent_to (numbered s.objects serial) down s) (issues-still s) (issues-to (numbered s.objects serial) down s))
    (issues-all down roots why serials (close_sent down roots why serial s))

-- the objects and slots have fallen, and the requests under them are settled
abbrev shut_of : List Serial → Reason → State → State
shut_of roots why s = record (objects_closed (falls s.objects roots) roots why s) { requests = settled_where (is_under (falls s.objects roots)) s.requests }

issues-fallen : (roots : List Serial) (why : Reason) (s : State) → Issues (shut_of roots why s) (fallen roots why s)
issues-fallen roots why s =
    let down : List Serial = falls s.objects roots in
    let shut = objects_closed down roots why s in
    issues-then (issues-closed (filter (is_under down) (waiting s.requests)) (shut_of roots why s)) (issues-all down roots why down (requests_closed down shut))

-- ---- what that comes to

closed-one : (down roots : List Serial) (why : Reason) (objects : List Object) (o : Object)
    → is_open (closed_if objects down roots why o) ≡ (is_open o && not (is_among down o.serial))
closed-one down roots why objects o = at (is_open o) (is_among down o.serial) refl
  where
    at : (a b : Bool) → is_open o ≡ a → is_open (cond (a && b) (closed_by (reason_of objects down roots why o) o) o) ≡ (a && not b)
    at true true e = refl
    at true false e = e
    at false b e = e

map-same : {X Y : Type 0} (f g : X → Y) → ((x : X) → f x ≡ g x) → (xs : List X) → map f xs ≡ map g xs
map-same f g same [] = refl
map-same f g same (x ∷ xs) = ap (λ y. y ∷ map f xs) (same x) ∙ ap (λ ys. g x ∷ ys) (map-same f g same xs)

map-twice : {X Y Z : Type 0} (g : Y → Z) (f : X → Y) (xs : List X) → map g (map f xs) ≡ map (λ x. g (f x)) xs
map-twice g f [] = refl
map-twice g f (x ∷ xs) = ap (λ ys. g (f x) ∷ ys) (map-twice g f xs)

pub fall-closes : (roots : List Serial) (why : Reason) (s : State)
    → map is_open (fallen roots why s).objects ≡ map (λ o. is_open o && not (is_among (falls s.objects roots) o.serial)) s.objects
fall-closes roots why s =
    let down : List Serial = falls s.objects roots in
    ap (map is_open) (issues-fallen roots why s).objects
    ∙ map-twice is_open (closed_if s.objects down roots why) s.objects
    ∙ map-same (λ o. is_open (closed_if s.objects down roots why o)) (λ o. is_open o && not (is_among down o.serial)) (closed-one down roots why s.objects) s.objects

take-front : {X : Type 0} (xs ys : List X) → take (length xs) (xs ++ ys) ≡ xs
take-front [] ys = refl
take-front (x ∷ xs) ys = ap (λ zs. x ∷ zs) (take-front xs ys)

pub fall-settles : (roots : List Serial) (why : Reason) (s : State)
    → take (length s.requests) (fallen roots why s).requests ≡ settled_where (is_under (falls s.objects roots)) s.requests
fall-settles roots why s =
    let settled = settled_where (is_under (falls s.objects roots)) s.requests in
    let came = issues-fallen roots why s in
    ap (take (length s.requests)) came.requests
    ∙ ap (λ n. take n (settled ++ came.more)) (sym (length-map s.requests (settled_if (is_under (falls s.objects roots)))))
    ∙ take-front settled came.more

pub fall-ends : (roots : List Serial) (why : Reason) (s : State) → (fallen roots why s).slots ≡ with_over (falls s.objects roots) why s.slots
fall-ends roots why s = (issues-fallen roots why s).slots
