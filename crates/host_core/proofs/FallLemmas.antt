-- What falls in the tables falls in what is known.
use Rattle.std.proofs.Common.{◌≡◌, ◌+◌, List, [], ◌∷◌, ◌++◌, map, nat_lt, Bool, true, false, ◌&&◌, cond, is_some, IsTrue, Option, Some, None, option_and_then, refl, sym, ap, ◌∙◌, subst, append_assoc}
use Rattle.std.specs.List.{filter, find}
use Rattle.ms_base.specs.declared.keys.Reason.{Reason}
use Rattle.ms_base.specs.declared.keys.Serial.{Serial}
use Rattle.ms_base.specs.declared.keys.WorkerKey.{WorkerKey}
use Rattle.object_tree.specs.declared.object.Object.{Object}
use Rattle.object_tree.specs.Falls.{closed_by, closed_if, falls, falls_with, is_among, reason_of, with_closed}
use Rattle.object_tree.specs.Objects.{has_serial, is_open, numbered, same_serial}
use Rattle.pending_calls.specs.Pending.{max_id}
use Rattle.pending_calls.specs.declared.waiting.Owner.TheVariants as owner
use Rattle.request_build.specs.Close.{close_asked}
use Rattle.request_contents.specs.Methods.{ids_of, method_of}
use Rattle.worker_requests.specs.declared.asked.Asked.{Asked}
use Rattle.host_requests.specs.Requests.{last_on}
use Rattle.host_model.specs.declared.due.Due.TheVariants as due
use Rattle.host_model.specs.Answer.{payload_of}
use Rattle.host_model.specs.Changes.{request_issued}
use Rattle.host_model.specs.Falls.{close_sent, close_sent_by, close_sent_to, close_sent_under, closed_with, closes_sent, fallen, is_known, objects_closed, requests_closed}
use Rattle.host_model.specs.State.{State, channel_of, issued}
use Rattle.host_tables.specs.Kept.{AreThere, IsKept, Moves}
use Rattle.host_tables.specs.declared.tables.Tables.{Tables}
use Rattle.host_core.specs.Closes.{close_by, close_in, close_issued, close_of, close_on, close_under}
use Rattle.host_core.specs.declared.fall.Close.{Close}
use Rattle.host_core.proofs.KeptLemmas.{kept-lasts, kept-slots, kept-tree}
use Rattle.host_core.proofs.Keys.{same-itself}

-- ---- the request that closes an object

module _ (s : State) (fallen : List Serial) where
  abbrev in_state : Object → Option Close
  in_state o = close_of s.objects s.slots (issued s.requests) fallen o

  asked-issued : (o : Object) (parent : Serial) (channel : WorkerKey) (asked : Asked) (b : Bool)
      → close_issued (cond b (Some (record { channel = channel; id = issued s.requests channel + 1; parent = parent; asked = asked })) None) s
      ≡ cond b (request_issued channel owner.Close parent due.Nothing (payload_of (method_of asked) (ids_of asked) None (issued s.requests channel + 1)) s) s
  asked-issued o parent channel asked true = refl
  asked-issued o parent channel asked false = refl

  of-issued : (o : Object) → close_issued (in_state o) s ≡ close_sent_to (Some o) fallen s
  of-issued o = at o.parent
    where
      by : (parent : Serial) (channel : WorkerKey) (asked : Option Asked)
          → close_issued (option_and_then (close_by (issued s.requests) parent channel) asked) s ≡ close_sent_by (Some channel) asked parent s
      by parent channel None = refl
      by parent channel (Some asked) = asked-issued o parent channel asked (nat_lt (issued s.requests channel) max_id)

      on : (parent : Serial) (channel : Option WorkerKey)
          → close_issued (option_and_then (close_on s.objects (issued s.requests) o parent) channel) s ≡ close_sent_by channel (close_asked s.objects o) parent s
      on parent None = refl
      on parent (Some channel) = by parent channel (close_asked s.objects o)

      under : (parent : Serial) (b : Bool)
          → close_issued (cond b None (option_and_then (close_on s.objects (issued s.requests) o parent) (channel_of s.slots o.worker))) s
          ≡ cond b s (close_sent_by (channel_of s.slots o.worker) (close_asked s.objects o) parent s)
      under parent true = refl
      under parent false = on parent (channel_of s.slots o.worker)

      at : (parent : Option Serial) → close_issued (option_and_then (close_under s.objects s.slots (issued s.requests) fallen o) parent) s ≡ close_sent_under parent fallen o s
      at None = refl
      at (Some parent) = under parent (is_among fallen parent)

  in-issued : (o : Option Object) → close_issued (option_and_then in_state o) s ≡ close_sent_to o fallen s
  in-issued None = refl
  in-issued (Some o) = of-issued o

pub close-moves : (t now : Tables) (fallen roots : List Serial) (why : Reason) (serial : Serial) (c : Option Close) → is_known why roots serial ≡ false
    → c ≡ close_in t.tree t.slots.slots (last_on t.requests) fallen serial → Moves (close_issued c) t now → Moves (close_sent fallen roots why serial) t now
close-moves t now fallen roots why serial c unknown is moves = λ s k.
    let objects = kept-tree s t k in
    let slots = kept-slots s t k in
    let lasts = kept-lasts s t k in
    let same : c ≡ close_in s.objects s.slots (issued s.requests) fallen serial = is ∙ (λ i. close_in (objects i) (slots i) (lasts i) fallen serial) in
    let sent : close_issued c s ≡ close_sent fallen roots why serial s =
    ap (λ (x : Option Close). close_issued x s) same ∙ in-issued s fallen (numbered s.objects serial)
    ∙ ap (λ b. cond b s (close_sent_to (numbered s.objects serial) fallen s)) (sym unknown) in
    subst (λ (x : State). IsKept x now) sent (moves s k)

pub known-moves : (t : Tables) (fallen roots : List Serial) (why : Reason) (serial : Serial) → is_known why roots serial ≡ true → Moves (close_sent fallen roots why serial) t t
known-moves t fallen roots why serial known = λ s k.
    subst (λ (x : State). IsKept x t) (ap (λ b. cond b s (close_sent_to (numbered s.objects serial) fallen s)) (sym known)) k

-- ---- one after another

pub sent-more : (fallen roots : List Serial) (why : Reason) (serials : List Serial) (serial : Serial) (s : State)
    → closes_sent fallen roots why (serials ++ serial ∷ []) s ≡ close_sent fallen roots why serial (closes_sent fallen roots why serials s)
sent-more fallen roots why [] serial s = refl
sent-more fallen roots why (x ∷ xs) serial s = sent-more fallen roots why xs serial (close_sent fallen roots why x s)

pub sent-next : (fallen roots : List Serial) (why : Reason) (serials : List Serial) (serial : Serial) (a b c : Tables)
    → Moves (closes_sent fallen roots why serials) a b → Moves (close_sent fallen roots why serial) b c → Moves (closes_sent fallen roots why (serials ++ serial ∷ [])) a c
sent-next fallen roots why serials serial a b c first then = λ s k.
    subst (λ (x : State). IsKept x c) (sym (sent-more fallen roots why serials serial s)) (then (closes_sent fallen roots why serials s) (first s k))

-- ---- those that fall are there

found-behind : (p : Object → Bool) (before rest : List Object) (x : Object) → p x ≡ true → IsTrue (is_some (find p (before ++ x ∷ rest)))
found-behind p [] rest x h = ap (λ b. is_some (cond b (Some x) (find p rest))) h
found-behind p (y ∷ ys) rest x h = at (p y) (found-behind p ys rest x h)
  where
    at : (b : Bool) → IsTrue (is_some (find p (ys ++ x ∷ rest))) → IsTrue (is_some (cond b (Some y) (find p (ys ++ x ∷ rest))))
    at true later = refl
    at false later = later

module _ (test : Object → Bool) where
  there-behind : (before xs : List Object) → AreThere (before ++ xs) (map (λ (o : Object). o.serial) (filter test xs))
  there-behind before [] = tt
  there-behind before (x ∷ xs) =
      at (test x) (subst (λ (os : List Object). AreThere os (map (λ (o : Object). o.serial) (filter test xs))) (append_assoc before (x ∷ []) xs) (there-behind (before ++ x ∷ []) xs))
    where
      at : (b : Bool) → AreThere (before ++ x ∷ xs) (map (λ (o : Object). o.serial) (filter test xs))
          → AreThere (before ++ x ∷ xs) (map (λ (o : Object). o.serial) (cond b (x ∷ filter test xs) (filter test xs)))
      at true later = (found-behind (has_serial x.serial) before xs x (same-itself x.serial.0), later)
      at false later = later

kept-serial : (b : Bool) (o : Object) (why : Reason) → (cond b (closed_by why o) o).serial ≡ o.serial
kept-serial true o why = refl
kept-serial false o why = refl

there-mapped : (f : Object → Object) → ((o : Object) → (f o).serial ≡ o.serial) → (serial : Serial) (xs : List Object) → is_some (numbered (map f xs) serial) ≡ is_some (numbered xs serial)
there-mapped f same serial [] = refl
there-mapped f same serial (x ∷ xs) =
    ap (λ (n : Serial). is_some (cond (same_serial n serial) (Some (f x)) (numbered (map f xs) serial))) (same x) ∙ at (has_serial serial x) (there-mapped f same serial xs)
  where
    at : (b : Bool) → is_some (numbered (map f xs) serial) ≡ is_some (numbered xs serial)
        → is_some (cond b (Some (f x)) (numbered (map f xs) serial)) ≡ is_some (cond b (Some x) (numbered xs serial))
    at true h = refl
    at false h = h

all-there : (objects later : List Object) → ((serial : Serial) → is_some (numbered later serial) ≡ is_some (numbered objects serial)) → (serials : List Serial) → AreThere objects serials → AreThere later serials
all-there objects later same [] h = tt
all-there objects later same (x ∷ xs) h = (same x ∙ h.0, all-there objects later same xs h.1)

pub there-closed : (objects tree : List Object) (fallen roots : List Serial) (why : Reason) → fallen ≡ falls objects roots → tree ≡ with_closed fallen roots why objects → AreThere tree fallen
there-closed objects tree fallen roots why is closed =
    let there : AreThere objects fallen = subst (AreThere objects) (sym is) (there-behind (falls_with objects roots) [] objects) in
    let same : (serial : Serial) → is_some (numbered (with_closed fallen roots why objects) serial) ≡ is_some (numbered objects serial) =
    λ serial.
    there-mapped (closed_if objects fallen roots why) (λ o. kept-serial (is_open o && is_among fallen o.serial) o (reason_of objects fallen roots why o)) serial objects in
    subst (λ (os : List Object). AreThere os fallen) (sym closed) (all-there objects (with_closed fallen roots why objects) same fallen there)

-- ---- all of it

pub fallen-moves : (a b c d : Tables) (serials roots : List Serial) (why : Reason) → serials ≡ falls a.tree roots → Moves (objects_closed serials roots why) a b
    → Moves (requests_closed serials) b c → Moves (closes_sent serials roots why serials) c d → Moves (fallen roots why) a d
fallen-moves a b c d serials roots why is closes settles sends = λ s k.
    let same : serials ≡ falls s.objects roots = is ∙ ap (λ (os : List Object). falls os roots) (kept-tree s a k) in
    subst (λ (l : List Serial). IsKept (closed_with l roots why s) d) same (sends _ (settles _ (closes s k)))
