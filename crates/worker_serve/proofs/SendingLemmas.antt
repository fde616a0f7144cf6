-- How calls that were made join: those of a first part, and then those of what follows.
use Rattle.std.proofs.Common.{◌≡◌, ◌<◌, ◌≤◌, ◌+◌, ℕ, suc, List, [], ◌∷◌, ◌++◌, length, map, drop, get_or, All, add-one, drop-cons, Option, Some, None, Result, Ok, Err, OnOk, IfErr, is_err, Bool, true, false, not, is_some, ◌||◌, refl, sym, ap, subst, ◌∙◌, append_assoc, arith}
use Rattle.std.specs.Prelude.{⊤}
use Rattle.std.specs.List.{list_any}
use Rattle.std.specs.Result.{result_ok}
use Rattle.std.proofs.lemmas.List.{append-nil, map-append}
use Rattle.std.proofs.lemmas.List.Elements.{All-cons, All-nil}
use Rattle.std.proofs.lemmas.List.Folds.{list_any-append}
use Rattle.channel_frames.specs.Frames.{frame}
use Rattle.ms_devices.specs.Causes.{HasCause}
use Rattle.ms_devices.specs.Told.{Tells, AddsOne}
use Rattle.ms_devices.specs.declared.events.OutCall.{OutCall}
use Rattle.ms_devices.specs.declared.events.OutCall.TheVariants as call
use Rattle.ms_devices.specs.declared.failed.Failed.{Failed}
use Rattle.rtp_params.specs.Readable.{Each}
use Rattle.worker_requests.specs.Said.{max_said}
use Rattle.worker_calls.specs.Acts.{outgoing, IsShort}
use Rattle.worker_calls.specs.Requests.{Outgoing, say, bind, shut, send}
use Rattle.worker_calls.specs.declared.act.Act.{Act}
use Rattle.worker_calls.specs.declared.act.Act.TheVariants as act
use Rattle.worker_engine.specs.Outside.{Adds, Made, StopsAtAFault as Stops, call_of, is_failed_datagram, unanswered}
use Rattle.worker_serve.specs.Sending.{AddsBy, CountsTo, Goes, IsNoBreak, IsSayable, act_call}
use Rattle.worker_serve.specs.Serving.{IsOfLinks, answers_in, is_failed_on_a_link}
use Rattle.worker_serve.specs.declared.fault.ServeFault.{ServeFault}
use Rattle.worker_serve.specs.declared.fault.ServeFault.TheVariants as fault
use Rattle.worker_serve.proofs.BindLemmas.{AreNoBinds}
use Rattle.worker_serve.proofs.EventLemmas.{answers_in-append, sent_as, sent_before, sent_behind}

-- ---- what is told, one behind the other

pub tells_then :
    {A : Type 0} (P Q R : A → A → Type 0) → ((x y z : A) → P x y → Q y z → R x z) → (x y z : Option A) → Tells P x y → Tells Q y z → Tells R x z
tells_then P Q R join None None None p q = tt
tells_then P Q R join None None (Some c) p q = absurd q
tells_then P Q R join None (Some b) z p q = absurd p
tells_then P Q R join (Some a) None None p q = tt
tells_then P Q R join (Some a) None (Some c) p q = absurd q
tells_then P Q R join (Some a) (Some b) None p q = tt
tells_then P Q R join (Some a) (Some b) (Some c) p q = join a b c p q

pub tells_so : {A : Type 0} (P Q : A → A → Type 0) → ((x y : A) → P x y → Q x y) → (x y : Option A) → Tells P x y → Tells Q x y
tells_so P Q so None None p = tt
tells_so P Q so None (Some b) p = absurd p
tells_so P Q so (Some a) None p = tt
tells_so P Q so (Some a) (Some b) p = so a b p

pub adds_then :
    (P Q R : List OutCall → Type 0) → ((a b : List OutCall) → P a → Q b → R (a ++ b)) → (x y z : Option (List OutCall))
    → Tells (AddsBy P) x y → Tells (AddsBy Q) y z → Tells (AddsBy R) x z
adds_then P Q R join x y z p q =
    tells_then (AddsBy P) (AddsBy Q) (AddsBy R)
    (λ a b c u v. (u.0 ++ v.0, v.1 ∙ (ap (λ w. w ++ v.0) u.1 ∙ append_assoc a u.0 v.0), join u.0 v.0 u.2 v.2)) x y z p q

pub adds_so : (P Q : List OutCall → Type 0) → ((a : List OutCall) → P a → Q a) → (x y : Option (List OutCall)) → Tells (AddsBy P) x y → Tells (AddsBy Q) x y
adds_so P Q so x y p = tells_so (AddsBy P) (AddsBy Q) (λ a b u. (u.0, u.1, so u.0 u.2)) x y p

pub none_sent : (told : Option (List OutCall)) → Tells (AddsBy (λ calls. calls ≡ [])) told told
none_sent None = tt
none_sent (Some had) = ([], sym (append-nil had), refl)

-- ---- the calls so far, in front of those that are still to be made

pub record Left (whole rest calls : List OutCall) : Type 0 where
  pub whole_is : whole ≡ map unanswered calls ++ rest
  pub no_answers : answers_in calls ≡ []

pub nothing_sent : (whole : List OutCall) (told : Option (List OutCall)) → Tells (AddsBy (Left whole whole)) told told
nothing_sent whole None = tt
nothing_sent whole (Some had) = ([], sym (append-nil had), record { whole_is = refl; no_answers = refl })

no-answers-then : (a b : List OutCall) → answers_in a ≡ [] → answers_in b ≡ [] → answers_in (a ++ b) ≡ []
no-answers-then a b p q = answers_in-append a b ∙ (ap (λ (x : List (Option ℕ)). x ++ answers_in b) p ∙ q)

left-more : (whole first rest a b : List OutCall) → Left whole (first ++ rest) a → map unanswered b ≡ first → answers_in b ≡ [] → Left whole rest (a ++ b)
left-more whole first rest a b p is none =
    record {
      whole_is =
          p.whole_is
          ∙ (ap (λ (x : List OutCall). map unanswered a ++ (x ++ rest)) (sym is)
          ∙ (sym (append_assoc (map unanswered a) (map unanswered b) rest) ∙ ap (λ (x : List OutCall). x ++ rest) (sym (map-append unanswered a b))));
      no_answers = no-answers-then a b p.no_answers none;
    }

left-cut :
    (f : ServeFault) (whole first rest a b : List OutCall) → IsNoBreak f → Left whole (first ++ rest) a
    → Goes {T = Unit} (Err f) first b → Goes {T = Unit} (Err f) whole (a ++ b)
left-cut f whole first rest a b none p q =
    record {
      sent =
          sent_as f (map unanswered a ++ (first ++ rest)) whole (map unanswered a ++ map unanswered b) (map unanswered (a ++ b)) (sym p.whole_is) (sym (map-append unanswered a b))
          (sent_behind f (map unanswered a) (first ++ rest) (map unanswered b) (sent_before f none first rest (map unanswered b) q.sent));
      no_answers = no-answers-then a b p.no_answers q.no_answers;
    }

-- a part more
pub sent_more :
    (x : Unit {0}) (whole first rest : List OutCall) (before middle now : Option (List OutCall))
    → Tells (AddsBy (Left whole (first ++ rest))) before middle → Tells (AddsBy (Goes (Ok x) first)) middle now → Tells (AddsBy (Left whole rest)) before now
sent_more x whole first rest before middle now p q =
    adds_then (Left whole (first ++ rest)) (Goes (Ok x) first) (Left whole rest) (λ a b u v. left-more whole first rest a b u v.sent v.no_answers) before middle now p q

-- what was cut off in a part was cut off in the whole
pub sent_cut :
    (f : ServeFault) (whole first rest : List OutCall) (before middle now : Option (List OutCall)) → IsNoBreak f
    → Tells (AddsBy (Left whole (first ++ rest))) before middle → Tells (AddsBy (Goes {T = Unit} (Err f) first)) middle now → Tells (AddsBy (Goes {T = Unit} (Err f) whole)) before now
sent_cut f whole first rest before middle now none p q =
    adds_then (Left whole (first ++ rest)) (Goes {T = Unit} (Err f) first) (Goes {T = Unit} (Err f) whole) (λ a b u v. left-cut f whole first rest a b none u v) before middle now p q

-- all is sent
pub sent_all : (x : Unit {0}) (whole : List OutCall) (before now : Option (List OutCall)) → Tells (AddsBy (Left whole [])) before now → Tells (AddsBy (Goes (Ok x) whole)) before now
sent_all x whole before now p =
    adds_so (Left whole []) (Goes (Ok x) whole) (λ a u. record { sent = sym (u.whole_is ∙ append-nil (map unanswered a)); no_answers = u.no_answers }) before now p

-- ---- counts of faults

pub counts_behind : (f : ServeFault) (before middle now : ℕ) → middle ≡ before → CountsTo f middle now → CountsTo f before now
counts_behind f before middle now is c = subst (λ n. CountsTo f n now) is c

-- ---- a list whose front is taken off, item by item

pub drop_step : {A : Type 0} (xs : List A) (i : ℕ) (x : A) → i < length xs → x ≡ get_or xs i x → drop i xs ≡ x ∷ drop (i + 1) xs
drop_step xs i x lt is = drop-cons xs i x lt ∙ ap (λ y. y ∷ drop (suc i) xs) (sym is) ∙ ap (λ n. x ∷ drop n xs) (sym (add-one i))

-- ---- what an engine sends itself

abbrev pub IsNoBindCall : OutCall → Type 0
IsNoBindCall (call.Bind link ip port) = ⊥
IsNoBindCall (call.Shut link) = ⊤
IsNoBindCall (call.Channel bytes failed) = ⊤
IsNoBindCall (call.Datagram link to packet failed) = ⊤

no-bind-calls : (outs : List Outgoing) → AreNoBinds outs → Each IsNoBindCall (map call_of outs)
no-bind-calls [] none = tt
no-bind-calls (say bytes ∷ outs) none = (tt, no-bind-calls outs none.1)
no-bind-calls (bind link ip ∷ outs) none = absurd none.0
no-bind-calls (shut link ∷ outs) none = (tt, no-bind-calls outs none.1)
no-bind-calls (send link to packet ∷ outs) none = (tt, no-bind-calls outs none.1)

no-binds-front : (sent left : List Outgoing) → AreNoBinds (sent ++ left) → AreNoBinds sent
no-binds-front [] left none = tt
no-binds-front (x ∷ sent) left none = (none.0, no-binds-front sent left none.1)

each-append : (xs ys : List OutCall) → Each IsNoBindCall xs → Each IsNoBindCall ys → Each IsNoBindCall (xs ++ ys)
each-append [] ys a b = b
each-append (x ∷ xs) ys a b = (a.0, each-append xs ys a.1 b)

no-answers : (calls : List OutCall) → Each IsNoBindCall (map unanswered calls) → answers_in calls ≡ []
no-answers [] none = refl
no-answers (call.Bind link ip port ∷ calls) none = absurd none.0
no-answers (call.Shut link ∷ calls) none = no-answers calls none.1
no-answers (call.Channel bytes failed ∷ calls) none = no-answers calls none.1
no-answers (call.Datagram link to packet failed ∷ calls) none = no-answers calls none.1

pub made_goes :
    (x : Unit {0}) (outs : List Outgoing) (links later : ℕ) (before now : Option (List OutCall)) → AreNoBinds outs → Made (map call_of outs) links later before now
    → Tells (AddsBy (Goes (Ok x) (map call_of outs))) before now
made_goes x outs links later before now none made =
    tells_so (Adds (map call_of outs) links later) (AddsBy (Goes (Ok x) (map call_of outs)))
    (λ old new a. (a.calls, a.whole, record { sent = a.same; no_answers = no-answers a.calls (subst (Each IsNoBindCall) (sym a.same) (no-bind-calls outs none)) })) before now made

stopped-sent :
    (outs : List Outgoing) (links later : ℕ) (before now : Option (List OutCall)) (s : Stops outs links later before now) → AreNoBinds outs
    → (calls : List OutCall) → map unanswered calls ≡ map call_of s.sent ++ call.Channel (frame s.failed) true ∷ [] → Goes {T = Unit} (Err fault.Write) (map call_of outs) calls
stopped-sent outs links later before now s none calls is =
    record {
      sent = record {
        made = map call_of s.sent;
        bytes = frame s.failed;
        later = map call_of s.left;
        whole_is = ap (λ (x : List Outgoing). map call_of x) s.outs_are ∙ map-append call_of s.sent (say s.failed ∷ s.left);
        calls_are = is;
      };
      no_answers =
          no-answers calls (subst (Each IsNoBindCall) (sym is)
          (each-append (map call_of s.sent) (call.Channel (frame s.failed) true ∷ [])
          (no-bind-calls s.sent (no-binds-front s.sent (say s.failed ∷ s.left) (subst AreNoBinds s.outs_are none))) (tt, tt)));
    }

pub stopped_goes :
    (outs : List Outgoing) (links later : ℕ) (before now : Option (List OutCall)) → AreNoBinds outs → Stops outs links later before now
    → Tells (AddsBy (Goes {T = Unit} (Err fault.Write) (map call_of outs))) before now
stopped_goes outs links later before now none s =
    tells_so (Adds (map call_of s.sent ++ call.Channel (frame s.failed) true ∷ []) links later) (AddsBy (Goes {T = Unit} (Err fault.Write) (map call_of outs)))
    (λ old new a. (a.calls, a.whole, stopped-sent outs links later before now s none a.calls a.same)) before now s.made

-- ---- acts

-- acts of which the first asks for no link, and of which one alone would
pub acts_sayable : (acts : List Act) → AreNoBinds (map outgoing acts) → Each IsShort (map outgoing acts) → All IsSayable acts
acts_sayable [] none short = All-nil IsSayable
acts_sayable (act.Say bytes ∷ acts) none short =
    let said : length bytes ≤ max_said = short.0 in
    All-cons IsSayable (act.Say bytes) acts (omega (arith, said)) (acts_sayable acts none.1 short.1)
acts_sayable (act.Bind link ip ∷ acts) none short = absurd none.0
acts_sayable (act.Shut link ∷ acts) none short = All-cons IsSayable (act.Shut link) acts tt (acts_sayable acts none.1 short.1)

acts-are-out : (acts : List Act) → map act_call acts ≡ map call_of (map outgoing acts)
acts-are-out [] = refl
acts-are-out (a ∷ acts) = ap (λ (x : List OutCall). act_call a ∷ x) (acts-are-out acts)

-- the acts that an engine gives
pub acts_as_calls : (acts : List Act) (outs : List Outgoing) → map outgoing acts ≡ outs → map act_call acts ≡ map call_of outs
acts_as_calls acts outs is = acts-are-out acts ∙ ap (λ (x : List Outgoing). map call_of x) is

-- they were carried out
pub acts_go :
    (r : Result (Unit {0}) ServeFault) (acts : List Act) (outs : List Outgoing) (before now : Option (List OutCall)) → map outgoing acts ≡ outs
    → Tells (AddsBy (Goes r (map act_call acts))) before now → Tells (AddsBy (Goes r (map call_of outs))) before now
acts_go r acts outs before now is sent = subst (λ (x : List OutCall). Tells (AddsBy (Goes r x)) before now) (acts_as_calls acts outs is) sent

-- ---- the faults of links

either-none : (a b : Bool) → (a || b) ≡ false → (a ≡ false) × (b ≡ false)
either-none true b is = absurd cc
either-none false b is = (refl, is)

pub links_then :
    (a b c : ℕ) (x y z : Option (List OutCall)) → IsOfLinks a b x y → IsOfLinks b c y z → IsOfLinks a c x z
links_then a b c x y z p q =
    let one : a ≤ b = p.never_falls in
    let two : b ≤ c = q.never_falls in
    record {
      never_falls = omega arith;
      still =
          adds_then (λ cs. list_any is_failed_on_a_link cs ≡ false → b ≡ a) (λ cs. list_any is_failed_on_a_link cs ≡ false → c ≡ b)
          (λ cs. list_any is_failed_on_a_link cs ≡ false → c ≡ a) (λ cs ds u v none.
          let parts = either-none (list_any is_failed_on_a_link cs) (list_any is_failed_on_a_link ds) (sym (list_any-append is_failed_on_a_link cs ds) ∙ none) in
          v parts.1 ∙ u parts.0) x y z p.still q.still;
    }

-- where the count is what it was
pub links_same : (P : List OutCall → Type 0) (links later : ℕ) (before now : Option (List OutCall)) → later ≡ links → Tells (AddsBy P) before now → IsOfLinks links later before now
links_same P links later before now is told =
    record { never_falls = omega (arith, is); still = adds_so P (λ cs. list_any is_failed_on_a_link cs ≡ false → later ≡ links) (λ a u none. is) before now told }

pub links_at_rest : (links : ℕ) (told : Option (List OutCall)) → IsOfLinks links links told told
links_at_rest links told = links_same (λ cs. cs ≡ []) links links told told refl (none_sent told)

no-datagram-failed : (calls : List OutCall) → list_any is_failed_on_a_link calls ≡ false → list_any is_failed_datagram calls ≡ false
no-datagram-failed [] none = refl
no-datagram-failed (call.Bind link ip port ∷ calls) none = no-datagram-failed calls (either-none (not (is_some port)) (list_any is_failed_on_a_link calls) none).1
no-datagram-failed (call.Shut link ∷ calls) none = no-datagram-failed calls none
no-datagram-failed (call.Channel bytes failed ∷ calls) none = no-datagram-failed calls none
no-datagram-failed (call.Datagram link to packet failed ∷ calls) none =
    let parts = either-none failed (list_any is_failed_on_a_link calls) none in
    ap (λ (b : Bool). b || list_any is_failed_datagram calls) parts.0 ∙ no-datagram-failed calls parts.1

pub made_links : (wanted : List OutCall) (links later : ℕ) (before now : Option (List OutCall)) → links ≤ later → Made wanted links later before now → IsOfLinks links later before now
made_links wanted links later before now grows made =
    record {
      never_falls = grows;
      still =
          tells_so (Adds wanted links later) (AddsBy (λ cs. list_any is_failed_on_a_link cs ≡ false → later ≡ links))
          (λ old new a. (a.calls, a.whole, λ none. a.still (no-datagram-failed a.calls none))) before now made;
    }

pub stopped_links : (outs : List Outgoing) (links later : ℕ) (before now : Option (List OutCall)) → links ≤ later → Stops outs links later before now → IsOfLinks links later before now
stopped_links outs links later before now grows s =
    made_links (map call_of s.sent ++ call.Channel (frame s.failed) true ∷ []) links later before now grows s.made

-- a link that is opened, or is not
pub bind_links :
    (r : Result ℕ Failed) (link : ℕ) (ip : List ℕ) (links later : ℕ) (before now : Option (List OutCall)) → HasCause links later r
    → Tells (AddsOne (call.Bind link ip (result_ok r))) before now → IsOfLinks links later before now
bind_links (Ok port) link ip links later before now cause told =
    record {
      never_falls = cause.never_falls;
      still =
          tells_so (AddsOne (call.Bind link ip (Some port))) (AddsBy (λ cs. list_any is_failed_on_a_link cs ≡ false → later ≡ links))
          (λ old new is. (call.Bind link ip (Some port) ∷ [], is, λ none. cause.still)) before now told;
    }
bind_links (Err e) link ip links later before now cause told =
    record {
      never_falls = cause.never_falls;
      still =
          tells_so (AddsOne (call.Bind link ip None)) (AddsBy (λ cs. list_any is_failed_on_a_link cs ≡ false → later ≡ links))
          (λ old new is. (call.Bind link ip None ∷ [], is, λ none. absurd cc)) before now told;
    }

-- ---- results

pub ok_so : {T E : Type 0} (P Q R : Type 0) → (P → Q → R) → (r : Result T E) → OnOk r P → OnOk r Q → OnOk r R
ok_so P Q R so (Ok x) p q = so p q
ok_so P Q R so (Err e) p q = tt

pub err_so : {T E : Type 0} (P Q : E → Type 0) → ((e : E) → P e → Q e) → (r : Result T E) → IfErr r P → IfErr r Q
err_so P Q so (Ok x) p = tt
err_so P Q so (Err e) p = so e p

pub ok_here : {T E : Type 0} (P : Type 0) (r : Result T E) → false ≡ is_err r → OnOk r P → P
ok_here P (Ok x) is p = p
ok_here P (Err e) is p = cc
