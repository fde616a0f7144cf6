-- How parts of what a worker hears and of what it sends join.
use Rattle.std.proofs.Common.{◌≡◌, ℕ, List, [], ◌∷◌, ◌++◌, true, false, map, Option, None, Result, Ok, Err, OnOk, refl, sym, ap, subst, ◌∙◌, append_assoc}
use Rattle.std.proofs.lemmas.List.{append-nil, map-append}
use Rattle.ms_devices.specs.declared.events.OutCall.{OutCall}
use Rattle.ms_devices.specs.declared.events.OutCall.TheVariants as call
use Rattle.worker_calls.specs.Requests.{Outgoing, bind, out_bound}
use Rattle.worker_calls.specs.State.{Worker}
use Rattle.worker_engine.specs.Outside.{call_of, unanswered}
use Rattle.worker_engine.specs.Run.{Event, payload, datagram, bound, after, after_all, out, out_from}
use Rattle.worker_serve.specs.Sending.{Goes, IsCut, IsNoBreak, Opens, SentBy, SentTo, ServedBy, ServedTo, Serves, calls_from}
use Rattle.worker_serve.specs.Serving.{AreHeard, IsAnswered, answers_in, given_in, is_bound, is_waiting, ports_in}
use Rattle.worker_serve.specs.declared.carry_out.Asked.{Asked}
use Rattle.worker_serve.specs.declared.fault.ServeFault.{ServeFault}
use Rattle.worker_serve.specs.declared.fault.ServeFault.TheVariants as fault
use Rattle.worker_serve.proofs.BindLemmas.{bound_waits}

-- ---- lists

given_in-append : (es fs : List Event) → given_in (es ++ fs) ≡ given_in es ++ given_in fs
given_in-append [] fs = refl
given_in-append (payload bytes ∷ es) fs = ap (λ (x : List Event). payload bytes ∷ x) (given_in-append es fs)
given_in-append (datagram link from packet ∷ es) fs = ap (λ (x : List Event). datagram link from packet ∷ x) (given_in-append es fs)
given_in-append (bound port ∷ es) fs = given_in-append es fs

ports_in-append : (es fs : List Event) → ports_in (es ++ fs) ≡ ports_in es ++ ports_in fs
ports_in-append [] fs = refl
ports_in-append (payload bytes ∷ es) fs = ports_in-append es fs
ports_in-append (datagram link from packet ∷ es) fs = ports_in-append es fs
ports_in-append (bound port ∷ es) fs = ap (λ (x : List (Option ℕ)). port ∷ x) (ports_in-append es fs)

pub answers_in-append : (cs ds : List OutCall) → answers_in (cs ++ ds) ≡ answers_in cs ++ answers_in ds
answers_in-append [] ds = refl
answers_in-append (call.Bind link ip port ∷ cs) ds = ap (λ (x : List (Option ℕ)). port ∷ x) (answers_in-append cs ds)
answers_in-append (call.Shut link ∷ cs) ds = answers_in-append cs ds
answers_in-append (call.Channel bytes failed ∷ cs) ds = answers_in-append cs ds
answers_in-append (call.Datagram link to packet failed ∷ cs) ds = answers_in-append cs ds

answered-append : (w : Worker) (es fs : List Event) → IsAnswered w es → IsAnswered (after_all w es) fs → IsAnswered w (es ++ fs)
answered-append w [] fs a b = b
answered-append w (e ∷ es) fs a b = (a.0, answered-append (after w e) es fs a.1 b)

pub after-append : (w : Worker) (es fs : List Event) → after_all w (es ++ fs) ≡ after_all (after_all w es) fs
after-append w [] fs = refl
after-append w (e ∷ es) fs = after-append (after w e) es fs

out-append : (w : Worker) (es fs : List Event) → out_from w (es ++ fs) ≡ out_from w es ++ out_from (after_all w es) fs
out-append w [] fs = refl
out-append w (e ∷ es) fs =
    ap (λ (x : List Outgoing). out w e ++ x) (out-append (after w e) es fs) ∙ sym (append_assoc (out w e) (out_from (after w e) es) (out_from (after_all (after w e) es) fs))

calls-append : (w : Worker) (es fs : List Event) → calls_from w (es ++ fs) ≡ calls_from w es ++ calls_from (after_all w es) fs
calls-append w es fs =
    ap (λ (x : List Outgoing). map call_of x) (out-append w es fs) ∙ map-append call_of (out_from w es) (out_from (after_all w es) fs)

heard-then :
    (w : Worker) (ga gb : List Event) (a b : List OutCall) (es fs : List Event)
    → AreHeard w ga a es → AreHeard (after_all w es) gb b fs → AreHeard w (ga ++ gb) (a ++ b) (es ++ fs)
heard-then w ga gb a b es fs p q =
    record {
      given_is =
          given_in-append es fs
          ∙ (ap (λ (x : List Event). x ++ given_in fs) p.given_is ∙ ap (λ (x : List Event). ga ++ x) q.given_is);
      answers_are =
          ports_in-append es fs
          ∙ (ap (λ (x : List (Option ℕ)). x ++ ports_in fs) p.answers_are
          ∙ (ap (λ (x : List (Option ℕ)). answers_in a ++ x) q.answers_are ∙ sym (answers_in-append a b)));
      in_step = answered-append w es fs p.in_step q.in_step;
    }

-- what is sent in front of a part
calls-then :
    (w : Worker) (es fs : List Event) (a : List OutCall) → map unanswered a ≡ calls_from w es
    → calls_from w (es ++ fs) ≡ map unanswered a ++ calls_from (after_all w es) fs
calls-then w es fs a is = calls-append w es fs ∙ ap (λ (x : List OutCall). x ++ calls_from (after_all w es) fs) (sym is)

-- ---- what was sent

pub sent_behind : (f : ServeFault) (front whole calls : List OutCall) → SentTo f whole calls → SentTo f (front ++ whole) (front ++ calls)
sent_behind fault.Write front whole calls s =
    record {
      made = front ++ s.made;
      bytes = s.bytes;
      later = s.later;
      whole_is = ap (λ (x : List OutCall). front ++ x) s.whole_is ∙ sym (append_assoc front s.made (call.Channel s.bytes false ∷ s.later));
      calls_are = ap (λ (x : List OutCall). front ++ x) s.calls_are ∙ sym (append_assoc front s.made (call.Channel s.bytes true ∷ []));
    }
sent_behind (fault.TooLong place told) front whole calls s = ap (λ (x : List OutCall). front ++ x) s
sent_behind fault.NoMemory front whole calls s = (s.0, ap (λ (x : List OutCall). front ++ x) s.1 ∙ sym (append_assoc front calls s.0))

-- and what was to go out behind it didn't
pub sent_before : (f : ServeFault) → IsNoBreak f → (whole rest calls : List OutCall) → SentTo f whole calls → SentTo f (whole ++ rest) calls
sent_before fault.Write none whole rest calls s =
    record {
      made = s.made;
      bytes = s.bytes;
      later = s.later ++ rest;
      whole_is = ap (λ (x : List OutCall). x ++ rest) s.whole_is ∙ append_assoc s.made (call.Channel s.bytes false ∷ s.later) rest;
      calls_are = s.calls_are;
    }
sent_before (fault.TooLong place told) none whole rest calls s = absurd none
sent_before fault.NoMemory none whole rest calls s = (s.0 ++ rest, ap (λ (x : List OutCall). x ++ rest) s.1 ∙ append_assoc calls s.0 rest)

pub sent_as : (f : ServeFault) (whole whole2 calls calls2 : List OutCall) → whole ≡ whole2 → calls ≡ calls2 → SentTo f whole calls → SentTo f whole2 calls2
sent_as f whole whole2 calls calls2 is are s =
    subst (λ (x : List OutCall). SentTo f x calls2) is (subst (λ (x : List OutCall). SentTo f whole x) are s)

-- ---- parts of what is served

pub serves_nothing : (w : Worker) → is_waiting w ≡ false → Serves w [] w []
serves_nothing w free =
    record { events = []; heard = record { given_is = refl; answers_are = refl; in_step = tt }; state = refl; answered = free; sent = refl }

pub serves_then : (w v u : Worker) (ga gb : List Event) (a b : List OutCall) → Serves w ga v a → Serves v gb u b → Serves w (ga ++ gb) u (a ++ b)
serves_then w v u ga gb a b p r =
    let q = subst (λ (x : Worker). Serves x gb u b) p.state r in
    record {
      events = p.events ++ q.events;
      heard = heard-then w ga gb a b p.events q.events p.heard q.heard;
      state = q.state ∙ sym (after-append w p.events q.events);
      answered = q.answered;
      sent =
          map-append unanswered a b
          ∙ (ap (λ (x : List OutCall). map unanswered a ++ x) q.sent ∙ sym (calls-then w p.events q.events a p.sent));
    }

cut-then : (f : ServeFault) (w v : Worker) (ga gb : List Event) (a b : List OutCall) → Serves w ga v a → IsCut f v gb b → IsCut f w (ga ++ gb) (a ++ b)
cut-then f w v ga gb a b p r =
    let q = subst (λ (x : Worker). IsCut f x gb b) p.state r in
    record {
      events = p.events ++ q.events;
      first = ga ++ q.first;
      rest = q.rest;
      given_is = ap (λ (x : List Event). ga ++ x) q.given_is ∙ sym (append_assoc ga q.first q.rest);
      heard = heard-then w ga q.first a b p.events q.events p.heard q.heard;
      sent =
          sent_as f (map unanswered a ++ calls_from (after_all w p.events) q.events) (calls_from w (p.events ++ q.events))
          (map unanswered a ++ map unanswered b) (map unanswered (a ++ b)) (sym (calls-then w p.events q.events a p.sent)) (sym (map-append unanswered a b))
          (sent_behind f (map unanswered a) (calls_from (after_all w p.events) q.events) (map unanswered b) q.sent);
    }

cut-before : (f : ServeFault) (w : Worker) (given rest : List Event) (a : List OutCall) → IsCut f w given a → IsCut f w (given ++ rest) a
cut-before f w given rest a c =
    record {
      events = c.events;
      first = c.first;
      rest = c.rest ++ rest;
      given_is = ap (λ (x : List Event). x ++ rest) c.given_is ∙ append_assoc c.first c.rest rest;
      heard = c.heard;
      sent = c.sent;
    }

-- nothing of it is heard, for want of memory
pub none_heard : (w : Worker) (given : List Event) → IsCut fault.NoMemory w given []
none_heard w given =
    record { events = []; first = []; rest = given; given_is = refl; heard = record { given_is = refl; answers_are = refl; in_step = tt }; sent = ([], refl) }

-- all of it is, and then memory runs out
pub all_heard : (w v : Worker) (given : List Event) (a : List OutCall) → Serves w given v a → IsCut fault.NoMemory w given a
all_heard w v given a p =
    record {
      events = p.events;
      first = given;
      rest = [];
      given_is = sym (append-nil given);
      heard = p.heard;
      sent = ([], sym p.sent ∙ sym (append-nil (map unanswered a)));
    }

pub served_then :
    (f : ServeFault) (w v : Worker) (ga gb : List Event) (a b : List OutCall) → Serves w ga v a → ServedTo f v gb b → ServedTo f w (ga ++ gb) (a ++ b)
served_then fault.Write w v ga gb a b p q = cut-then fault.Write w v ga gb a b p q
served_then (fault.TooLong place told) w v ga gb a b p q = (q.0, serves_then w v q.0 ga gb a b p q.1)
served_then fault.NoMemory w v ga gb a b p q = cut-then fault.NoMemory w v ga gb a b p q

pub served_before : (f : ServeFault) → IsNoBreak f → (w : Worker) (given rest : List Event) (a : List OutCall) → ServedTo f w given a → ServedTo f w (given ++ rest) a
served_before fault.Write none w given rest a c = cut-before fault.Write w given rest a c
served_before (fault.TooLong place told) none w given rest a c = absurd none
served_before fault.NoMemory none w given rest a c = cut-before fault.NoMemory w given rest a c

-- ---- one event

calls-of-one : (w : Worker) (e : Event) → map call_of (out w e) ≡ calls_from w (e ∷ [])
calls-of-one w e = ap (λ (x : List Outgoing). map call_of x) (sym (append-nil (out w e)))

-- events that were heard, of which what went out was cut off
cut-at : (f : ServeFault) (w : Worker) (given : List Event) (a : List OutCall) (events : List Event) → AreHeard w given a events → SentTo f (calls_from w events) (map unanswered a) → IsCut f w given a
cut-at f w given a events heard sent =
    record { events = events; first = given; rest = []; given_is = sym (append-nil given); heard = heard; sent = sent }

-- all that was given was heard as these events
served-as :
    (r : Result Unit ServeFault) (w left : Worker) (given : List Event) (calls : List OutCall) (events : List Event)
    → (is_waiting w ≡ false → AreHeard w given calls events) → OnOk r (left ≡ after_all w events) → (is_waiting w ≡ false → is_waiting (after_all w events) ≡ false)
    → SentBy r (calls_from w events) (map unanswered calls) → ServedBy r w given left calls
served-as (Ok x) w left given calls events heard state waits sent = λ free.
    record { events = events; heard = heard free; state = state; answered = ap is_waiting state ∙ waits free; sent = sent }
served-as (Err fault.Write) w left given calls events heard state waits sent = λ free. cut-at fault.Write w given calls events (heard free) sent
served-as (Err (fault.TooLong place told)) w left given calls events heard state waits sent = λ free.
    (after_all w events, record { events = events; heard = heard free; state = refl; answered = waits free; sent = sent })
served-as (Err fault.NoMemory) w left given calls events heard state waits sent = λ free. cut-at fault.NoMemory w given calls events (heard free) sent

-- an event behind which the worker doesn't wait for a link
pub serves_one :
    (r : Result Unit ServeFault) (w left : Worker) (e : Event) (calls : List OutCall)
    → given_in (e ∷ []) ≡ e ∷ [] → ports_in (e ∷ []) ≡ [] → is_bound e ≡ false → is_waiting (after w e) ≡ is_waiting w
    → OnOk r (left ≡ after w e) → Goes r (map call_of (out w e)) calls → ServedBy r w (e ∷ []) left calls
serves_one r w left e calls given ports here same state goes =
    served-as r w left (e ∷ []) calls (e ∷ [])
    (λ free. record { given_is = given; answers_are = ports ∙ sym goes.no_answers; in_step = (here ∙ sym free, tt) }) state (λ free. same ∙ free)
    (subst (λ (x : List OutCall). SentBy r x (map unanswered calls)) (calls-of-one w e) goes.sent)

sent-one-more : (r : Result Unit ServeFault) (one : OutCall) (whole calls : List OutCall) → SentBy r whole calls → SentBy r (one ∷ whole) (one ∷ calls)
sent-one-more (Ok x) one whole calls s = ap (λ (x : List OutCall). one ∷ x) s
sent-one-more (Err f) one whole calls s = sent_behind f (one ∷ []) whole calls s

-- a payload by which it asks for a link, and the answer
pub serves_bound :
    (r : Result Unit ServeFault) (w left : Worker) (bytes : List ℕ) (asked : Asked) (calls : List OutCall)
    → out w (payload bytes) ≡ bind asked.link asked.ip ∷ [] → is_waiting (after w (payload bytes)) ≡ true
    → Opens r (after w (payload bytes)) asked left calls → ServedBy r w (payload bytes ∷ []) left calls
serves_bound r w left bytes asked calls alone waits o =
    let v = after w (payload bytes) in
    let es = payload bytes ∷ bound o.port ∷ [] in
    let whole : call.Bind asked.link asked.ip None ∷ map call_of (out_bound v o.port) ≡ calls_from w es =
    ap (λ (x : List Outgoing). call.Bind asked.link asked.ip None ∷ map call_of x) (sym (append-nil (out_bound v o.port)))
    ∙ ap (λ (x : List Outgoing). map call_of (x ++ (out_bound v o.port ++ []))) (sym alone) in
    served-as r w left (payload bytes ∷ []) calls es
    (λ free. record {
      given_is = refl;
      answers_are = ap (λ (x : List (Option ℕ)). o.port ∷ x) (sym o.goes.no_answers) ∙ ap answers_in (sym o.calls_are);
      in_step = (sym free, (sym waits, tt));
    }) o.state (λ free. bound_waits v o.port)
    (subst (λ (x : List OutCall). SentBy r (calls_from w es) (map unanswered x)) (sym o.calls_are)
    (subst (λ (x : List OutCall). SentBy r x (call.Bind asked.link asked.ip None ∷ map unanswered o.later)) whole
    (sent-one-more r (call.Bind asked.link asked.ip None) (map call_of (out_bound v o.port)) (map unanswered o.later) o.goes.sent)))
