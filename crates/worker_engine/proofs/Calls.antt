-- The calls that were made, one after the other.
use Rattle.std.proofs.Common.{◌≡◌, ℕ, List, [], ◌∷◌, ◌++◌, Bool, true, false, ◌||◌, map, Option, Some, None, Result, Ok, Err, refl, sym, ap, subst, ◌∙◌, append_assoc}
use Rattle.std.specs.Prelude.{OnOk, OnErr}
use Rattle.std.specs.List.{list_any}
use Rattle.std.specs.Result.{is_err}
use Rattle.std.proofs.lemmas.List.{append-nil, map-append}
use Rattle.ms_base.specs.declared.tuple.Tuple.{Tuple}
use Rattle.ms_devices.specs.declared.failed.Failed.{Failed}
use Rattle.ms_devices.specs.Told.{Tells, AddsOne}
use Rattle.ms_devices.specs.declared.events.OutCall.{OutCall}
use Rattle.ms_devices.specs.declared.events.OutCall.TheVariants.{Channel, Datagram}
use Rattle.channel_frames.specs.Frames.{frame}
use Rattle.worker_calls.specs.Requests.{Outgoing, say}
use Rattle.worker_engine.specs.Outside.{call_of, unanswered, is_failed_datagram, Made, StopsAtAFault}

pub made-none : (links : ℕ) (o : Option (List OutCall)) → Made [] links links o o
made-none links None = tt
made-none links (Some calls) = record { calls = []; whole = sym (append-nil calls); same = refl; still = λ none. refl }

-- a call on the channel
pub made-channel : (bytes : List ℕ) (failed : Bool) (links later : ℕ) (before now : Option (List OutCall)) → later ≡ links
    → Tells (AddsOne (Channel bytes failed)) before now → Made (Channel bytes failed ∷ []) links later before now
made-channel bytes failed links later None None same told = tt
made-channel bytes failed links later None (Some now) same told = told
made-channel bytes failed links later (Some before) None same told = tt
made-channel bytes failed links later (Some before) (Some now) same told =
    record { calls = Channel bytes failed ∷ []; whole = told; same = refl; still = λ none. same }

or-none : (a b : Bool) → (a || b) ≡ false → (a ≡ false) × (b ≡ false)
or-none true b e = absurd cc
or-none false b e = (refl, e)

-- a datagram, which may have failed
pub made-datagram : (link : ℕ) (to : Tuple) (packet : List ℕ) (failed : Bool) (links later : ℕ) (before now : Option (List OutCall)) → (failed ≡ false → later ≡ links)
    → Tells (AddsOne (Datagram link to packet failed)) before now → Made (Datagram link to packet false ∷ []) links later before now
made-datagram link to packet failed links later None None still told = tt
made-datagram link to packet failed links later None (Some now) still told = told
made-datagram link to packet failed links later (Some before) None still told = tt
made-datagram link to packet failed links later (Some before) (Some now) still told =
    record { calls = Datagram link to packet failed ∷ []; whole = told; same = refl; still = λ none. still (or-none failed false none).0 }

any-parts : (p : OutCall → Bool) (xs ys : List OutCall) → list_any p (xs ++ ys) ≡ false → (list_any p xs ≡ false) × (list_any p ys ≡ false)
any-parts p [] ys none = (refl, none)
any-parts p (x ∷ xs) ys none =
    let first = or-none (p x) (list_any p (xs ++ ys)) none in
    let rest = any-parts p xs ys first.1 in
    (ap (λ b. b || list_any p xs) first.0 ∙ rest.0, rest.1)

pub made-then : (xs ys : List OutCall) (l m n : ℕ) (a b c : Option (List OutCall)) → Made xs l m a b → Made ys m n b c → Made (xs ++ ys) l n a c
made-then xs ys l m n None None None p q = tt
made-then xs ys l m n None None (Some c) p q = absurd q
made-then xs ys l m n None (Some b) c p q = absurd p
made-then xs ys l m n (Some a) None None p q = tt
made-then xs ys l m n (Some a) None (Some c) p q = absurd q
made-then xs ys l m n (Some a) (Some b) None p q = tt
made-then xs ys l m n (Some a) (Some b) (Some c) p q = record {
  calls = p.calls ++ q.calls;
  whole = q.whole ∙ (ap (λ (t : List OutCall). t ++ q.calls) p.whole ∙ append_assoc a p.calls q.calls);
  same = map-append unanswered p.calls q.calls ∙ (ap (λ (t : List OutCall). t ++ map unanswered q.calls) p.same ∙ ap (λ (t : List OutCall). xs ++ t) q.same);
  still = λ none.
      let parts = any-parts is_failed_datagram p.calls q.calls none in
      q.still parts.1 ∙ p.still parts.0;
}

-- what was to go out, and then more
pub outs-then : (xs ys : List Outgoing) (l m n : ℕ) (a b c : Option (List OutCall)) → Made (map call_of xs) l m a b → Made (map call_of ys) m n b c → Made (map call_of (xs ++ ys)) l n a c
outs-then xs ys l m n a b c p q =
    subst (λ (t : List OutCall). Made t l n a c) (sym (map-append call_of xs ys)) (made-then (map call_of xs) (map call_of ys) l m n a b c p q)

-- ---- a call that failed

-- it was the first
pub stops-at : (payload : List ℕ) (l m : ℕ) (a b : Option (List OutCall)) → Made (Channel (frame payload) true ∷ []) l m a b → StopsAtAFault (say payload ∷ []) l m a b
stops-at payload l m a b made = record { sent = []; failed = payload; left = []; outs_are = refl; made = made }

-- more was to go out behind it
pub stops-before : (xs ys : List Outgoing) (l m : ℕ) (a b : Option (List OutCall)) → StopsAtAFault xs l m a b → StopsAtAFault (xs ++ ys) l m a b
stops-before xs ys l m a b s = record {
  sent = s.sent;
  failed = s.failed;
  left = s.left ++ ys;
  outs_are = ap (λ (t : List Outgoing). t ++ ys) s.outs_are ∙ append_assoc s.sent (say s.failed ∷ s.left) ys;
  made = s.made;
}

-- more went out before it
pub stops-behind : (xs ys : List Outgoing) (l m n : ℕ) (a b c : Option (List OutCall)) → Made (map call_of xs) l m a b → StopsAtAFault ys m n b c → StopsAtAFault (xs ++ ys) l n a c
stops-behind xs ys l m n a b c p s = record {
  sent = xs ++ s.sent;
  failed = s.failed;
  left = s.left;
  outs_are = ap (λ (t : List Outgoing). xs ++ t) s.outs_are ∙ sym (append_assoc xs s.sent (say s.failed ∷ s.left));
  made =
      subst (λ (t : List OutCall). Made t l n a c)
      (sym (append_assoc (map call_of xs) (map call_of s.sent) (Channel (frame s.failed) true ∷ []))
      ∙ ap (λ (t : List OutCall). t ++ Channel (frame s.failed) true ∷ []) (sym (map-append call_of xs s.sent)))
      (made-then (map call_of xs) (map call_of s.sent ++ Channel (frame s.failed) true ∷ []) l m n a b c p s.made);
}

-- ---- answers

pub on-ok-map : {T E : Type 0} (P Q : Type 0) (r : Result T E) → (P → Q) → OnOk r P → OnOk r Q
on-ok-map P Q (Ok x) so p = so p
on-ok-map P Q (Err e) so p = tt

pub on-err-map : {T E : Type 0} (P Q : Type 0) (r : Result T E) → (P → Q) → OnErr r P → OnErr r Q
on-err-map P Q (Ok x) so p = tt
on-err-map P Q (Err e) so p = so p

-- a call on the channel for a payload
pub said-made : (r : Result Unit Failed) (bytes payload : List ℕ) (outs : List Outgoing) (links later : ℕ) (before now : Option (List OutCall)) → outs ≡ say payload ∷ []
    → bytes ≡ frame payload → later ≡ links → Tells (AddsOne (Channel bytes (is_err r))) before now → OnOk r (Made (map call_of outs) links later before now)
said-made (Err e) bytes payload outs links later before now are is same told = tt
said-made (Ok x) bytes payload outs links later before now are is same told =
    subst (λ (os : List Outgoing). Made (map call_of os) links later before now) (sym are)
    (subst (λ (b : List ℕ). Made (Channel b false ∷ []) links later before now) is (made-channel bytes false links later before now same told))

pub said-stops : (r : Result Unit Failed) (bytes payload : List ℕ) (outs : List Outgoing) (links later : ℕ) (before now : Option (List OutCall)) → outs ≡ say payload ∷ []
    → bytes ≡ frame payload → later ≡ links → Tells (AddsOne (Channel bytes (is_err r))) before now → OnErr r (StopsAtAFault outs links later before now)
said-stops (Ok x) bytes payload outs links later before now are is same told = tt
said-stops (Err e) bytes payload outs links later before now are is same told =
    subst (λ (os : List Outgoing). StopsAtAFault os links later before now) (sym are)
    (stops-at payload links later before now
    (subst (λ (b : List ℕ). Made (Channel b true ∷ []) links later before now) is (made-channel bytes true links later before now same told)))
