-- The payloads that go to a channel are the texts of requests with the ids 1, 2, 3 and so on: through each small change.
use Rattle.std.proofs.Common.{◌≡◌, ℕ, suc, ◌+◌, List, [], ◌∷◌, ◌++◌, length, map, Bool, true, false, cond, Option, Some, None, refl, sym, ap, ◌∙◌, subst, arith, add-zero, count_by}
use Rattle.std.specs.List.{AllByRecursion}
use Rattle.std.proofs.lemmas.List.{append-nil, length_push}
use Rattle.std.proofs.lemmas.List.Concat.{flat_map-append}
use Rattle.ms_base.specs.declared.keys.CallKey.{CallKey}
use Rattle.ms_base.specs.declared.keys.Reason.{Reason}
use Rattle.ms_base.specs.declared.keys.Serial.{Serial}
use Rattle.ms_base.specs.declared.keys.WorkerKey.{WorkerKey}
use Rattle.ms_base.specs.declared.outcome.Outcome.{Outcome}
use Rattle.transcript.specs.declared.note.Note.{Note}
use Rattle.transcript.specs.declared.note.Note.TheVariants as note
use Rattle.object_tree.specs.declared.object.Object.{Object}
use Rattle.object_tree.specs.Falls.{falls, with_closed}
use Rattle.object_tree.specs.Objects.{numbered}
use Rattle.pending_calls.specs.declared.waiting.Owner.{Owner}
use Rattle.pending_calls.specs.declared.waiting.Owner.TheVariants as owner
use Rattle.request_contents.specs.Methods.{ids_of, method_of}
use Rattle.host_awaits.specs.Awaits.{settled_by, times_noted}
use Rattle.host_notes.specs.Keys.{same_worker}
use Rattle.host_requests.specs.declared.request.Request.{Request}
use Rattle.host_requests.specs.Requests.{is_under}
use Rattle.host_model.specs.declared.due.Due.{Due}
use Rattle.host_model.specs.declared.due.Due.TheVariants as due
use Rattle.host_model.specs.State.{State, Issued, as_serial, is_by, issued, settled_if, settled_where, start, with_request}
use Rattle.host_model.specs.Answer.{payload_of}
use Rattle.host_model.specs.Changes.{new_request, opened, owner_settled}
use Rattle.host_model.specs.Falls.{closed_for, closed_note, closed_notes}
use Rattle.host_model.specs.Laws.{AreTextsFrom, IsTextOf, payload_to, payloads_to}
use Rattle.host_model.specs.Run.{Journal, state_of}
use Rattle.host_model.specs.Step.{due_by, first_worker, is_hopeless, new_worker, settled_note, start_request}
use Rattle.host_model.proofs.Along.{along}
use Rattle.host_model.proofs.Changes.{Change, Going, IsPlain, at_rest, has_key, once-entered, step-is, still, both, notes, slots, streams, settles_call, awaits, asks_by, wants, asks_to_close, takes, takes_none, opens, settles_taken, marks, falls_with, settles_awaits}
use Rattle.host_model.proofs.Counts.{count-mapped, count-push, worker-same}
use Rattle.host_model.specs.Fit.{one_if}

-- ---- one text more

texts-more : (n : ℕ) (ps : List (List ℕ)) (p : List ℕ) → AreTextsFrom n ps → IsTextOf (n + length ps) p → AreTextsFrom n (ps ++ p ∷ [])
texts-more n [] p h k = (subst (λ m. IsTextOf m p) (add-zero n) k, tt)
texts-more n (q ∷ ps) p h k =
    let e : n + suc (length ps) ≡ n + 1 + length ps = omega arith in
    (h.0, texts-more (n + 1) ps p h.1 (subst (λ m. IsTextOf m p) e k))

record WrittenTo (worker : WorkerKey) (ns : List Note) (rs : List Issued) : Type 0 where
  texts : AreTextsFrom 1 (payloads_to worker ns)
  whole : length (payloads_to worker ns) ≡ issued rs worker

abbrev WrittenOn : Going → Type 0
WrittenOn g = (worker : WorkerKey) → WrittenTo worker g.state.notes g.state.requests

-- notes that send nothing
written-noted : {w : WorkerKey} {ns : List Note} {rs : List Issued} → WrittenTo w ns rs → (ms : List Note) → payloads_to w ms ≡ [] → WrittenTo w (ns ++ ms) rs
written-noted {w} {ns} {rs} h ms none =
    let same : payloads_to w (ns ++ ms) ≡ payloads_to w ns =
    flat_map-append (payload_to w) ns ms ∙ ap (λ (l : List (List ℕ)). payloads_to w ns ++ l) none ∙ append-nil (payloads_to w ns) in
    record { texts = subst (AreTextsFrom 1) (sym same) h.texts; whole = ap length same ∙ h.whole }

sends-none : (w : WorkerKey) (m : Note) → IsPlain m → payload_to w m ≡ []
sends-none w (note.Sent to payload) h = absurd h
sends-none w other h = refl

plain-none : (w : WorkerKey) (ms : List Note) → AllByRecursion IsPlain ms → payloads_to w ms ≡ []
plain-none w [] h = refl
plain-none w (m ∷ ms) h = ap (λ (l : List (List ℕ)). l ++ payloads_to w ms) (sends-none w m h.0) ∙ plain-none w ms h.1

close-none : (w : WorkerKey) (o : Option Object) → payloads_to w (closed_note o) ≡ []
close-none w None = refl
close-none w (Some o) = at o.closed
  where
    at : (r : Option Reason) → payloads_to w (closed_for o r) ≡ []
    at None = refl
    at (Some why) = refl

closes-none : (w : WorkerKey) (objects : List Object) (serials : List Serial) → payloads_to w (closed_notes objects serials) ≡ []
closes-none w objects [] = refl
closes-none w objects (serial ∷ serials) =
    flat_map-append (payload_to w) (closed_note (numbered objects serial)) (closed_notes objects serials)
    ∙ ap (λ (l : List (List ℕ)). l ++ payloads_to w (closed_notes objects serials)) (close-none w (numbered objects serial))
    ∙ closes-none w objects serials

settle-none : (w : WorkerKey) (es : List (CallKey × Outcome)) → payloads_to w (map settled_note es) ≡ []
settle-none w [] = refl
settle-none w (e ∷ es) = settle-none w es

-- a payload more, of the request with the next id
written-sent : {ns : List Note} {rs : List Issued} → ((w : WorkerKey) → WrittenTo w ns rs) → (channel : WorkerKey) (o : Owner) (under : Serial) (d : Due) (payload : List ℕ)
    → IsTextOf (issued rs channel + 1) payload → (w : WorkerKey)
    → WrittenTo w (ns ++ note.Sent channel payload ∷ []) (with_request (new_request channel (issued rs channel + 1) o under d) rs)
written-sent {ns} {rs} h channel o under d payload text w = at (same_worker channel w) refl
  where
    sent : payloads_to w (ns ++ note.Sent channel payload ∷ []) ≡ payloads_to w ns ++ (cond (same_worker channel w) (payload ∷ []) [] ++ [])
    sent = flat_map-append (payload_to w) ns (note.Sent channel payload ∷ [])

    counted : (q : Issued) → count_by (λ (x : Issued). is_by w x.request.via) (rs ++ q ∷ []) ≡ issued rs w + one_if (is_by w q.request.via)
    counted q = count-push (λ (x : Issued). is_by w x.request.via) rs q

    at : (b : Bool) → same_worker channel w ≡ b → WrittenTo w (ns ++ note.Sent channel payload ∷ []) (with_request (new_request channel (issued rs channel + 1) o under d) rs)
    at true t =
        let more : payloads_to w (ns ++ note.Sent channel payload ∷ []) ≡ payloads_to w ns ++ payload ∷ [] =
        sent ∙ ap (λ b. payloads_to w ns ++ (cond b (payload ∷ []) [] ++ [])) t in
        let own : issued rs channel ≡ issued rs w = ap (issued rs) (worker-same channel w t) in
        let next : issued rs channel + 1 ≡ 1 + length (payloads_to w ns) = (let whole = (h w).whole in omega (arith, own, whole)) in
        let one : one_if (same_worker channel w) ≡ 1 = ap one_if t in
        record {
          texts = subst (AreTextsFrom 1) (sym more) (texts-more 1 (payloads_to w ns) payload (h w).texts (subst (λ n. IsTextOf n payload) next text));
          whole = (let whole = (h w).whole in
              let longer : length (payloads_to w (ns ++ note.Sent channel payload ∷ [])) ≡ length (payloads_to w ns) + 1 = ap length more ∙ length_push (payloads_to w ns) payload in
              omega (arith, whole, longer, one, counted (record { request = new_request channel (issued rs channel + 1) o under d; settled = false })));
        }
    at false t =
        let same : payloads_to w (ns ++ note.Sent channel payload ∷ []) ≡ payloads_to w ns =
        sent ∙ ap (λ b. payloads_to w ns ++ (cond b (payload ∷ []) [] ++ [])) t ∙ append-nil (payloads_to w ns) in
        let none : one_if (same_worker channel w) ≡ 0 = ap one_if t in
        record {
          texts = subst (AreTextsFrom 1) (sym same) (h w).texts;
          whole = (let whole = (h w).whole in
              let still_long : length (payloads_to w (ns ++ note.Sent channel payload ∷ [])) ≡ length (payloads_to w ns) = ap length same in
              omega (arith, whole, still_long, none, counted (record { request = new_request channel (issued rs channel + 1) o under d; settled = false })));
        }

written-settled : {w : WorkerKey} {ns : List Note} {rs : List Issued} → WrittenTo w ns rs → (test : Request Due → Bool) → WrittenTo w ns (settled_where test rs)
written-settled {w} {ns} {rs} h test =
    record {
      texts = h.texts;
      whole = h.whole ∙ sym (count-mapped (λ (x : Issued). is_by w x.request.via) (λ (x : Issued). is_by w x.request.via) (settled_if test) (λ x. refl) rs);
    }

-- a call that waits for a start sends nothing
written-start : {w : WorkerKey} {ns : List Note} {rs : List Issued} → WrittenTo w ns rs → (call : CallKey) (worker : Serial) → WrittenTo w ns (with_request (start_request call worker) rs)
written-start {w} {ns} {rs} h call worker =
    record {
      texts = h.texts;
      whole = (let whole = h.whole in
          omega (arith, whole, count-push (λ (x : Issued). is_by w x.request.via) rs (record { request = start_request call worker; settled = false })));
    }

written-owner : (s : State) (o : Owner) (outcome : Outcome) (names : List (List ℕ)) → ((w : WorkerKey) → WrittenTo w s.notes s.requests)
    → (w : WorkerKey) → WrittenTo w (owner_settled o outcome names s).notes (owner_settled o outcome names s).requests
written-owner s (owner.Call call) outcome names h = λ w. written-noted (h w) (note.Settled call outcome ∷ []) refl
written-owner s (owner.Job call part) outcome names h = h
written-owner s owner.Close outcome names h = h
written-owner s owner.Follow outcome names h = h

written-change : {g h : Going} → Change g h → WrittenOn g → WrittenOn h
written-change still h = h
written-change (both x y) h = written-change y (written-change x h)
written-change (notes ns plain) h = λ w. written-noted (h w) ns (plain-none w ns plain)
written-change (slots worker) h = h
written-change (streams xs) h = h
written-change (settles_call call outcome names) h = λ w. written-noted (h w) (note.Settled call outcome ∷ []) refl
written-change (awaits a) h = h
written-change (asks_by {calls} {taken} {s} call op r channel payload is) h =
    written-sent h channel (owner.Call call) r.under (due_by op r) payload
    (record { id = issued s.requests channel + 1; method = r.method; ids = r.ids; content = r.content }, is.written, refl)
written-change (wants {calls} {taken} {s} call name budget) h =
    λ w.
    written-start (written-noted (written-noted (h w) (opened (new_worker s name) ∷ []) refl) (note.Spawn (first_worker s.slots) ∷ []) refl) call (as_serial s.next.serial)
written-change (asks_to_close {calls} {taken} {s} channel parent asked left) h =
    written-sent h channel owner.Close parent due.Nothing (payload_of (method_of asked) (ids_of asked) None (issued s.requests channel + 1))
    (record { id = issued s.requests channel + 1; method = method_of asked; ids = ids_of asked; content = None }, refl, refl)
written-change (takes key r e) h = λ w. written-settled (h w) (has_key key)
written-change (takes_none key e) h = λ w. written-settled (h w) (has_key key)
written-change (opens r object keeps o is same closed) h = λ w. written-noted (h w) (opened o ∷ []) refl
written-change (settles_taken {calls} {taken} {s} r outcome names) h = written-owner s r.owner outcome names h
written-change (marks serial m keeps) h = h
written-change (falls_with {calls} {s} roots why) h =
    λ w.
    let down : List Serial = falls s.objects roots in
    written-settled
    (written-noted (h w) (closed_notes (with_closed down roots why s.objects) down) (closes-none w (with_closed down roots why s.objects) down)) (is_under down)
written-change (settles_awaits {calls} {taken} {s}) h =
    λ w.
    written-noted (h w) (map settled_note (settled_by (times_noted s.notes) (is_hopeless s) s.awaits))
    (settle-none w (settled_by (times_noted s.notes) (is_hopeless s) s.awaits))

written : (j : Journal) (worker : WorkerKey) → WrittenTo worker (state_of j).notes (state_of j).requests
written j =
    along (λ (s : State). WrittenOn (at_rest s)) (λ s m h. let st = step-is s m in written-change st.change (once-entered WrittenOn s (λ lane. h) (λ worker. h) h m st.start st.entered))
    (start j.seed) j.entries
    (λ w. record { texts = tt; whole = refl })

pub texts-sent : (j : Journal) (worker : WorkerKey) → AreTextsFrom 1 (payloads_to worker (state_of j).notes)
texts-sent j worker = (written j worker).texts

pub each-sent : (j : Journal) (worker : WorkerKey) → length (payloads_to worker (state_of j).notes) ≡ issued (state_of j).requests worker
each-sent j worker = (written j worker).whole
