-- What a request comes to, once it is known what stands.
use Rattle.std.proofs.Common.{◌≡◌, ℕ, List, [], ◌∷◌, ◌++◌, Bool, true, false, cond, map, find, Option, Some, None, option_map, is_some, true≢false, Result, Ok, Err, refl, sym, ap, subst, ◌∙◌}
use Rattle.std.specs.Cmp.Lexicographic.{bytes_decides}
use Rattle.ms_base.specs.declared.id.Id.{Id}
use Rattle.worker_requests.specs.declared.accepted.Accepted.TheVariants.{Done}
use Rattle.worker_requests.specs.declared.notice.WorkerNotice.TheVariants.{ProducerPaused, ProducerResumed}
use Rattle.worker_requests.specs.declared.refusal.Refusal.{Refusal}
use Rattle.worker_requests.specs.declared.refusal.Refusal.TheVariants as refusal
use Rattle.worker_requests.specs.Refusals.{or_refused, ◌>>=◌}
use Rattle.worker_router.specs.State.{RouterState, Source, same_id, producer_of}
use Rattle.worker_router.specs.Calls.{differs, told_of_producer}
use Rattle.worker_calls.specs.declared.fault.Fault.{Fault}
use Rattle.worker_calls.specs.declared.plan.Plan.{Plan}
use Rattle.worker_calls.specs.Acts.{event_notice, pause_event, pause_acts}
use Rattle.worker_calls.specs.Plans.{Plans}
use Rattle.worker_calls.specs.Requests.{Outgoing, Performed, notify, pause_told}
use Rattle.worker_calls.specs.State.{Worker}

pub bound : {A B : Type 0} (s : Result A Refusal) (f : A → Result B Refusal) (x : A) → s ≡ Ok x → (s >>= f) ≡ f x
bound s f x e = ap (λ t. t >>= f) e

-- a plan of one outcome is one of the same outcome
pub planned : (r : Result Plan Fault) (w : Worker) (request : ℕ) (x y : Result Performed Refusal) → y ≡ x → Plans r w request x → Plans r w request y
planned r w request x y e h = subst (Plans r w request) (sym e) h

-- it is done, and these acts go out before the reply
abbrev pub done_with : Worker → List Outgoing → Result Performed Refusal
done_with w acts = Ok (record { worker = w; acts = acts; reply = Some Done })

-- ---- pauses

found-at : (test : Source → Bool) (b : Bool) (x p : Source) (o : Option Source) → test x ≡ b → (o ≡ Some p → test p ≡ true) → cond b (Some x) o ≡ Some p → test p ≡ true
found-at test true x p o t more h = let same : x ≡ p = cc in ap test (sym same) ∙ t
found-at test false x p o t more h = more h

found-passes : (test : Source → Bool) (xs : List Source) (p : Source) → find test xs ≡ Some p → test p ≡ true
found-passes test [] p h = cc
found-passes test (x ∷ xs) p h = found-at test (test x) x p (find test xs) refl (found-passes test xs p) h

own-id : (r : RouterState) (id : Id) (p : Source) → producer_of r id ≡ Some p → p.id ≡ id
own-id r id p h = ap (λ (bytes : List ℕ). record { 0 = bytes }) ((bytes_decides p.id.0 id.0).0 (found-passes (λ q. same_id q.id id) r.producers p h))

noted : (paused : Bool) (ids : List Id) → map (λ c. notify (event_notice (pause_event paused) c)) ids ≡ map (λ c. notify (cond paused (ProducerPaused c) (ProducerResumed c))) ids
noted true ids = refl
noted false ids = refl

pub pauses : (paused : Bool) (r : RouterState) (id : Id) (p : Source) → producer_of r id ≡ Some p
    → pause_acts paused p.stream.paused (told_of_producer r id) ≡ pause_told paused r p
pauses paused r id p h =
    ap (λ (i : Id). pause_acts paused p.stream.paused (told_of_producer r i)) (sym (own-id r id p h))
    ∙ ap (λ (acts : List Outgoing). cond (differs paused p.stream.paused) acts []) (noted paused (told_of_producer r p.id))

pause-at : (behind : Worker) (paused was : Bool) (r : RouterState) (id : Id) (acts : List Outgoing) (o : Option Source) → producer_of r id ≡ o
    → Some was ≡ option_map (λ p. p.stream.paused) o → acts ≡ pause_acts paused was (told_of_producer r id)
    → (or_refused refusal.Missing (producer_of r id) >>= (λ p. done_with behind (pause_told paused r p))) ≡ done_with behind acts
pause-at behind paused was r id acts None h flag e = absurd (true≢false (ap is_some flag))
pause-at behind paused was r id acts (Some p) h flag e =
    let same : was ≡ p.stream.paused = cc in
    ap (λ (o : Option Source). or_refused refusal.Missing o >>= (λ q. done_with behind (pause_told paused r q))) h
    ∙ ap (done_with behind) (sym (e ∙ (ap (λ (b : Bool). pause_acts paused b (told_of_producer r id)) same ∙ pauses paused r id p h)))

-- the flag of a Producer that stands is set
pub pause-done : (behind : Worker) (paused was : Bool) (r : RouterState) (id : Id) (acts : List Outgoing)
    → Some was ≡ option_map (λ p. p.stream.paused) (producer_of r id) → acts ≡ pause_acts paused was (told_of_producer r id)
    → (or_refused refusal.Missing (producer_of r id) >>= (λ p. done_with behind (pause_told paused r p))) ≡ done_with behind acts
pause-done behind paused was r id acts flag e = pause-at behind paused was r id acts (producer_of r id) refl flag e
