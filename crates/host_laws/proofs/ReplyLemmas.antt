-- A response settles the request of its own id on its own channel.
use Rattle.std.proofs.Common.{◌≡◌, ℕ, List, [], ◌∷◌, Bool, true, false, not, ◌||◌, cond, Option, Some, None, refl, sym, ap, ◌∙◌}
use Rattle.std.specs.List.{filter, find}
use Rattle.serde_json.specs.Data.{Data}
use Rattle.ms_base.specs.declared.keys.WorkerKey.{WorkerKey}
use Rattle.ms_base.specs.declared.outcome.Outcome.{Outcome}
use Rattle.ms_base.specs.declared.outcome.Outcome.TheVariants as outcome
use Rattle.channel_msgs.specs.View.{AnswerView, accepted, refused}
use Rattle.object_tree.specs.declared.object.Mark.{Mark}
use Rattle.object_tree.specs.declared.object.Mark.TheVariants as mark
use Rattle.object_tree.specs.declared.object.Object.{Object}
use Rattle.object_tree.specs.Objects.{is_open, marked, numbered, with_mark}
use Rattle.pending_calls.specs.declared.waiting.Owner.{Owner}
use Rattle.pending_calls.specs.declared.waiting.Owner.TheVariants as owner
use Rattle.request_build.specs.declared.built.Keep.{Keep}
use Rattle.host_requests.specs.declared.request.Request.{Request}
use Rattle.host_requests.specs.Requests.{is_on}
use Rattle.host_model.specs.declared.due.Due.{Due}
use Rattle.host_model.specs.declared.due.Due.TheVariants as due
use Rattle.host_model.specs.Changes.{all_noted, object_opened, owner_settled, turn_notes, turned, turned_from}
use Rattle.host_model.specs.State.{State, Issued, names_of, settled_if, settled_where, waiting, waiting_for}
use Rattle.host_model.specs.Step.{accepted_by, made, opened_by, replied, replied_to, settled_with}

-- ---- what is done of a request issues and settles none

pub owner-requests : (o : Owner) (outcome : Outcome) (names : List (List ℕ)) (s : State) → (owner_settled o outcome names s).requests ≡ s.requests
owner-requests (owner.Call call) outcome names s = refl
owner-requests (owner.Job call part) outcome names s = refl
owner-requests owner.Close outcome names s = refl
owner-requests owner.Follow outcome names s = refl

turned-requests : (o : Option Object) (m : Mark) (s : State) → (turned_from o m s).requests ≡ s.requests
turned-requests None m s = refl
turned-requests (Some o) m s = at (is_open o)
  where
    at : (b : Bool) → (cond b (all_noted (turn_notes o (marked m o)) (record s { objects = with_mark o.serial m s.objects })) s).requests ≡ s.requests
    at true = refl
    at false = refl

opened-requests : (r : Request Due) (keeps : Keep) (o : Option Object) (s : State) → (opened_by r keeps o s).requests ≡ s.requests
opened-requests r keeps None s = owner-requests r.owner _ (names_of r.due) s
opened-requests r keeps (Some o) s = owner-requests r.owner outcome.Done [] (object_opened o keeps s)

accepted-requests : (d : Due) (content : Option Data) (r : Request Due) (s : State) → (accepted_by d content r s).requests ≡ s.requests
accepted-requests (due.Opens object keeps) content r s = opened-requests r keeps (made object object.kind content) s
accepted-requests (due.Turns paused) content r s =
    owner-requests r.owner outcome.Done [] (turned r.under (mark.Paused paused) s) ∙ turned-requests (numbered s.objects r.under) (mark.Paused paused) s
accepted-requests due.Nothing content r s = owner-requests r.owner outcome.Done [] s

settled-requests : (a : AnswerView) (r : Request Due) (s : State) → (settled_with a r s).requests ≡ s.requests
settled-requests (accepted content) r s = accepted-requests r.due content r s
settled-requests (refused error why) r s = owner-requests r.owner (outcome.Worker error why) (names_of r.due) s

-- ---- where none waits that passes a test, none is settled

none-settled : (test : Request Due → Bool) (rs : List Issued) → waiting_for test rs ≡ None → settled_where test rs ≡ rs
none-settled test [] e = refl
none-settled test (x ∷ xs) e = at x.settled (test x.request) refl refl e (none-settled test xs)
  where
    at : (a b : Bool) → x.settled ≡ a → test x.request ≡ b → find test (cond a (waiting xs) (x.request ∷ waiting xs)) ≡ None
        → (find test (waiting xs) ≡ None → settled_where test xs ≡ xs) → settled_where test (x ∷ xs) ≡ x ∷ xs
    at true b is passes none later =
        let same : settled_if test x ≡ x = ap (λ c. record x { settled = c || test x.request }) is ∙ ap (λ c. record x { settled = c }) (sym is) in
        ap (λ (y : Issued). y ∷ settled_where test xs) same ∙ ap (λ (ys : List Issued). x ∷ ys) (later none)
    at false true is passes none later = absurd (some-found passes none)
      where
        some-found : test x.request ≡ true → cond (test x.request) (Some x.request) (find test (waiting xs)) ≡ None → ⊥
        some-found p n = no (sym (ap (λ c. cond c (Some x.request) (find test (waiting xs))) p) ∙ n)
          where
            no : Some x.request ≡ None → ⊥
            no h = cc
    at false false is passes none later =
        let same : settled_if test x ≡ x =
        ap (λ c. record x { settled = c || test x.request }) is ∙ ap (λ c. record x { settled = c }) (passes ∙ sym is) in
        ap (λ (y : Issued). y ∷ settled_where test xs) same
        ∙ ap (λ (ys : List Issued). x ∷ ys) (later (sym (ap (λ c. cond c (Some x.request) (find test (waiting xs))) passes) ∙ none))

-- ---- a response

replied_to-requests : (s : State) (worker : WorkerKey) (id : ℕ) (a : AnswerView) (r : Option (Request Due)) → waiting_for (is_on worker id) s.requests ≡ r
    → (replied_to r worker id a s).requests ≡ settled_where (is_on worker id) s.requests
replied_to-requests s worker id a None e = sym (none-settled (is_on worker id) s.requests e)
replied_to-requests s worker id a (Some r) e = settled-requests a r (record s { requests = settled_where (is_on worker id) s.requests })

pub replied-requests : (s : State) (worker : WorkerKey) (id : ℕ) (a : AnswerView) → (replied worker id a s).requests ≡ settled_where (is_on worker id) s.requests
replied-requests s worker id a = replied_to-requests s worker id a (waiting_for (is_on worker id) s.requests) refl

-- those that wait then are those that don't pass
waiting-settled : (test : Request Due → Bool) (rs : List Issued) → waiting (settled_where test rs) ≡ filter (λ r. not (test r)) (waiting rs)
waiting-settled test [] = refl
waiting-settled test (x ∷ xs) = at x.settled (test x.request) refl (waiting-settled test xs)
  where
    at : (a b : Bool) → test x.request ≡ b → waiting (settled_where test xs) ≡ filter (λ r. not (test r)) (waiting xs)
        → cond (a || b) (waiting (settled_where test xs)) (x.request ∷ waiting (settled_where test xs)) ≡ filter (λ r. not (test r)) (cond a (waiting xs) (x.request ∷ waiting xs))
    at true b e h = h
    at false true e h =
        h ∙ ap (λ c. cond (not c) (x.request ∷ filter (λ r. not (test r)) (waiting xs)) (filter (λ r. not (test r)) (waiting xs))) (sym e)
    at false false e h =
        ap (λ (l : List (Request Due)). x.request ∷ l) h
        ∙ ap (λ c. cond (not c) (x.request ∷ filter (λ r. not (test r)) (waiting xs)) (filter (λ r. not (test r)) (waiting xs))) (sym e)

pub replied-waiting : (s : State) (worker : WorkerKey) (id : ℕ) (a : AnswerView) → waiting (replied worker id a s).requests ≡ filter (λ r. not (is_on worker id r)) (waiting s.requests)
replied-waiting s worker id a = ap waiting (replied-requests s worker id a) ∙ waiting-settled (is_on worker id) s.requests
