-- The ids that go to a channel, through each small change.
use Rattle.std.proofs.Common.{◌≡◌, ℕ, ◌+◌, List, Bool, false, refl, sym, ap, ◌∙◌, subst}
use Rattle.std.proofs.lemmas.Bool.{true≢false}
use Rattle.ms_base.specs.declared.keys.Serial.{Serial}
use Rattle.ms_base.specs.declared.keys.WorkerKey.{WorkerKey}
use Rattle.ms_base.specs.declared.outcome.Outcome.{Outcome}
use Rattle.pending_calls.specs.declared.waiting.Owner.{Owner}
use Rattle.pending_calls.specs.declared.waiting.Owner.TheVariants as owner
use Rattle.object_tree.specs.Falls.{falls}
use Rattle.host_requests.specs.declared.request.Request.{Request}
use Rattle.host_requests.specs.declared.request.Via.TheVariants.{Start}
use Rattle.host_requests.specs.Requests.{is_under}
use Rattle.host_model.specs.declared.due.Due.{Due}
use Rattle.host_model.specs.declared.due.Due.TheVariants as due
use Rattle.host_model.specs.State.{State, Issued, as_serial, is_by, issued, settled_if, settled_where, start, with_request}
use Rattle.host_model.specs.Changes.{new_request, owner_settled}
use Rattle.host_model.specs.Laws.{AreNumbered, id_in}
use Rattle.host_model.specs.Run.{Journal, state_of}
use Rattle.host_model.specs.Step.{Micro, due_by, start_request, step}
use Rattle.host_model.proofs.Along.{along}
use Rattle.host_model.proofs.Changes.{Change, Entered, Going, has_key, at_rest, once-entered, step-is, still, both, notes, slots, streams, settles_call, awaits, asks_by, wants, asks_to_close, takes, takes_none, opens, settles_taken, marks, falls_with, settles_awaits}
use Rattle.host_model.proofs.Counts.{worker-same}
use Rattle.host_model.proofs.InARow.{AreFromOne, picked-kept, picked-more}

abbrev number_of : Issued → ℕ
number_of r = id_in r.request.via

abbrev goes_to : WorkerKey → Issued → Bool
goes_to w r = is_by w r.request.via

pub numbered-settled : (test : Request Due → Bool) (rs : List Issued) → AreNumbered rs → AreNumbered (settled_where test rs)
numbered-settled test rs h = λ w. subst AreFromOne (sym (picked-kept number_of (goes_to w) (settled_if test) (λ r. refl) (λ r. refl) rs)) (h w)

pub numbered-sent : (rs : List Issued) (channel : WorkerKey) (o : Owner) (under : Serial) (d : Due) → AreNumbered rs → AreNumbered (with_request (new_request channel (issued rs channel + 1) o under d) rs)
numbered-sent rs channel o under d h =
    λ w. picked-more number_of (goes_to w) rs (record { request = new_request channel (issued rs channel + 1) o under d; settled = false }) (h w)
    (λ t. ap (λ k. issued rs k + 1) (worker-same channel w t))

pub numbered-start : (rs : List Issued) (r : Request Due) → r.via ≡ Start → AreNumbered rs → AreNumbered (with_request r rs)
numbered-start rs r is h =
    λ w. picked-more number_of (goes_to w) rs (record { request = r; settled = false }) (h w) (λ t. absurd (true≢false (sym t ∙ ap (is_by w) is)))

abbrev pub NumberedOn : Going → Type 0
NumberedOn g = AreNumbered g.state.requests

numbered-owner : (s : State) (o : Owner) (outcome : Outcome) (names : List (List ℕ)) → AreNumbered s.requests → AreNumbered (owner_settled o outcome names s).requests
numbered-owner s (owner.Call call) outcome names h = h
numbered-owner s (owner.Job call part) outcome names h = h
numbered-owner s owner.Close outcome names h = h
numbered-owner s owner.Follow outcome names h = h

pub numbered-change : {g h : Going} → Change g h → NumberedOn g → NumberedOn h
numbered-change still n = n
numbered-change (both x y) n = numbered-change y (numbered-change x n)
numbered-change (notes ns plain) n = n
numbered-change (slots worker) n = n
numbered-change (streams xs) n = n
numbered-change (settles_call call outcome names) n = n
numbered-change (awaits a) n = n
numbered-change (asks_by {calls} {taken} {s} call op r channel payload is) n = numbered-sent s.requests channel (owner.Call call) r.under (due_by op r) n
numbered-change (wants {calls} {taken} {s} call name budget) n = numbered-start s.requests (start_request call (as_serial s.next.serial)) refl n
numbered-change (asks_to_close {calls} {taken} {s} channel parent asked left) n = numbered-sent s.requests channel owner.Close parent due.Nothing n
numbered-change (takes {calls} {taken} {s} key r e) n = numbered-settled (has_key key) s.requests n
numbered-change (takes_none {calls} {taken} {s} key e) n = numbered-settled (has_key key) s.requests n
numbered-change (opens r object keeps o is same closed) n = n
numbered-change (settles_taken {calls} {taken} {s} r outcome names) n = numbered-owner s r.owner outcome names n
numbered-change (marks serial m keeps) n = n
numbered-change (falls_with {calls} {s} roots why) n = numbered-settled (is_under (falls s.objects roots)) s.requests n
numbered-change settles_awaits n = n

pub numbered-entered : (s : State) (m : Micro) (g : Going) → Entered s m g → NumberedOn (at_rest s) → NumberedOn g
numbered-entered s m g e n = once-entered NumberedOn s (λ lane. n) (λ worker. n) n m g e

pub numbered-step : (s : State) (m : Micro) → NumberedOn (at_rest s) → NumberedOn (at_rest (step s m))
numbered-step s m n = let st = step-is s m in numbered-change st.change (numbered-entered s m st.start st.entered n)

pub numbered : (j : Journal) → AreNumbered (state_of j).requests
numbered j = along (λ (s : State). NumberedOn (at_rest s)) numbered-step (start j.seed) j.entries (λ w. refl)
