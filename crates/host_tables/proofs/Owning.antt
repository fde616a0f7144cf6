-- The call that a request was issued for, and what it was to make.
use Rattle.std.proofs.Common.{◌≡◌, ℕ, List, [], ◌∷◌, ◌++◌, ◌⊎◌, inl, inr, sym, ap, ◌∙◌, subst}
use Rattle.std.proofs.lemmas.List.{append-nil}
use Rattle.ms_base.specs.declared.keys.CallKey.{CallKey}
use Rattle.ms_base.specs.declared.outcome.Outcome.{Outcome}
use Rattle.pending_calls.specs.declared.waiting.Owner.{Owner}
use Rattle.pending_calls.specs.declared.waiting.Owner.TheVariants as owner
use Rattle.host_model.specs.Changes.{call_settled, owner_settled}
use Rattle.host_tables.specs.Kept.{IsKept, Moves}
use Rattle.host_tables.specs.declared.tables.Tables.{Tables}

-- ---- the owner of a request

pub owner-moves : (t now : Tables) (o : Owner) (call : CallKey) (outcome : Outcome) (names told : List (List ℕ)) → o ≡ owner.Call call → told ≡ names
    → Moves (call_settled call outcome told) t now → Moves (owner_settled o outcome names) t now
owner-moves t now o call outcome names told is same moves = λ s k.
    subst (λ (x : Owner). IsKept (owner_settled x outcome names s) now) (sym is) (subst (λ (l : List (List ℕ)). IsKept (call_settled call outcome l s) now) same (moves s k))

pub owner-none : (t : Tables) (o : Owner) (outcome : Outcome) (names : List (List ℕ)) → ((call : CallKey) × (part : ℕ) × (o ≡ owner.Job call part)) ⊎ ((o ≡ owner.Close) ⊎ (o ≡ owner.Follow))
    → Moves (owner_settled o outcome names) t t
owner-none t o outcome names h = λ s k. elim h [
  | inl job ↦ subst (λ (x : Owner). IsKept (owner_settled x outcome names s) t) (sym job.2) k
  | inr other ↦ elim other [
    | inl close ↦ subst (λ (x : Owner). IsKept (owner_settled x outcome names s) t) (sym close) k
    | inr follow ↦ subst (λ (x : Owner). IsKept (owner_settled x outcome names s) t) (sym follow) k
  ]
]

-- ---- a call that fails, or doesn't

pub not_lost-moves : (t : Tables) (names : List (List ℕ)) → [] ≡ names → Moves (λ s. record s { failed = s.failed ++ names }) t t
not_lost-moves t names none = λ s k.
    subst (λ (l : List (List ℕ)). IsKept (record s { failed = l }) t) (sym (append-nil s.failed) ∙ ap (λ (l : List (List ℕ)). s.failed ++ l) none) k

pub lost_one-moves : (t now : Tables) (name : List ℕ) (names : List (List ℕ)) → (let l : List (List ℕ) = name ∷ [] in l) ≡ names
    → Moves (λ s. record s { failed = s.failed ++ name ∷ [] }) t now → Moves (λ s. record s { failed = s.failed ++ names }) t now
lost_one-moves t now name names same moves = λ s k. subst (λ (l : List (List ℕ)). IsKept (record s { failed = s.failed ++ l }) now) same (moves s k)
