-- What the words behind the first come to, by how many there are.
use Rattle.std.proofs.Common.{◌≡◌, ℕ, ◌<◌, List, [], ◌∷◌, false, length, Result, Err, refl, ap, arith}
use Rattle.ms_base.specs.declared.keys.WorkerKey.{WorkerKey}
use Rattle.ms_base.specs.declared.code.Code.{Code}
use Rattle.ms_base.specs.declared.code.Code.TheVariants as code
use Rattle.ms_base.specs.declared.entry.Entry.{Entry}
use Rattle.ms_base.specs.declared.entry.Entry.TheVariants as entry
use Rattle.script_text.specs.Calls.{op_of, await_of}
use Rattle.journal_text.specs.Reading.{is_of_line, in_lane, call_of, wait_of, worker_line}

pub call_short : (ws : List (List ℕ)) → length ws < 2 → call_of ws ≡ Err code.Op
unfolding call_of
call_short [] h = refl
call_short (a ∷ []) h = refl
call_short (a ∷ b ∷ ws) h = absurd (omega arith)

pub call_at : (lane first : List ℕ) (rest ws : List (List ℕ)) → ws ≡ lane ∷ first ∷ rest → call_of ws ≡ in_lane entry.Call lane (op_of first rest)
unfolding call_of
call_at lane first rest ws e = ap call_of e

pub no_wait : wait_of [] ≡ Err code.Words
unfolding wait_of
no_wait = refl

pub wait_at : (lane : List ℕ) (rest ws : List (List ℕ)) → ws ≡ lane ∷ rest → wait_of ws ≡ in_lane (λ l a. entry.Await l a.0 a.1 a.2) lane (await_of rest)
unfolding wait_of
wait_at lane rest ws e = ap wait_of e

pub worker_other : {A : Type 0} (value : List ℕ → Result A Code) (entry_with : WorkerKey → A → Entry) (ws : List (List ℕ)) → (length ws ≡ 3 → ⊥) → worker_line value entry_with ws ≡ Err code.Words
unfolding worker_line
worker_other value entry_with [] unfit = refl
worker_other value entry_with (a ∷ []) unfit = refl
worker_other value entry_with (a ∷ b ∷ []) unfit = refl
worker_other value entry_with (a ∷ b ∷ d ∷ []) unfit = absurd (unfit refl)
worker_other value entry_with (a ∷ b ∷ d ∷ e ∷ ws) unfit = refl

pub other_code : (c : Code) → (c ≡ code.Op → ⊥) → (c ≡ code.Words → ⊥) → is_of_line c ≡ false
other_code code.Op h k = absurd (h refl)
other_code code.Words h k = absurd (k refl)
other_code other h k = refl
