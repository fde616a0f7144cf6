-- How a journal is applied, entry by entry, up to the first that is not built.
use Rattle.std.proofs.Common.{◌≡◌, ℕ, ◌+◌, ◌-◌, ◌≤◌, ◌<◌, ◌^◌, List, [], ◌∷◌, ◌++◌, length, min, Bool, true, false, cond, nat_lt, Option, Some, None, Result, Ok, Err, IfSome, IsOkUnless, refl, sym, ap, ◌∙◌, subst, arith, length-append}
use Rattle.std.proofs.lemmas.Bool.Decides.{nat_tests}
use Rattle.std.proofs.lemmas.List.{reverse-append}
use Rattle.std.specs.Prelude.{reverse}
use Rattle.ms_base.specs.declared.applied.Applied.{Applied}
use Rattle.ms_base.specs.declared.applied.ApplyFault.{ApplyFault}
use Rattle.ms_base.specs.declared.applied.ApplyFault.TheVariants as fault
use Rattle.ms_base.specs.declared.entry.Entry.{Entry}
use Rattle.journal_text.specs.Written.{entry_line, journal_size, max_journal, max_told}
use Rattle.host_core.specs.Apply.{fault_of, is_unbuilt, size_with}
use Rattle.host_model.specs.Run.{Journal, HostView, after, after_all, state_of}
use Rattle.host_model.specs.State.{State, start}
use Rattle.run_top.specs.Replay.{first_unbuilt}

-- ---- entries that are left, the next one last

-- the next one stands behind those that were applied, and before those that are left then
pub next-left : (ys : List Entry) (e : Entry) (left popped rest whole : List Entry) → ys ++ reverse left ≡ whole → left ≡ popped ++ e ∷ [] → rest ≡ popped → whole ≡ ys ++ e ∷ reverse rest
next-left ys e left popped rest whole all taken same =
    sym all ∙ ap (λ ws. ys ++ ws) (ap reverse taken ∙ (reverse-append popped (e ∷ []) ∙ ap (λ ws. e ∷ reverse ws) (sym same)))

-- ---- the first that is not built stands behind a front that is built

none-first : (b : Bool) (n : ℕ) (later : Option ℕ) → cond b (Some n) later ≡ None → b ≡ false
none-first true n later h = cc
none-first false n later h = refl

none-later : (b : Bool) (n : ℕ) (later : Option ℕ) → cond b (Some n) later ≡ None → later ≡ None
none-later true n later h = absurd (cc)
none-later false n later h = h

behind-built : (s : State) (n : ℕ) (ys zs : List Entry) → first_unbuilt s n ys ≡ None → first_unbuilt s n (ys ++ zs) ≡ first_unbuilt (after_all s ys) (n + length ys) zs
behind-built s n [] zs h = ap (λ m. first_unbuilt s m zs) (omega arith)
behind-built s n (y ∷ ys) zs h =
    let next = after s y in
    let later = none-later (is_unbuilt s y) n (first_unbuilt next (n + 1) ys) h in
    ap (λ b. cond b (Some n) (first_unbuilt next (n + 1) (ys ++ zs))) (none-first (is_unbuilt s y) n (first_unbuilt next (n + 1) ys) h)
    ∙ (behind-built next (n + 1) ys zs later ∙ ap (λ m. first_unbuilt (after_all next ys) m zs) (omega arith))

-- the journal of these entries
abbrev pub journal_of : ℕ → List Entry → Journal
journal_of seed ys = record { seed = seed; entries = ys }

pub unbuilt-at : (seed : ℕ) (ys zs : List Entry) (e : Entry) → first_unbuilt (start seed) 2 ys ≡ None → is_unbuilt (state_of (journal_of seed ys)) e ≡ true
    → first_unbuilt (start seed) 2 (ys ++ e ∷ zs) ≡ Some (2 + length ys)
unbuilt-at seed ys zs e h b = behind-built (start seed) 2 ys (e ∷ zs) h ∙ ap (λ c. cond c (Some (2 + length ys)) (first_unbuilt (after (state_of (journal_of seed ys)) e) (2 + length ys + 1) zs)) b

pub built-more : (seed : ℕ) (ys : List Entry) (e : Entry) → first_unbuilt (start seed) 2 ys ≡ None → is_unbuilt (state_of (journal_of seed ys)) e ≡ false
    → first_unbuilt (start seed) 2 (ys ++ e ∷ []) ≡ None
built-more seed ys e h b = behind-built (start seed) 2 ys (e ∷ []) h ∙ ap (λ c. cond c (Some (2 + length ys)) None) b

-- ---- which fault came

fault-is : (o : Option ApplyFault) (r : Result Applied ApplyFault) (f : ApplyFault) → IfSome o (λ g. r ≡ Err g) → (o ≡ None → IsOkUnless r fault.NoMemory)
    → r ≡ Err f → (f ≡ fault.NoMemory → ⊥) → o ≡ Some f
fault-is None r f some none is other =
    let only : IsOkUnless {T = Applied} (Err f) fault.NoMemory = subst (λ (q : Result Applied ApplyFault). IsOkUnless q fault.NoMemory) is (none refl) in
    absurd (other only)
fault-is (Some g) r f some none is other = cc

no_fault : (o : Option ApplyFault) (r : Result Applied ApplyFault) (x : Applied) → IfSome o (λ g. r ≡ Err g) → r ≡ Ok x → o ≡ None
no_fault None r x some is = refl
no_fault (Some g) r x some is = cc

unbuilt-of : (spent full unbuilt : Bool) (n : ℕ) → cond spent (Some fault.NoMemory) (cond full (Some (fault.Full n)) (cond unbuilt (Some fault.Unbuilt) None)) ≡ Some fault.Unbuilt → unbuilt ≡ true
unbuilt-of true full unbuilt n h = cc
unbuilt-of false true unbuilt n h = cc
unbuilt-of false false true n h = refl
unbuilt-of false false false n h = cc

full-of : (spent full unbuilt : Bool) (n m : ℕ) → cond spent (Some fault.NoMemory) (cond full (Some (fault.Full n)) (cond unbuilt (Some fault.Unbuilt) None)) ≡ Some (fault.Full m) → full ≡ true
full-of true full unbuilt n m h = cc
full-of false true unbuilt n m h = refl
full-of false false true n m h = cc
full-of false false false n m h = cc

built-of : (spent full unbuilt : Bool) (n : ℕ) → cond spent (Some fault.NoMemory) (cond full (Some (fault.Full n)) (cond unbuilt (Some fault.Unbuilt) None)) ≡ None → unbuilt ≡ false
built-of true full unbuilt n h = cc
built-of false true unbuilt n h = cc
built-of false false true n h = cc
built-of false false false n h = refl

-- a host that has heard these entries
abbrev pub heard : ℕ → List Entry → HostView
heard seed ys = record { journal = journal_of seed ys; spent = false }

pub unbuilt-came : (seed : ℕ) (ys : List Entry) (h : HostView) (e : Entry) (r : Result Applied ApplyFault) → h ≡ heard seed ys
    → IfSome (fault_of h e) (λ g. r ≡ Err g) → (fault_of h e ≡ None → IsOkUnless r fault.NoMemory) → r ≡ Err fault.Unbuilt
    → is_unbuilt (state_of (journal_of seed ys)) e ≡ true
unbuilt-came seed ys h e r is some none came =
    ap (λ (k : HostView). is_unbuilt (state_of k.journal) e) (sym is)
    ∙ unbuilt-of h.spent (nat_lt max_journal (size_with h.journal e)) (is_unbuilt (state_of h.journal) e) (min (size_with h.journal e) max_told) (fault-is (fault_of h e) r fault.Unbuilt some none came (λ h. cc))

pub built-came : (seed : ℕ) (ys : List Entry) (h : HostView) (e : Entry) (r : Result Applied ApplyFault) (x : Applied) → h ≡ heard seed ys
    → IfSome (fault_of h e) (λ g. r ≡ Err g) → r ≡ Ok x → is_unbuilt (state_of (journal_of seed ys)) e ≡ false
built-came seed ys h e r x is some came =
    ap (λ (k : HostView). is_unbuilt (state_of k.journal) e) (sym is)
    ∙ built-of h.spent (nat_lt max_journal (size_with h.journal e)) (is_unbuilt (state_of h.journal) e) (min (size_with h.journal e) max_told) (no_fault (fault_of h e) r x some came)

-- a journal that is within its limit never passes it on the way
pub never-full : (seed : ℕ) (all ys zs : List Entry) (h : HostView) (e : Entry) (r : Result Applied ApplyFault) (n : ℕ) → h ≡ heard seed ys → all ≡ (ys ++ e ∷ []) ++ zs
    → journal_size seed (ys ++ e ∷ []) ≡ journal_size seed ys + length (entry_line e) → journal_size seed (ys ++ e ∷ []) ≤ journal_size seed ((ys ++ e ∷ []) ++ zs)
    → journal_size seed all ≤ max_journal
    → IfSome (fault_of h e) (λ g. r ≡ Err g) → (fault_of h e ≡ None → IsOkUnless r fault.NoMemory) → r ≡ Err (fault.Full n) → ⊥
never-full seed all ys zs h e r n is whole more front limit some none came =
    let full : nat_lt max_journal (size_with h.journal e) ≡ true = full-of h.spent (nat_lt max_journal (size_with h.journal e)) (is_unbuilt (state_of h.journal) e) (min (size_with h.journal e) max_told) n (fault-is (fault_of h e) r (fault.Full n) some none came (λ h. cc)) in
    let here : size_with h.journal e ≡ journal_size seed ys + length (entry_line e) = ap (λ (k : HostView). size_with k.journal e) is in
    let small : journal_size seed ys + length (entry_line e) ≤ max_journal = omega (arith, more, front, ap (journal_size seed) whole) in
    let over : max_journal < size_with h.journal e = grind (arith, nat_tests) in
    omega arith

-- one line further, as it is told
pub told-more : (line : ℕ) (ys : List Entry) (e : Entry) (next : ℕ) → line ≡ min (2 + length ys) (2 ^ 32 - 1) → next ≡ min (line + 1) (2 ^ 32 - 1)
    → next ≡ min (2 + length (ys ++ e ∷ [])) (2 ^ 32 - 1)
told-more line ys e next h g = omega (arith, length-append ys (e ∷ []))
