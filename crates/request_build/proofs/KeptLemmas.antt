-- What is kept stays within the limit on encodings, and so does what is found there.
use Rattle.std.proofs.Common.{◌≡◌, ◌≤◌, ℕ, List, [], ◌∷◌, length, Bool, true, false, cond, Option, Some, subst, sym, Less, Equal, Greater, Ordering}
use Rattle.std.specs.BTreeMap.{insert_entry, is_at}
use Rattle.std.specs.Map.{lookup, remove_entry}
use Rattle.std.specs.Ordering.{match_ordering, nat_cmp}
use Rattle.ms_base.specs.declared.keys.Serial.{Serial}
use Rattle.rtp_params.specs.Readable.{Each}
use Rattle.request_build.specs.declared.built.Keep.{Keep}
use Rattle.request_build.specs.declared.built.Keep.TheVariants as keep
use Rattle.request_build.specs.declared.kept.Kept.{Kept}
use Rattle.request_build.specs.Known.{HasFew, IsKept, with_kept, without}

module _ {A : Type 0} (P : A → Type 0) where
  abbrev All_few : List (ℕ × A) → Type 0
  All_few table = Each (λ e. P e.1) table

  placed : (o : Ordering) (before in_place behind : List (ℕ × A)) → All_few before → All_few in_place → All_few behind → All_few (match_ordering o before in_place behind)
  placed Less before in_place behind b i a = b
  placed Equal before in_place behind b i a = i
  placed Greater before in_place behind b i a = a

  pub inserted : (table : List (ℕ × A)) (n : ℕ) (v : A) → All_few table → P v → All_few (insert_entry nat_cmp table n v)
  inserted [] n v all one = (one, tt)
  inserted (e ∷ es) n v all one =
      placed (nat_cmp n e.0) ((n, v) ∷ e ∷ es) ((e.0, v) ∷ es) (e ∷ insert_entry nat_cmp es n v) (one, all) (one, all.1) (all.0, inserted es n v all.1 one)

  chosen : (b : Bool) (xs ys : List (ℕ × A)) → All_few xs → All_few ys → All_few (cond b xs ys)
  chosen true xs ys x y = x
  chosen false xs ys x y = y

  pub removed : (table : List (ℕ × A)) (test : ℕ → Bool) → All_few table → All_few (remove_entry test table)
  removed [] test all = tt
  removed (e ∷ es) test all = chosen (test e.0) es (e ∷ remove_entry test es) all.1 (all.0, removed es test all.1)

  found : (b : Bool) (v : A) (other : Option A) (x : A) → cond b (Some v) other ≡ Some x → P v → (other ≡ Some x → P x) → P x
  found true v other x e one rest = let same : v ≡ x = cc in subst P same one
  found false v other x e one rest = rest e

  pub looked_up : (table : List (ℕ × A)) (test : ℕ → Bool) (x : A) → All_few table → lookup test table ≡ Some x → P x
  looked_up [] test x all e = absurd cc
  looked_up (e ∷ es) test x all is = found (test e.0) e.1 (lookup test es) x is all.0 (looked_up es test x all.1)

pub kept_none : (kept : Kept) → kept.producers ≡ [] → kept.consumers ≡ [] → IsKept kept
kept_none kept producers consumers = record {
  producers = subst (Each (λ e. length e.1.params.encodings ≤ 8)) (sym producers) tt;
  consumers = subst (Each (λ e. length e.1.encodings ≤ 8)) (sym consumers) tt;
}

pub kept_opened : (kept : Kept) (serial : Serial) (keeps : Keep) → IsKept kept → HasFew keeps → IsKept (with_kept serial keeps kept)
kept_opened kept serial (keep.Router caps) h few = record { producers = h.producers; consumers = h.consumers }
kept_opened kept serial (keep.Producer offer) h few =
    record { producers = inserted (λ o. length o.params.encodings ≤ 8) kept.producers serial.0 offer h.producers few; consumers = h.consumers }
kept_opened kept serial (keep.Consumer params) h few =
    record { producers = h.producers; consumers = inserted (λ p. length p.encodings ≤ 8) kept.consumers serial.0 params h.consumers few }
kept_opened kept serial (keep.Pipe enable_rtx) h few = record { producers = h.producers; consumers = h.consumers }
kept_opened kept serial keep.Nothing h few = h

pub kept_closed : (kept : Kept) (serial : Serial) → IsKept kept → IsKept (without serial kept)
kept_closed kept serial h =
    record {
      producers = removed (λ o. length o.params.encodings ≤ 8) kept.producers (is_at (nat_cmp serial.0)) h.producers;
      consumers = removed (λ p. length p.encodings ≤ 8) kept.consumers (is_at (nat_cmp serial.0)) h.consumers;
    }
