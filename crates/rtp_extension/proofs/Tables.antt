-- A table of new ids.
use Rattle.std.proofs.Common.{◌≡◌, ℕ, zero, suc, ◌+◌, ◌<◌, ◌≤◌, Bool, true, false, cond, List, replicate, get_or, Option, Some, None, option_and_then, refl, sym, ap, ◌∙◌, arith}
use mathlib.Core.Path.{fun_ext}
use Rattle.std.specs.Prelude.{IfSome}
use Rattle.std.proofs.lemmas.List.{length-replicate}
use Rattle.rtp_extension.specs.Ids.{new_id, IsTable, has_id, if_had, kept_id}
use Rattle.rtp_extension.specs.Laws.{AreIds}

none_at : (n id : ℕ) → new_id (replicate n None) id ≡ None
none_at zero id = refl
none_at (suc n) zero = refl
none_at (suc n) (suc id) = none_at n id

pub none_set : (n : ℕ) (table : List (Option ℕ)) → table ≡ replicate n None → (id : ℕ) → new_id table id ≡ None
none_set n table e id = let at = none_at n id in rw e at

pub empty_table : (n : ℕ) (table : List (Option ℕ)) → n ≡ 256 → table ≡ replicate n None → IsTable table
empty_table n table size e = record {
  places = rw e (length-replicate {A = Option ℕ} n None ∙ size);
  ids = λ id new some. let none : new_id table id ≡ None = none_set n table e id in cc;
}

ids_at : (o : Option ℕ) → ((new : ℕ) → o ≡ Some new → (1 ≤ new) × (new ≤ 255)) → IfSome o (λ new. (1 ≤ new) × (new ≤ 255))
ids_at None h = tt
ids_at (Some new) h = h new refl

pub table_ids : (table : List (Option ℕ)) → IsTable table → AreIds (new_id table)
table_ids table is id = ids_at (new_id table id) (is.ids id)

-- ---- sets of ids

none_had : (n id : ℕ) → has_id (replicate n false) id ≡ false
none_had zero id = refl
none_had (suc n) zero = refl
none_had (suc n) (suc id) = none_had n id

pub nothing_had : (n : ℕ) (set : List Bool) → set ≡ replicate n false → (id : ℕ) → has_id set id ≡ false
nothing_had n set e id = ap (λ (s : List Bool). has_id s id) e ∙ none_had n id

all_had : (n id : ℕ) → id < n → has_id (replicate n true) id ≡ true
all_had zero id h = absurd (omega arith)
all_had (suc n) zero h = refl
all_had (suc n) (suc id) h = all_had n id (omega arith)

pub each_had : (set : List Bool) → set ≡ replicate 256 true → (id : ℕ) → id ≤ 255 → has_id set id ≡ true
each_had set e id h = ap (λ (s : List Bool). has_id s id) e ∙ all_had 256 id (omega arith)

-- a set that has all ids keeps each new one
kept_all_at : (set : List Bool) (o : Option ℕ) → ((id : ℕ) → id ≤ 255 → has_id set id ≡ true) → IfSome o (λ new. (1 ≤ new) × (new ≤ 255)) → option_and_then (if_had set) o ≡ o
kept_all_at set None all are = refl
kept_all_at set (Some id) all are = ap (λ (b : Bool). cond b (Some id) None) (all id are.1)

pub kept_all : (table : List (Option ℕ)) (set : List Bool) → ((id : ℕ) → id ≤ 255 → has_id set id ≡ true) → AreIds (new_id table) → kept_id table set ≡ new_id table
kept_all table set all are = fun_ext (λ id. kept_all_at set (new_id table id) all (are id))
