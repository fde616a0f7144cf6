-- How often a serial is in a table of what is kept, and how many open objects of a kind have it: where one comes, is removed, falls.
use Rattle.std.proofs.Common.{◌≡◌, ◌≤◌, ℕ, zero, is_eq, ◌+◌, List, [], ◌∷◌, map, nat_lt, Bool, true, false, ◌&&◌, ◌||◌, ◌==◌, cond, Some, Less, Equal, Greater, Ordering, refl, sym, ap, ◌∙◌, arith, count_by}
use Rattle.std.specs.BTreeMap.{insert_entry, is_at}
use Rattle.std.specs.Option.{is_some}
use Rattle.std.specs.Ordering.{match_ordering, nat_cmp}
use Rattle.std.proofs.lemmas.Bool.{eqb-true}
use Rattle.std.proofs.lemmas.Bool.Decides.{nat_tests}
use Rattle.ms_base.specs.Kinds.{same_kind}
use Rattle.ms_base.specs.declared.keys.Kind.{Kind}
use Rattle.ms_base.specs.declared.keys.Reason.{Reason}
use Rattle.ms_base.specs.declared.keys.Serial.{Serial}
use Rattle.object_tree.specs.declared.object.Object.{Object}
use Rattle.object_tree.specs.Falls.{closed_by, closed_if, is_among, reason_of}
use Rattle.object_tree.specs.Objects.{has_serial, is_open, same_serial}
use Rattle.request_build.specs.Known.{gone, kept_at}
use Rattle.host_requests.specs.declared.request.Request.{Request}
use Rattle.host_model.specs.declared.due.Due.{Due}
use Rattle.host_model.specs.State.{Tables, as_serial}
use Rattle.host_model.specs.Fit.{BuildsFit, one_if}
use Rattle.host_model.specs.Fit as fit
use Rattle.host_model.specs.Held.{is_open_of}
use Rattle.host_model.proofs.Counts.{count-cons}
use Rattle.host_model.proofs.FitLemmas.{most-one}

-- ---- a table, by how often a serial is there

pub key-same : (a b : ℕ) → is_at (nat_cmp a) b ≡ (b == a)
key-same a b = grind (arith, nat_tests)

module _ {A : Type 0} where
  abbrev pub has_key_of : Serial → ℕ × A → Bool
  has_key_of serial e = is_at (nat_cmp serial.0) e.0

  abbrev pub times_in : Serial → List (ℕ × A) → ℕ
  times_in serial table = count_by (has_key_of serial) table

  -- a new serial is inserted
  pub times-inserted : (serial : Serial) (table : List (ℕ × A)) (n : ℕ) (v : A) → times_in (as_serial n) table ≡ 0
      → times_in serial (insert_entry nat_cmp table n v) ≡ times_in serial table + one_if (is_at (nat_cmp serial.0) n)
  times-inserted serial [] n v none = omega (arith, count-cons (has_key_of serial) (n, v) [])
  times-inserted serial (e ∷ es) n v none = at (nat_cmp n e.0) refl (times-inserted serial es n v)
    where
      at : (o : Ordering) → nat_cmp n e.0 ≡ o
          → (times_in (as_serial n) es ≡ 0 → times_in serial (insert_entry nat_cmp es n v) ≡ times_in serial es + one_if (is_at (nat_cmp serial.0) n))
          → times_in serial (match_ordering o ((n, v) ∷ e ∷ es) ((e.0, v) ∷ es) (e ∷ insert_entry nat_cmp es n v)) ≡ times_in serial (e ∷ es) + one_if (is_at (nat_cmp serial.0) n)
      at Less t later = omega (arith, count-cons (has_key_of serial) (n, v) (e ∷ es))
      at Equal t later =
          let own : one_if (has_key_of (as_serial n) e) ≡ 1 = ap (λ o. one_if (is_eq o)) t in
          absurd (omega (arith, own, none, count-cons (has_key_of (as_serial n)) e es))
      at Greater t later =
          omega (
            arith,
            later (omega (arith, none, count-cons (has_key_of (as_serial n)) e es)),
            count-cons (has_key_of serial) e (insert_entry nat_cmp es n v),
            count-cons (has_key_of serial) e es,
          )

  -- the only one of a serial is removed
  pub times-gone : (serial other : Serial) (table : List (ℕ × A)) → times_in other table ≤ 1 → times_in serial (gone other table) ≡ cond (same_serial other serial) 0 (times_in serial table)
  times-gone serial other [] few = at (same_serial other serial)
    where
      at : (b : Bool) → zero ≡ cond b zero zero
      at true = refl
      at false = refl
  times-gone serial other (e ∷ es) few = at (has_key_of other e) refl (times-gone serial other es)
    where
      none : (n : ℕ) → times_in other es ≡ n → n ≡ 0 → (b : Bool) → same_serial other serial ≡ b → times_in serial es ≡ cond b 0 (one_if (has_key_of serial e) + times_in serial es)
          → times_in serial es ≡ cond b 0 (times_in serial (e ∷ es))
      none n t z true s h = h
      none n t z false s h = omega (arith, h, count-cons (has_key_of serial) e es)

      same : other.0 ≡ serial.0 → times_in other es ≡ times_in serial es
      same t = ap (λ k. count_by (λ (x : ℕ × A). is_at (nat_cmp k) x.0) es) t

      -- the entry that goes has the other serial
      goes : has_key_of other e ≡ true → (b : Bool) → same_serial other serial ≡ b → times_in serial es ≡ cond b 0 (times_in serial (e ∷ es))
      goes t true s =
          let one : one_if (has_key_of other e) ≡ 1 = ap one_if t in
          omega (arith, few, one, count-cons (has_key_of other) e es, same (eqb-true other.0 serial.0 s))
      goes t false s =
          let key : e.0 ≡ other.0 = eqb-true e.0 other.0 (sym (key-same other.0 e.0) ∙ t) in
          let apart : one_if (has_key_of serial e) ≡ 0 = ap one_if (key-same serial.0 e.0 ∙ ap (λ k. k == serial.0) key ∙ s) in
          omega (arith, apart, count-cons (has_key_of serial) e es)

      stays : has_key_of other e ≡ false → (b : Bool) → same_serial other serial ≡ b → times_in serial (gone other es) ≡ cond b 0 (times_in serial es)
          → times_in serial (e ∷ gone other es) ≡ cond b 0 (times_in serial (e ∷ es))
      stays t true s h =
          let key : one_if (has_key_of serial e) ≡ one_if (has_key_of other e) = ap (λ k. one_if (is_at (nat_cmp k) e.0)) (sym (eqb-true other.0 serial.0 s)) in
          let none : one_if (has_key_of other e) ≡ 0 = ap one_if t in
          omega (arith, key, none, h, count-cons (has_key_of serial) e (gone other es))
      stays t false s h = omega (arith, h, count-cons (has_key_of serial) e (gone other es), count-cons (has_key_of serial) e es)

      at : (b : Bool) → has_key_of other e ≡ b → (times_in other es ≤ 1 → times_in serial (gone other es) ≡ cond (same_serial other serial) 0 (times_in serial es))
          → times_in serial (cond b es (e ∷ gone other es)) ≡ cond (same_serial other serial) 0 (times_in serial (e ∷ es))
      at true t later = goes t (same_serial other serial) refl
      at false t later = stays t (same_serial other serial) refl (later (omega (arith, few, count-cons (has_key_of other) e es)))

  abbrev pub all_gone : List Serial → List (ℕ × A) → List (ℕ × A)
  all_gone [] table = table
  all_gone (serial ∷ serials) table = all_gone serials (gone serial table)

  pub times-all_gone : (serial : Serial) (fallen : List Serial) (table : List (ℕ × A)) → ((other : Serial) → times_in other table ≤ 1)
      → times_in serial (all_gone fallen table) ≡ cond (is_among fallen serial) 0 (times_in serial table)
  times-all_gone serial [] table few = refl
  times-all_gone serial (other ∷ fallen) table few =
      times-all_gone serial fallen (gone other table) (λ x. fewer x (same_serial other x) (times-gone x other table (few other)) (few x))
      ∙ ap (λ n. cond (is_among fallen serial) 0 n) (times-gone serial other table (few other)) ∙ at (same_serial other serial) (is_among fallen serial)
    where
      fewer : (x : Serial) (b : Bool) → times_in x (gone other table) ≡ cond b 0 (times_in x table) → times_in x table ≤ 1 → times_in x (gone other table) ≤ 1
      fewer x true e h = omega (arith, e)
      fewer x false e h = omega (arith, e, h)

      at : (a b : Bool) → cond b 0 (cond a 0 (times_in serial table)) ≡ cond (a || b) 0 (times_in serial table)
      at true true = refl
      at true false = refl
      at false true = refl
      at false false = refl

  -- it is there where it is there once at least
  pub found-times : (serial : Serial) (table : List (ℕ × A)) → is_some (kept_at table serial) ≡ nat_lt 0 (times_in serial table)
  found-times serial [] = refl
  found-times serial (e ∷ es) = at (has_key_of serial e) refl (found-times serial es)
    where
      at : (b : Bool) → has_key_of serial e ≡ b → is_some (kept_at es serial) ≡ nat_lt 0 (times_in serial es)
          → is_some (cond b (Some e.1) (kept_at es serial)) ≡ nat_lt 0 (times_in serial (e ∷ es))
      at true t h =
          let one : times_in serial (e ∷ es) ≡ 1 + times_in serial es = count-cons (has_key_of serial) e es ∙ ap (λ b. one_if b + times_in serial es) t in
          above (times_in serial es) ∙ ap (nat_lt 0) (sym one)
        where
          above : (n : ℕ) → true ≡ nat_lt 0 (1 + n)
          above n = grind (arith, nat_tests)
      at false t h =
          let same : times_in serial (e ∷ es) ≡ times_in serial es = count-cons (has_key_of serial) e es ∙ ap (λ b. one_if b + times_in serial es) t ∙ none (times_in serial es) in
          h ∙ ap (nat_lt 0) (sym same)
        where
          none : (n : ℕ) → 0 + n ≡ n
          none n = omega arith

-- ---- objects, by how many open ones of a kind have a serial

abbrev pub is_the : Kind → Serial → Object → Bool
is_the of_kind serial o = has_serial serial o && (is_open o && same_kind o.kind of_kind)

abbrev pub times_open : Kind → Serial → List Object → ℕ
times_open of_kind serial os = count_by (is_the of_kind serial) os

pub open-times : (of_kind : Kind) (os : List Object) (serial : Serial) → is_open_of of_kind os serial ≡ nat_lt 0 (times_open of_kind serial os)
open-times of_kind [] serial = refl
open-times of_kind (o ∷ os) serial = at (is_the of_kind serial o) refl (open-times of_kind os serial)
  where
    at : (b : Bool) → is_the of_kind serial o ≡ b → is_open_of of_kind os serial ≡ nat_lt 0 (times_open of_kind serial os)
        → (b || is_open_of of_kind os serial) ≡ nat_lt 0 (times_open of_kind serial (o ∷ os))
    at true t h =
        let one : times_open of_kind serial (o ∷ os) ≡ 1 + times_open of_kind serial os = count-cons (is_the of_kind serial) o os ∙ ap (λ b. one_if b + times_open of_kind serial os) t in
        above (times_open of_kind serial os) ∙ ap (nat_lt 0) (sym one)
      where
        above : (n : ℕ) → true ≡ nat_lt 0 (1 + n)
        above n = grind (arith, nat_tests)
    at false t h =
        let same : times_open of_kind serial (o ∷ os) ≡ times_open of_kind serial os =
        count-cons (is_the of_kind serial) o os ∙ ap (λ b. one_if b + times_open of_kind serial os) t ∙ none (times_open of_kind serial os) in
        h ∙ ap (nat_lt 0) (sym same)
      where
        none : (n : ℕ) → 0 + n ≡ n
        none n = omega arith

-- no more than have the serial
pub few-open : (of_kind : Kind) (serial : Serial) (os : List Object) → times_open of_kind serial os ≤ count_by (fit.has_serial serial.0) os
few-open of_kind serial [] = omega arith
few-open of_kind serial (o ∷ os) =
    omega (arith, one (has_serial serial o) (is_open o && same_kind o.kind of_kind), few-open of_kind serial os, count-cons (is_the of_kind serial) o os, count-cons (fit.has_serial serial.0) o os)
  where
    one : (a b : Bool) → one_if (a && b) ≤ one_if a
    one true true = omega arith
    one true false = omega arith
    one false b = omega arith

pub one-open : {os : List Object} {ws : List (Request Due)} {t : Tables} {next : _} → fit.Fits os ws t next → (of_kind : Kind) (serial : Serial) → times_open of_kind serial os ≤ 1
one-open {os} {ws} {t} {next} h of_kind serial = omega (arith, few-open of_kind serial os, h.drawn_once serial.0, most-one serial.0 next.serial)

-- those that fall are closed
pub open-fallen : (of_kind : Kind) (serial : Serial) (objects : List Object) (down roots : List Serial) (why : Reason) (os : List Object)
    → times_open of_kind serial (map (closed_if objects down roots why) os) ≡ cond (is_among down serial) 0 (times_open of_kind serial os)
open-fallen of_kind serial objects down roots why [] = at (is_among down serial)
  where
    at : (b : Bool) → zero ≡ cond b zero zero
    at true = refl
    at false = refl
open-fallen of_kind serial objects down roots why (o ∷ os) =
    count-cons (is_the of_kind serial) (closed_if objects down roots why o) (map (closed_if objects down roots why) os)
    ∙ ap (λ n. one_if (is_the of_kind serial (closed_if objects down roots why o)) + n) (open-fallen of_kind serial objects down roots why os)
    ∙ ap (λ n. n + cond (is_among down serial) 0 (times_open of_kind serial os)) (closed (has_serial serial o) (is_open o) (is_among down o.serial) refl refl refl)
    ∙ joined (is_among down serial)
  where
    among : has_serial serial o ≡ true → is_among down o.serial ≡ is_among down serial
    among t = let e = eqb-true o.serial.0 serial.0 t in ap (is_among down) (λ i. record { 0 = e i })

    none : (b : Bool) → zero ≡ cond b zero zero
    none true = refl
    none false = refl

    -- one of the serial closes where the serial falls
    closed : (a b c : Bool) → has_serial serial o ≡ a → is_open o ≡ b → is_among down o.serial ≡ c
        → one_if (is_the of_kind serial (cond (b && c) (closed_by (reason_of objects down roots why o) o) o)) ≡ cond (is_among down serial) 0 (one_if (a && (b && same_kind o.kind of_kind)))
    closed false true true h k l = ap (λ x. one_if (x && (false && same_kind o.kind of_kind))) h ∙ none (is_among down serial)
    closed false true false h k l = ap (λ x. one_if (x && (is_open o && same_kind o.kind of_kind))) h ∙ none (is_among down serial)
    closed false false c h k l = ap (λ x. one_if (x && (is_open o && same_kind o.kind of_kind))) h ∙ none (is_among down serial)
    closed true true true h k l =
        ap (λ x. one_if (x && (false && same_kind o.kind of_kind))) h
        ∙ ap (λ x. cond x 0 (one_if (same_kind o.kind of_kind))) (sym l ∙ among h)
    closed true true false h k l =
        ap (λ x. one_if (x && (is_open o && same_kind o.kind of_kind))) h ∙ ap (λ x. one_if (x && same_kind o.kind of_kind)) k
        ∙ ap (λ x. cond x 0 (one_if (same_kind o.kind of_kind))) (sym l ∙ among h)
    closed true false c h k l =
        ap (λ x. one_if (x && (is_open o && same_kind o.kind of_kind))) h ∙ ap (λ x. one_if (x && same_kind o.kind of_kind)) k ∙ none (is_among down serial)

    joined : (b : Bool) → cond b 0 (one_if (is_the of_kind serial o)) + cond b 0 (times_open of_kind serial os) ≡ cond b 0 (times_open of_kind serial (o ∷ os))
    joined true = refl
    joined false = sym (count-cons (is_the of_kind serial) o os)
