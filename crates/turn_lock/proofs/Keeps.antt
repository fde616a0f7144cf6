-- Each step on the words of a turn lock keeps its rule.
use Rattle.std.proofs.Common.{◌≡◌, ℕ, zero, suc, ◌+◌, ◌%◌, ◌^◌, ◌<◌, ◌≤◌, ◌≢◌, List, [], ◌∷◌, ◌++◌, length, get_or, set, Option as Maybe, Some, None, sym, refl, ap, ◌∙◌, subst, inl, inr, ⊎_elim, arith}
use mathlib.Core.Logic.{dite}
use mathlib.Core.Option.{Option, some, none, some-injective, some-ne-none}
use native.Mathlib.Decide.{ℕ_discrete}
use lib.ListN.{get_elem?}
use lib.Seq.{set-get_or}
use Rattle.atomic_table.specs.Table.{State, Me, step, rest, keeps, takes, gives, stepped, Allows, Splits, Joins, opening, Final, Seen}
use Rattle.atomic_table.proofs.Lists.{at_set, set_again, set_here, set_else, at_snoc, at_longer, one_turn}
use Rattle.turn_lock.specs.declared.rule.Stage.{Stage}
use Rattle.turn_lock.specs.declared.rule.Stage.TheVariants.{Idle, Waits, Serves}
use Rattle.turn_lock.specs.declared.rule.View.{View}
use Rattle.turn_lock.specs.Lists.{same, below, StartsWith, times, added, EachOnce}
use Rattle.turn_lock.specs.Turns.{queued, holds_ticket, serves, total, opened, Fits, SeenBySome, AtHome, TakenOut, Kept}
use Rattle.turn_lock.specs.Plays.{at_stage, in_turn, with_journal, without_part, one_part, joined, spent, drew, Taken, looked, counted, served}
use Rattle.turn_lock.proofs.Journals.{same_eq, below_one, below_in, below_out, below_suc, starts_here, starts_on, starts_length, starts_whole, longer_starts, longer_shorter, stand_on, stand_below, stand_both, times_both, stand_added, times_added, numbered_once}
use Rattle.turn_lock.proofs.Totals.{total_set, total_snoc, total_at, total_le, total_none, in_list}

idle_ne_waits : (t : ℕ) → Idle ≡ Waits t → ⊥
idle_ne_waits t e = cc

idle_ne_serves : (t : ℕ) → Idle ≡ Serves t → ⊥
idle_ne_serves t e = cc

waits_ne_serves : (t u : ℕ) → Waits t ≡ Serves u → ⊥
waits_ne_serves t u e = cc

waits_ne_idle : (t : ℕ) → Waits t ≡ Idle → ⊥
waits_ne_idle t e = cc

serves_ne_idle : (t : ℕ) → Serves t ≡ Idle → ⊥
serves_ne_idle t e = cc

serves_same : (t u : ℕ) → Serves t ≡ Serves u → t ≡ u
serves_same t u e = cc

waits_same : (t u : ℕ) → Waits t ≡ Waits u → t ≡ u
waits_same t u e = cc

queued_one : (stage : Stage) → queued stage ≤ 1
queued_one Idle = omega arith
queued_one (Waits t) = omega arith
queued_one (Serves t) = omega arith

-- who has its turn has that ticket
turn_ticket : (t : ℕ) (stage : Stage) → ((k : ℕ) → stage ≡ Serves k → k ≡ t) → serves stage ≤ holds_ticket t stage
turn_ticket t Idle is = omega arith
turn_ticket t (Waits k) is = omega arith
turn_ticket t (Serves k) is = omega (arith, same_eq t k (sym (is k refl)))

-- the value in hand
abbrev value_or : {V : Type 0} → V → Maybe V → V
value_or d None = d
value_or d (Some x) = x

abbrev in_hand : {V : Type 0} → V → List (ℕ × Maybe V) → V
in_hand d [] = d
in_hand d (x ∷ xs) = value_or d x.1

hand_same : {V : Type 0} → (hand : List (ℕ × Maybe V)) (x y : V) → hand ≡ (0, Some x) ∷ [] → hand ≡ (0, Some y) ∷ [] → x ≡ y
hand_same hand x y e f = ap (in_hand x) (sym e ∙ f)

-- the value that was in the slot is the one that was taken out of it
pub took : {V : Type 0} → (o : Option (Maybe V)) (r : Maybe V) (x y : V) → o ≡ some (Some x) → o ≡ some r → r ≡ Some y → x ≡ y
took o r x y e f h = ap (value_or x) (some-injective (Some x) r (sym e ∙ f) ∙ h)

some_none : {V : Type 0} → (x : V) → Some x ≡ None → ⊥
some_none x e = cc

pub took_none : {V : Type 0} → (o : Option (Maybe V)) (r : Maybe V) (x : V) → o ≡ some (Some x) → o ≡ some r → r ≡ None → ⊥
took_none o r x e f h = some_none x (some-injective (Some x) r (sym e ∙ f) ∙ h)

module _ {E : Type 0} where
  abbrev line : View E → ℕ
  line v = queued v.stage

  abbrev ticket : ℕ → View E → ℕ
  ticket t v = holds_ticket t v.stage

  abbrev turn : View E → ℕ
  turn v = serves v.stage

  abbrev share : View E → ℕ
  share v = v.parts

  abbrev place : ℕ → View E → ℕ
  place p v = times p v.own

  only_one : (v : View E) (j : ℕ) (u : View E) → get_elem? (v ∷ []) j ≡ some u → v ≡ u
  only_one v zero u e = some-injective v u e
  only_one v (suc j) u e = absurd (some-ne-none u (sym e))

  -- what holds of each view still does, where it does of the one that changed and of the others
  each_set : (K : View E → Type 0) (vs : List (View E)) (id : ℕ) (w : View E) → K w → ((j : ℕ) (u : View E) → j ≢ id → get_elem? vs j ≡ some u → K u)
      → (j : ℕ) (u : View E) → get_elem? (set vs id w) j ≡ some u → K u
  each_set K vs id w mine others j u e = ⊎_elim (λ (t : (j ≡ id) × (w ≡ u)). subst K t.1 mine) (λ (t : (j ≢ id) × (get_elem? vs j ≡ some u)). others j u t.0 t.1) (at_set vs id j w u e)

  -- a view that has seen more still begins the journal, so that one has seen all
  top_set : (log : List E) (vs : List (View E)) (id : ℕ) (v w : View E) → get_elem? vs id ≡ some v → StartsWith w.seen v.seen → StartsWith log w.seen
      → SeenBySome log vs → SeenBySome log (set vs id w)
  top_set log vs id v w at more begins top = dite (ℕ_discrete top.0 id)
      (λ (here : top.0 ≡ id).
      let is : v ≡ top.1 = some-injective v top.1 (sym at ∙ (ap (get_elem? vs) (sym here) ∙ top.2)) in
      let all : v.seen ≡ log = ap (λ (u : View E). u.seen) is ∙ top.3 in
      (id, w, set_here vs id w (in_list vs id v at), starts_whole w.seen log begins (omega (arith, starts_length v.seen w.seen more, ap length all))))
      (λ (else_where : top.0 ≢ id). (top.0, top.1, set_else vs id top.0 w else_where ∙ top.2, top.3))

  -- where all turns add up to none, no view has its turn
  no_turn : (vs : List (View E)) → total turn vs ≡ 0 → (j : ℕ) (u : View E) → get_elem? vs j ≡ some u → (t : ℕ) → u.stage ≡ Serves t → ⊥
  no_turn vs none_has j u at t is = let one : turn u ≡ 1 = ap serves is in omega (arith, total_at turn vs j u at)

  -- where one has its turn, no other has
  one_turn_only : (vs : List (View E)) (id : ℕ) (v : View E) (t : ℕ) → get_elem? vs id ≡ some v → v.stage ≡ Serves t → total turn vs ≡ 1
      → (j : ℕ) (u : View E) → j ≢ id → get_elem? vs j ≡ some u → (k : ℕ) → u.stage ≡ Serves k → ⊥
  one_turn_only vs id v t at is one j u apart there k is' =
      let w : View E = at_stage Idle v in let mine : turn v ≡ 1 = ap serves is in let sum = total_set turn vs id v w at in
      no_turn (set vs id w) (omega arith) j u (set_else vs id j w apart ∙ there) k is'

module _ {V E : Type 0} (journal : V → List E) (start_of : V → ℕ) (first : ℕ) where
  abbrev St : Type 0
  St = State (Maybe V) (View E)

  abbrev M : Type 0
  M = Me (Maybe V) (View E)

  abbrev Rule : St → Type 0
  Rule = Kept journal start_of first

  -- a step that changes nothing
  unmoved : (s : St) (r : Rule s) (i id : ℕ) (me : M) → get_elem? s.views id ≡ some me.0 → Rule (stepped s i (get_or s.words i 0) id me.1 me.0 keeps)
  unmoved s r i id me at = subst (λ (z : List ℕ × List (View E)). Rule record { words = z.0; homes = s.homes; views = z.1 })
      (λ k. (sym (set-get_or s.words i 0) k, sym (set_again s.views id me.0 at) k)) r

  -- A seat draws a ticket.
  draws : (s : St) (r : Rule s) (id : ℕ) (v : View E) (cs : List (ℕ × Maybe V)) → get_elem? s.views id ≡ some v → v.stage ≡ Idle → 0 < v.parts
      → Rule (stepped s 0 ((get_or s.words 0 0 + 1) % 2 ^ 64) id cs (at_stage (Waits r.drawn) v) keeps)
  draws s r id v cs at idle some_parts =
      let w : View E = at_stage (Waits r.drawn) v in let vs = s.views in let fits = r.each id v at in
      let old_line : line v ≡ 0 = ap queued idle in
      let old_turn : turn v ≡ 0 = ap serves idle in
      record {
        log = r.log;
        drawn = r.drawn + 1;
        served = r.served;
        words =
            let found : get_or s.words 0 0 ≡ r.drawn % 2 ^ 64 = ap (λ l. get_or l 0 0) r.words in
            let x : ℕ = get_or s.words 0 0 in let up : (x + 1) % 18446744073709551616 ≡ (r.drawn + 1) % 18446744073709551616 = omega arith in
            ap (λ l. set l 0 ((x + 1) % 2 ^ 64)) r.words ∙ ap (λ (n : ℕ). n ∷ r.served % 2 ^ 64 ∷ length r.log ∷ []) up;
        line = let sum = total_set line vs id v w at in let is = r.line in omega arith;
        tickets = λ t. let sum = total_set (ticket t) vs id v w at in let is = r.tickets t in let up = below_suc t r.drawn in let none_held : ticket t v ≡ 0 = ap (holds_ticket t) idle in omega arith;
        parts = let sum = total_set share vs id v w at in let is = r.parts in omega arith;
        places = λ p. let sum = total_set (place p) vs id v w at in let is = r.places p in omega arith;
        each = each_set (Fits r.log first r.served) vs id w
            record {
              seen = fits.seen;
              told = fits.told;
              start = fits.start;
              own = fits.own;
              spent = λ none_left. absurd (omega arith);
              turn = λ t is. absurd (waits_ne_serves r.drawn t is);
            }
            (λ j u _ there. r.each j u there);
        top = top_set r.log vs id v w at (starts_here v.seen) fits.seen r.top;
        slot = let sum = total_set turn vs id v w at in ⊎_elim
            (λ (h : AtHome journal start_of first r.log s). inl record { value = h.value; home = h.home; journal = h.journal; start = h.start; turns = let is = h.turns in omega arith })
            (λ (h : TakenOut s). inr record { home = h.home; turns = let is = h.turns in omega arith })
            r.slot;
      }

  pub draw_allowed : (slots id : ℕ) (me : M) → me.0.stage ≡ Idle → 0 < me.0.parts → Allows Rule slots id me 0 (λ n. (n + 1) % 2 ^ 64) (drew (step slots 0 1 0 none) me)
  draw_allowed slots id me idle some_parts s r _ at _ = (
    at_stage (Waits r.drawn) me.0,
    keeps,
    tt,
    draws s r id me.0 me.1 at idle some_parts,
    (refl, (r.drawn, sym (ap (λ l. get_or l 0 0) r.words), refl)),
  )

  -- fewer than 2^64 tickets are out
  few_tickets : (s : St) (r : Rule s) → r.drawn ≤ r.served + 1000000
  few_tickets s r =
      let some_part : (j : ℕ) (u : View E) → get_elem? s.views j ≡ some u → line u ≤ share u = λ j u there.
      dite (ℕ_discrete u.parts 0)
      (λ none_left. let is : line u ≡ 0 = ap queued ((r.each j u there).spent none_left).0 in omega arith)
      (λ some_left. let most : line u ≤ 1 = queued_one u.stage in omega arith)
      in let le = total_le line share s.views some_part in let parts = r.parts in let is = r.line in omega arith

  -- the one whose ticket is found has its turn next
  is_next : (s : St) (r : Rule s) (id : ℕ) (v : View E) (t : ℕ) → get_elem? s.views id ≡ some v → v.stage ≡ Waits t → t % 2 ^ 64 ≡ get_or s.words 1 0 → t ≡ r.served
  is_next s r id v t at waits found =
      let holds : ticket t v ≡ 1 = ap (holds_ticket t) waits ∙ same_eq t t refl in
      let out = r.tickets t in let mine = total_at (ticket t) s.views id v at in
      let most = below_one t r.drawn in
      let is_drawn = below_in t r.drawn (omega arith) in let not_served = below_out t r.served (omega arith) in
      let few = few_tickets s r in
      let here : r.served % 2 ^ 64 ≡ t % 2 ^ 64 = sym (found ∙ ap (λ l. get_or l 1 0) r.words) in
      sym (one_turn r.served t (2 ^ 64) not_served (omega arith) here)

  -- where the next one waits, nobody has its turn
  is_home : (s : St) (r : Rule s) (id : ℕ) (v : View E) → get_elem? s.views id ≡ some v → v.stage ≡ Waits r.served → total turn s.views ≡ 1 → ⊥
  is_home s r id v at waits one =
      let w : View E = at_stage Idle v in let vs : List (View E) = s.views in let t : ℕ = r.served in
      let holds : ticket t v ≡ 1 = ap (holds_ticket t) waits ∙ same_eq t t refl in
      let no_turn_yet : turn v ≡ 0 = ap serves waits in
      let has_ticket : (j : ℕ) (u : View E) → get_elem? (set vs id w) j ≡ some u → turn u ≤ ticket t u =
      each_set (λ (u : View E). turn u ≤ ticket t u) vs id w (omega arith) (λ j u _ there. turn_ticket t u.stage (λ k is. ((r.each j u there).turn k is).0)) in
      let le = total_le turn (ticket t) (set vs id w) has_ticket in
      let turns = total_set turn vs id v w at in let tickets = total_set (ticket t) vs id v w at in
      let out = r.tickets t in let most = below_one t r.drawn in
      omega arith

  -- A seat finds its ticket served, and takes the value.
  takes_turn : (s : St) (r : Rule s) (id : ℕ) (v : View E) → get_elem? s.views id ≡ some v → v.stage ≡ Waits r.served → (h : AtHome journal start_of first r.log s)
      → Rule (stepped s 1 (get_or s.words 1 0) id [] (in_turn (journal h.value) r.served v) (takes 0 (Some h.value)))
  takes_turn s r id v at waits h =
      let t : ℕ = r.served in let w : View E = in_turn (journal h.value) t v in let vs : List (View E) = s.views in let fits = r.each id v at in
      let all : StartsWith r.log (journal h.value) = subst (λ (l : List E). StartsWith r.log l) (sym h.journal) (starts_here r.log) in
      let more : StartsWith (journal h.value) v.seen = subst (λ (l : List E). StartsWith l v.seen) (sym h.journal) fits.seen in
      let old_line : line v ≡ 1 = ap queued waits in let old_turn : turn v ≡ 0 = ap serves waits in
      record {
        log = r.log;
        drawn = r.drawn;
        served = r.served;
        words = set-get_or s.words 1 0 ∙ r.words;
        line = let sum = total_set line vs id v w at in let is = r.line in omega arith;
        tickets = λ k. let sum = total_set (ticket k) vs id v w at in let is = r.tickets k in let held : ticket k v ≡ same k t = ap (holds_ticket k) waits in omega arith;
        parts = let sum = total_set share vs id v w at in let is = r.parts in omega arith;
        places = λ p. let sum = total_set (place p) vs id v w at in let is = r.places p in omega arith;
        each = each_set (Fits r.log first r.served) vs id w
            record {
              seen = all;
              told = starts_on v.told v.seen (journal h.value) fits.told more;
              start = fits.start;
              own = stand_on v.seen (journal h.value) v.own more fits.own;
              spent = λ none_left. absurd (waits_ne_idle t (sym waits ∙ (fits.spent none_left).0));
              turn = λ k is. (sym (serves_same t k is), h.journal);
            }
            (λ j u _ there. r.each j u there);
        top = top_set r.log vs id v w at more all r.top;
        slot = inr record {
          home = ap (λ l. set l 0 none) h.home;
          turns = let sum = total_set turn vs id v w at in let is = h.turns in omega arith;
        };
      }

  look_hit : (s : St) (r : Rule s) (slots id : ℕ) (me : M) (t : ℕ) → get_elem? s.views id ≡ some me.0 → me.0.stage ≡ Waits t → me.1 ≡ [] → t % 2 ^ 64 ≡ get_or s.words 1 0
      → AtHome journal start_of first r.log s
      → (w : View E) × (value : V) × (get_elem? s.homes 0 ≡ some (some (Some value))) × Rule (stepped s 1 (get_or s.words 1 0) id me.1 w (takes 0 (Some value))) × Taken journal start_of t me (w, (0, Some value) ∷ me.1)
  look_hit s r slots id me t at waits bare found h =
      let next = is_next s r id me.0 t at waits found in let fits = r.each id me.0 at in let v = me.0 in
      let waits' : me.0.stage ≡ Waits r.served = waits ∙ ap Waits next in
      let some_parts : 0 < v.parts = dite (ℕ_discrete v.parts 0) (λ none_left. absurd (waits_ne_idle t (sym waits ∙ (fits.spent none_left).0))) (λ some_left. omega arith) in (
        in_turn (journal h.value) r.served me.0,
        h.value,
        ap (λ l. get_elem? l 0) h.home,
        subst (λ (cs : List (ℕ × Maybe V)). Rule (stepped s 1 (get_or s.words 1 0) id cs (in_turn (journal h.value) r.served me.0) (takes 0 (Some h.value)))) (sym bare) (takes_turn s r id me.0 at waits' h),
        (
          h.value,
          refl,
          ap (λ (k : ℕ). in_turn (journal h.value) k me.0) (sym next),
          subst (λ (l : List E). StartsWith l v.seen) (sym h.journal) fits.seen,
          h.start ∙ sym (fits.start some_parts),
          fits.own,
          stand_on v.seen (journal h.value) v.own (subst (λ (l : List E). StartsWith l v.seen) (sym h.journal) fits.seen) fits.own,
        ),
      )

  pub look_allowed : (slots id : ℕ) (me : M) (t : ℕ) → me.0.stage ≡ Waits t → me.1 ≡ [] → Allows Rule slots id me 1 (λ n. n) (looked journal start_of (step slots 1 0 0 none) me)
  look_allowed slots id me t waits bare s r _ at _ = dite (ℕ_discrete (t % 2 ^ 64) (get_or s.words 1 0))
      (λ hit.
      let home : AtHome journal start_of first r.log s = ⊎_elim (λ h. h) (λ (out : TakenOut s). absurd (is_home s r id me.0 at (waits ∙ ap Waits (is_next s r id me.0 t at waits hit)) out.turns)) r.slot in
      let h = look_hit s r slots id me t at waits bare hit home in
      (h.0, takes 0 (Some h.1), h.2, h.3, ((λ k is. ((λ _. subst (λ (n : ℕ). Taken journal start_of n me (h.0, (0, Some h.1) ∷ me.1)) (waits_same t k (sym waits ∙ is)) h.4), λ miss. absurd (miss (ap (λ (n : ℕ). n % 2 ^ 64) (sym (waits_same t k (sym waits ∙ is))) ∙ hit)))), λ idle. absurd (waits_ne_idle t (sym waits ∙ idle)))))
      (λ miss.
      (me.0, keeps, tt, unmoved s r 1 id me at, ((λ k is. ((λ hit. absurd (miss (ap (λ (n : ℕ). n % 2 ^ 64) (waits_same t k (sym waits ∙ is)) ∙ hit))), λ _. refl)), λ idle. absurd (waits_ne_idle t (sym waits ∙ idle)))))

  pub recall_allowed : (slots id : ℕ) (me : M) → me.0.stage ≡ Idle → Allows Rule slots id me 1 (λ n. n) (looked journal start_of (step slots 1 0 0 none) me)
  recall_allowed slots id me idle s r _ at _ = (me.0, keeps, tt, unmoved s r 1 id me at, ((λ t waits. absurd (idle_ne_waits t (sym idle ∙ waits))), λ _. (refl, (r.each id me.0 at).told, (r.each id me.0 at).own)))

  -- A seat in its turn counts what the value in hand has gained.
  counts : (s : St) (r : Rule s) (id : ℕ) (v : View E) (t k : ℕ) (value : V) (cs : List (ℕ × Maybe V)) → get_elem? s.views id ≡ some v → v.stage ≡ Serves t
      → StartsWith (journal value) v.seen → length (journal value) ≡ length v.seen + k → length (journal value) < 2 ^ 64
      → Rule (stepped s 2 ((get_or s.words 2 0 + k) % 2 ^ 64) id cs (with_journal (journal value) v) keeps)
  counts s r id v t k value cs at has more long small =
      let after : List E = journal value in let w : View E = with_journal after v in let vs : List (View E) = s.views in let fits = r.each id v at in
      let mine = fits.turn t has in let all : v.seen ≡ r.log = mine.1 in
      let grown : StartsWith after r.log = subst (λ (l : List E). StartsWith after l) all more in
      let old_turn : turn v ≡ 1 = ap serves has in
      let out : total turn vs ≡ 1 = ⊎_elim (λ (h : AtHome journal start_of first r.log s). let none_has = h.turns in absurd (omega (arith, total_at turn vs id v at))) (λ (h : TakenOut s). h.turns) r.slot in
      let same_line : line w ≡ line v = refl in
      record {
        log = after;
        drawn = r.drawn;
        served = r.served;
        words =
            let x : ℕ = get_or s.words 2 0 in let found : x ≡ length r.log = ap (λ l. get_or l 2 0) r.words in let same_length : length v.seen ≡ length r.log = ap length all in
            let fits_word : length after < 18446744073709551616 = small in
            let up : (x + k) % 18446744073709551616 ≡ length after = omega arith in
            ap (λ l. set l 2 ((x + k) % 2 ^ 64)) r.words ∙ ap (λ (n : ℕ). r.drawn % 2 ^ 64 ∷ r.served % 2 ^ 64 ∷ n ∷ []) up;
        line = let sum = total_set line vs id v w at in let is = r.line in omega arith;
        tickets = λ p. let sum = total_set (ticket p) vs id v w at in let is = r.tickets p in omega arith;
        parts = let sum = total_set share vs id v w at in let is = r.parts in omega arith;
        places = λ p. let sum = total_set (place p) vs id v w at in let is = r.places p in let both = times_both p v.own (added v.seen after) in let new = times_added p v.seen after more in
            let same_length : below p (length v.seen) ≡ below p (length r.log) = ap (λ (l : List E). below p (length l)) all in omega arith;
        each = each_set (Fits after first r.served) vs id w
            record {
              seen = starts_here after;
              told = starts_on v.told v.seen after fits.told more;
              start = fits.start;
              own = stand_both after v.own (added v.seen after) (stand_on v.seen after v.own more fits.own) (stand_added v.seen after more);
              spent = λ none_left. absurd (serves_ne_idle t (sym has ∙ (fits.spent none_left).0));
              turn = λ n is. ((fits.turn n is).0, refl);
            }
            (λ j u apart there. let other = r.each j u there in record {
              seen = starts_on u.seen r.log after other.seen grown;
              told = other.told;
              start = other.start;
              own = other.own;
              spent = other.spent;
              turn = λ n is. absurd (one_turn_only vs id v t at has out j u apart there n is);
            });
        top = (id, w, set_here vs id w (in_list vs id v at), refl);
        slot = let sum = total_set turn vs id v w at in ⊎_elim
            (λ (h : AtHome journal start_of first r.log s). let none_has = h.turns in absurd (omega arith))
            (λ (h : TakenOut s). inr record { home = h.home; turns = omega arith })
            r.slot;
      }

  pub count_allowed : (slots id : ℕ) (me : M) (t k : ℕ) (value : V) → me.0.stage ≡ Serves t → me.1 ≡ (0, Some value) ∷ []
      → StartsWith (journal value) me.0.seen → length (journal value) ≡ length me.0.seen + k → length (journal value) < 2 ^ 64
      → Allows Rule slots id me 2 (λ n. (n + k) % 2 ^ 64) (counted journal (step slots 2 k 0 none) me)
  count_allowed slots id me t k value has hand more long small s r _ at _ = (
    with_journal (journal value) me.0,
    keeps,
    tt,
    counts s r id me.0 t k value me.1 at has more long small,
    λ value' hand'. let v = me.0 in let fits = r.each id v at in let after : List E = journal value in (
      refl,
      ap (λ (x : V). with_journal (journal x) me.0) (hand_same me.1 value value' hand hand'),
      stand_both after v.own (added v.seen after) (stand_on v.seen after v.own more fits.own) (stand_added v.seen after more),
      stand_below v.seen v.own fits.own,
    ),
  )

  -- A seat in its turn gives the slot back, and the turn to the next ticket.
  gives_turn : (s : St) (r : Rule s) (id : ℕ) (v : View E) (t : ℕ) (value : V) → get_elem? s.views id ≡ some v → v.stage ≡ Serves t
      → journal value ≡ v.seen → start_of value ≡ v.start
      → Rule (stepped s 1 ((get_or s.words 1 0 + 1) % 2 ^ 64) id ((0, Some value) ∷ []) (at_stage Idle v) gives)
  gives_turn s r id v t value at has same_journal same_start =
      let w : View E = at_stage Idle v in let vs : List (View E) = s.views in let fits = r.each id v at in
      let mine = fits.turn t has in let all : v.seen ≡ r.log = mine.1 in let now : t ≡ r.served = mine.0 in
      let old_turn : turn v ≡ 1 = ap serves has in let old_line : line v ≡ 1 = ap queued has in
      let some_parts : 0 < v.parts = dite (ℕ_discrete v.parts 0) (λ none_left. absurd (serves_ne_idle t (sym has ∙ (fits.spent none_left).0))) (λ some_left. omega arith) in
      let out : TakenOut s = ⊎_elim (λ (h : AtHome journal start_of first r.log s). let none_has = h.turns in absurd (omega (arith, total_at turn vs id v at))) (λ (h : TakenOut s). h) r.slot in
      record {
        log = r.log;
        drawn = r.drawn;
        served = r.served + 1;
        words =
            let x : ℕ = get_or s.words 1 0 in let found : x ≡ r.served % 2 ^ 64 = ap (λ l. get_or l 1 0) r.words in
            let up : (x + 1) % 18446744073709551616 ≡ (r.served + 1) % 18446744073709551616 = omega arith in
            ap (λ l. set l 1 ((x + 1) % 2 ^ 64)) r.words ∙ ap (λ (n : ℕ). r.drawn % 2 ^ 64 ∷ n ∷ length r.log ∷ []) up;
        line = let sum = total_set line vs id v w at in let is = r.line in omega arith;
        tickets = λ p. let sum = total_set (ticket p) vs id v w at in let is = r.tickets p in let up = below_suc p r.served in
            let held : ticket p v ≡ same p r.served = ap (holds_ticket p) has ∙ ap (same p) now in omega arith;
        parts = let sum = total_set share vs id v w at in let is = r.parts in omega arith;
        places = λ p. let sum = total_set (place p) vs id v w at in let is = r.places p in omega arith;
        each = each_set (Fits r.log first (r.served + 1)) vs id w
            record {
              seen = fits.seen;
              told = fits.told;
              start = fits.start;
              own = fits.own;
              spent = λ none_left. absurd (omega arith);
              turn = λ n is. absurd (idle_ne_serves n is);
            }
            (λ j u apart there. let other = r.each j u there in record {
              seen = other.seen;
              told = other.told;
              start = other.start;
              own = other.own;
              spent = other.spent;
              turn = λ n is. absurd (one_turn_only vs id v t at has out.turns j u apart there n is);
            });
        top = top_set r.log vs id v w at (starts_here v.seen) fits.seen r.top;
        slot = inl record {
          value = value;
          home = ap (λ l. set l 0 (some (Some value))) out.home;
          journal = same_journal ∙ all;
          start = same_start ∙ fits.start some_parts;
          turns = let sum = total_set turn vs id v w at in let is = out.turns in omega arith;
        };
      }

  pub serve_allowed : (slots id : ℕ) (me : M) (t : ℕ) (value : V) → me.0.stage ≡ Serves t → me.1 ≡ (0, Some value) ∷ [] → journal value ≡ me.0.seen → start_of value ≡ me.0.start
      → Allows Rule slots id me 1 (λ n. (n + 1) % 2 ^ 64) (served (step slots 1 1 0 none) me)
  serve_allowed slots id me t value has hand same_journal same_start s r _ at _ = (
    at_stage Idle me.0,
    gives,
    tt,
    subst (λ (cs : List (ℕ × Maybe V)). Rule (stepped s 1 ((get_or s.words 1 0 + 1) % 2 ^ 64) id cs (at_stage Idle me.0) gives)) (sym hand) (gives_turn s r id me.0 t value at has same_journal same_start),
    (ap rest hand, refl),
  )

  -- A seat that isn't in its turn hands one part to a new seat.
  pub split_allowed : (id : ℕ) (v : View E) → v.stage ≡ Idle → 2 ≤ v.parts → Splits Rule id v (without_part v) (one_part v)
  split_allowed id v idle parts s r at =
      let left : View E = without_part v in let right : View E = one_part v in let vs : List (View E) = s.views in let mid : List (View E) = set vs id left in let fits = r.each id v at in
      let added_up : (f : View E → ℕ) → total f (mid ++ right ∷ []) + f v ≡ total f vs + f left + f right =
      λ f. let a = total_set f vs id v left at in let b = total_snoc f mid right in omega arith
      in
      record {
        log = r.log;
        drawn = r.drawn;
        served = r.served;
        words = r.words;
        line = let sum = added_up line in let is = r.line in omega arith;
        tickets = λ t. let sum = added_up (ticket t) in let is = r.tickets t in omega arith;
        parts = let sum = added_up share in let is = r.parts in omega arith;
        places = λ p. let sum = added_up (place p) in let is = r.places p in omega arith;
        each = λ j u there. ⊎_elim
            (each_set (Fits r.log first r.served) vs id left
            record {
              seen = fits.seen;
              told = fits.told;
              start = λ some_left. fits.start (omega arith);
              own = fits.own;
              spent = λ none_left. absurd (omega arith);
              turn = fits.turn;
            }
            (λ i x _ here. r.each i x here) j u)
            (λ (is : right ≡ u). subst (Fits r.log first r.served) is record {
              seen = fits.seen;
              told = (v.seen, refl);
              start = λ some_left. fits.start (omega arith);
              own = tt;
              spent = λ none_left. absurd (omega arith);
              turn = λ t is. absurd (idle_ne_serves t is);
            })
            (at_snoc mid right u j there);
        top = let top = top_set r.log vs id v left at (starts_here v.seen) fits.seen r.top in (top.0, top.1, at_longer mid (right ∷ []) top.0 top.1 top.2, top.3);
        slot = let sum = added_up turn in ⊎_elim
            (λ (h : AtHome journal start_of first r.log s). inl record { value = h.value; home = h.home; journal = h.journal; start = h.start; turns = let is = h.turns in omega arith })
            (λ (h : TakenOut s). inr record { home = h.home; turns = let is = h.turns in omega arith })
            r.slot;
      }

  -- where one of two views has seen all, their joined view has
  top_joined : (log : List E) (vs : List (View E)) (id other : ℕ) (v w : View E) → get_elem? vs id ≡ some v → get_elem? vs other ≡ some w → other ≢ id
      → StartsWith log v.seen → StartsWith log w.seen → SeenBySome log vs → SeenBySome log (set (set vs id (joined v w)) other spent)
  top_joined log vs id other v w at there apart a b top =
      let both : View E = joined v w in let mid : List (View E) = set vs id both in let after : List (View E) = set mid other spent in
      let longest = longer_starts v.seen w.seen log a b in
      let kept : get_elem? after id ≡ some both = set_else mid other id spent (λ e. apart (sym e)) ∙ set_here vs id both (in_list vs id v at) in
      dite (ℕ_discrete top.0 id)
      (λ (here : top.0 ≡ id).
      let is : v ≡ top.1 = some-injective v top.1 (sym at ∙ (ap (get_elem? vs) (sym here) ∙ top.2)) in
      let all : length v.seen ≡ length log = ap (λ (u : View E). length u.seen) is ∙ ap length top.3 in
      (id, both, kept, starts_whole both.seen log longest.0 (omega (arith, starts_length v.seen both.seen longest.1))))
      (λ (not_here : top.0 ≢ id). dite (ℕ_discrete top.0 other)
      (λ (here : top.0 ≡ other).
      let is : w ≡ top.1 = some-injective w top.1 (sym there ∙ (ap (get_elem? vs) (sym here) ∙ top.2)) in
      let all : length w.seen ≡ length log = ap (λ (u : View E). length u.seen) is ∙ ap length top.3 in
      (id, both, kept, starts_whole both.seen log longest.0 (omega (arith, starts_length w.seen both.seen longest.2))))
      (λ (not_there : top.0 ≢ other). (top.0, top.1, set_else mid other top.0 spent not_there ∙ (set_else vs id top.0 both not_here ∙ top.2), top.3)))

  -- A seat takes in another one; neither is in its turn.
  pub join_allowed : (id : ℕ) (v : View E) (other : ℕ) (w : View E) → v.stage ≡ Idle → w.stage ≡ Idle → 0 < v.parts → Joins Rule id v other w (joined v w) spent
  join_allowed id v other w idle idle' parts s r at apart there' =
      let both : View E = joined v w in let vs : List (View E) = s.views in let mid : List (View E) = set vs id both in let after : List (View E) = set mid other spent in
      let there : get_elem? vs other ≡ some w = sym (set_else vs id other both apart) ∙ there' in
      let fits = r.each id v at in let fits' = r.each other w there in
      let longest = longer_starts v.seen w.seen r.log fits.seen fits'.seen in
      let added_up : (f : View E → ℕ) → total f after + f v + f w ≡ total f vs + f both + f spent =
      λ f. let a = total_set f vs id v both at in let b = total_set f mid other w spent there' in omega arith
      in
      record {
        log = r.log;
        drawn = r.drawn;
        served = r.served;
        words = r.words;
        line = let sum = added_up line in let is = r.line in let none_has : line w ≡ 0 = ap queued idle' in omega arith;
        tickets = λ t. let sum = added_up (ticket t) in let is = r.tickets t in let none_has : ticket t w ≡ 0 = ap (holds_ticket t) idle' in omega arith;
        parts = let sum = added_up share in let is = r.parts in omega arith;
        places = λ p. let sum = added_up (place p) in let is = r.places p in let all = times_both p v.own w.own in omega arith;
        each = each_set (Fits r.log first r.served) mid other spent
            record {
              seen = (r.log, refl);
              told = ([], refl);
              start = λ some_left. absurd (omega arith);
              own = tt;
              spent = λ _. (refl, refl, refl);
              turn = λ t is. absurd (idle_ne_serves t is);
            }
            (λ j u _ here. each_set (Fits r.log first r.served) vs id both
            record {
              seen = longest.0;
              told = longer_shorter v.seen w.seen r.log fits.seen fits'.seen;
              start = λ _. fits.start parts;
              own = stand_both both.seen v.own w.own (stand_on v.seen both.seen v.own longest.1 fits.own) (stand_on w.seen both.seen w.own longest.2 fits'.own);
              spent = λ none_left. absurd (omega arith);
              turn = λ t is. absurd (idle_ne_serves t (sym idle ∙ is));
            }
            (λ i x _ here'. r.each i x here') j u here);
        top = top_joined r.log vs id other v w at there apart fits.seen fits'.seen r.top;
        slot = let sum = added_up turn in let none_has : turn w ≡ 0 = ap serves idle' in ⊎_elim
            (λ (h : AtHome journal start_of first r.log s). inl record { value = h.value; home = h.home; journal = h.journal; start = h.start; turns = let is = h.turns in omega arith })
            (λ (h : TakenOut s). inr record { home = h.home; turns = let is = h.turns in omega arith })
            r.slot;
      }

  -- The table at the start keeps the rule.
  pub opens : (value : V) (n : ℕ) → n ≡ length (journal value) → start_of value ≡ first
      → Rule (opening (0 ∷ 0 ∷ n ∷ []) (Some value ∷ []) (opened (journal value) first))
  opens value n entries is = let log : List E = journal value in let v : View E = opened log first in record {
    log = log;
    drawn = 0;
    served = 0;
    words = ap (λ (k : ℕ). 0 ∷ 0 ∷ k ∷ []) entries;
    line = refl;
    tickets = λ t. omega arith;
    parts = refl;
    places = λ p. let once = (numbered_once log).1 p in omega arith;
    each = λ j u there. subst (Fits log first 0) (only_one v j u there) record {
      seen = starts_here log;
      told = (log, refl);
      start = λ _. refl;
      own = (numbered_once log).0;
      spent = λ none_left. absurd (omega arith);
      turn = λ t is. absurd (idle_ne_serves t is);
    };
    top = (0, v, refl, refl);
    slot = inl record { value = value; home = refl; journal = refl; start = is; turns = refl };
  }

  -- Where one view has all parts, no other has any.
  others_spent : (s : St) (r : Rule s) (id : ℕ) (v : View E) → get_elem? s.views id ≡ some v → v.parts ≡ 1000000
      → (j : ℕ) (u : View E) → j ≢ id → get_elem? s.views j ≡ some u → u.parts ≡ 0
  others_spent s r id v at all j u apart there =
      let w : View E = spent in let sum = total_set share s.views id v w at in let is = r.parts in
      omega (arith, total_at share (set s.views id w) j u (set_else s.views id j w apart ∙ there))

  -- So it has seen all, each place is its own, and the value is home.
  sole : (s : St) (r : Rule s) (id : ℕ) (v : View E) → get_elem? s.views id ≡ some v → v.parts ≡ 1000000 → v.stage ≡ Idle
      → (v.seen ≡ r.log) × (total turn s.views ≡ 0) × ((p : ℕ) → times p v.own ≡ below p (length r.log))
  sole s r id v at all idle =
      let w : View E = spent in let vs : List (View E) = s.views in let alone = others_spent s r id v at all in let fits = r.each id v at in
      let no_place : (p : ℕ) → total (place p) (set vs id w) ≡ 0 = λ p. total_none (place p) (set vs id w)
      (each_set (λ (u : View E). place p u ≡ 0) vs id w refl (λ j u apart there. ap (times p) ((r.each j u there).spent (alone j u apart there)).1))
      in
      let no_turns : total turn (set vs id w) ≡ 0 = total_none turn (set vs id w)
      (each_set (λ (u : View E). turn u ≡ 0) vs id w refl (λ j u apart there. ap serves ((r.each j u there).spent (alone j u apart there)).0))
      in
      let mine : turn v ≡ 0 = ap serves idle in
      let top = r.top in (
        dite (ℕ_discrete top.0 id)
            (λ (here : top.0 ≡ id). ap (λ (u : View E). u.seen) (some-injective v top.1 (sym at ∙ (ap (get_elem? vs) (sym here) ∙ top.2))) ∙ top.3)
            (λ (else_where : top.0 ≢ id).
            let empty : r.log ≡ [] = sym top.3 ∙ ((r.each top.0 top.1 top.2).spent (alone top.0 top.1 else_where top.2)).2 in
            starts_whole v.seen r.log fits.seen (subst (λ (l : List E). length l ≤ length v.seen) (sym empty) (omega arith))),
        (let sum = total_set turn vs id v w at in omega arith),
        (λ p. let sum = total_set (place p) vs id v w at in let is = r.places p in let none_there = no_place p in omega arith),
      )

  -- The table at the end, where one view has all parts.
  pub closes : (ws : List ℕ) (xs : List (Maybe V)) (id : ℕ) (v : View E) → Final (Seen Rule id v) ws xs → v.parts ≡ 1000000 → v.stage ≡ Idle
      → (value : V) × (get_elem? xs 0 ≡ some (Some value)) × (journal value ≡ v.seen) × (start_of value ≡ v.start) × EachOnce v.seen v.own
  closes ws xs id v last all idle =
      let s = last.0 in let r : Rule s = last.1.0 in let at : get_elem? s.views id ≡ some v = last.1.1 in let fits = r.each id v at in
      let alone = sole s r id v at all idle in
      let home : AtHome journal start_of first r.log s = ⊎_elim (λ h. h) (λ (out : TakenOut s). let one = out.turns in let none_has = alone.1 in absurd (omega arith)) r.slot in (
        home.value,
        last.4 0 (Some home.value) (ap (λ l. get_elem? l 0) home.home),
        home.journal ∙ sym alone.0,
        home.start ∙ sym (fits.start (omega arith)),
        (fits.own, λ p. subst (λ (l : List E). times p v.own ≡ below p (length l)) (sym alone.0) (alone.2 p)),
      )
