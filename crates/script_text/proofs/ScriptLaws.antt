-- What is read as a script can be written, and what is written is read as the script.
use Rattle.std.proofs.Common.{◌≡◌, ℕ, suc, ◌+◌, ◌^◌, ◌<◌, ◌≤◌, inl, inr, List, [], ◌∷◌, Bool, true, false, ◌&&◌, cond, eqb, leb, ltb, length, codes, Ok, Err, refl, sym, ◌∙◌, ap, subst, arith, length-append}
use Rattle.std.proofs.lemmas.Bool.{and_parts, and_from, le-leb, ltb-true, false≢true, cases_lt}
use Rattle.std.proofs.lemmas.List.Folds.{list_all-append}
use Rattle.std.proofs.lemmas.List.Splits.{join_with_byte-slice_split}
use Rattle.std.proofs.lemmas.Str.{IsUtf8-from_is_utf8}
use Rattle.std.specs.List.{list_all}
use Rattle.std.specs.Str.{is_utf8}
use Rattle.ms_base.specs.declared.code.Code.{Code}
use Rattle.ms_base.specs.declared.code.Code.TheVariants as code
use Rattle.script_text.specs.declared.script.Script.{Script}
use Rattle.script_text.specs.declared.script.Step.{Step}
use Rattle.script_text.specs.declared.script.Step.TheVariants as step
use Rattle.script_text.specs.declared.row.Row.{Row}
use Rattle.script_text.specs.declared.row.Row.TheVariants as row
use Rattle.script_text.specs.Words.{◌>>=◌, BadLine, at_line, is_word, lines, max_seed, rest_of_line, seed_of_line, words}
use Rattle.script_text.specs.Calls.{await_of, op_of}
use Rattle.script_text.specs.Script.{is_script, is_skipped, is_step, is_worker, lane_row, lanes_behind, max_script, onto_last, row_of, script_lines, script_of, script_of_lines, step_of, step_row, text_row, with_row, workers_of}
use Rattle.script_text.specs.Parted.{at_line_ok, bind_ok, ok_is, picked}
use Rattle.script_text.proofs.CallLaws.{await_back, op_back}
use Rattle.script_text.proofs.HeadLaws.{head_back}
use Rattle.script_text.proofs.Pieces.{lacks}
use Rattle.script_text.proofs.Rows.{all_lanes, lanes_from, workers_more}
use Rattle.script_text.proofs.ScriptLines.{are_whole, lines_whole, script_whole}
use Rattle.script_text.proofs.WordLaws.{IsLine, line_behind}

-- ---- a step that was read

no_await : (s : Step) → (await_of [] >>= λ a. Ok (step.Wait a.0 a.1 a.2)) ≡ Ok s → ⊥
unfolding await_of
no_await s h = cc

first_step : (word : List ℕ) (ws : List (List ℕ)) (s : Step) (b : Bool)
    → cond b (await_of ws >>= λ a. Ok (step.Wait a.0 a.1 a.2)) (op_of word ws >>= λ o. Ok (step.Do o)) ≡ Ok s
    → IsLine (rest_of_line (word ∷ ws)) → is_step s ≡ true
first_step word [] s true h line = absurd (no_await s h)
first_step word (w ∷ ws) s true h line =
    let a = bind_ok (await_of (w ∷ ws)) _ s h in
    subst (λ (x : Step). is_step x ≡ true) (ok_is {F = Code} _ s a.2) ((await_back (w ∷ ws) a.0 a.1).1 (line_behind word (rest_of_line (w ∷ ws)) line))
first_step word ws s false h line =
    let o = bind_ok (op_of word ws) _ s h in
    subst (λ (x : Step). is_step x ≡ true) (ok_is {F = Code} _ s o.2) ((op_back word ws o.0 o.1).fits line)

step_well : (ws : List (List ℕ)) (s : Step) → step_of ws ≡ Ok s → IsLine (rest_of_line ws) → is_step s ≡ true
unfolding step_of
step_well [] s h line = absurd cc
step_well (word ∷ ws) s h line = first_step word ws s (is_word (codes "await") word) h line

-- what a row with a step tells
record IsStepRow (n w : ℕ) (line : List ℕ) (s : Step) : Type 0 where
  pub text : is_utf8 line ≡ true
  pub read : step_of (words line) ≡ Ok s
  pub room : (is_worker s && leb 64 w) ≡ false

lane_by : (b : Bool) (s : Step) → cond b (Ok row.Lane) (Err code.TooMany) ≡ Ok (row.Step s) → ⊥
lane_by true s h = cc
lane_by false s h = cc

roomy : (t s : Step) (b : Bool) → cond b (Err code.TooMany) (Ok (row.Step t)) ≡ Ok (row.Step s) → (b ≡ false) × (t ≡ s)
roomy t s true h = absurd cc
roomy t s false h = (refl, cc)

step_text : (n w : ℕ) (line : List ℕ) (s : Step) (lanes : Bool) → is_utf8 line ≡ true
    → cond lanes (Err code.NoLane) (step_of (words line) >>= λ t. cond (is_worker t && leb 64 w) (Err code.TooMany) (Ok (row.Step t))) ≡ Ok (row.Step s) → IsStepRow n w line s
step_text n w line s true text h = absurd cc
step_text n w line s false text h =
    let t = bind_ok (step_of (words line)) _ (row.Step s) h in
    let found = roomy t.0 s (is_worker t.0 && leb 64 w) t.2 in
    record {
      text = text;
      read = t.1 ∙ ap (λ (x : Step). Ok x) found.1;
      room = ap (λ (x : Step). is_worker x && leb 64 w) (sym found.1) ∙ found.0;
    }

step_row_by : (n w : ℕ) (line : List ℕ) (s : Step) (a b : Bool) → is_utf8 line ≡ true
    → cond a (Ok row.Skip) (cond b (lane_row n) (step_row n w line)) ≡ Ok (row.Step s) → IsStepRow n w line s
step_row_by n w line s true b text h = absurd cc
step_row_by n w line s false true text h = absurd (lane_by _ s h)
step_row_by n w line s false false text h = step_text n w line s (eqb n 0) text h

step_row_known : (n w : ℕ) (line : List ℕ) (s : Step) → row_of n w line ≡ Ok (row.Step s) → IsStepRow n w line s
unfolding row_of
step_row_known n w line s h =
    let found = picked (is_utf8 line) (text_row n w line) code.Utf8 (row.Step s) h in
    step_row_by n w line s (is_skipped line) (is_word (codes "lane") line) found.0 found.1

few_lanes : (n : ℕ) (b : Bool) → ltb n 64 ≡ b → cond b (Ok row.Lane) (Err code.TooMany) ≡ Ok row.Lane → n < 64
few_lanes n true e h = ltb-true n 64 e
few_lanes n false e h = absurd cc

lane_stepped : (t : Step) (b : Bool) → cond b (Err code.TooMany) (Ok (row.Step t)) ≡ Ok row.Lane → ⊥
lane_stepped t true h = cc
lane_stepped t false h = cc

lane_step : (n w : ℕ) (line : List ℕ) (lanes : Bool)
    → cond lanes (Err code.NoLane) (step_of (words line) >>= λ t. cond (is_worker t && leb 64 w) (Err code.TooMany) (Ok (row.Step t))) ≡ Ok row.Lane → ⊥
lane_step n w line true h = cc
lane_step n w line false h = let t = bind_ok (step_of (words line)) _ row.Lane h in lane_stepped t.0 (is_worker t.0 && leb 64 w) t.2

lane_row_by : (n w : ℕ) (line : List ℕ) (a b : Bool) → cond a (Ok row.Skip) (cond b (lane_row n) (step_row n w line)) ≡ Ok row.Lane → n < 64
lane_row_by n w line true b h = absurd cc
lane_row_by n w line false true h = few_lanes n (ltb n 64) refl h
lane_row_by n w line false false h = absurd (lane_step n w line (eqb n 0) h)

lane_row_known : (n w : ℕ) (line : List ℕ) → row_of n w line ≡ Ok row.Lane → n < 64
unfolding row_of
lane_row_known n w line h =
    lane_row_by n w line (is_skipped line) (is_word (codes "lane") line) (picked (is_utf8 line) (text_row n w line) code.Utf8 row.Lane h).1

-- ---- lanes that can be written

record AreGood (lanes : List (List Step)) : Type 0 where
  pub count : length lanes ≤ 64
  pub workers : workers_of lanes ≤ 64
  pub steps : list_all (list_all is_step) lanes ≡ true

length_onto : (s : Step) (lanes : List (List Step)) → length (onto_last s lanes) ≡ length lanes
length_onto s [] = refl
length_onto s (lane ∷ []) = refl
length_onto s (lane ∷ next ∷ more) = ap (λ n. suc n) (length_onto s (next ∷ more))

steps_onto : (s : Step) (lanes : List (List Step)) → is_step s ≡ true → list_all (list_all is_step) lanes ≡ true → list_all (list_all is_step) (onto_last s lanes) ≡ true
steps_onto s [] w h = refl
steps_onto s (lane ∷ []) w h =
    and_from _ _ (list_all-append is_step lane (s ∷ []) ∙ and_from _ _ (and_parts (list_all is_step lane) true h).0 (and_from _ _ w refl)) refl
steps_onto s (lane ∷ next ∷ more) w h =
    let parts = and_parts (list_all is_step lane) (list_all (list_all is_step) (next ∷ more)) h in
    and_from _ _ parts.0 (steps_onto s (next ∷ more) w parts.1)

below_by : (b : Bool) (w : ℕ) → (b && leb 64 w) ≡ false → w ≤ 64 → w + (cond b 1 0 + 0) ≤ 64
below_by true w h fits = elim (cases_lt w 64) [
  | inl less ↦ omega arith
  | inr full ↦ absurd (false≢true (sym h ∙ le-leb 64 w full))
]
below_by false w h fits = omega arith

line_of_words : (line : List ℕ) → is_utf8 line ≡ true → lacks 10 line → IsLine (rest_of_line (words line))
line_of_words line text whole = subst IsLine (sym (join_with_byte-slice_split 32 line)) (record { text = IsUtf8-from_is_utf8 line text; whole = whole })

good_row : (lanes : List (List Step)) (r : Row) (line : List ℕ) → row_of (length lanes) (workers_of lanes) line ≡ Ok r → lacks 10 line → AreGood lanes → AreGood (with_row lanes r)
good_row lanes row.Skip line h whole good = good
good_row lanes row.Lane line h whole good =
    let room = lane_row_known (length lanes) (workers_of lanes) line h in
    let same = workers_more lanes row.Lane line h in
    record {
      count = omega (arith, length-append lanes ([] ∷ []), room);
      workers = omega (arith, same, good.workers);
      steps = list_all-append (list_all is_step) lanes ([] ∷ []) ∙ and_from _ _ good.steps refl;
    }
good_row lanes (row.Step s) line h whole good =
    let known = step_row_known (length lanes) (workers_of lanes) line s h in
    let well = step_well (words line) s known.read (line_of_words line known.text whole) in
    let same = workers_more lanes (row.Step s) line h in
    let room = below_by (is_worker s) (workers_of lanes) known.room good.workers in
    record {
      count = omega (arith, length_onto s lanes, good.count);
      workers = omega (arith, same, room);
      steps = steps_onto s lanes well good.steps;
    }

good_lines : (n : ℕ) (lanes out : List (List Step)) (ls : List (List ℕ)) → lanes_from n lanes ls ≡ Ok out → are_whole ls → AreGood lanes → AreGood out
good_lines n lanes out [] h whole good = subst AreGood (ok_is {F = BadLine} lanes out h) good
good_lines n lanes out (line ∷ more) h whole good =
    let r = bind_ok (at_line n (row_of (length lanes) (workers_of lanes) line)) _ out h in
    good_lines (n + 1) (with_row lanes r.0) out more r.2 whole.1
    (good_row lanes r.0 line (at_line_ok n (row_of (length lanes) (workers_of lanes) line) r.0 r.1) whole.0 good)

none_good : AreGood []
none_good = record { count = omega arith; workers = omega arith; steps = refl }

is_script_from : (seed : ℕ) (lanes : List (List Step)) → seed < 2 ^ 60 → AreGood lanes → is_script (record { seed = seed; lanes = lanes }) ≡ true
unfolding is_script
is_script_from seed lanes fits good =
    and_from _ _ (and_from _ _ (and_from _ _ (le-leb seed max_seed (omega arith)) (le-leb (length lanes) 64 good.count)) (le-leb (workers_of lanes) 64 good.workers)) good.steps

lines_read : (ls : List (List ℕ)) (s : Script) → script_of_lines ls ≡ Ok s → are_whole ls → is_script s ≡ true
unfolding script_of_lines
lines_read [] s h whole = absurd cc
lines_read (head ∷ rest) s h whole =
    let seed = bind_ok (at_line 1 (seed_of_line (codes "script") head)) _ s h in
    let lanes = bind_ok (lanes_behind rest) _ s seed.2 in
    let fits = (head_back (codes "script") head seed.0 (at_line_ok 1 (seed_of_line (codes "script") head) seed.0 seed.1)).1 in
    let good = good_lines 2 [] lanes.0 rest (sym (all_lanes rest) ∙ lanes.1) whole.1 none_good in
    subst (λ (x : Script). is_script x ≡ true) (ok_is {F = BadLine} _ s lanes.2) (is_script_from seed.0 lanes.0 fits good)

fits_read : (text : List ℕ) (s : Script) (b : Bool) → cond b (script_of_lines (script_lines (lines text))) (at_line 1 (Err code.Long)) ≡ Ok s → is_script s ≡ true
fits_read text s true h = lines_read (script_lines (lines text)) s h (script_whole (lines text) (lines_whole text))
fits_read text s false h = absurd cc

pub reads_script : (text : List ℕ) (s : Script) → script_of text ≡ Ok s → is_script s ≡ true
reads_script text s h = fits_read text s (leb (length text) max_script) h
