-- The text of a script is read as the script.
use Rattle.std.proofs.Common.{◌≡◌, ℕ, ◌+◌, ◌^◌, ◌<◌, ◌≤◌, inl, inr, List, [], ◌∷◌, ◌++◌, Bool, true, false, ◌&&◌, cond, eqb, leb, ltb, length, codes, decimal, flat_map, Result, Ok, Err, refl, sym, ◌∙◌, ap, arith, append_assoc, length-append}
use Rattle.std.proofs.lemmas.Bool.{and_parts, leb-true, lt-ltb, lt-leb, false_from_ne_true, cond-true, cond-false, ne_eqb, eqb-true, or_cases}
use Rattle.std.proofs.lemmas.List.{append-nil}
use Rattle.std.proofs.lemmas.Str.{is_utf8-from_IsUtf8}
use Rattle.std.specs.List.{list_all, onto_first}
use Rattle.std.specs.Str.{is_utf8}
use Rattle.ms_base.specs.declared.code.Code.{Code}
use Rattle.ms_base.specs.declared.code.Code.TheVariants as code
use Rattle.script_text.specs.declared.script.Script.{Script}
use Rattle.script_text.specs.declared.script.Step.{Step}
use Rattle.script_text.specs.declared.script.Step.TheVariants as step
use Rattle.script_text.specs.declared.row.Row.TheVariants as row
use Rattle.script_text.specs.Words.{◌>>=◌, is_word, lines, max_seed, words}
use Rattle.script_text.specs.Calls.{await_of, await_words, op_of_words, op_words}
use Rattle.script_text.specs.Script.{ended, is_script, is_skipped, is_step, is_worker, lane_row, lane_text, max_script, onto_last, row_of, script_lines, script_of, script_text, step_of, step_row, step_words, text_row, workers_in, workers_of}
use Rattle.script_text.proofs.CallLaws.{await_reads, op_reads}
use Rattle.script_text.proofs.HeadLaws.{head_reads}
use Rattle.script_text.proofs.Rows.{all_lanes, lanes_from, lanes_step}
use Rattle.script_text.proofs.ScriptLines.{ended_line, head_read, with_seed}
use Rattle.script_text.proofs.WordLaws.{IsLine, joined_line, next_word, plain_line, word_is}

-- ---- a step

-- a line that is read as the step
record ReadsAsStep (s : Step) : Type 0 where
  pub line : IsLine (step_words s)
  pub read : step_of (words (step_words s)) ≡ Ok s

-- no call begins so
await_by : (ws : List (List ℕ)) (o : _) (b : Bool) (word : List ℕ) → is_word (codes "await") word ≡ b → op_of_words (word ∷ ws) ≡ Ok o → step_of (word ∷ ws) ≡ Ok (step.Do o)
unfolding step_of
await_by ws o true word e h =
    let none : op_of_words (codes "await" ∷ ws) ≡ Ok o = ap (λ (w : List ℕ). op_of_words (w ∷ ws)) (sym (word_is (codes "await") word e)) ∙ h in absurd cc
await_by ws o false word e h = cond-false (is_word (codes "await") word) _ _ e ∙ ap (λ r. r >>= λ o. Ok (step.Do o)) h

call_step : (ws : List (List ℕ)) (o : _) → op_of_words ws ≡ Ok o → step_of ws ≡ Ok (step.Do o)
call_step [] o h = absurd cc
call_step (word ∷ ws) o h = await_by ws o (is_word (codes "await") word) word refl h

await_step : (ws : List (List ℕ)) (name : List ℕ) (e : _) (count : ℕ) → await_of ws ≡ Ok (name, e, count) → step_of (codes "await" ∷ ws) ≡ Ok (step.Wait name e count)
unfolding step_of
await_step ws name e count h = ap (λ r. r >>= λ a. Ok (step.Wait a.0 a.1 a.2)) h

step_back : (s : Step) → is_step s ≡ true → ReadsAsStep s
step_back (step.Do o) h = let known = op_reads o h in record { line = known.line; read = call_step (words (op_words o)) o known.read }
step_back (step.Wait name e count) h =
    let known = await_reads name e count h in
    let text : List ℕ = await_words name e count in record {
      line = joined_line (codes "await") text refl known.0;
      read = ap step_of (next_word (codes "await") text refl) ∙ await_step (words text) name e count known.1;
    }

-- ---- a line that is a step is no other row

remark_by : (s : Step) (ws : List (List ℕ)) → step_of (onto_first 35 ws) ≡ Ok s → ⊥
unfolding step_of
remark_by s [] h = cc
remark_by s (w ∷ ws) h = cc

empty_line : (s : Step) → step_of ([] ∷ []) ≡ Ok s → ⊥
unfolding step_of
empty_line s h = cc

lane_alone : (s : Step) → step_of (codes "lane" ∷ []) ≡ Ok s → ⊥
unfolding step_of
lane_alone s h = cc

cut_hash : (line : List ℕ) → words (35 ∷ line) ≡ onto_first 35 (words line)
cut_hash line = refl

first_hash : (b : ℕ) (line : List ℕ) → is_skipped (b ∷ line) ≡ true → b ≡ 35
first_hash b line h = elim (or_cases (eqb (length (b ∷ line)) 0) (eqb b 35) h) [
  | inl none ↦ (let no_bytes : length (b ∷ line) ≡ 0 = eqb-true _ _ none in absurd (omega arith))
  | inr hash ↦ eqb-true b 35 hash
]

not_skipped : (line : List ℕ) (s : Step) → step_of (words line) ≡ Ok s → is_skipped line ≡ false
not_skipped [] s h = absurd (empty_line s h)
not_skipped (b ∷ line) s h =
    false_from_ne_true (is_skipped (b ∷ line)) (λ e. remark_by s (words line) (
    let hash : b ≡ 35 = first_hash b line e in
    ap step_of (sym (cut_hash line)) ∙ ap (λ (c : ℕ). step_of (words (c ∷ line))) (sym hash) ∙ h))

not_lane : (line : List ℕ) (s : Step) → step_of (words line) ≡ Ok s → is_word (codes "lane") line ≡ false
not_lane line s h =
    false_from_ne_true (is_word (codes "lane") line) (λ e. lane_alone s (ap (λ (l : List ℕ). step_of (words l)) (sym (word_is (codes "lane") line e)) ∙ h))

room_by : (b : Bool) (w : ℕ) → w + cond b 1 0 ≤ 64 → (b && leb 64 w) ≡ false
room_by true w h = lt-leb 64 w (omega arith)
room_by false w h = refl

step_row_is : (n w : ℕ) (s : Step) → is_step s ≡ true → 0 < n → w + cond (is_worker s) 1 0 ≤ 64 → row_of n w (step_words s) ≡ Ok (row.Step s)
unfolding row_of
step_row_is n w s h some room =
    let known = step_back s h in
    let line : List ℕ = step_words s in
    cond-true (is_utf8 line) (text_row n w line) (Err code.Utf8) (is_utf8-from_IsUtf8 line known.line.text)
    ∙ cond-false (is_skipped line) (Ok row.Skip) (cond (is_word (codes "lane") line) (lane_row n) (step_row n w line)) (not_skipped line s known.read)
    ∙ cond-false (is_word (codes "lane") line) (lane_row n) (step_row n w line) (not_lane line s known.read)
    ∙ cond-false (eqb n 0) (Err code.NoLane) _ (ne_eqb n 0 (λ e. omega arith))
    ∙ ap (λ (r : Result Step Code). r >>= λ t. cond (is_worker t && leb 64 w) (Err code.TooMany) (Ok (row.Step t))) known.read
    ∙ cond-false (is_worker s && leb 64 w) (Err code.TooMany) (Ok (row.Step s)) (room_by (is_worker s) w room)

-- ---- lanes

onto_end : (done : List (List Step)) (lane : List Step) (s : Step) → onto_last s (done ++ lane ∷ []) ≡ done ++ (lane ++ s ∷ []) ∷ []
onto_end [] lane s = refl
onto_end (d ∷ []) lane s = refl
onto_end (d ∷ e ∷ done) lane s = ap (λ (x : List (List Step)). d ∷ x) (onto_end (e ∷ done) lane s)

workers_in_both : (xs ys : List Step) → workers_in (xs ++ ys) ≡ workers_in xs + workers_in ys
workers_in_both [] ys = omega arith
workers_in_both (x ∷ xs) ys = omega (arith, workers_in_both xs ys)

workers_of_both : (xs ys : List (List Step)) → workers_of (xs ++ ys) ≡ workers_of xs + workers_of ys
workers_of_both [] ys = omega arith
workers_of_both (x ∷ xs) ys = omega (arith, workers_of_both xs ys)

abbrev step_line : Step → List ℕ
step_line s = ended (step_words s)

steps_back : (n : ℕ) (done : List (List Step)) (lane steps : List Step) (rest : List ℕ) → list_all is_step steps ≡ true
    → workers_of done + workers_in lane + workers_in steps ≤ 64
    → lanes_from n (done ++ lane ∷ []) (script_lines (lines (flat_map step_line steps ++ rest))) ≡ lanes_from (n + length steps) (done ++ (lane ++ steps) ∷ []) (script_lines (lines rest))
steps_back n done lane [] rest h few =
    let same : n ≡ n + 0 = omega arith in
    ap (λ (k : ℕ). lanes_from k (done ++ lane ∷ []) (script_lines (lines rest))) same
    ∙ ap (λ (x : List Step). lanes_from (n + 0) (done ++ x ∷ []) (script_lines (lines rest))) (sym (append-nil lane))
steps_back n done lane (s ∷ steps) rest h few =
    let parts = and_parts (is_step s) (list_all is_step steps) h in
    let known = step_back s parts.0 in
    let others : List ℕ = flat_map step_line steps ++ rest in
    let some : 0 < length (done ++ lane ∷ []) = omega (arith, length-append done (lane ∷ [])) in
    let room : workers_of (done ++ lane ∷ []) + cond (is_worker s) 1 0 ≤ 64 = omega (arith, workers_of_both done (lane ∷ []), few) in
    let more : workers_of done + workers_in (lane ++ s ∷ []) + workers_in steps ≤ 64 = omega (arith, workers_in_both lane (s ∷ []), few) in
    let count : n + 1 + length steps ≡ n + length (s ∷ steps) = omega arith in
    ap (λ (t : List ℕ). lanes_from n (done ++ lane ∷ []) (script_lines (lines t))) (append_assoc (step_line s) (flat_map step_line steps) rest)
    ∙ ap (lanes_from n (done ++ lane ∷ [])) (ended_line (step_words s) others known.line.whole)
    ∙ lanes_step n (done ++ lane ∷ []) (step_words s) (script_lines (lines others)) (row.Step s)
    (step_row_is (length (done ++ lane ∷ [])) (workers_of (done ++ lane ∷ [])) s parts.0 some room)
    ∙ ap (λ (ls : List (List Step)). lanes_from (n + 1) ls (script_lines (lines others))) (onto_end done lane s)
    ∙ steps_back (n + 1) done (lane ++ s ∷ []) steps rest parts.1 more
    ∙ ap (λ (k : ℕ). lanes_from k (done ++ ((lane ++ s ∷ []) ++ steps) ∷ []) (script_lines (lines rest))) count
    ∙ ap (λ (x : List Step). lanes_from (n + length (s ∷ steps)) (done ++ x ∷ []) (script_lines (lines rest))) (append_assoc lane (s ∷ []) steps)

skip_is : (n w : ℕ) → row_of n w [] ≡ Ok row.Skip
unfolding row_of
skip_is n w = cond-true (is_utf8 []) (text_row n w []) (Err code.Utf8) (is_utf8-from_IsUtf8 [] (plain_line [] refl).text)

lane_is : (n w : ℕ) → n < 64 → row_of n w (codes "lane") ≡ Ok row.Lane
unfolding row_of
lane_is n w h =
    cond-true (is_utf8 (codes "lane")) (text_row n w (codes "lane")) (Err code.Utf8) (is_utf8-from_IsUtf8 (codes "lane") (plain_line (codes "lane") refl).text)
    ∙ cond-true (ltb n 64) (Ok row.Lane) (Err code.TooMany) (lt-ltb n 64 h)

no_lanes : (n : ℕ) (done : List (List Step)) → lanes_from n done ([] ∷ []) ≡ Ok done
no_lanes n done = lanes_step n done [] [] row.Skip (skip_is (length done) (workers_of done))

lanes_back : (n : ℕ) (done lanes : List (List Step)) → list_all (list_all is_step) lanes ≡ true → length done + length lanes ≤ 64
    → workers_of done + workers_of lanes ≤ 64 → lanes_from n done (script_lines (lines (flat_map lane_text lanes))) ≡ Ok (done ++ lanes)
lanes_back n done [] h count few = no_lanes n done ∙ ap (λ (x : List (List Step)). Ok x) (sym (append-nil done))
lanes_back n done (lane ∷ lanes) h count few =
    let parts = and_parts (list_all is_step lane) (list_all (list_all is_step) lanes) h in
    let others : List ℕ = flat_map lane_text lanes in
    let room : length done < 64 = omega (arith, count) in
    let more : length (done ++ lane ∷ []) + length lanes ≤ 64 = omega (arith, length-append done (lane ∷ []), count) in
    let workers : workers_of (done ++ lane ∷ []) + workers_of lanes ≤ 64 = omega (arith, workers_of_both done (lane ∷ []), few) in
    ap (λ (t : List ℕ). lanes_from n done (script_lines (lines t))) (append_assoc (ended (codes "lane")) (flat_map step_line lane) others)
    ∙ ap (lanes_from n done) (ended_line (codes "lane") (flat_map step_line lane ++ others) refl)
    ∙ lanes_step n done (codes "lane") (script_lines (lines (flat_map step_line lane ++ others))) row.Lane (lane_is (length done) (workers_of done) room)
    ∙ steps_back (n + 1) done [] lane others parts.0 (omega (arith, few))
    ∙ lanes_back (n + 1 + length lane) (done ++ lane ∷ []) lanes parts.1 more workers
    ∙ ap (λ (x : List (List Step)). Ok x) (append_assoc done (lane ∷ []) lanes)

-- ---- the whole script

pub script_back : (s : Script) → is_script s ≡ true → length (script_text s) ≤ max_script → script_of (script_text s) ≡ Ok s
unfolding is_script script_text
script_back s h fits =
    let a = and_parts _ (list_all (list_all is_step) s.lanes) h in
    let b = and_parts _ (leb (workers_of s.lanes) 64) a.0 in
    let d = and_parts (leb s.seed max_seed) (leb (length s.lanes) 64) b.0 in
    let below : s.seed < 2 ^ 60 = let most : s.seed ≤ max_seed = leb-true s.seed max_seed d.0 in omega arith in
    let count : length s.lanes ≤ 64 = leb-true (length s.lanes) 64 d.1 in
    let few : workers_of s.lanes ≤ 64 = leb-true (workers_of s.lanes) 64 b.1 in
    let head = head_reads (codes "script") s.seed refl below in
    let line : List ℕ = codes "script" ++ 32 ∷ (codes "1" ++ 32 ∷ decimal s.seed) in
    let rest : List ℕ = flat_map lane_text s.lanes in
    head_read (script_text s) line (script_lines (lines rest)) s.seed fits (ended_line line rest head.line.whole) head.read
    ∙ ap (with_seed s.seed) (all_lanes (script_lines (lines rest)) ∙ lanes_back 2 [] s.lanes a.1 (omega (arith, count)) (omega (arith, few)))
