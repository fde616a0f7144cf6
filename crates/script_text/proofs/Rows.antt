-- The rows of a script one after another: what each does to the lanes before it.
use Rattle.std.proofs.Common.{◌≡◌, ℕ, zero, suc, ◌+◌, ◌-◌, ◌<◌, List, [], ◌∷◌, ◌++◌, Bool, true, false, cond, eqb, codes, length, slice_index_or, slice_set, Result, Ok, Err, OnOk, refl, ◌∙◌, ap, arith, length-append}
use Rattle.std.specs.Str.{is_utf8}
use Rattle.ms_base.specs.declared.code.Code.{Code}
use Rattle.ms_base.specs.declared.code.Code.TheVariants as code
use Rattle.script_text.specs.declared.script.Step.{Step}
use Rattle.script_text.specs.declared.row.Row.{Row}
use Rattle.script_text.specs.declared.row.Row.TheVariants as row
use Rattle.script_text.specs.Words.{◌>>=◌, BadLine, at_line, is_word}
use Rattle.script_text.specs.Script.{is_skipped, lane_row, lanes_behind, lanes_of, onto_last, row_of, row_steps, step_row, text_row, rows_behind, steps_before_lane, with_row, workers_in, workers_of}
use Rattle.script_text.specs.Parted.{picked}

-- ---- one row more

front_skip : (b : List Row) → steps_before_lane (b ++ row.Skip ∷ []) ≡ steps_before_lane b
front_skip [] = refl
front_skip (row.Skip ∷ b) = front_skip b
front_skip (row.Lane ∷ b) = refl
front_skip (row.Step s ∷ b) = ap (λ (xs : List Step). s ∷ xs) (front_skip b)

front_lane : (b : List Row) → steps_before_lane (b ++ row.Lane ∷ []) ≡ steps_before_lane b
front_lane [] = refl
front_lane (row.Skip ∷ b) = front_lane b
front_lane (row.Lane ∷ b) = refl
front_lane (row.Step s ∷ b) = ap (λ (xs : List Step). s ∷ xs) (front_lane b)

front_step : (s : Step) (b : List Row) → lanes_of b ≡ [] → steps_before_lane (b ++ row.Step s ∷ []) ≡ steps_before_lane b ++ s ∷ []
front_step s [] h = refl
front_step s (row.Skip ∷ b) h = front_step s b h
front_step s (row.Lane ∷ b) h = absurd cc
front_step s (row.Step t ∷ b) h = ap (λ (xs : List Step). t ∷ xs) (front_step s b h)

front_closed : (s : Step) (b : List Row) → 0 < length (lanes_of b) → steps_before_lane (b ++ row.Step s ∷ []) ≡ steps_before_lane b
front_closed s [] h = absurd (omega arith)
front_closed s (row.Skip ∷ b) h = front_closed s b h
front_closed s (row.Lane ∷ b) h = refl
front_closed s (row.Step t ∷ b) h = ap (λ (xs : List Step). t ∷ xs) (front_closed s b h)

step_onto : (s : Step) (b : List Row) (lanes : List (List Step)) → lanes_of b ≡ lanes → lanes_of (b ++ row.Step s ∷ []) ≡ onto_last s lanes
    → steps_before_lane (b ++ row.Step s ∷ []) ∷ lanes_of (b ++ row.Step s ∷ []) ≡ onto_last s (steps_before_lane b ∷ lanes)
step_onto s b [] e h = ap (λ (x : List Step). x ∷ lanes_of (b ++ row.Step s ∷ [])) (front_step s b e) ∙ ap (λ (xs : List (List Step)). (steps_before_lane b ++ s ∷ []) ∷ xs) h
step_onto s b (lane ∷ more) e h =
    let some : 0 < length (lanes_of b) = omega (arith, ap length e) in
    ap (λ (x : List Step). x ∷ lanes_of (b ++ row.Step s ∷ [])) (front_closed s b some) ∙ ap (λ (xs : List (List Step)). steps_before_lane b ∷ xs) h

pub lanes_more : (b : List Row) (r : Row) → lanes_of (b ++ r ∷ []) ≡ with_row (lanes_of b) r
lanes_more [] row.Skip = refl
lanes_more [] row.Lane = refl
lanes_more [] (row.Step s) = refl
lanes_more (row.Skip ∷ b) r = lanes_more b r
lanes_more (row.Step t ∷ b) r = lanes_more b r
lanes_more (row.Lane ∷ b) row.Skip = ap (λ (x : List Step). x ∷ lanes_of (b ++ row.Skip ∷ [])) (front_skip b) ∙ ap (λ (xs : List (List Step)). steps_before_lane b ∷ xs) (lanes_more b row.Skip)
lanes_more (row.Lane ∷ b) row.Lane = ap (λ (x : List Step). x ∷ lanes_of (b ++ row.Lane ∷ [])) (front_lane b) ∙ ap (λ (xs : List (List Step)). steps_before_lane b ∷ xs) (lanes_more b row.Lane)
lanes_more (row.Lane ∷ b) (row.Step s) = step_onto s b (lanes_of b) refl (lanes_more b (row.Step s))

-- ---- the lanes of lines, where these lanes stand before them

abbrev pub lanes_from : ℕ → List (List Step) → List (List ℕ) → Result (List (List Step)) BadLine
lanes_from n lanes [] = Ok lanes
lanes_from n lanes (line ∷ more) = at_line n (row_of (length lanes) (workers_of lanes) line) >>= λ r. lanes_from (n + 1) (with_row lanes r) more

each_row : (read : Result Row BadLine) (f g : Row → Result (List (List Step)) BadLine) → ((r : Row) → f r ≡ g r) → (read >>= f) ≡ (read >>= g)
each_row (Ok r) f g h = h r
each_row (Err e) f g h = refl

grouped : (read : Result Row BadLine) (f : Row → Result (List Row) BadLine) → ((read >>= f) >>= λ rows. Ok (lanes_of rows)) ≡ (read >>= λ r. f r >>= λ rows. Ok (lanes_of rows))
grouped (Ok r) f = refl
grouped (Err e) f = refl

as_lanes : (before : List Row) (ls : List (List ℕ)) → (rows_behind before ls >>= λ rows. Ok (lanes_of rows)) ≡ lanes_from (length before + 2) (lanes_of before) ls
unfolding rows_behind
as_lanes before [] = refl
as_lanes before (line ∷ more) =
    let read : Result Row BadLine = at_line (length before + 2) (row_of (length (lanes_of before)) (workers_of (lanes_of before)) line) in
    grouped read (λ r. rows_behind (before ++ r ∷ []) more)
    ∙ each_row read (λ r. rows_behind (before ++ r ∷ []) more >>= λ rows. Ok (lanes_of rows)) (λ r. lanes_from (length before + 2 + 1) (with_row (lanes_of before) r) more)
    (λ r.
    let count : length (before ++ r ∷ []) + 2 ≡ length before + 2 + 1 = omega (arith, length-append before (r ∷ [])) in
    as_lanes (before ++ r ∷ []) more
    ∙ ap (λ n. lanes_from n (lanes_of (before ++ r ∷ [])) more) count
    ∙ ap (λ lanes. lanes_from (length before + 2 + 1) lanes more) (lanes_more before r))

pub all_lanes : (ls : List (List ℕ)) → lanes_behind ls ≡ lanes_from 2 [] ls
all_lanes ls = as_lanes [] ls

pub lanes_step : (n : ℕ) (lanes : List (List Step)) (line : List ℕ) (more : List (List ℕ)) (r : Row) → row_of (length lanes) (workers_of lanes) line ≡ Ok r
    → lanes_from n lanes (line ∷ more) ≡ lanes_from (n + 1) (with_row lanes r) more
lanes_step n lanes line more r h = ap (λ (read : Result Row Code). at_line n read >>= λ r. lanes_from (n + 1) (with_row lanes r) more) h

pub lanes_fault : (n : ℕ) (lanes : List (List Step)) (line : List ℕ) (more : List (List ℕ)) (wrong : Code) → row_of (length lanes) (workers_of lanes) line ≡ Err wrong
    → lanes_from n lanes (line ∷ more) ≡ Err (record { line = n; code = wrong })
lanes_fault n lanes line more wrong h = ap (λ (read : Result Row Code). at_line n read >>= λ r. lanes_from (n + 1) (with_row lanes r) more) h

-- ---- a step behind the last lane, in place

pub on_ok : {A E : Type 0} (r : Result A E) (P Q : Type 0) → (P → Q) → OnOk r P → OnOk r Q
on_ok (Ok x) P Q f h = f h
on_ok (Err e) P Q f h = h

pub set_last : (s : Step) (lanes : List (List Step)) (i : ℕ) (lane new : List Step) → i + 1 ≡ length lanes → lane ≡ slice_index_or lanes i lane → new ≡ lane ++ s ∷ []
    → slice_set lanes i new ≡ onto_last s lanes
set_last s [] i lane new e h g = absurd (omega arith)
set_last s (x ∷ []) zero lane new e h g = ap (λ (l : List Step). l ∷ []) (g ∙ ap (λ (l : List Step). l ++ s ∷ []) h)
set_last s (x ∷ []) (suc i) lane new e h g = absurd (omega arith)
set_last s (x ∷ y ∷ more) zero lane new e h g = absurd (omega arith)
set_last s (x ∷ y ∷ more) (suc i) lane new e h g = ap (λ (ls : List (List Step)). x ∷ ls) (set_last s (y ∷ more) i lane new (omega arith) h g)

-- ---- how many `worker` lines there are

workers_step : (s : Step) (lane : List Step) → workers_in (lane ++ s ∷ []) ≡ workers_in lane + workers_in (s ∷ [])
workers_step s [] = omega arith
workers_step s (t ∷ lane) = omega (arith, workers_step s lane)

workers_onto : (s : Step) (lanes : List (List Step)) → 0 < length lanes → workers_of (onto_last s lanes) ≡ workers_of lanes + workers_in (s ∷ [])
workers_onto s [] h = absurd (omega arith)
workers_onto s (lane ∷ []) h = omega (arith, workers_step s lane)
workers_onto s (lane ∷ next ∷ more) h = omega (arith, workers_onto s (next ∷ more) (omega arith))

workers_lane : (lanes : List (List Step)) → workers_of (lanes ++ [] ∷ []) ≡ workers_of lanes
workers_lane [] = refl
workers_lane (lane ∷ lanes) = ap (λ n. workers_in lane + n) (workers_lane lanes)

-- a step is none of a text without a lane
lane_refused : {A F : Type 0} (n : ℕ) (r : Result A F) (f : F) (x : A) → cond (eqb n 0) (Err f) r ≡ Ok x → 0 < n
lane_refused zero r f x h = absurd cc
lane_refused (suc n) r f x h = omega arith

lane_by : (b : Bool) (s : Step) → cond b (Ok row.Lane) (Err code.TooMany) ≡ Ok (row.Step s) → ⊥
lane_by true s h = cc
lane_by false s h = cc

no_step : (n : ℕ) (s : Step) → lane_row n ≡ Ok (row.Step s) → ⊥
no_step n s h = lane_by _ s h

step_by_lane : (n w : ℕ) (line : List ℕ) (s : Step) (a b : Bool) → cond a (Ok row.Skip) (cond b (lane_row n) (step_row n w line)) ≡ Ok (row.Step s) → 0 < n
step_by_lane n w line s true b h = absurd cc
step_by_lane n w line s false true h = absurd (no_step n s h)
step_by_lane n w line s false false h = lane_refused n _ code.NoLane (row.Step s) h

needs_lane : (n w : ℕ) (line : List ℕ) (s : Step) → row_of n w line ≡ Ok (row.Step s) → 0 < n
unfolding row_of
needs_lane n w line s h = step_by_lane n w line s (is_skipped line) (is_word (codes "lane") line) (picked (is_utf8 line) (text_row n w line) code.Utf8 (row.Step s) h).1

pub workers_more : (lanes : List (List Step)) (r : Row) (line : List ℕ) → row_of (length lanes) (workers_of lanes) line ≡ Ok r
    → workers_of (with_row lanes r) ≡ workers_of lanes + workers_in (row_steps r)
workers_more lanes row.Skip line h = omega arith
workers_more lanes row.Lane line h = omega (arith, workers_lane lanes)
workers_more lanes (row.Step s) line h = workers_onto s lanes (needs_lane (length lanes) (workers_of lanes) line s h)

pub last_place : (n : ℕ) (lanes : List (List Step)) → n ≡ length lanes → 0 < n → n - 1 + 1 ≡ length lanes
last_place n lanes count some = omega arith
