-- The lines of a script: how a text is cut into them, and what comes of the first.
use Rattle.std.proofs.Common.{◌≡◌, ℕ, zero, suc, ◌-◌, ◌<◌, ◌≤◌, List, [], ◌∷◌, ◌++◌, Bool, true, false, cond, eqb, length, get_or, take, codes, Result, Ok, Err, refl, sym, ◌∙◌, ap, subst, arith, append_assoc, length-append}
use Rattle.std.proofs.Math.Seq.{take-append_seam}
use Rattle.std.proofs.lemmas.Bool.{and_from, or_from, or_parts, eq-eqb, lt-ltb, le-leb, lt-leb, cond-true, cond-false, not_from_false}
use Rattle.std.proofs.lemmas.List.Splits.{length-slice_split, slice_split-cons_yes, slice_split-cons_no}
use Rattle.std.specs.Io.BufRead.{ends_with_byte, strip_last}
use Rattle.std.specs.List.{list_all, list_any, onto_first}
use Rattle.ms_base.specs.declared.code.Code.{Code}
use Rattle.ms_base.specs.declared.code.Code.TheVariants as code
use Rattle.script_text.specs.declared.fault.ScriptFault.{ScriptFault}
use Rattle.script_text.specs.declared.fault.ScriptFault.TheVariants as fault
use Rattle.script_text.specs.declared.script.Script.{Script}
use Rattle.script_text.specs.declared.script.Step.{Step}
use Rattle.script_text.specs.Gives.{Tells}
use Rattle.script_text.specs.Words.{◌>>=◌, lines, is_unbroken, seed_of_line, BadLine, at_line}
use Rattle.script_text.specs.Script.{ended, lanes_behind, max_script, script_lines, script_of, script_of_lines}
use Rattle.script_text.proofs.Pieces.{lacks, pieces_at}

-- ---- lines, without a carriage return before their line feed

script_more_of : (line : List ℕ) (ls : List (List ℕ)) → 0 < length ls → script_lines (line ∷ ls) ≡ strip_last 13 line ∷ script_lines ls
script_more_of line [] h = absurd (omega arith)
script_more_of line (l ∷ ls) h = refl

some_lines : (text : List ℕ) → 0 < length (lines text)
some_lines text = omega (arith, length-slice_split (λ b. eqb b 10) text)

pub script_more : (line rest : List ℕ) → script_lines (line ∷ lines rest) ≡ strip_last 13 line ∷ script_lines (lines rest)
script_more line rest = script_more_of line (lines rest) (some_lines rest)

last_of : (line : List ℕ) (b : ℕ) → get_or (line ++ b ∷ []) (length line) 0 ≡ b
last_of [] b = refl
last_of (x ∷ line) b = last_of line b

stripped : (line : List ℕ) → strip_last 13 (line ++ 13 ∷ []) ≡ line
stripped line =
    let size : length (line ++ 13 ∷ []) - 1 ≡ length line = omega (arith, length-append line (13 ∷ [])) in
    let ends : ends_with_byte 13 (line ++ 13 ∷ []) ≡ true =
    and_from _ _ (lt-ltb 0 (length (line ++ 13 ∷ [])) (omega (arith, length-append line (13 ∷ []))))
    (eq-eqb _ 13 (ap (λ n. get_or (line ++ 13 ∷ []) n 0) size ∙ last_of line 13)) in
    cond-true _ (take (length (line ++ 13 ∷ []) - 1) (line ++ 13 ∷ [])) (line ++ 13 ∷ []) ends
    ∙ ap (λ n. take n (line ++ 13 ∷ [])) size ∙ take-append_seam line (13 ∷ [])

lacks_return : (line : List ℕ) → lacks 10 line → lacks 10 (line ++ 13 ∷ [])
lacks_return [] h = refl
lacks_return (x ∷ line) h = let parts = or_parts (eqb x 10) (list_any (λ b. eqb b 10) line) h in or_from _ _ parts.0 (lacks_return line parts.1)

line_by : (line rest : List ℕ) (b : Bool) → ends_with_byte 13 line ≡ b → lacks 10 line
    → script_lines (lines ((line ++ cond b (13 ∷ 10 ∷ []) (10 ∷ [])) ++ rest)) ≡ line ∷ script_lines (lines rest)
line_by line rest true e h =
    ap (λ (t : List ℕ). script_lines (lines t)) (append_assoc line (13 ∷ 10 ∷ []) rest ∙ sym (append_assoc line (13 ∷ []) (10 ∷ rest)))
    ∙ ap script_lines (pieces_at 10 (line ++ 13 ∷ []) rest (lacks_return line h))
    ∙ script_more (line ++ 13 ∷ []) rest
    ∙ ap (λ (l : List ℕ). l ∷ script_lines (lines rest)) (stripped line)
line_by line rest false e h =
    ap (λ (t : List ℕ). script_lines (lines t)) (append_assoc line (10 ∷ []) rest)
    ∙ ap script_lines (pieces_at 10 line rest h)
    ∙ script_more line rest
    ∙ ap (λ (l : List ℕ). l ∷ script_lines (lines rest)) (cond-false (ends_with_byte 13 line) (take (length line - 1) line) line e)

-- a written line is read as it was
pub ended_line : (line rest : List ℕ) → lacks 10 line → script_lines (lines (ended line ++ rest)) ≡ line ∷ script_lines (lines rest)
ended_line line rest h = line_by line rest (ends_with_byte 13 line) refl h

-- ---- no line has a line feed

abbrev pub are_whole : List (List ℕ) → Type 0
are_whole [] = Unit {0}
are_whole (line ∷ more) = lacks 10 line × are_whole more

onto_whole : (b : ℕ) (ls : List (List ℕ)) → eqb b 10 ≡ false → are_whole ls → are_whole (onto_first b ls)
onto_whole b [] h w = (or_from _ _ h refl, tt)
onto_whole b (line ∷ more) h w = (or_from _ _ h w.0, w.1)

by_byte : (b : ℕ) (text : List ℕ) (t : Bool) → eqb b 10 ≡ t → are_whole (lines text) → are_whole (lines (b ∷ text))
by_byte b text true e h = subst are_whole (sym (slice_split-cons_yes (λ b. eqb b 10) b text e)) (refl, h)
by_byte b text false e h = subst are_whole (sym (slice_split-cons_no (λ b. eqb b 10) b text e)) (onto_whole b (lines text) e h)

pub lines_whole : (text : List ℕ) → are_whole (lines text)
lines_whole [] = (refl, tt)
lines_whole (b ∷ text) = by_byte b text (eqb b 10) refl (lines_whole text)

are_unbroken : (ls : List (List ℕ)) → are_whole ls → list_all is_unbroken ls ≡ true
are_unbroken [] h = refl
are_unbroken (line ∷ more) h = and_from _ _ (not_from_false _ h.0) (are_unbroken more h.1)

pub all_unbroken : (text : List ℕ) → list_all is_unbroken (lines text) ≡ true
all_unbroken text = are_unbroken (lines text) (lines_whole text)

take_lacks : (n : ℕ) (line : List ℕ) → lacks 10 line → lacks 10 (take n line)
take_lacks zero line h = refl
take_lacks (suc n) [] h = refl
take_lacks (suc n) (b ∷ line) h = let parts = or_parts (eqb b 10) (list_any (λ b. eqb b 10) line) h in or_from _ _ parts.0 (take_lacks n line parts.1)

chosen_lacks : (b : Bool) (n : ℕ) (line : List ℕ) → lacks 10 line → lacks 10 (cond b (take n line) line)
chosen_lacks true n line h = take_lacks n line h
chosen_lacks false n line h = h

pub script_whole : (ls : List (List ℕ)) → are_whole ls → are_whole (script_lines ls)
script_whole [] h = tt
script_whole (last ∷ []) h = h
script_whole (line ∷ next ∷ more) h = (chosen_lacks (ends_with_byte 13 line) (length line - 1) line h.0, script_whole (next ∷ more) h.1)

-- ---- the first line, and the others

short : (text : List ℕ) → length text ≤ max_script → script_of text ≡ script_of_lines (script_lines (lines text))
short text h = cond-true _ _ _ (le-leb (length text) max_script h)

pub long_fault : (text : List ℕ) → max_script < length text → script_of text ≡ Err (record { line = 1; code = code.Long })
long_fault text h = cond-false _ _ _ (lt-leb (length text) max_script h)

-- the script of these lanes
abbrev pub with_seed : ℕ → Result (List (List Step)) BadLine → Result Script BadLine
with_seed seed read = do
  lanes ← read
  Ok (record { seed = seed; lanes = lanes })

pub head_fault : (text head : List ℕ) (ls : List (List ℕ)) (wrong : Code) → length text ≤ max_script → script_lines (lines text) ≡ head ∷ ls
    → seed_of_line (codes "script") head ≡ Err wrong → script_of text ≡ Err (record { line = 1; code = wrong })
unfolding script_of_lines
head_fault text head ls wrong fits e h =
    short text fits ∙ ap script_of_lines e ∙ ap (λ (r : Result ℕ Code). at_line 1 r >>= λ seed. with_seed seed (lanes_behind ls)) h

pub head_read : (text head : List ℕ) (ls : List (List ℕ)) (seed : ℕ) → length text ≤ max_script → script_lines (lines text) ≡ head ∷ ls
    → seed_of_line (codes "script") head ≡ Ok seed → script_of text ≡ with_seed seed (lanes_behind ls)
unfolding script_of_lines
head_read text head ls seed fits e h =
    short text fits ∙ ap script_of_lines e ∙ ap (λ (r : Result ℕ Code). at_line 1 r >>= λ seed. with_seed seed (lanes_behind ls)) h

pub tells_behind : (f : ScriptFault) (seed : ℕ) (read : Result (List (List Step)) BadLine) (reading : Result Script BadLine)
    → reading ≡ with_seed seed read → Tells f read → Tells f reading
tells_behind (fault.BadScript line wrong) seed read reading e h = e ∙ ap (with_seed seed) h
tells_behind fault.NoMemory seed read reading e h = h
