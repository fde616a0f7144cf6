-- The lines of a text, one after another.
use Rattle.std.proofs.Common.{◌≡◌, ℕ, ◌+◌, ◌<◌, List, [], ◌∷◌, ◌++◌, length, codes, Result, Ok, Err, refl, sym, ◌∙◌, ap, arith, append_assoc, eqb, subst}
use Rattle.std.proofs.lemmas.Bool.{cond-true, cond-false, false_from_ne_true, ne_eqb}
use Rattle.std.proofs.lemmas.List.Splits.{length-slice_split}
use Rattle.std.proofs.lemmas.List.{append-nil}
use Rattle.std.proofs.lemmas.Str.{IsUtf8-from_is_utf8, is_utf8-from_IsUtf8}
use Rattle.std.specs.Str.{IsUtf8}
use Rattle.ms_base.specs.declared.code.Code.{Code}
use Rattle.ms_base.specs.declared.code.Code.TheVariants as code
use Rattle.ms_base.specs.declared.entry.Entry.{Entry}
use Rattle.script_text.specs.Words.{◌>>=◌, BadLine, lines, words, seed_of_line, at_line}
use Rattle.journal_text.specs.Reading.{reading_of, reading_of_lines, behind_head, entry_of_line, entry_of_words, entries_of, with_front, cut}
use Rattle.journal_text.specs.declared.fault.JournalFault.{JournalFault}
use Rattle.journal_text.specs.declared.fault.JournalFault.TheVariants as fault
use Rattle.journal_text.specs.Gives.{Tells, told_line}

pub entry_text : (line : List ℕ) → IsUtf8 line → entry_of_line line ≡ entry_of_words (words line)
unfolding entry_of_line
entry_text line text = cond-true _ _ _ (is_utf8-from_IsUtf8 line text)

pub entry_no_text : (line : List ℕ) → (IsUtf8 line → ⊥) → entry_of_line line ≡ Err code.Utf8
unfolding entry_of_line
entry_no_text line bad = cond-false _ _ _ (false_from_ne_true _ (λ e. bad (IsUtf8-from_is_utf8 line e)))

-- one entry before those that are read
abbrev pub then_entries : Entry → Result (List Entry) BadLine → Result (List Entry) BadLine
then_entries e read = do
  es ← read
  Ok (e ∷ es)

pub entries_cons : (n : ℕ) (line : List ℕ) (ws : List (List ℕ)) → 0 < length ws
    → entries_of n (line ∷ ws) ≡ (at_line n (entry_of_line line) >>= λ e. then_entries e (entries_of (n + 1) ws))
unfolding entries_of
entries_cons n line [] h = absurd (omega arith)
entries_cons n line (w ∷ ws) h = refl

front_then : (front : List Entry) (e : Entry) (r : Result (List Entry) BadLine) → with_front front (then_entries e r) ≡ with_front (front ++ e ∷ []) r
front_then front e (Ok es) = ap Ok (sym (append_assoc front (e ∷ []) es))
front_then front e (Err f) = refl

pub lines_some : (text : List ℕ) → 0 < length (lines text)
lines_some text = omega (arith, length-slice_split (λ b. eqb b 10) text)

pub entries_step : (front : List Entry) (n : ℕ) (line rest : List ℕ) (e : Entry) → entry_of_line line ≡ Ok e
    → with_front front (entries_of n (line ∷ lines rest)) ≡ with_front (front ++ e ∷ []) (entries_of (n + 1) (lines rest))
entries_step front n line rest e h =
    ap (with_front front) (entries_cons n line (lines rest) (lines_some rest)
    ∙ ap (λ r. at_line n r >>= λ e. then_entries e (entries_of (n + 1) (lines rest))) h)
    ∙ front_then front e (entries_of (n + 1) (lines rest))

pub entries_fault : (front : List Entry) (n : ℕ) (line rest : List ℕ) (c : Code) → entry_of_line line ≡ Err c
    → with_front front (entries_of n (line ∷ lines rest)) ≡ Err (record { line = n; code = c })
entries_fault front n line rest c h =
    ap (with_front front) (entries_cons n line (lines rest) (lines_some rest)
    ∙ ap (λ r. at_line n r >>= λ e. then_entries e (entries_of (n + 1) (lines rest))) h)

pub entries_end : (front : List Entry) (n : ℕ) (last : List ℕ) → length last ≡ 0
    → with_front front (entries_of n (last ∷ [])) ≡ Ok front
unfolding entries_of
entries_end front n [] h = ap Ok (append-nil front)
entries_end front n (b ∷ last) h = absurd (omega arith)

pub entries_cut : (front : List Entry) (n : ℕ) (last : List ℕ) → 0 < length last
    → with_front front (entries_of n (last ∷ [])) ≡ Err (record { line = n; code = cut last })
unfolding entries_of
entries_cut front n last h = ap (with_front front) (cond-false (eqb (length last) 0) (Ok []) (at_line n (Err (cut last))) (ne_eqb (length last) 0 (λ e. omega arith)))

-- a fault that was returned tells the first one
pub tells_from : {A : Type 0} (f : JournalFault) (n : ℕ) (c : Code) (reading : Result A BadLine)
    → f ≡ fault.BadJournal (told_line n) c → reading ≡ Err (record { line = n; code = c }) → Tells f reading
tells_from f n c reading e h = subst (λ g. Tells g reading) (sym e) (record { line = n; code = c }, h, refl, refl)

-- the entries behind a head
abbrev behind : ℕ → Result (List Entry) BadLine → Result (ℕ × List Entry) BadLine
behind seed read = do
  entries ← read
  Ok (seed, entries)

pub head_fault : (text head : List ℕ) (ws : List (List ℕ)) (c : Code) → lines text ≡ head ∷ ws → seed_of_line (codes "journal") head ≡ Err c
    → reading_of text ≡ Err (record { line = 1; code = c })
unfolding reading_of_lines
head_fault text head ws c e h = ap reading_of_lines e ∙ ap (λ r. at_line 1 r >>= λ seed. behind seed (behind_head ws)) h

pub head_cut : (text head : List ℕ) (seed : ℕ) → lines text ≡ head ∷ [] → seed_of_line (codes "journal") head ≡ Ok seed
    → reading_of text ≡ Err (record { line = 1; code = code.Cut })
unfolding reading_of_lines
head_cut text head seed e h = ap reading_of_lines e ∙ ap (λ r. at_line 1 r >>= λ seed. behind seed (behind_head [])) h

behind_some : (ws : List (List ℕ)) → 0 < length ws → behind_head ws ≡ entries_of 2 ws
behind_some [] h = absurd (omega arith)
behind_some (w ∷ ws) h = refl

pub head_read : (text head rest : List ℕ) (seed : ℕ) → lines text ≡ head ∷ lines rest → seed_of_line (codes "journal") head ≡ Ok seed
    → reading_of text ≡ behind seed (entries_of 2 (lines rest))
unfolding reading_of_lines
head_read text head rest seed e h =
    ap reading_of_lines e
    ∙ ap (λ r. at_line 1 r >>= λ s. behind s (behind_head (lines rest))) h
    ∙ ap (behind seed) (behind_some (lines rest) (lines_some rest))

pub all_read : (text head rest : List ℕ) (seed : ℕ) (entries : List Entry) → lines text ≡ head ∷ lines rest → seed_of_line (codes "journal") head ≡ Ok seed
    → entries_of 2 (lines rest) ≡ Ok entries → reading_of text ≡ Ok (seed, entries)
all_read text head rest seed entries e h r = head_read text head rest seed e h ∙ ap (behind seed) r

pub tells_behind : (f : JournalFault) (seed : ℕ) (read : Result (List Entry) BadLine) (reading : Result (ℕ × List Entry) BadLine)
    → reading ≡ behind seed read → Tells f read → Tells f reading
tells_behind (fault.BadJournal line c) seed read reading e h = (h.0, e ∙ ap (behind seed) h.1, h.2, h.3)
tells_behind fault.NoMemory seed read reading e h = h
