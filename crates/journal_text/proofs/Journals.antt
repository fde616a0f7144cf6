-- The text of a journal: what is read is written so but for case, and has a line for each entry; what is written is read.
use Rattle.std.proofs.Common.{◌≡◌, ℕ, ◌+◌, ◌^◌, ◌<◌, List, [], ◌∷◌, ◌++◌, Bool, true, false, cond, eqb, length, map, codes, Result, Ok, refl, sym, ◌∙◌, ap, subst, arith, append_assoc}
use Rattle.std.proofs.lemmas.Bool.{and_parts, and_from, eqb-true}
use Rattle.std.proofs.lemmas.List.{length-append, length-map}
use Rattle.std.proofs.lemmas.List.Splits.{join_with_byte-slice_split}
use Rattle.std.specs.Char.{to_ascii_lowercase}
use Rattle.std.specs.List.{join_with_byte, flat_map, list_all}
use Rattle.ms_base.specs.declared.code.Code.{Code}
use Rattle.ms_base.specs.declared.entry.Entry.{Entry}
use Rattle.script_text.specs.Words.{◌>>=◌, BadLine, lines, words, rest_of_line, is_unbroken, is_line, is_word, at_line, seed_of_line, head_words}
use Rattle.script_text.specs.Calls.{lower_packet}
use Rattle.script_text.specs.Parted.{at_line_ok, bind_ok, ok_is, chosen}
use Rattle.journal_text.specs.Reading.{entry_of_line, cut, entries_of, behind_head, reading_of_lines, reading_of}
use Rattle.journal_text.specs.Written.{entry_words, entry_line, head_line, journal_text}
use Rattle.journal_text.specs.WellFormed.{is_well_formed, are_well_formed}
use Rattle.journal_text.specs.Case.{lower_digits_of, lower_call_of, lower_words, lower_line, in_lower_case}
use Rattle.journal_text.specs.Lower.{LineLaws}
use Rattle.journal_text.proofs.Lines.{line_back, entry_reads}
use Rattle.journal_text.proofs.Texts.{then_entries, entries_cons, lines_some, all_read}

-- ---- what is read

abbrev are_unbroken : List (List ℕ) → Bool
are_unbroken ls = list_all is_unbroken ls

-- what was read of the lines behind the head, of which there is one at least
record AreBack (ls : List (List ℕ)) (es : List Entry) : Type 0 where
  pub written : 0 < length ls → flat_map entry_line es ≡ join_with_byte 10 (map lower_line ls)
  pub fits : are_unbroken ls ≡ true → are_well_formed es ≡ true

nothing_back : (last : List ℕ) → length last ≡ 0 → AreBack (last ∷ []) []
nothing_back [] h = record { written = λ some. refl; fits = λ whole. refl }
nothing_back (b ∷ last) h = absurd (omega arith)

more_back : (laws : LineLaws) (line next : List ℕ) (more : List (List ℕ)) (e : Entry) (es : List Entry) → entry_of_line line ≡ Ok e → AreBack (next ∷ more) es → AreBack (line ∷ next ∷ more) (e ∷ es)
more_back laws line next more e es h b =
    let one = line_back laws line e h in record {
      written = λ some. append_assoc (entry_words e) (10 ∷ []) (flat_map entry_line es)
          ∙ ap (λ (t : List ℕ). t ++ 10 ∷ flat_map entry_line es) one.0
          ∙ ap (λ (t : List ℕ). lower_line line ++ 10 ∷ t) (b.written (omega arith));
      fits = λ whole.
          let parts = and_parts (is_unbroken line) (are_unbroken (next ∷ more)) whole in
          and_from _ _ (one.1 parts.0) (b.fits parts.1);
    }

entries_back : (laws : LineLaws) (n : ℕ) (ls : List (List ℕ)) (es : List Entry) → entries_of n ls ≡ Ok es → AreBack ls es
unfolding entries_of
entries_back laws n [] es h = subst (AreBack []) (ok_is {F = BadLine} [] es h) (record { written = λ some. absurd (omega arith); fits = λ whole. refl })
entries_back laws n (last ∷ []) es h =
    let found = chosen (eqb (length last) 0) [] es (record { line = n; code = cut last }) h in
    subst (AreBack (last ∷ [])) found.1 (nothing_back last (eqb-true _ _ found.0))
entries_back laws n (line ∷ next ∷ more) es h =
    let e = bind_ok (at_line n (entry_of_line line)) _ es h in
    let rest = bind_ok (entries_of (n + 1) (next ∷ more)) _ es e.2 in
    subst (AreBack (line ∷ next ∷ more)) (ok_is _ es rest.2)
    (more_back laws line next more e.0 rest.0 (at_line_ok n (entry_of_line line) e.0 e.1) (entries_back laws (n + 1) (next ∷ more) rest.0 rest.1))

-- the first line is written as it was read
head_written : (line : List ℕ) (seed : ℕ) → words line ≡ head_words (codes "journal") seed → head_line seed ≡ lower_line line ++ 10 ∷ []
head_written line seed e = ap (λ ws. rest_of_line (lower_words ws) ++ 10 ∷ []) (sym e)

-- what was read of a text
pub record IsJournal (text : List ℕ) (seed : ℕ) (entries : List Entry) : Type 0 where
  pub written : journal_text seed entries ≡ in_lower_case text
  pub fits : are_well_formed entries ≡ true
  pub below : seed < 2 ^ 60

never : (s : ℕ) (p : ℕ × List Entry) → ◌>>=◌ {B = ℕ × List Entry} (behind_head []) (λ es. Ok (s, es)) ≡ Ok p → ⊥
never s p h = cc

-- of the lines of a text
record AreLinesOf (ls : List (List ℕ)) (read : ℕ × List Entry) : Type 0 where
  pub written : journal_text read.0 read.1 ≡ join_with_byte 10 (map lower_line ls)
  pub fits : are_unbroken ls ≡ true → are_well_formed read.1 ≡ true
  pub below : read.0 < 2 ^ 60

lines_back : (laws : LineLaws) (ls : List (List ℕ)) (read : ℕ × List Entry) → reading_of_lines ls ≡ Ok read → AreLinesOf ls read
unfolding reading_of_lines
lines_back laws [] read h = absurd cc
lines_back laws (head ∷ []) read h =
    let s = bind_ok (at_line 1 (seed_of_line (codes "journal") head)) _ read h in
    absurd (never s.0 read s.2)
lines_back laws (head ∷ next ∷ more) read h =
    let s = bind_ok (at_line 1 (seed_of_line (codes "journal") head)) _ read h in
    let t = bind_ok (entries_of 2 (next ∷ more)) _ read s.2 in
    let first = at_line_ok 1 (seed_of_line (codes "journal") head) s.0 s.1 in
    let others = entries_back laws 2 (next ∷ more) t.0 t.1 in
    subst (AreLinesOf (head ∷ next ∷ more)) (ok_is {F = BadLine} _ read t.2) (record {
      written = ap (λ (l : List ℕ). l ++ flat_map entry_line t.0) (head_written head s.0 (laws.heads-read.written (codes "journal") head s.0 first))
          ∙ append_assoc (lower_line head) (10 ∷ []) (flat_map entry_line t.0)
          ∙ ap (λ (l : List ℕ). lower_line head ++ 10 ∷ l) (others.written (omega arith));
      fits = λ whole. others.fits (and_parts (is_unbroken head) (are_unbroken (next ∷ more)) whole).1;
      below = laws.heads-read.bound (codes "journal") head s.0 first;
    })

pub text_back : (laws : LineLaws) (text : List ℕ) (seed : ℕ) (entries : List Entry) → reading_of text ≡ Ok (seed, entries) → IsJournal text seed entries
text_back laws text seed entries h =
    let b = lines_back laws (lines text) (seed, entries) h in
    record { written = b.written; fits = b.fits (laws.texts.unbroken text); below = b.below }

-- ---- lower case leaves lengths

-- texts joined are as long as others that are as long each
length-joined : (sep : ℕ) (ws us : List (List ℕ)) → map length ws ≡ map length us → length (join_with_byte sep ws) ≡ length (join_with_byte sep us)
length-joined sep [] [] h = refl
length-joined sep [] (u ∷ us) h = absurd cc
length-joined sep (w ∷ ws) [] h = absurd cc
length-joined sep (w ∷ []) (u ∷ []) h = cc
length-joined sep (w ∷ []) (u ∷ x ∷ us) h = absurd cc
length-joined sep (w ∷ v ∷ ws) (u ∷ []) h = absurd cc
length-joined sep (w ∷ v ∷ ws) (u ∷ x ∷ us) h =
    let head : length w ≡ length u = cc in
    let tail : map length (v ∷ ws) ≡ map length (x ∷ us) = cc in
    let more = length-joined sep (v ∷ ws) (x ∷ us) tail in
    omega (arith, head, more, length-append w (sep ∷ join_with_byte sep (v ∷ ws)), length-append u (sep ∷ join_with_byte sep (x ∷ us)))

chosen_lengths : (b : Bool) (us vs ws : List (List ℕ)) → map length us ≡ map length ws → map length vs ≡ map length ws → map length (cond b us vs) ≡ map length ws
chosen_lengths true us vs ws h g = h
chosen_lengths false us vs ws h g = g

digits_lengths : (ws : List (List ℕ)) → map length (lower_digits_of ws) ≡ map length ws
digits_lengths [] = refl
digits_lengths (s ∷ []) = refl
digits_lengths (s ∷ g ∷ []) = refl
digits_lengths (s ∷ g ∷ x ∷ []) = ap (λ n. length s ∷ length g ∷ n ∷ []) (length-map x to_ascii_lowercase)
digits_lengths (s ∷ g ∷ x ∷ y ∷ ws) = refl

packet_lengths : (ws : List (List ℕ)) → map length (lower_packet ws) ≡ map length ws
packet_lengths [] = refl
packet_lengths (p ∷ []) = refl
packet_lengths (p ∷ x ∷ []) = ap (λ n. length p ∷ n ∷ []) (length-map x to_ascii_lowercase)
packet_lengths (p ∷ x ∷ y ∷ ws) = refl

call_lengths : (ws : List (List ℕ)) → map length (lower_call_of ws) ≡ map length ws
call_lengths [] = refl
call_lengths (l ∷ []) = refl
call_lengths (l ∷ w ∷ ws) = ap (λ ns. length l ∷ length w ∷ ns) (chosen_lengths (is_word (codes "send") w) (lower_packet ws) ws ws (packet_lengths ws) refl)

words_lengths : (ws : List (List ℕ)) → map length (lower_words ws) ≡ map length ws
words_lengths [] = refl
words_lengths (w ∷ ws) =
    ap (λ ns. length w ∷ ns)
    (chosen_lengths (is_word (codes "chunk") w) (lower_digits_of ws) (cond (is_word (codes "call") w) (lower_call_of ws) ws) ws (digits_lengths ws)
    (chosen_lengths (is_word (codes "call") w) (lower_call_of ws) ws ws (call_lengths ws) refl))

line_length : (line : List ℕ) → length (lower_line line) ≡ length line
line_length line = length-joined 32 (lower_words (words line)) (words line) (words_lengths (words line)) ∙ ap length (join_with_byte-slice_split 32 line)

lines_lengths : (ls : List (List ℕ)) → map length (map lower_line ls) ≡ map length ls
lines_lengths [] = refl
lines_lengths (line ∷ more) = ap (λ n. n ∷ map length (map lower_line more)) (line_length line) ∙ ap (λ ns. length line ∷ ns) (lines_lengths more)

pub text_size : (laws : LineLaws) (text : List ℕ) (seed : ℕ) (entries : List Entry) → reading_of text ≡ Ok (seed, entries) → length (journal_text seed entries) ≡ length text
text_size laws text seed entries h =
    ap length (text_back laws text seed entries h).written
    ∙ length-joined 10 (map lower_line (lines text)) (lines text) (lines_lengths (lines text))
    ∙ ap length (join_with_byte-slice_split 10 text)

-- ---- what is written

line_first : LineLaws → (line rest : List ℕ) → is_line line ≡ true → lines ((line ++ 10 ∷ []) ++ rest) ≡ line ∷ lines rest
line_first laws line rest h = ap lines (append_assoc line (10 ∷ []) rest) ∙ laws.texts.first line rest h

no_entries : (n : ℕ) → entries_of n ([] ∷ []) ≡ Ok []
unfolding entries_of
no_entries n = refl

entries_read : (laws : LineLaws) (n : ℕ) (es : List Entry) → are_well_formed es ≡ true → entries_of n (lines (flat_map entry_line es)) ≡ Ok es
entries_read laws n [] h = no_entries n
entries_read laws n (e ∷ es) h =
    let parts = and_parts (is_well_formed e) (are_well_formed es) h in
    let one = entry_reads laws e parts.0 in
    let rest : List ℕ = flat_map entry_line es in
    ap (entries_of n) (line_first laws (entry_words e) rest one.form)
    ∙ entries_cons n (entry_words e) (lines rest) (lines_some rest)
    ∙ ap (λ (r : Result Entry Code). at_line n r >>= λ e. then_entries e (entries_of (n + 1) (lines rest))) one.read
    ∙ ap (then_entries e) (entries_read laws (n + 1) es parts.1)

pub reads_back : (laws : LineLaws) (seed : ℕ) (entries : List Entry) → seed < 2 ^ 60 → are_well_formed entries ≡ true → reading_of (journal_text seed entries) ≡ Ok (seed, entries)
reads_back laws seed entries fits h =
    let line : List ℕ = rest_of_line (head_words (codes "journal") seed) in
    let rest : List ℕ = flat_map entry_line entries in
    all_read (journal_text seed entries) line rest seed entries (line_first laws line rest (laws.heads.line (codes "journal") seed refl fits)) (laws.heads.read (codes "journal") seed refl fits) (entries_read laws 2 entries h)

pub differ_by_text : (laws : LineLaws) (seed other_seed : ℕ) (entries others : List Entry) → seed < 2 ^ 60 → other_seed < 2 ^ 60 → are_well_formed entries ≡ true → are_well_formed others ≡ true
    → journal_text seed entries ≡ journal_text other_seed others → (seed ≡ other_seed) × (entries ≡ others)
differ_by_text laws seed other_seed entries others a b h k same =
    let one : (seed, entries) ≡ (other_seed, others) = ok_is {F = BadLine} _ _ (sym (reads_back laws seed entries a h) ∙ ap reading_of same ∙ reads_back laws other_seed others b k) in
    (ap (λ (p : ℕ × List Entry). p.0) one, ap (λ (p : ℕ × List Entry). p.1) one)
