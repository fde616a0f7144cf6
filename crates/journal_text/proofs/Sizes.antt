-- How long lines and journals are.
use Rattle.std.proofs.Common.{◌≡◌, ℕ, ◌+◌, ◌*◌, ◌≤◌, List, [], ◌∷◌, ◌++◌, length, min, decimal, flat_map, ap, ◌∙◌, arith, length-append}
use Rattle.std.proofs.lemmas.Grind.{flat_map-append}
use Rattle.hex.proofs.HexLemmas.{length-encode_with}
use Rattle.ms_base.specs.declared.keys.WorkerKey.{WorkerKey}
use Rattle.ms_base.specs.declared.entry.Entry.{Entry}
use Rattle.ms_base.specs.declared.entry.Entry.TheVariants as entry
use Rattle.journal_text.specs.Written.{head_line, entry_line, entry_words, journal_size, told_entry_size, max_told}

-- ---- lengths of lines

size_of_chunk : (worker : WorkerKey) (bytes : List ℕ)
    → length (entry_line (entry.Chunk worker bytes)) ≡ 9 + length (decimal worker.slot) + length (decimal worker.generation) + 2 * length bytes
size_of_chunk worker bytes = simp (length-append, length-encode_with) (omega arith)

pub told_chunk : (worker : WorkerKey) (bytes : List ℕ) (key twice size : ℕ) → key ≡ length (decimal worker.slot) + length (decimal worker.generation)
    → twice ≡ min (length bytes * 2) max_told → size ≡ min (twice + (9 + key)) max_told → size ≡ told_entry_size (entry.Chunk worker bytes)
told_chunk worker bytes key twice size is_key doubled sized =
    sized ∙ rw (size_of_chunk worker bytes, doubled, is_key) (omega arith)

-- ---- sizes of journals

behind : (seed : ℕ) (es others : List Entry) → journal_size seed (es ++ others) ≡ journal_size seed es + length (flat_map entry_line others)
behind seed es others =
    omega (
      arith,
      length-append (head_line seed) (flat_map entry_line es),
      length-append (head_line seed) (flat_map entry_line (es ++ others)),
      ap length (flat_map-append entry_line es others),
      length-append (flat_map entry_line es) (flat_map entry_line others),
    )

pub size_with_more : (seed : ℕ) (es : List Entry) (e : Entry) → journal_size seed (es ++ e ∷ []) ≡ journal_size seed es + length (entry_line e)
size_with_more seed es e = omega (arith, behind seed es (e ∷ []), length-append (entry_line e) [])

pub size_of_front : (seed : ℕ) (es others : List Entry) → journal_size seed es ≤ journal_size seed (es ++ others)
size_of_front seed es others = omega (arith, behind seed es others)

lines_count : (es : List Entry) → length es ≤ length (flat_map entry_line es)
lines_count [] = omega arith
lines_count (e ∷ es) = omega (arith, lines_count es, length-append (entry_words e) (10 ∷ []), length-append (entry_line e) (flat_map entry_line es))

pub entries_count : (seed : ℕ) (es : List Entry) → length es ≤ journal_size seed es
entries_count seed es = omega (arith, lines_count es, length-append (head_line seed) (flat_map entry_line es))
