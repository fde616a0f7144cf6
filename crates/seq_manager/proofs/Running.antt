-- The numbering in whole numbers, one call at a time: between the calls in numbers of 16 bits and the definition over whole lists.
use Rattle.std.proofs.Common.{◌≡◌, ℕ, ◌+◌, ◌%◌, ◌<◌, ℤ, pos, ◌+ℤ◌, ◌-ℤ◌, ◌≤ℤ◌, Option, Some, None, List, [], ◌∷◌, ◌++◌, map, arith, refl, sym, ◌∙◌, ap}
use Rattle.std.proofs.lemmas.Int.{ints, clamps}
use Rattle.std.proofs.lemmas.List.{append-nil}
use Rattle.std.proofs.lemmas.List.Sums.{fold-append}
use Rattle.std.specs.Int.{int_max}
use Rattle.std.specs.List.{fold}
use Rattle.std.specs.Option.{option_map}
use Rattle.seq_manager.specs.Calls.{Call, sync, input, AreSequenceNumbers, first_stretch, later_stretches, stretches, state_after, answers}
use Rattle.seq_manager.specs.Extended.{low_16, greatest_of, nearest, extended_after}
use Rattle.seq_manager.specs.Numbering.{Numbering, difference, greater, numbered}
use Rattle.seq_manager.specs.Outputs.{output_of, outputs_of_stretch, outputs_after}
use Rattle.seq_manager.proofs.Modulo.{low_16-lt, nearest_is}
use Rattle.seq_manager.proofs.Steps.{low_16-add, low_16-sub, low_16_pos, low_16-output, low_16-int_max}

-- ---- whole numbers, call by call

abbrev pub whole_answers : ℤ → Option ℤ → List Call → List ℤ
whole_answers greatest offset [] = []
whole_answers greatest offset (sync ∷ calls) = whole_answers greatest None calls
whole_answers greatest None (input number ∷ calls) =
    (greatest +ℤ pos 1) ∷ whole_answers (greatest +ℤ pos 1) (Some ((greatest +ℤ pos 1) -ℤ pos number)) calls
whole_answers greatest (Some offset) (input number ∷ calls) =
    (nearest (greatest -ℤ offset) number +ℤ offset)
    ∷ whole_answers (int_max greatest (nearest (greatest -ℤ offset) number +ℤ offset)) (Some offset) calls

abbrev pub state_of : ℤ → Option ℤ → Numbering
state_of greatest offset = record { greatest = low_16 greatest; offset = option_map low_16 offset }

abbrev pub of_parts : ℕ → Option ℕ → Numbering
of_parts greatest offset = record { greatest = greatest; offset = offset }

same_numbering : (a b : ℕ) (p q : Option ℕ) → a ≡ b → p ≡ q → of_parts a p ≡ of_parts b q
same_numbering a b p q at_greatest at_offset = ap (λ g. of_parts g p) at_greatest ∙ ap (of_parts b) at_offset

int_max-add_one : (greatest : ℤ) → int_max greatest (greatest +ℤ pos 1) ≡ greatest +ℤ pos 1
int_max-add_one greatest = omega (arith, ints, clamps)

-- the state behind a stretch's first number
pub state_of-first : (greatest : ℤ) (number : ℕ) → number < 65536 →
    numbered (state_of greatest None) number ≡ state_of (greatest +ℤ pos 1) (Some ((greatest +ℤ pos 1) -ℤ pos number))
state_of-first greatest number below =
    let output : low_16 (greatest +ℤ pos 1) ≡ (low_16 greatest + 1) % 65536 = low_16-add greatest (pos 1) in
    let most : low_16 (int_max greatest (greatest +ℤ pos 1)) ≡ greater (low_16 greatest) (low_16 (greatest +ℤ pos 1)) =
    low_16-int_max greatest (greatest +ℤ pos 1) (omega (arith, ints)) (omega (arith, ints)) in
    let most' = sym (ap low_16 (int_max-add_one greatest)) ∙ most in
    let apart = low_16-sub (greatest +ℤ pos 1) (pos number) in
    let small = low_16_pos number below in
    same_numbering _ _ _ _ (ap (greater (low_16 greatest)) (sym output) ∙ sym most')
    (ap (λ n. Some (difference n number)) (sym output)
    ∙ ap (λ n. Some (difference (low_16 (greatest +ℤ pos 1)) n)) (sym small)
    ∙ ap (λ (n : ℕ). Some n) (sym apart))

pub difference_back : (number offset : ℕ) → number < 65536 → offset < 65536 → difference ((number + offset) % 65536) number ≡ offset
difference_back number offset below below' = omega arith

-- the state behind a further number
pub state_of-next : (greatest offset : ℤ) (number : ℕ) → number < 65536 →
    numbered (state_of greatest (Some offset)) number
    ≡ state_of (int_max greatest (nearest (greatest -ℤ offset) number +ℤ offset)) (Some offset)
state_of-next greatest offset number below =
    let near = nearest_is (greatest -ℤ offset) number below in
    let from : ((greatest -ℤ offset) -ℤ pos 32768) ≤ℤ nearest (greatest -ℤ offset) number = near.from in
    let to : nearest (greatest -ℤ offset) number ≤ℤ ((greatest -ℤ offset) +ℤ pos 32767) = near.to in
    let output = low_16-output greatest offset number below in
    let most = low_16-int_max greatest (nearest (greatest -ℤ offset) number +ℤ offset) (omega (arith, ints)) (omega (arith, ints)) in
    same_numbering _ _ _ _ (ap (greater (low_16 greatest)) (sym output) ∙ sym most)
    (ap (λ (n : ℕ). Some n) (difference_back number (low_16 offset) below (low_16-lt offset)))

pub answers-low_16 : (greatest : ℤ) (offset : Option ℤ) (calls : List Call) → AreSequenceNumbers calls →
    answers (state_of greatest offset) calls ≡ map low_16 (whole_answers greatest offset calls)
answers-low_16 greatest offset [] ok = refl
answers-low_16 greatest offset (sync ∷ calls) ok = answers-low_16 greatest None calls ok
answers-low_16 greatest None (input number ∷ calls) ok =
    ap (λ n. n ∷ answers (numbered (state_of greatest None) number) calls) (sym (low_16-add greatest (pos 1)))
    ∙ ap (λ rest. low_16 (greatest +ℤ pos 1) ∷ rest)
    (ap (λ s. answers s calls) (state_of-first greatest number ok.0)
    ∙ answers-low_16 (greatest +ℤ pos 1) (Some ((greatest +ℤ pos 1) -ℤ pos number)) calls ok.1)
answers-low_16 greatest (Some offset) (input number ∷ calls) ok =
    ap (λ n. n ∷ answers (numbered (state_of greatest (Some offset)) number) calls)
    (sym (low_16-output greatest offset number ok.0))
    ∙ ap (λ rest. low_16 (nearest (greatest -ℤ offset) number +ℤ offset) ∷ rest)
    (ap (λ s. answers s calls) (state_of-next greatest offset number ok.0)
    ∙ answers-low_16 (int_max greatest (nearest (greatest -ℤ offset) number +ℤ offset)) (Some offset) calls ok.1)

pub greatest-low_16 : (greatest : ℤ) (offset : Option ℤ) (calls : List Call) → AreSequenceNumbers calls →
    (state_after (state_of greatest offset) calls).greatest ≡ low_16 (fold int_max greatest (whole_answers greatest offset calls))
greatest-low_16 greatest offset [] ok = refl
greatest-low_16 greatest offset (sync ∷ calls) ok = greatest-low_16 greatest None calls ok
greatest-low_16 greatest None (input number ∷ calls) ok =
    ap (λ s. (state_after s calls).greatest) (state_of-first greatest number ok.0)
    ∙ greatest-low_16 (greatest +ℤ pos 1) (Some ((greatest +ℤ pos 1) -ℤ pos number)) calls ok.1
    ∙ ap (λ g. low_16 (fold int_max g (whole_answers (greatest +ℤ pos 1) (Some ((greatest +ℤ pos 1) -ℤ pos number)) calls)))
    (sym (int_max-add_one greatest))
greatest-low_16 greatest (Some offset) (input number ∷ calls) ok =
    ap (λ s. (state_after s calls).greatest) (state_of-next greatest offset number ok.0)
    ∙ greatest-low_16 (int_max greatest (nearest (greatest -ℤ offset) number +ℤ offset)) (Some offset) calls ok.1

-- ---- whole numbers, stretch by stretch

-- the output numbers of what follows in a stretch
abbrev pub further : ℤ → ℤ → List ℕ → List ℤ
further greatest offset [] = []
further greatest offset (number ∷ later) =
    (nearest (greatest -ℤ offset) number +ℤ offset)
    ∷ further (int_max greatest (nearest (greatest -ℤ offset) number +ℤ offset)) offset later

-- and those of a stretch's first number and of what follows it
abbrev pub behind_first : ℤ → ℕ → List ℕ → List ℤ
behind_first greatest first later = further (greatest +ℤ pos 1) ((greatest +ℤ pos 1) -ℤ pos first) later

abbrev pub whole_outputs : ℤ → List (List ℕ) → List ℤ
whole_outputs greatest [] = []
whole_outputs greatest ([] ∷ later) = whole_outputs greatest later
whole_outputs greatest ((first ∷ numbers) ∷ later) =
    (greatest +ℤ pos 1)
    ∷ (behind_first greatest first numbers ++ whole_outputs (fold int_max (greatest +ℤ pos 1) (behind_first greatest first numbers)) later)

-- what a list of calls answers from the middle of a stretch or from its beginning
abbrev pub rest_of : ℤ → Option ℤ → List Call → List ℤ
rest_of greatest None calls = whole_outputs greatest (stretches calls)
rest_of greatest (Some offset) calls =
    further greatest offset (first_stretch calls)
    ++ whole_outputs (fold int_max greatest (further greatest offset (first_stretch calls))) (later_stretches calls)

pub whole_answers-stretches : (greatest : ℤ) (offset : Option ℤ) (calls : List Call) →
    whole_answers greatest offset calls ≡ rest_of greatest offset calls
whole_answers-stretches greatest None [] = refl
whole_answers-stretches greatest (Some offset) [] = refl
whole_answers-stretches greatest None (sync ∷ calls) = whole_answers-stretches greatest None calls
whole_answers-stretches greatest (Some offset) (sync ∷ calls) = whole_answers-stretches greatest None calls
whole_answers-stretches greatest None (input number ∷ calls) =
    ap (λ rest. (greatest +ℤ pos 1) ∷ rest)
    (whole_answers-stretches (greatest +ℤ pos 1) (Some ((greatest +ℤ pos 1) -ℤ pos number)) calls)
whole_answers-stretches greatest (Some offset) (input number ∷ calls) =
    ap (λ rest. (nearest (greatest -ℤ offset) number +ℤ offset) ∷ rest)
    (whole_answers-stretches (int_max greatest (nearest (greatest -ℤ offset) number +ℤ offset)) (Some offset) calls)

-- ---- the definition over whole lists

-- the extended numbers that follow, from the greatest before
abbrev pub within : ℤ → List ℕ → List ℤ
within greatest [] = []
within greatest (number ∷ later) = nearest greatest number ∷ within (int_max greatest (nearest greatest number)) later

pub extended_after-within : (e : ℤ) (es : List ℤ) (numbers : List ℕ) →
    extended_after (e ∷ es) numbers ≡ within (fold int_max e es) numbers
extended_after-within e es [] = refl
extended_after-within e es (number ∷ later) =
    let x = nearest (fold int_max e es) number in
    ap (λ rest. x ∷ rest)
    (extended_after-within e (es ++ x ∷ []) later ∙ ap (λ g. within g later) (fold-append int_max e es (x ∷ [])))

output_of_is : (before : ℤ) (first : ℕ) (e : ℤ) →
    output_of before (pos first) e ≡ e +ℤ ((before +ℤ pos 1) -ℤ pos first)
output_of_is before first e = omega (arith, ints)

less_again : (greatest offset : ℤ) → (greatest +ℤ offset) -ℤ offset ≡ greatest
less_again greatest offset = omega (arith, ints)

int_max-add : (a b offset : ℤ) → int_max (a +ℤ offset) (b +ℤ offset) ≡ int_max a b +ℤ offset
int_max-add a b offset = omega (arith, ints, clamps)

pub outputs-further : (before : ℤ) (first : ℕ) (greatest : ℤ) (numbers : List ℕ) →
    map (output_of before (pos first)) (within greatest numbers)
    ≡ further (greatest +ℤ ((before +ℤ pos 1) -ℤ pos first)) ((before +ℤ pos 1) -ℤ pos first) numbers
outputs-further before first greatest [] = refl
outputs-further before first greatest (number ∷ later) =
    let offset : ℤ = (before +ℤ pos 1) -ℤ pos first in
    let near = ap (λ g. nearest g number +ℤ offset) (sym (less_again greatest offset)) in
    let one = output_of_is before first (nearest greatest number) ∙ near in
    let most = sym (int_max-add greatest (nearest greatest number) offset)
    ∙ ap (int_max (greatest +ℤ offset)) near in
    let rest = outputs-further before first (int_max greatest (nearest greatest number)) later
    ∙ ap (λ g. further g offset later) most in
    cc

pub outputs_of_stretch_is : (before : ℤ) (first : ℕ) (numbers : List ℕ) →
    outputs_of_stretch before (first ∷ numbers) ≡ (before +ℤ pos 1) ∷ behind_first before first numbers
outputs_of_stretch_is before first numbers =
    let one : output_of before (pos first) (pos first) ≡ before +ℤ pos 1 = omega (arith, ints) in
    let same : pos first +ℤ ((before +ℤ pos 1) -ℤ pos first) ≡ before +ℤ pos 1 = omega (arith, ints) in
    let rest = ap (map (output_of before (pos first))) (extended_after-within (pos first) [] numbers)
    ∙ outputs-further before first (pos first) numbers
    ∙ ap (λ g. further g ((before +ℤ pos 1) -ℤ pos first) numbers) same in
    cc

-- the greatest of what was there and of a further stretch
greatest_of-append : (earlier outputs : List ℤ) →
    greatest_of (earlier ++ (greatest_of earlier +ℤ pos 1) ∷ outputs) ≡ fold int_max (greatest_of earlier +ℤ pos 1) outputs
greatest_of-append [] outputs = refl
greatest_of-append (e ∷ es) outputs =
    fold-append int_max e es ((fold int_max e es +ℤ pos 1) ∷ outputs)
    ∙ ap (λ g. fold int_max g outputs) (int_max-add_one (fold int_max e es))

pub outputs_after_is : (earlier : List ℤ) (all : List (List ℕ)) → outputs_after earlier all ≡ whole_outputs (greatest_of earlier) all
outputs_after_is earlier [] = refl
outputs_after_is earlier ([] ∷ later) =
    ap (λ es. outputs_after es later) (append-nil earlier) ∙ outputs_after_is earlier later
outputs_after_is earlier ((first ∷ numbers) ∷ later) =
    let before = greatest_of earlier in
    let outputs = (before +ℤ pos 1) ∷ behind_first before first numbers in
    ap (λ os. os ++ outputs_after (earlier ++ os) later) (outputs_of_stretch_is before first numbers)
    ∙ ap (λ rest. outputs ++ rest)
    (outputs_after_is (earlier ++ outputs) later
    ∙ ap (λ g. whole_outputs g later) (greatest_of-append earlier (behind_first before first numbers)))

pub greatest_of-whole_outputs : (all : List (List ℕ)) →
    greatest_of (whole_outputs (pos 0) all) ≡ fold int_max (pos 0) (whole_outputs (pos 0) all)
greatest_of-whole_outputs [] = refl
greatest_of-whole_outputs ([] ∷ later) = greatest_of-whole_outputs later
greatest_of-whole_outputs ((first ∷ numbers) ∷ later) = refl

-- ---- both

pub whole_answers_are : (calls : List Call) → whole_answers (pos 0) None calls ≡ outputs_after [] (stretches calls)
whole_answers_are calls = whole_answers-stretches (pos 0) None calls ∙ sym (outputs_after_is [] (stretches calls))
