-- The lines of calls and waits: what is written is a line and is read back; what is read is well formed, and is written
-- as it stood but for the case of a packet's digits.
use Rattle.std.proofs.Common.{◌≡◌, ℕ, List, [], ◌∷◌, ◌++◌, true, cond, codes, Result, Ok, Err, refl, sym, ◌∙◌, ap, subst}
use Rattle.std.proofs.lemmas.Bool.{and_parts, and_from, cond-true}
use Rattle.ms_base.specs.declared.keys.Event.{Event}
use Rattle.ms_base.specs.declared.code.Code.{Code}
use Rattle.ms_base.specs.declared.code.Code.TheVariants as code
use Rattle.ms_base.specs.declared.op.Op.{Op}
use Rattle.ms_base.specs.declared.op.Op.TheVariants as op
use Rattle.script_text.specs.declared.verb.Verb.{Verb}
use Rattle.script_text.specs.declared.verb.Verb.TheVariants as verb
use Rattle.script_text.specs.declared.verb.Making.TheVariants as making
use Rattle.script_text.specs.declared.verb.Telling.TheVariants as telling
use Rattle.script_text.specs.declared.verb.Turning.TheVariants as turning
use Rattle.script_text.specs.Words.{◌>>=◌, words, by_word, is_word, rest_of_line}
use Rattle.script_text.specs.Forms.{Name, Hex, Last, Then, Values, takes_rest, before_last, pieces, args_of, value_words, are_values}
use Rattle.script_text.specs.Calls.{verb_word, shape_of, verbs, op_with, Line, line_of, line_verb, line_rest, is_read_line, is_read, call_of, op_of, op_of_words, await_shape, await_of, op_words, is_well_formed_op, await_words, is_await, lower_packet, lower_call}
use Rattle.script_text.specs.Parted.{bind_ok, ok_is, picked}
use Rattle.script_text.proofs.WordLaws.{IsLine, by_word_is, joined_line, next_word, line_behind, IsPlain}
use Rattle.script_text.proofs.FormLaws.{IsBack, is_sound, has_hex, same_words, no_words, lower_joined, args_read, args_back, lower_by}

-- ---- the table

sound : (v : Verb) → is_sound (shape_of v) ≡ true
sound verb.Worker = refl
sound (verb.Make _) = refl
sound verb.Direct = refl
sound verb.Consume = refl
sound (verb.Tell _) = refl
sound (verb.Turn _) = refl
sound verb.Send = refl
sound verb.PipeRouter = refl

-- a first word is plain, and is that of its verb alone
record IsVerb (v : Verb) : Type 0 where
  pub plain : IsPlain (verb_word v)
  pub found : by_word verb_word (verb_word v) code.Op verbs ≡ Ok v
  pub sends : is_word (codes "send") (verb_word v) ≡ has_hex (shape_of v)

is_verb : (v : Verb) → IsVerb v
is_verb verb.Worker = record { plain = refl; found = refl; sends = refl }
is_verb (verb.Make making.Router) = record { plain = refl; found = refl; sends = refl }
is_verb (verb.Make making.Plain) = record { plain = refl; found = refl; sends = refl }
is_verb (verb.Make making.Pipe) = record { plain = refl; found = refl; sends = refl }
is_verb verb.Direct = record { plain = refl; found = refl; sends = refl }
is_verb (verb.Tell telling.Connect) = record { plain = refl; found = refl; sends = refl }
is_verb (verb.Make making.Produce) = record { plain = refl; found = refl; sends = refl }
is_verb verb.Consume = record { plain = refl; found = refl; sends = refl }
is_verb (verb.Turn turning.Pause) = record { plain = refl; found = refl; sends = refl }
is_verb (verb.Turn turning.Resume) = record { plain = refl; found = refl; sends = refl }
is_verb (verb.Turn turning.Close) = record { plain = refl; found = refl; sends = refl }
is_verb (verb.Tell telling.CanConsume) = record { plain = refl; found = refl; sends = refl }
is_verb verb.Send = record { plain = refl; found = refl; sends = refl }
is_verb verb.PipeRouter = record { plain = refl; found = refl; sends = refl }

-- a call is that of its line, and the other way
op_is : (o : Op) → op_with (line_of o).0 (line_of o).1 ≡ o
op_is (op.Worker _ _) = refl
op_is (op.Router _ _ _) = refl
op_is (op.Plain _ _ _) = refl
op_is (op.Pipe _ _ _) = refl
op_is (op.Direct _ _) = refl
op_is (op.Connect _ _) = refl
op_is (op.Produce _ _ _) = refl
op_is (op.Consume _ _ _ _) = refl
op_is (op.Pause _) = refl
op_is (op.Resume _) = refl
op_is (op.Close _) = refl
op_is (op.CanConsume _ _) = refl
op_is (op.Send _ _) = refl
op_is (op.PipeRouter _ _ _) = refl

line_is : (v : Verb) (xs : Values (shape_of v)) → line_of (op_with v xs) ≡ (v, xs)
line_is verb.Worker xs = refl
line_is (verb.Make making.Router) xs = refl
line_is (verb.Make making.Plain) xs = refl
line_is (verb.Make making.Pipe) xs = refl
line_is verb.Direct xs = refl
line_is (verb.Tell telling.Connect) xs = refl
line_is (verb.Make making.Produce) xs = refl
line_is verb.Consume xs = refl
line_is (verb.Turn turning.Pause) xs = refl
line_is (verb.Turn turning.Resume) xs = refl
line_is (verb.Turn turning.Close) xs = refl
line_is (verb.Tell telling.CanConsume) xs = refl
line_is verb.Send xs = refl
line_is verb.PipeRouter xs = refl

-- ---- what is written is read

abbrev text_of : Line → List ℕ
text_of line = line_verb line ++ 32 ∷ line_rest line

-- a text that is a line, and is read as the call
pub record Reads (o : Op) : Type 0 where
  pub line : IsLine (op_words o)
  pub read : op_of_words (words (op_words o)) ≡ Ok o

reads_of : (v : Verb) (xs : Values (shape_of v)) → is_read v ≡ true → are_values (shape_of v) xs ≡ true → Reads (op_with v xs)
unfolding call_of op_words
reads_of v xs r h =
    let table = is_verb v in
    let rest : List ℕ = rest_of_line (value_words (shape_of v) xs) in
    let others = args_read (shape_of v) xs (sound v) h in
    let whole : op_words (op_with v xs) ≡ verb_word v ++ 32 ∷ rest = ap text_of (line_is v xs) in record {
      line = subst IsLine (sym whole) (joined_line (verb_word v) rest table.plain others.0);
      read = ap (λ t. op_of_words (words t)) whole
          ∙ ap op_of_words (next_word (verb_word v) rest table.plain)
          ∙ ap (λ (u : Result Verb Code). u >>= λ w. call_of w (words rest)) table.found
          ∙ cond-true (is_read v) (args_of (shape_of v) (words rest) >>= λ ys. Ok (op_with v ys)) (Err code.Op) r
          ∙ ap (λ (u : Result (Values (shape_of v)) Code). u >>= λ ys. Ok (op_with v ys)) others.1;
    }

pub op_reads : (o : Op) → is_well_formed_op o ≡ true → Reads o
unfolding is_well_formed_op
op_reads o h =
    let line : Line = line_of o in
    let parts = and_parts (is_read line.0) (are_values (shape_of line.0) line.1) h in
    subst Reads (op_is o) (reads_of line.0 line.1 parts.0 parts.1)

-- ---- what is read is written so

send_lower : (ws : List (List ℕ)) → lower_by (Then Name (Last Hex)) ws ≡ lower_packet ws
send_lower [] = refl
send_lower (p ∷ []) = refl
send_lower (p ∷ d ∷ []) = refl
send_lower (p ∷ d ∷ e ∷ ws) = refl

lower_at : (v : Verb) (ws : List (List ℕ)) → lower_by (shape_of v) ws ≡ cond (has_hex (shape_of v)) (lower_packet ws) ws
lower_at verb.Worker ws = same_words (shape_of verb.Worker) ws refl
lower_at (verb.Make m) ws = same_words (shape_of (verb.Make m)) ws refl
lower_at verb.Direct ws = same_words (shape_of verb.Direct) ws refl
lower_at verb.Consume ws = same_words (shape_of verb.Consume) ws refl
lower_at (verb.Tell t) ws = same_words (shape_of (verb.Tell t)) ws refl
lower_at (verb.Turn t) ws = same_words (shape_of (verb.Turn t)) ws refl
lower_at verb.Send ws = send_lower ws
lower_at verb.PipeRouter ws = same_words (shape_of verb.PipeRouter) ws refl

-- what was read of a first word and the words behind it
pub record IsCallBack (first : List ℕ) (ws : List (List ℕ)) (o : Op) : Type 0 where
  pub written : op_words o ≡ rest_of_line (lower_call (first ∷ ws))
  pub fits : IsLine (rest_of_line (first ∷ ws)) → is_well_formed_op o ≡ true

made_back : (v : Verb) (w : List ℕ) (ws : List (List ℕ)) (xs : Values (shape_of v)) → is_read v ≡ true → IsBack (shape_of v) (w ∷ ws) xs
    → IsCallBack (verb_word v) (w ∷ ws) (op_with v xs)
unfolding op_words is_well_formed_op
made_back v w ws xs r b =
    let first : List ℕ = verb_word v in record {
      written = ap text_of (line_is v xs)
          ∙ ap (λ (t : List ℕ). first ++ 32 ∷ t) b.written
          ∙ sym (lower_joined first (shape_of v) w ws)
          ∙ ap (λ us. rest_of_line (first ∷ us)) (lower_at v (w ∷ ws) ∙ ap (λ t. cond t (lower_packet (w ∷ ws)) (w ∷ ws)) (sym (is_verb v).sends));
      fits = λ line. ap is_read_line (line_is v xs) ∙ and_from _ _ r (b.fits (line_behind first (rest_of_line (w ∷ ws)) line));
    }

call_back : (v : Verb) (ws : List (List ℕ)) (o : Op) → call_of v ws ≡ Ok o → IsCallBack (verb_word v) ws o
unfolding call_of
call_back v [] o h =
    let found = picked (is_read v) _ code.Op o h in
    let xs = bind_ok (args_of (shape_of v) []) _ o found.1 in
    let ps = bind_ok (pieces (shape_of v) []) _ xs.0 xs.1 in
    absurd (no_words (takes_rest (shape_of v)) (before_last (shape_of v)) ps.0 ps.1)
call_back v (w ∷ ws) o h =
    let found = picked (is_read v) _ code.Op o h in
    let xs = bind_ok (args_of (shape_of v) (w ∷ ws)) _ o found.1 in
    subst (IsCallBack (verb_word v) (w ∷ ws)) (ok_is _ o xs.2) (made_back v w ws xs.0 found.0 (args_back (shape_of v) (w ∷ ws) xs.0 (sound v) xs.1))

pub op_back : (first : List ℕ) (ws : List (List ℕ)) (o : Op) → op_of first ws ≡ Ok o → IsCallBack first ws o
op_back first ws o h =
    let v = bind_ok (by_word verb_word first code.Op verbs) _ o h in
    subst (λ f. IsCallBack f ws o) (sym (by_word_is verb_word first code.Op verbs v.0 v.1)) (call_back v.0 ws o v.2)

-- ---- waits

pub await_reads : (name : List ℕ) (e : Event) (count : ℕ) → is_await name e count ≡ true
    → IsLine (await_words name e count) × (await_of (words (await_words name e count)) ≡ Ok (name, e, count))
unfolding await_of
await_reads name e count h =
    let read = args_read await_shape (name, (e, count)) refl h in
    (read.0, ap (λ (r : Result (Values await_shape) Code). r >>= λ a. Ok (a.0, a.1.0, a.1.1)) read.1)

pub await_back : (ws : List (List ℕ)) (a : List ℕ × Event × ℕ) → await_of ws ≡ Ok a
    → (await_words a.0 a.1 a.2 ≡ rest_of_line ws) × (IsLine (rest_of_line ws) → is_await a.0 a.1 a.2 ≡ true)
unfolding await_of
await_back ws a h =
    let xs = bind_ok (args_of await_shape ws) _ a h in
    let b = args_back await_shape ws xs.0 refl xs.1 in
    let same : (xs.0.0, xs.0.1.0, xs.0.1.1) ≡ a = ok_is _ a xs.2 in
    subst (λ (d : List ℕ × Event × ℕ). (await_words d.0 d.1 d.2 ≡ rest_of_line ws) × (IsLine (rest_of_line ws) → is_await d.0 d.1 d.2 ≡ true)) same
    (b.written ∙ ap rest_of_line (same_words await_shape ws refl), b.fits)
