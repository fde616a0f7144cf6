-- How much a journal can draw: each micro step takes a byte of its text at least, and each call and await two.
use Rattle.std.proofs.Common.{◌≡◌, ◌≤◌, ℕ, suc, ◌+◌, ◌*◌, List, [], ◌∷◌, ◌++◌, length, map, flat_map, codes, Bool, true, false, ◌&&◌, cond, refl, ap, ◌∙◌, arith, length-append}
use Rattle.std.proofs.lemmas.List.{length-map, length_push}
use Rattle.std.proofs.lemmas.List.Concat.{flat_map-cons}
use Rattle.hex.specs.Hex.{encode_with, encode_lower, lower_digits}
use Rattle.ms_base.specs.declared.entry.Entry.{Entry}
use Rattle.ms_base.specs.declared.entry.Entry.TheVariants as entry
use Rattle.ms_base.specs.declared.keys.CallKey.{CallKey}
use Rattle.ms_base.specs.declared.keys.Event.{Event}
use Rattle.ms_base.specs.declared.keys.WorkerKey.{WorkerKey}
use Rattle.ms_base.specs.declared.op.Op.{Op}
use Rattle.ms_base.specs.Words.{line_feed, space, spaced, worker_words}
use Rattle.channel_frames.specs.Frames.{new_frames}
use Rattle.channel_msgs.specs.Read.{message_of}
use Rattle.script_text.specs.Calls.{op_words, await_words}
use Rattle.journal_text.specs.Written.{entry_words, entry_line, head_line, journal_size}
use Rattle.host_laws.specs.Drawn.{DrawsWithin}
use Rattle.host_model.specs.Fit.{HasDrawn}
use Rattle.host_model.specs.Laws.{keys_behind}
use Rattle.host_model.specs.Run.{Journal, break_behind, breaks_with, chunk_micros, micros, after, state_of, moments, trace_from, trace}
use Rattle.host_model.specs.State.{State, start, is_up, is_wanted, next_call, stream_of}
use Rattle.host_model.specs.Step.{Micro, Says, Breaks, Starting, step}

-- ---- each micro step takes a byte of its entry's line

length-moments : (s : State) (ms : List Micro) → length (moments s ms) ≡ length ms
length-moments s [] = refl
length-moments s (m ∷ ms) = ap suc (length-moments (step s m) ms)

length-encoded : (t bytes : List ℕ) → length (encode_with t bytes) ≡ length bytes + length bytes
unfolding encode_with
length-encoded t [] = refl
length-encoded t (b ∷ bs) = let rest = length-encoded t bs in omega (arith, rest)

line-first : (e : Entry) → 1 ≤ length (entry_line e)
line-first e = let all = length_push (entry_words e) line_feed in omega (arith, all)

lines-cons : (e : Entry) (es : List Entry) → length (flat_map entry_line (e ∷ es)) ≡ length (entry_line e) + length (flat_map entry_line es)
lines-cons e es = ap length (flat_map-cons entry_line e es) ∙ length-append (entry_line e) (flat_map entry_line es)

-- new frames take a byte each
abbrev pub TakeAByteEach : Type 0
TakeAByteEach = (stream bytes : List ℕ) → length (new_frames stream bytes) ≤ length bytes

module _ (few : TakeAByteEach) where
  chunk-few : (worker : WorkerKey) (stream bytes : List ℕ) → length (chunk_micros worker stream bytes) ≤ length bytes + 2
  chunk-few worker stream bytes =
      let said = map (λ (payload : List ℕ). Says worker (message_of payload)) (new_frames stream bytes) in
      let all = length-append said (break_behind worker stream bytes) in
      let each : length said ≡ length (new_frames stream bytes) = length-map (new_frames stream bytes) (λ (payload : List ℕ). Says worker (message_of payload)) in
      omega (arith, few stream bytes, all, each, break-few (breaks_with stream bytes))
    where
      break-few : (b : Bool) → length (cond b (Breaks worker ∷ []) []) ≤ 1
      break-few true = omega arith
      break-few false = omega arith

  chunk-line : (worker : WorkerKey) (bytes : List ℕ) → length bytes + 2 ≤ length (entry_line (entry.Chunk worker bytes))
  chunk-line worker bytes =
      let front : List ℕ = codes "chunk" ++ worker_words worker in
      let words = length-append front (space ∷ encode_lower bytes) in
      let all = length_push (entry_words (entry.Chunk worker bytes)) line_feed in
      omega (arith, words, all, length-encoded lower_digits bytes)

  few-if : {X : Type 0} (b : Bool) (xs : List X) (n : ℕ) → length xs ≤ n → length (cond b xs []) ≤ n
  few-if true xs n h = h
  few-if false xs n h = omega arith

  micros-line : (s : State) (e : Entry) → length (micros s e) ≤ length (entry_line e)
  micros-line s (entry.Call lane o) = line-first (entry.Call lane o)
  micros-line s (entry.Await lane name event count) = line-first (entry.Await lane name event count)
  micros-line s (entry.Gone worker cause) = omega arith
  micros-line s entry.Stop = omega arith
  micros-line s (entry.Spawned worker up) =
      few-if (up && is_wanted s.slots worker) (Starting worker ∷ []) (length (entry_line (entry.Spawned worker up))) (line-first (entry.Spawned worker up))
  micros-line s (entry.Chunk worker bytes) =
      let stream = stream_of s.streams worker in
      few-if (is_up s.slots worker) (chunk_micros worker stream bytes) (length (entry_line (entry.Chunk worker bytes)))
      (omega (arith, chunk-few worker stream bytes, chunk-line worker bytes))

  trace-lines : (s : State) (es : List Entry) → length (trace_from s es) ≤ length (flat_map entry_line es)
  trace-lines s [] = omega arith
  trace-lines s (e ∷ es) =
      let rest = trace-lines (after s e) es in
      let steps_all = length-append (moments s (micros s e)) (trace_from (after s e) es) in
      omega (arith, rest, steps_all, lines-cons e es, length-moments s (micros s e), micros-line s e)

  pub trace-few : (j : Journal) → length (trace j) ≤ journal_size j.seed j.entries
  trace-few j =
      let all = length-append (head_line j.seed) (flat_map entry_line j.entries) in
      omega (arith, all, trace-lines (start j.seed) j.entries)

-- ---- each call and await takes two

call-line : (lane : ℕ) (o : Op) → 2 ≤ length (entry_line (entry.Call lane o))
call-line lane o =
    let front : List ℕ = codes "call" ++ spaced lane in
    omega (arith, length-append front (space ∷ op_words o), length_push (entry_words (entry.Call lane o)) line_feed)

await-line : (lane : ℕ) (name : List ℕ) (event : Event) (count : ℕ) → 2 ≤ length (entry_line (entry.Await lane name event count))
await-line lane name event count =
    let front : List ℕ = codes "await" ++ spaced lane in
    omega (arith, length-append front (space ∷ await_words name event count), length_push (entry_words (entry.Await lane name event count)) line_feed)

keys-few : (before : List CallKey) (es : List Entry) → 2 * length (keys_behind before es) ≤ 2 * length before + length (flat_map entry_line es)
keys-few before [] = omega arith
keys-few before (entry.Call lane o ∷ es) =
    let call = next_call before lane in
    omega (arith, keys-few (before ++ call ∷ []) es, length_push before call, call-line lane o, lines-cons (entry.Call lane o) es)
keys-few before (entry.Await lane name event count ∷ es) =
    let call = next_call before lane in
    omega (
      arith,
      keys-few (before ++ call ∷ []) es,
      length_push before call,
      await-line lane name event count,
      lines-cons (entry.Await lane name event count) es,
    )
keys-few before (entry.Spawned worker up ∷ es) = omega (arith, keys-few before es, lines-cons (entry.Spawned worker up) es)
keys-few before (entry.Chunk worker bytes ∷ es) = omega (arith, keys-few before es, lines-cons (entry.Chunk worker bytes) es)
keys-few before (entry.Gone worker cause ∷ es) = omega (arith, keys-few before es, lines-cons (entry.Gone worker cause) es)
keys-few before (entry.Stop ∷ es) = omega (arith, keys-few before es, lines-cons entry.Stop es)

-- the calls of a journal are those of its entries
abbrev pub CallsAreEntered : Type 0
CallsAreEntered = (j : Journal) → (state_of j).calls ≡ keys_behind [] j.entries

pub calls-few : CallsAreEntered → (j : Journal) → 2 * length (state_of j).calls ≤ journal_size j.seed j.entries
calls-few entered j =
    let own : length (state_of j).calls ≡ length (keys_behind [] j.entries) = ap length (entered j) in
    omega (arith, own, keys-few [] j.entries, length-append (head_line j.seed) (flat_map entry_line j.entries))

pub drawn-few : CallsAreEntered → (j : Journal) → HasDrawn j.seed (state_of j) → DrawsWithin (journal_size j.seed j.entries) (state_of j)
drawn-few entered j drawn =
    let few = calls-few entered j in
    record { calls = few; serials = omega (arith, few, drawn.serials); ssrcs = omega (arith, few, drawn.ssrcs) }
