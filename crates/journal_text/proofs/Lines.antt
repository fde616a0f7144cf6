-- The line of an entry: what is read is written so but for case, and has a line; what is written is a line and is read.
use Rattle.std.proofs.Common.{◌≡◌, ℕ, List, [], ◌∷◌, ◌++◌, Bool, true, false, ◌&&◌, cond, leb, length, codes, Result, Ok, Err, refl, sym, ◌∙◌, ap, subst, append_assoc}
use Rattle.std.proofs.lemmas.Bool.{and_parts, and_from, cond-true}
use Rattle.std.proofs.lemmas.List.Splits.{join_with_byte-slice_split}
use Rattle.std.proofs.lemmas.Slice.Eq.{bytes_eq-Decides}
use Rattle.std.specs.Fmt.{decimal}
use Rattle.std.specs.Str.{is_utf8}
use Rattle.hex.specs.Hex.{encode_lower}
use Rattle.ms_base.specs.declared.keys.WorkerKey.{WorkerKey}
use Rattle.ms_base.specs.declared.code.Code.{Code}
use Rattle.ms_base.specs.declared.code.Code.TheVariants as code
use Rattle.ms_base.specs.declared.entry.Entry.{Entry}
use Rattle.ms_base.specs.declared.entry.Entry.TheVariants as entry
use Rattle.ms_base.specs.declared.op.Op.{Op}
use Rattle.ms_base.specs.declared.keys.Event.{Event}
use Rattle.ms_base.specs.Words.{worker_words}
use Rattle.script_text.specs.Words.{◌>>=◌, words, rest_of_line, is_unbroken, is_line, is_plain_word, is_word, is_within, number_of, worker_of, hex_of}
use Rattle.script_text.specs.Parted.{bind_ok, ok_is, chosen, picked}
use Rattle.script_text.specs.Forms.{Number, Hex, is_value}
use Rattle.script_text.specs.Calls.{op_of, op_of_words, op_words, await_of, await_words, is_await, is_well_formed_op}
use Rattle.journal_text.specs.Reading.{is_of_line, in_lane, call_of, wait_of, worker_line, up_of, chunk_of, entry_of_words, entry_of_line}
use Rattle.journal_text.specs.Written.{up_word, entry_words}
use Rattle.journal_text.specs.WellFormed.{is_worker_key, is_well_formed}
use Rattle.journal_text.specs.Case.{lower_words, lower_line}
use Rattle.journal_text.specs.Lower.{LineLaws}

-- ---- what is read

-- what was read of the words of a line
record IsBack (ws : List (List ℕ)) (e : Entry) : Type 0 where
  pub written : entry_words e ≡ rest_of_line (lower_words ws)
  pub fits : is_line (rest_of_line ws) ≡ true → is_well_formed e ≡ true

no_lane : {A : Type 0} (b : Bool) (c : Code) (r : Result ℕ Code) (x : A) → cond b (Err c) (r >>= λ l. Err c) ≡ Ok x → ⊥
no_lane true c r x h = cc
no_lane false c (Ok l) x h = cc
no_lane false c (Err d) x h = cc

-- a lane, and what it does
record IsInLane {A : Type 0} (entry_with : ℕ → A → Entry) (lane : List ℕ) (r : Result A Code) (e : Entry) : Type 0 where
  pub number : ℕ
  pub deed : A
  pub read : r ≡ Ok deed
  pub made : entry_with number deed ≡ e
  pub written : decimal number ≡ lane
  pub fits : is_within 1 64 number ≡ true

-- a worker's slot and generation, and a last word
record IsOfWorker {A : Type 0} (value : List ℕ → Result A Code) (entry_with : WorkerKey → A → Entry) (ws : List (List ℕ)) (e : Entry) : Type 0 where
  pub worker : WorkerKey
  pub last : List ℕ
  pub found : A
  pub spelled : ws ≡ decimal worker.slot ∷ decimal worker.generation ∷ last ∷ []
  pub key : is_worker_key worker ≡ true
  pub read : value last ≡ Ok found
  pub made : entry_with worker found ≡ e

pub key_words : (k : WorkerKey) (tail : List ℕ) → worker_words k ++ 32 ∷ tail ≡ 32 ∷ (decimal k.slot ++ 32 ∷ (decimal k.generation ++ 32 ∷ tail))
key_words k tail = append_assoc (32 ∷ decimal k.slot) (32 ∷ decimal k.generation) (32 ∷ tail)

up_by : (word : List ℕ) (up t f : Bool) → is_word (codes "up") word ≡ t → is_word (codes "failed") word ≡ f
    → cond t (Ok true) (cond f (Ok false) (Err code.Event)) ≡ Ok up → up_word up ≡ word
up_by word up true f a b h = ap up_word (sym (ok_is {F = Code} true up h)) ∙ sym ((bytes_eq-Decides word (codes "up")).0 a)
up_by word up false true a b h = ap up_word (sym (ok_is {F = Code} false up h)) ∙ sym ((bytes_eq-Decides word (codes "failed")).0 b)
up_by word up false false a b h = absurd cc

under : (first word : List ℕ) (ws : List (List ℕ)) (e : Entry) → is_word first word ≡ true → IsBack (first ∷ ws) e → IsBack (word ∷ ws) e
under first word ws e h b = subst (λ w. IsBack (w ∷ ws) e) (sym ((bytes_eq-Decides word first).0 h)) b

module _ (laws : LineLaws) where
  lane_back : {A : Type 0} (f : ℕ → A → Entry) (lane : List ℕ) (r : Result A Code) (e : Entry) → in_lane f lane r ≡ Ok e → IsInLane f lane r e
  lane_back f lane (Ok x) e h =
      let l = bind_ok (number_of 1 64 lane) _ e h in
      record {
        number = l.0;
        deed = x;
        read = refl;
        made = ok_is _ e l.2;
        written = laws.values-read.written (Number 1 64) lane l.0 refl l.1;
        fits = laws.values-read.form (Number 1 64) lane l.0 refl l.1;
      }
  lane_back f lane (Err c) e h = absurd (no_lane (is_of_line c) c (number_of 1 64 lane) e h)

  call_back : (ws : List (List ℕ)) (e : Entry) → call_of ws ≡ Ok e → IsBack (codes "call" ∷ ws) e
  unfolding call_of is_well_formed
  call_back [] e h = absurd cc
  call_back (lane ∷ []) e h = absurd cc
  call_back (lane ∷ first ∷ rest) e h =
      let l = lane_back entry.Call lane (op_of first rest) e h in
      subst (IsBack (codes "call" ∷ lane ∷ first ∷ rest)) l.made (record {
        written = ap (λ (t : List ℕ). codes "call" ++ 32 ∷ (t ++ 32 ∷ op_words l.deed)) l.written
            ∙ ap (λ (t : List ℕ). codes "call" ++ 32 ∷ (lane ++ 32 ∷ t)) (laws.calls-read.written first rest l.deed l.read);
        fits = λ line.
            let behind = laws.words.behind (codes "call") (rest_of_line (lane ∷ first ∷ rest)) line in
            and_from _ _ l.fits (laws.calls-read.form first rest l.deed l.read (laws.words.behind lane (rest_of_line (first ∷ rest)) behind));
      })

  wait_back : (ws : List (List ℕ)) (e : Entry) → wait_of ws ≡ Ok e → IsBack (codes "await" ∷ ws) e
  unfolding wait_of is_well_formed await_of
  wait_back [] e h = absurd cc
  wait_back (lane ∷ []) e h =
      let l = lane_back (λ n a. entry.Await n a.0 a.1 a.2) lane (await_of []) e h in
      absurd (let none = l.read in cc)
  wait_back (lane ∷ name ∷ rest) e h =
      let l = lane_back (λ n a. entry.Await n a.0 a.1 a.2) lane (await_of (name ∷ rest)) e h in
      subst (IsBack (codes "await" ∷ lane ∷ name ∷ rest)) l.made (record {
        written = ap (λ (t : List ℕ). codes "await" ++ 32 ∷ (t ++ 32 ∷ await_words l.deed.0 l.deed.1 l.deed.2)) l.written
            ∙ ap (λ (t : List ℕ). codes "await" ++ 32 ∷ (lane ++ 32 ∷ t)) (laws.waits-read.written (name ∷ rest) l.deed l.read);
        fits = λ line.
            let behind = laws.words.behind (codes "await") (rest_of_line (lane ∷ name ∷ rest)) line in
            and_from _ _ l.fits (laws.waits-read.form (name ∷ rest) l.deed l.read (laws.words.behind lane (rest_of_line (name ∷ rest)) behind));
      })

  key_back : (slot generation : List ℕ) (k : WorkerKey) → worker_of slot generation ≡ Ok k
      → (decimal k.slot ≡ slot) × (decimal k.generation ≡ generation) × (is_worker_key k ≡ true)
  key_back slot generation k h =
      let s = bind_ok (number_of 1 64 slot) _ k h in
      let g = bind_ok (number_of 1 1001 generation) _ k s.2 in
      let number = laws.values-read in
      subst (λ (w : WorkerKey). (decimal w.slot ≡ slot) × (decimal w.generation ≡ generation) × (is_worker_key w ≡ true)) (ok_is _ k g.2) (
        number.written (Number 1 64) slot s.0 refl s.1,
        number.written (Number 1 1001) generation g.0 refl g.1,
        and_from _ _ (number.form (Number 1 64) slot s.0 refl s.1) (number.form (Number 1 1001) generation g.0 refl g.1),
      )

  worker_back : {A : Type 0} (value : List ℕ → Result A Code) (f : WorkerKey → A → Entry) (ws : List (List ℕ)) (e : Entry) → worker_line value f ws ≡ Ok e → IsOfWorker value f ws e
  unfolding worker_line
  worker_back value f [] e h = absurd cc
  worker_back value f (s ∷ []) e h = absurd cc
  worker_back value f (s ∷ g ∷ []) e h = absurd cc
  worker_back value f (s ∷ g ∷ x ∷ []) e h =
      let k = bind_ok (worker_of s g) _ e h in
      let v = bind_ok (value x) _ e k.2 in
      let key = key_back s g k.0 k.1 in record {
        worker = k.0;
        last = x;
        found = v.0;
        spelled = ap (λ (u : List ℕ). u ∷ g ∷ x ∷ []) (sym key.0) ∙ ap (λ (u : List ℕ). decimal k.0.slot ∷ u ∷ x ∷ []) (sym key.1);
        key = key.2;
        read = v.1;
        made = ok_is _ e v.2;
      }
  worker_back value f (s ∷ g ∷ x ∷ y ∷ ws) e h = absurd cc

  spawned_back : (ws : List (List ℕ)) (e : Entry) → worker_line up_of entry.Spawned ws ≡ Ok e → IsBack (codes "spawned" ∷ ws) e
  unfolding is_well_formed
  spawned_back ws e h =
      let w = worker_back up_of entry.Spawned ws e h in
      let up = up_by w.last w.found _ _ refl refl w.read in
      subst (λ us. IsBack (codes "spawned" ∷ us) e) (sym w.spelled) (subst (IsBack (codes "spawned" ∷ decimal w.worker.slot ∷ decimal w.worker.generation ∷ w.last ∷ [])) w.made (record {
        written = ap (λ (t : List ℕ). codes "spawned" ++ t) (key_words w.worker (up_word w.found))
            ∙ ap (λ (t : List ℕ). codes "spawned" ++ 32 ∷ (decimal w.worker.slot ++ 32 ∷ (decimal w.worker.generation ++ 32 ∷ t))) up;
        fits = λ line. w.key;
      }))

  chunk_back : (ws : List (List ℕ)) (e : Entry) → worker_line chunk_of entry.Chunk ws ≡ Ok e → IsBack (codes "chunk" ∷ ws) e
  unfolding is_well_formed
  chunk_back ws e h =
      let w = worker_back chunk_of entry.Chunk ws e h in
      let b = bind_ok (hex_of w.last) _ w.found w.read in
      let few = chosen (leb (length b.0) 65536) b.0 w.found code.Hex b.2 in
      let found = b.1 ∙ ap Ok few.1 in
      subst (λ us. IsBack (codes "chunk" ∷ us) e) (sym w.spelled) (subst (IsBack (codes "chunk" ∷ decimal w.worker.slot ∷ decimal w.worker.generation ∷ w.last ∷ [])) w.made (record {
        written = ap (λ (t : List ℕ). codes "chunk" ++ t) (key_words w.worker (encode_lower w.found))
            ∙ ap (λ (t : List ℕ). codes "chunk" ++ 32 ∷ (decimal w.worker.slot ++ 32 ∷ (decimal w.worker.generation ++ 32 ∷ t))) (laws.values-read.written Hex w.last w.found refl found);
        fits = λ line. and_from _ _ (and_from _ _ w.key (laws.values-read.form Hex w.last w.found refl found)) (subst (λ (x : List ℕ). leb (length x) 65536 ≡ true) few.1 few.0);
      }))

  entry_by : (w : List ℕ) (ws : List (List ℕ)) (e : Entry) (p q r s : Bool)
      → is_word (codes "call") w ≡ p → is_word (codes "await") w ≡ q → is_word (codes "spawned") w ≡ r → is_word (codes "chunk") w ≡ s
      → cond p (call_of ws) (cond q (wait_of ws) (cond r (worker_line up_of entry.Spawned ws) (cond s (worker_line chunk_of entry.Chunk ws) (Err code.Op)))) ≡ Ok e → IsBack (w ∷ ws) e
  entry_by w ws e true q r s a b c d h = under (codes "call") w ws e a (call_back ws e h)
  entry_by w ws e false true r s a b c d h = under (codes "await") w ws e b (wait_back ws e h)
  entry_by w ws e false false true s a b c d h = under (codes "spawned") w ws e c (spawned_back ws e h)
  entry_by w ws e false false false true a b c d h = under (codes "chunk") w ws e d (chunk_back ws e h)
  entry_by w ws e false false false false a b c d h = absurd cc

  entry_back : (ws : List (List ℕ)) (e : Entry) → entry_of_words ws ≡ Ok e → IsBack ws e
  unfolding entry_of_words
  entry_back [] e h = absurd cc
  entry_back (w ∷ ws) e h = entry_by w ws e _ _ _ _ refl refl refl refl h

  -- a line that was read is written so but for case, and is one of an entry
  pub line_back : (line : List ℕ) (e : Entry) → entry_of_line line ≡ Ok e → (entry_words e ≡ lower_line line) × (is_unbroken line ≡ true → is_well_formed e ≡ true)
  unfolding entry_of_line
  line_back line e h =
      let found = picked (is_utf8 line) (entry_of_words (words line)) code.Utf8 e h in
      let b = entry_back (words line) e found.1 in
      (b.written, λ whole. b.fits (ap is_line (join_with_byte-slice_split 32 line) ∙ and_from _ _ found.0 whole))

-- ---- what is written

-- a line that is read as the entry
pub record Reads (line : List ℕ) (e : Entry) : Type 0 where
  pub form : is_line line ≡ true
  pub read : entry_of_line line ≡ Ok e

reads_from : (line : List ℕ) (ws : List (List ℕ)) (e : Entry) → is_line line ≡ true → words line ≡ ws → entry_of_words ws ≡ Ok e → Reads line e
unfolding entry_of_line
reads_from line ws e form pieces h = record {
  form = form;
  read = cond-true (is_utf8 line) (entry_of_words (words line)) (Err code.Utf8) (and_parts (is_utf8 line) (is_unbroken line) form).0 ∙ ap entry_of_words pieces ∙ h;
}

up_reads : (up : Bool) → (up_of (up_word up) ≡ Ok up) × (is_plain_word (up_word up) ≡ true)
up_reads true = (refl, refl)
up_reads false = (refl, refl)

module _ (laws : LineLaws) where
  -- a first word, a lane, and a line behind them
  lane_line : (first : List ℕ) (lane : ℕ) (rest : List ℕ) → is_plain_word first ≡ true → is_within 1 64 lane ≡ true → is_line rest ≡ true
      → (is_line (first ++ 32 ∷ (decimal lane ++ 32 ∷ rest)) ≡ true) × (words (first ++ 32 ∷ (decimal lane ++ 32 ∷ rest)) ≡ first ∷ decimal lane ∷ words rest)
  lane_line first lane rest plain h line =
      let number = laws.values.plain (Number 1 64) lane refl h in (
        laws.words.joined first (decimal lane ++ 32 ∷ rest) plain (laws.words.joined (decimal lane) rest number line),
        laws.words.next first (decimal lane ++ 32 ∷ rest) plain ∙ ap (λ ws. first ∷ ws) (laws.words.next (decimal lane) rest number),
      )

  lane_read : {A : Type 0} (f : ℕ → A → Entry) (lane : ℕ) (r : Result A Code) (x : A) → is_within 1 64 lane ≡ true → r ≡ Ok x → in_lane f (decimal lane) r ≡ Ok (f lane x)
  lane_read f lane r x h e = ap (in_lane f (decimal lane)) e ∙ ap (λ (n : Result ℕ Code). n >>= λ l. Ok (f l x)) (laws.values.read (Number 1 64) lane refl h)

  call_read : (lane : ℕ) (ws : List (List ℕ)) (o : Op) → is_within 1 64 lane ≡ true → op_of_words ws ≡ Ok o
      → entry_of_words (codes "call" ∷ decimal lane ∷ ws) ≡ Ok (entry.Call lane o)
  unfolding entry_of_words call_of
  call_read lane [] o h e = absurd cc
  call_read lane (first ∷ rest) o h e = lane_read entry.Call lane (op_of first rest) o h e

  wait_read : (lane : ℕ) (name : List ℕ) (event : Event) (count : ℕ) (ws : List (List ℕ)) → is_within 1 64 lane ≡ true → await_of ws ≡ Ok (name, event, count)
      → entry_of_words (codes "await" ∷ decimal lane ∷ ws) ≡ Ok (entry.Await lane name event count)
  unfolding entry_of_words wait_of
  wait_read lane name event count ws h e = lane_read (λ l a. entry.Await l a.0 a.1 a.2) lane (await_of ws) (name, event, count) h e

  -- a first word, the two numbers of a worker, and a last word
  worker_text : (first : List ℕ) (k : WorkerKey) (last : List ℕ) → is_plain_word first ≡ true → is_worker_key k ≡ true → is_plain_word last ≡ true
      → (is_line (first ++ 32 ∷ (decimal k.slot ++ 32 ∷ (decimal k.generation ++ 32 ∷ last))) ≡ true)
      × (words (first ++ 32 ∷ (decimal k.slot ++ 32 ∷ (decimal k.generation ++ 32 ∷ last))) ≡ first ∷ decimal k.slot ∷ decimal k.generation ∷ last ∷ [])
  worker_text first k last a h b =
      let parts = and_parts (is_within 1 64 k.slot) (is_within 1 1001 k.generation) h in
      let number = laws.values.plain (Number 1 1001) k.generation refl parts.1 in
      let front = lane_line first k.slot (decimal k.generation ++ 32 ∷ last) a parts.0 (laws.words.joined (decimal k.generation) last number (laws.words.alone last b)) in
      (front.0, front.1 ∙ ap (λ ws. first ∷ decimal k.slot ∷ ws) (laws.words.next (decimal k.generation) last number ∙ ap (λ ws. decimal k.generation ∷ ws) (laws.words.last last b)))

  key_reads : (k : WorkerKey) → is_worker_key k ≡ true → worker_of (decimal k.slot) (decimal k.generation) ≡ Ok k
  key_reads k h =
      let parts = and_parts (is_within 1 64 k.slot) (is_within 1 1001 k.generation) h in
      ap (λ (r : Result ℕ Code). r >>= λ s. number_of 1 1001 (decimal k.generation) >>= λ g. Ok (record { slot = s; generation = g })) (laws.values.read (Number 1 64) k.slot refl parts.0)
      ∙ ap (λ (r : Result ℕ Code). r >>= λ g. Ok (record { slot = k.slot; generation = g })) (laws.values.read (Number 1 1001) k.generation refl parts.1)

  worker_read : {A : Type 0} (value : List ℕ → Result A Code) (f : WorkerKey → A → Entry) (k : WorkerKey) (last : List ℕ) (x : A) → is_worker_key k ≡ true → value last ≡ Ok x
      → worker_line value f (decimal k.slot ∷ decimal k.generation ∷ last ∷ []) ≡ Ok (f k x)
  unfolding worker_line
  worker_read value f k last x h e =
      ap (λ (r : Result WorkerKey Code). r >>= λ w. value last >>= λ y. Ok (f w y)) (key_reads k h)
      ∙ ap (λ r. r >>= λ y. Ok (f k y)) e

  spawned_line : (k : WorkerKey) (up : Bool) → is_worker_key k ≡ true → Reads (entry_words (entry.Spawned k up)) (entry.Spawned k up)
  unfolding entry_of_words
  spawned_line k up h =
      let u = up_reads up in
      let text = worker_text (codes "spawned") k (up_word up) refl h u.1 in
      subst (λ t. Reads (codes "spawned" ++ t) (entry.Spawned k up)) (sym (key_words k (up_word up)))
      (reads_from _ _ (entry.Spawned k up) text.0 text.1 (worker_read up_of entry.Spawned k (up_word up) up h u.0))

  chunk_line : (k : WorkerKey) (bytes : List ℕ) → is_worker_key k ≡ true → is_value Hex bytes ≡ true → leb (length bytes) 65536 ≡ true
      → Reads (entry_words (entry.Chunk k bytes)) (entry.Chunk k bytes)
  unfolding entry_of_words
  chunk_line k bytes h some few =
      let read : chunk_of (encode_lower bytes) ≡ Ok bytes =
      ap (λ (r : Result (List ℕ) Code). r >>= λ bs. cond (leb (length bs) 65536) (Ok bs) (Err code.Hex)) (laws.values.read Hex bytes refl some) ∙ cond-true _ _ _ few in
      let text = worker_text (codes "chunk") k (encode_lower bytes) refl h (laws.values.plain Hex bytes refl some) in
      subst (λ t. Reads (codes "chunk" ++ t) (entry.Chunk k bytes)) (sym (key_words k (encode_lower bytes)))
      (reads_from _ _ (entry.Chunk k bytes) text.0 text.1 (worker_read chunk_of entry.Chunk k (encode_lower bytes) bytes h read))

  -- the line of an entry that has one
  pub entry_reads : (e : Entry) → is_well_formed e ≡ true → Reads (entry_words e) e
  unfolding is_well_formed
  entry_reads (entry.Call lane o) h =
      let parts = and_parts (is_within 1 64 lane) (is_well_formed_op o) h in
      let text = lane_line (codes "call") lane (op_words o) refl parts.0 (laws.calls.line o parts.1) in
      reads_from _ _ (entry.Call lane o) text.0 text.1 (call_read lane (words (op_words o)) o parts.0 (laws.calls.read o parts.1))
  entry_reads (entry.Await lane name event count) h =
      let parts = and_parts (is_within 1 64 lane) (is_await name event count) h in
      let text = lane_line (codes "await") lane (await_words name event count) refl parts.0 (laws.waits.line name event count parts.1) in
      reads_from _ _ (entry.Await lane name event count) text.0 text.1 (wait_read lane name event count (words (await_words name event count)) parts.0 (laws.waits.read name event count parts.1))
  entry_reads (entry.Spawned k up) h = spawned_line k up h
  entry_reads (entry.Chunk k bytes) h =
      let parts = and_parts (is_worker_key k && is_value Hex bytes) (leb (length bytes) 65536) h in
      let key = and_parts (is_worker_key k) (is_value Hex bytes) parts.0 in
      chunk_line k bytes key.0 key.1 parts.1
  entry_reads (entry.Gone k cause) h = absurd cc
  entry_reads entry.Stop h = absurd cc
