-- What a call comes to by the tables is what it comes to by what is known.
use Rattle.std.proofs.Common.{◌≡◌, ◌≤◌, ◌<◌, ℕ, ◌+◌, List, [], ◌∷◌, length, ◌⊎◌, inl, inr, nat_le, nat_lt, Bool, true, false, not, ◌||◌, cond, Option, Some, None, option_and_then, Result, Ok, Err, IfOk, refl, sym, ap, ◌∙◌, subst, arith, count_by}
use Rattle.std.specs.List.{list_any}
use Rattle.std.proofs.lemmas.Bool.{leb-true, ltb-true, le-leb, lt-ltb}
use Rattle.serde_json.specs.Data.{Data}
use Rattle.serde_json.specs.Written.{compact_text, has_float}
use Rattle.channel_frames.specs.Frames.{max_payload}
use Rattle.channel_msgs.specs.Json.{has_whole_numbers, request_json}
use Rattle.channel_msgs.specs.Read.{max_id}
use Rattle.channel_msgs.specs.View.{RequestView}
use Rattle.ms_base.specs.declared.id.Id.{Id}
use Rattle.ms_base.specs.declared.keys.Serial.{Serial}
use Rattle.ms_base.specs.declared.keys.WorkerKey.{WorkerKey}
use Rattle.ms_base.specs.declared.op.Op.{Op}
use Rattle.ms_base.specs.declared.op.Op.TheVariants as op
use Rattle.ms_base.specs.declared.outcome.Outcome.TheVariants as outcome
use Rattle.object_tree.specs.declared.object.Object.{Object}
use Rattle.object_tree.specs.Objects.{numbered}
use Rattle.request_build.specs.declared.built.BuildFault.{BuildFault}
use Rattle.request_build.specs.declared.built.Draws.{Draws}
use Rattle.request_build.specs.Asks as asks
use Rattle.request_build.specs.Asks.{Built, Own}
use Rattle.request_build.specs.Built.{built}
use Rattle.request_build.specs.Known.{Known}
use Rattle.request_build.specs.Known as keeping
use Rattle.request_build.specs.Laws.{HasNoFloat}
use Rattle.host_requests.specs.Requests.{last_on}
use Rattle.host_model.specs.declared.due.Due.{Due}
use Rattle.host_model.specs.Answer as model
use Rattle.host_model.specs.Answer.{answer, answered_by, asked, asked_payload, known, on_channel, unless_long, unless_spent}
use Rattle.host_model.specs.State.{State, channel_of, issued, makes_named, makes_producer, waiting}
use Rattle.host_tables.specs.Kept.{IsKept, Seen}
use Rattle.host_tables.specs.declared.tables.Tables.{Tables}
use Rattle.host_core.specs.Answers.{IsAnswer, IsAsked, issued_as, placed_as, unnumbered}
use Rattle.ms_base.specs.declared.fault.NoMemory.{NoMemory}
use Rattle.host_core.specs.declared.answer.Course.{Course}
use Rattle.host_core.specs.declared.answer.Placed.{Placed}
use Rattle.host_core.specs.declared.answer.Placed.TheVariants as placed
use Rattle.host_core.proofs.Counts.{count-cons}
use Rattle.host_core.proofs.KeptLemmas.{kept-lasts, kept-slots, kept-tree}

-- ---- what a call is answered from

any-counted : {X : Type 0} (q : X → Bool) (xs : List X) → list_any q xs ≡ nat_lt 0 (count_by q xs)
any-counted q [] = refl
any-counted q (x ∷ xs) = at (q x) (list_any q xs) (count_by q xs) (any-counted q xs) ∙ ap (nat_lt 0) (sym (count-cons q x xs))
  where
    at : (b a : Bool) (n : ℕ) → a ≡ nat_lt 0 n → (b || a) ≡ nat_lt 0 (cond b 1 0 + n)
    at true a n h = sym (lt-ltb 0 (1 + n) (omega arith))
    at false a n h = let same : n ≡ 0 + n = omega arith in h ∙ ap (nat_lt 0) same

pub known-kept : (s : State) (t : Tables) → IsKept s t → keeping.known_of t.tree t.kept t.next ≡ known s
known-kept s t k =
    let e = k.look_ups in
    let names = λ (name : List ℕ). ap (λ (v : Seen). nat_lt 0 (v.names name)) e ∙ sym (any-counted (makes_named name) (waiting s.requests)) in
    let offered = λ (router : Serial) (id : Id). ap (λ (v : Seen). nat_lt 0 (v.offered router id)) e ∙ sym (any-counted (makes_producer router id) (waiting s.requests)) in
    λ i. record {
      objects = (e i).objects;
      routers = (e i).routers;
      producers = (e i).producers;
      consumers = (e i).consumers;
      pipes = (e i).pipes;
      is_named = λ name. names name i;
      is_asked = λ router id. offered router id i;
      slots = (e i).slots_made;
      stopped = (e i).stopped;
      next = (e i).next;
    }

-- ---- the answer, by what was built

module _ (s : State) (t : Tables) (k : IsKept s t) (o : Op) where
  pub answer-as : (b : Result Built BuildFault) → built (keeping.known_of t.tree t.kept t.next) o ≡ b → answer s o ≡ answered_by s o b
  answer-as b e = ap (λ (q : Known). answered_by s o (built q o)) (sym (known-kept s t k)) ∙ ap (answered_by s o) e

pub issued-answer : (o : Op) (r : asks.Request) (under : Serial) (due : Due) (next : Draws) (p : Placed) (a : model.Answer) → IsAsked o under due next r → placed_as r p ≡ a
    → IsAnswer o (issued_as under due next p) a
issued-answer o r under due next (placed.Refuses outcome) a h e = sym e
issued-answer o r under due next (placed.Issues channel payload) a h e = (r, sym e, h)

-- ---- where a request goes

module _ (s : State) (t : Tables) (k : IsKept s t) (r : asks.Request) (under : Serial) (e : r.under ≡ under) where
  abbrev pub channel_in : Option WorkerKey
  channel_in = option_and_then (λ (o : Object). channel_of t.slots.slots o.worker) (numbered t.tree under)

  asked-on : asked s r ≡ on_channel s r channel_in
  asked-on =
      let tree = sym (kept-tree s t k) in
      let slots = sym (kept-slots s t k) in
      λ i. on_channel s r (option_and_then (λ (o : Object). channel_of (slots i) o.worker) (numbered (tree i) (e i)))

  module _ (channel : WorkerKey) (found : Some channel ≡ channel_in) where
    before : last_on t.requests channel ≡ issued s.requests channel
    before = ap (λ (f : WorkerKey → ℕ). f channel) (kept-lasts s t k)

    by-count : unless_spent r channel (last_on t.requests channel) ≡ asked s r
    by-count = ap (unless_spent r channel) before ∙ ap (on_channel s r) found ∙ sym asked-on

    pub placed-spent : max_id ≤ last_on t.requests channel → model.Refuses outcome.IdsSpent ≡ asked s r
    placed-spent spent =
        ap (λ b. cond b (model.Refuses outcome.IdsSpent) (unless_long r channel (asked_payload r (last_on t.requests channel + 1)))) (sym (le-leb max_id (last_on t.requests channel) spent))
        ∙ by-count

    module _ (left : last_on t.requests channel < max_id) (payload : List ℕ) (text : payload ≡ asked_payload r (last_on t.requests channel + 1)) where
      by-length : unless_long r channel payload ≡ asked s r
      by-length =
          ap (unless_long r channel) text
          ∙ ap (λ b. cond b (model.Refuses outcome.IdsSpent) (unless_long r channel (asked_payload r (last_on t.requests channel + 1)))) (sym (not-spent (nat_le max_id (last_on t.requests channel)) refl))
          ∙ by-count
        where
          not-spent : (b : Bool) → nat_le max_id (last_on t.requests channel) ≡ b → nat_le max_id (last_on t.requests channel) ≡ false
          not-spent true f = absurd (omega (arith, left, leb-true max_id (last_on t.requests channel) f))
          not-spent false f = f

      pub placed-long : max_payload < length payload → model.Refuses outcome.TooBig ≡ asked s r
      placed-long long = ap (λ b. cond b (model.Refuses outcome.TooBig) (model.Issues r channel payload)) (sym (lt-ltb max_payload (length payload) long)) ∙ by-length

      pub placed-there : length payload ≤ max_payload → model.Issues r channel payload ≡ asked s r
      placed-there short =
          ap (λ b. cond b (model.Refuses outcome.TooBig) (model.Issues r channel payload)) (sym (not-long (nat_lt max_payload (length payload)) refl)) ∙ by-length
        where
          not-long : (b : Bool) → nat_lt max_payload (length payload) ≡ b → nat_lt max_payload (length payload) ≡ false
          not-long true f = absurd (omega (arith, short, ltb-true max_payload (length payload) f))
          not-long false f = f

-- ---- its payload

or-first : (a b : Bool) → (a || b) ≡ false → a ≡ false
or-first true b h = absurd cc
or-first false b h = refl

whole-content : (content : Option Data) (v : RequestView) → v.content ≡ content → has_float (request_json v) ≡ false → has_whole_numbers content ≡ true
whole-content None v e h = refl
whole-content (Some d) v e h =
    ap not (or-first (has_float d) _ (ap (λ (c : Option Data). has_float (request_json (record v { content = c }))) (sym e) ∙ h))

pub whole-request : (r : asks.Request) (v : RequestView) → unnumbered r ≡ v → HasNoFloat r → has_whole_numbers v.content ≡ true
whole-request r v e h = subst (λ (x : RequestView). has_whole_numbers x.content ≡ true) e (whole-content r.content (unnumbered r) refl (h 0))

pub text-request : (r : asks.Request) (v : RequestView) (id : ℕ) → unnumbered r ≡ v → compact_text (request_json (record v { id = id })) ≡ asked_payload r id
text-request r v id e = ap (λ (x : RequestView). compact_text (request_json (record x { id = id }))) (sym e)

-- ---- a call that asks nothing of a worker

-- one that isn't of a Worker, a close or a packet
pub own-other : (s : State) (o : Op) (told : Option Bool)
    → ((name : List ℕ) × (worker : List ℕ) × (options : List ℕ) × (o ≡ op.Router name worker options)) ⊎ (
    ((name : List ℕ) × (router : List ℕ) × (options : List ℕ) × (o ≡ op.Plain name router options)) ⊎ (
    ((name : List ℕ) × (router : List ℕ) × (options : List ℕ) × (o ≡ op.Pipe name router options)) ⊎ (
    ((name : List ℕ) × (router : List ℕ) × (o ≡ op.Direct name router)) ⊎ (
    ((transport : List ℕ) × (options : List ℕ) × (o ≡ op.Connect transport options)) ⊎ (
    ((name : List ℕ) × (transport : List ℕ) × (options : List ℕ) × (o ≡ op.Produce name transport options)) ⊎ (
    ((name : List ℕ) × (transport : List ℕ) × (producer : List ℕ) × (options : List ℕ) × (o ≡ op.Consume name transport producer options)) ⊎ (
    ((name : List ℕ) × (o ≡ op.Pause name)) ⊎ (
    ((name : List ℕ) × (o ≡ op.Resume name)) ⊎ (
    ((producer : List ℕ) × (caps : List ℕ) × (o ≡ op.CanConsume producer caps)) ⊎ (
    ((name : List ℕ) × (producer : List ℕ) × (router : List ℕ) × (o ≡ op.PipeRouter name producer router))))))))))))
    → model.own s o told ≡ model.tells told
own-other s o told h = elim h [
  | inl here ↦ ap (λ (x : Op). model.own s x told) here.3
  | inr later ↦ elim later [
    | inl here ↦ ap (λ (x : Op). model.own s x told) here.3
    | inr later ↦ elim later [
      | inl here ↦ ap (λ (x : Op). model.own s x told) here.3
      | inr later ↦ elim later [
        | inl here ↦ ap (λ (x : Op). model.own s x told) here.2
        | inr later ↦ elim later [
          | inl here ↦ ap (λ (x : Op). model.own s x told) here.2
          | inr later ↦ elim later [
            | inl here ↦ ap (λ (x : Op). model.own s x told) here.3
            | inr later ↦ elim later [
              | inl here ↦ ap (λ (x : Op). model.own s x told) here.4
              | inr later ↦ elim later [
                | inl here ↦ ap (λ (x : Op). model.own s x told) here.1
                | inr later ↦ elim later [
                  | inl here ↦ ap (λ (x : Op). model.own s x told) here.1
                  | inr later ↦ elim later [
                    | inl here ↦ ap (λ (x : Op). model.own s x told) here.2
                    | inr last ↦ ap (λ (x : Op). model.own s x told) last.3
                  ]
                ]
              ]
            ]
          ]
        ]
      ]
    ]
  ]
]

pub own-answer : (t : Tables) (o : Op) (told : Option Bool) (r : Result Course NoMemory) → built (keeping.known_of t.tree t.kept t.next) o ≡ Ok (Own told)
    → IfOk r (λ a. (s : State) → IsKept s t → IsAnswer o a (model.own s o told)) → IfOk r (λ a. (s : State) → IsKept s t → IsAnswer o a (answer s o))
own-answer t o told (Ok a) e h = λ s k. subst (IsAnswer o a) (sym (answer-as s t k o (Ok (Own told)) e)) (h s k)
own-answer t o told (Err w) e h = tt
