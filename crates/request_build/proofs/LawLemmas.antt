-- Each request that is built is sound.
use Rattle.std.proofs.Common.{◌≡◌, ◌≤◌, ◌*◌, ℕ, ◌+◌, List, [], ◌∷◌, length, map, Bool, true, false, if◌then◌else◌, Option, Some, None, option_map, Result, Ok, Err, refl, sym, ap, subst, is_some, ◌∙◌, arith}
use Rattle.std.proofs.lemmas.Bool.{or_from}
use Rattle.std.proofs.lemmas.List.{length-map}
use Rattle.std.proofs.lemmas.List.FromFn.{length-range_with_len}
use Rattle.std.proofs.lemmas.List.Sums.{sum_by-cons}
use Rattle.std.specs.List.{list_any, range_with_len}
use Rattle.std.specs.Option.{IfSome, unwrap_or}
use Rattle.std.specs.Prelude.{⊤, nat_le, nat_lt, option_and_then}
use Rattle.serde_json.specs.Data.{Data, Members, no_members}
use Rattle.serde_json.specs.Written.{has_float, members_have_float}
use Rattle.channel_msgs.specs.Json.{id_json, internal_members, optional, request_json}
use Rattle.channel_msgs.specs.declared.message.Ids.{Ids}
use Rattle.ms_base.specs.Kinds.{same_kind}
use Rattle.ms_base.specs.declared.code.Code.TheVariants as code
use Rattle.ms_base.specs.declared.id.Id.{Id}
use Rattle.ms_base.specs.declared.keys.Kind.{Kind}
use Rattle.ms_base.specs.declared.keys.Kind.TheVariants as kind
use Rattle.ms_base.specs.declared.keys.Media.{Media}
use Rattle.ms_base.specs.declared.keys.Serial.{Serial}
use Rattle.ms_base.specs.declared.op.Op.{Op}
use Rattle.ms_base.specs.declared.op.Op.TheVariants as op
use Rattle.ms_base.specs.declared.outcome.Outcome.{Outcome}
use Rattle.ms_base.specs.declared.outcome.Outcome.TheVariants as outcome
use Rattle.ms_base.specs.declared.part.Part.{Part}
use Rattle.ms_base.specs.declared.part.Part.TheVariants as part
use Rattle.ms_base.specs.declared.tuple.Tuple.{Tuple}
use Rattle.object_tree.specs.declared.object.Object.{Object}
use Rattle.object_tree.specs.Objects.{AreInOrder, is_producer, named, numbered}
use Rattle.rtp_params.specs.declared.encoding.Encoding.{Encoding}
use Rattle.rtp_params.specs.declared.mapping.Mapping.{Mapping}
use Rattle.rtp_params.specs.declared.params.Caps.{Caps}
use Rattle.rtp_params.specs.declared.params.Params.{Params}
use Rattle.ortc_map.specs.declared.fault.MapFault.{MapFault}
use Rattle.ortc_map.specs.Consumable.{consumable, offered_encoding}
use Rattle.ortc_map.specs.ConsumerLaws.{DrawsOneOrTwo}
use Rattle.ortc_map.specs.ConsumerParams.{consumer_params}
use Rattle.ortc_map.specs.ProducerMapping.{producer_mapping}
use Rattle.ortc_map.specs.RouterCaps.{with_codecs}
use Rattle.call_options.specs.Laws.{IsProduceOptions}
use Rattle.call_options.specs.Options.{caps_options, connect_options, consume_options, pipe_options, piped_consume_options, plain_options, produce_options, router_options}
use Rattle.call_options.specs.declared.fault.OptionFault.{OptionFault}
use Rattle.call_options.specs.declared.options.ConsumeOptions.{ConsumeOptions}
use Rattle.call_options.specs.declared.options.PipeOptions.{PipeOptions}
use Rattle.call_options.specs.declared.options.ProduceOptions.{ProduceOptions}
use Rattle.pipe_params.specs.Pipe as pipes
use Rattle.pipe_params.specs.Pipe.{pipe_params, ssrcs_of}
use Rattle.request_contents.specs.Values.{connect_value, consume_value, direct_value, pipe_value, plain_value, produce_value}
use Rattle.worker_requests.specs.declared.content.PipeContent.{PipeContent}
use Rattle.worker_requests.specs.declared.content.PlainContent.{PlainContent}
use Rattle.request_build.specs.declared.built.BuildFault.{BuildFault}
use Rattle.request_build.specs.declared.built.Keep.{Keep}
use Rattle.request_build.specs.declared.built.Keep.TheVariants as keep
use Rattle.request_build.specs.declared.built.Offer.{Offer}
use Rattle.request_build.specs.Asks.{Ask, Built, Own, connect_asked, connect_to, consume_asked, consumer_of, direct_asked, drawn, flag_asked, has_id_in, kept_of_router, new_consumer, new_object, new_producer, offer_of, own_id, pipe_asked, pipe_of, piped_consume, plain_asked, produce_as, produce_asked, router_asked, simple_consume, ssrcs_drawn, ssrcs_for, Request}
use Rattle.request_build.specs.Built.{built, built_of, built_part, max_packet, max_slots, object_named}
use Rattle.request_build.specs.Columns.{Call, CanConsume, Close, Connect, Consume, Direct, Pause, Pipe, PipeRouter, Plain, Produce, Resume, Router, Send, Worker, are_same, found, is_barred, is_of_wrong_kind, is_taken, makes, of_both}
use Rattle.request_build.specs.Keeps.{IsMapped, IsOfKind, ssrcs_kept}
use Rattle.request_build.specs.Known.{HasFew, HaveFew, Known, above, kept_at, router_of}
use Rattle.request_build.specs.Laws.{IsSound, IsSoundIfAsked}
use Rattle.request_build.specs.Rules.{◌>>=◌, of_mapping, of_options, or_astray, or_refused, refused_where}
use Rattle.request_build.proofs.KeptLemmas.{looked_up}
use Rattle.request_build.proofs.MediaLemmas.{few_received, length-piped, mapped-encodings, mapped-offered, row-drawn, row-offered, row-received}
use Rattle.request_build.proofs.NamedLemmas.{named-numbered}

-- What the crates below say.
pub record Lower : Type 0 where
  pub plain : (c : PlainContent) → has_float (plain_value c) ≡ false
  pub pipe : (c : PipeContent) → has_float (pipe_value c) ≡ false
  pub direct : has_float direct_value ≡ false
  pub connect : (to : Tuple) → has_float (connect_value to) ≡ false
  pub produce : (media : Media) (paused : Bool) (mapping : Mapping) (params : Params) → has_float (produce_value media paused mapping params) ≡ false
  pub consume : (media : Media) (paused simple : Bool) (consumed : List Encoding) (params : Params) → has_float (consume_value media paused consumed params simple) ≡ false
  pub produced : (options : List ℕ) (given : ProduceOptions) → produce_options options ≡ Ok given → IsProduceOptions given
  pub ssrcs : (params : Params) (caps : Caps) (first : ℕ) (mapping : Mapping) → producer_mapping params caps first ≡ Ok mapping
      → map (λ pair. pair.0) mapping.encodings ≡ map (λ encoding. encoding.ssrc) params.encodings
  pub received : (offered : Params) (caps : Caps) (first : ℕ) (params : Params) → consumer_params offered caps first ≡ Ok params → DrawsOneOrTwo first params.encodings
  pub piped : (offered : Params) (with_rtx : Bool) (first : ℕ)
      → ssrcs_of (pipe_params offered with_rtx first).encodings ≡ range_with_len first (pipes.ssrcs_drawn with_rtx (length offered.encodings))

-- ---- rules one after another

abbrev Answer : Type 0
Answer = Result Built BuildFault

sound : (k : Known) (request : Request) → IsSound k request → IsSoundIfAsked k (Ok (Ask request))
sound k request h = record { if_asked = λ other e. let same : request ≡ other = cc in subst (IsSound k) same h }

own_sound : (k : Known) (answer : Option Bool) → IsSoundIfAsked k (Ok (Own answer))
own_sound k answer = record { if_asked = λ other e. absurd cc }

fault_sound : (k : Known) (fault : BuildFault) → IsSoundIfAsked k (Err fault)
fault_sound k fault = record { if_asked = λ other e. absurd cc }

onward : {A : Type 0} (k : Known) (x : Result A BuildFault) (f : A → Answer) → ((a : A) → x ≡ Ok a → IsSoundIfAsked k (f a)) → IsSoundIfAsked k (x >>= f)
onward k (Ok a) f h = h a refl
onward k (Err e) f h = fault_sound k e

with_found : {A : Type 0} (k : Known) (o : Outcome) (x : Option A) (P : A → Type 0) (f : A → Answer) → IfSome x P → ((a : A) → P a → IsSoundIfAsked k (f a))
    → IsSoundIfAsked k (or_refused o x >>= f)
with_found k o None P f known h = fault_sound k _
with_found k o (Some a) P f known h = h a known

either_way : (k : Known) (b : Bool) (x y : Answer) → IsSoundIfAsked k x → IsSoundIfAsked k y → IsSoundIfAsked k (if b then x else y)
either_way k true x y h g = h
either_way k false x y h g = g

options_gave : {A : Type 0} (x : Result A OptionFault) (a : A) → of_options x ≡ Ok a → x ≡ Ok a
options_gave (Ok b) a e = let same : b ≡ a = cc in ap (λ c. Ok c) same
options_gave (Err f) a e = absurd cc

mapping_gave : {A : Type 0} (x : Result A MapFault) (a : A) → of_mapping x ≡ Ok a → x ≡ Ok a
mapping_gave (Ok b) a e = let same : b ≡ a = cc in ap (λ c. Ok c) same
mapping_gave (Err f) a e = absurd cc

was_found : {A : Type 0} (o : Outcome) (x : Option A) (a : A) → or_refused o x ≡ Ok a → x ≡ Some a
was_found o (Some b) a e = let same : b ≡ a = cc in ap (λ c. Some c) same
was_found o None a e = absurd cc

-- ---- payloads

ids-member : (key : List ℕ) (id : Option Id) (rest : Members) → members_have_float rest ≡ false → members_have_float (optional key (option_map id_json id) rest) ≡ false
ids-member key None rest h = h
ids-member key (Some id) rest h = h

ids-whole : (ids : Ids) → members_have_float (internal_members ids) ≡ false
ids-whole ids = ids-member _ ids.consumer _ (ids-member _ ids.producer _ (ids-member _ ids.router _ (ids-member _ ids.transport no_members refl)))

abbrev IsWhole : Option Data → Type 0
IsWhole None = ⊤
IsWhole (Some d) = has_float d ≡ false

request-whole : (method : List ℕ) (ids : Ids) (content : Option Data) → IsWhole content → (id : ℕ)
    → has_float (request_json (record { id = id; method = method; ids = ids; content = content })) ≡ false
request-whole method ids None h id = or_from _ _ (ids-whole ids) refl
request-whole method ids (Some d) h id = or_from _ _ h (or_from _ _ (ids-whole ids) refl)

-- ---- requests

-- an object of this serial is found by it, where the objects are in order
abbrev Stands : Known → Object → Type 0
Stands k o = AreInOrder k.objects → numbered k.objects o.serial ≡ Some o

named-stands : (k : Known) (name : List ℕ) (o : Object) → named k.objects name ≡ Some o → Stands k o
named-stands k name o e = λ order. named-numbered k.objects name o order e

abbrev Few : Known → Type 0
Few k = HaveFew k.producers k.consumers

-- A new object with the next serial, on another.
record IsNext (k : Known) (parent object : Object) : Type 0 where
  own : object.serial.0 ≡ k.next.serial
  on : object.parent ≡ Some parent.serial
  worker : object.worker ≡ parent.worker
  no_worker : same_kind object.kind kind.Worker ≡ false
  opens : object.closed ≡ None
  waits : object.running ≡ false
  alone : object.far ≡ None

next-object : (k : Known) (of_kind : Kind) (name : List ℕ) (id : Id) (parent : Object) → same_kind of_kind kind.Worker ≡ false → IsNext k parent (new_object k of_kind name id parent)
next-object k of_kind name id parent no_worker =
    record { own = refl; on = refl; worker = refl; no_worker = no_worker; opens = refl; waits = refl; alone = refl }

next-producer : (k : Known) (name : List ℕ) (transport : Object) (id : Id) (paused : Bool) → IsNext k transport (new_producer k name transport id paused)
next-producer k name transport id paused = record { own = refl; on = refl; worker = refl; no_worker = refl; opens = refl; waits = refl; alone = refl }

next-consumer : (k : Known) (name : List ℕ) (transport producer : Object) (paused : Bool) → IsNext k transport (new_consumer k name transport producer paused)
next-consumer k name transport producer paused = record { own = refl; on = refl; worker = refl; no_worker = refl; opens = refl; waits = refl; alone = refl }

-- What is kept of an object of a kind, with so many SSRCs, which are the next ones.
record HasOwn (k : Known) (of_kind : Kind) (keeps : Keep) (ssrcs : ℕ) : Type 0 where
  kind : IsOfKind of_kind keeps
  row : ssrcs_kept keeps ≡ range_with_len k.next.ssrc ssrcs
  mapped : IsMapped keeps

made : (k : Known) (method : List ℕ) (ids : Ids) (content : Option Data) (parent object : Object) (keeps : Keep) (ssrcs : ℕ) → IsWhole content → (Few k → ssrcs ≤ 16)
    → (Few k → HasFew keeps) → Stands k parent → IsNext k parent object → HasOwn k object.kind keeps ssrcs
    → IsSoundIfAsked k (Ok (Ask (record { method = method; ids = ids; content = content; under = parent.serial; makes = Some object; keeps = keeps; next = drawn k ssrcs })))
made k method ids content parent object keeps ssrcs whole few kept stands next own =
    let many : length (ssrcs_kept keeps) ≡ ssrcs = ap length own.row ∙ length-range_with_len k.next.ssrc ssrcs in
    sound k _ (record {
      whole = request-whole method ids content whole;
      drawn = λ h. record {
        own = next.own;
        seed = refl;
        serial = refl;
        rising = omega arith;
        few = (let small = few h in omega (arith, small));
      };
      few = kept;
      new = record {
        parent = next.on;
        worker = λ order. ap (option_map (λ (p : Object). p.worker)) (stands order) ∙ ap (λ w. Some w) (sym next.worker);
        kind = next.no_worker;
        opens = next.opens;
        waits = next.waits;
        alone = next.alone;
      };
      kept = own.kind;
      ssrcs = record { row = own.row ∙ ap (range_with_len k.next.ssrc) (sym many); next = ap (λ n. k.next.ssrc + n) (sym many); mapped = own.mapped };
    })

changed : (k : Known) (method : List ℕ) (ids : Ids) (content : Option Data) (object : Object) → IsWhole content
    → IsSoundIfAsked k (Ok (Ask (record { method = method; ids = ids; content = content; under = object.serial; makes = None; keeps = keep.Nothing; next = k.next })))
changed k method ids content object whole =
    sound k _ (record { whole = request-whole method ids content whole; drawn = λ h. refl; few = λ h. tt; new = tt; kept = refl; ssrcs = record { row = refl; next = omega arith; mapped = tt } })

-- ---- Routers and transports

module _ (lower : Lower) (k : Known) where
  router-sound : (name : List ℕ) (worker : Object) (options : List ℕ) → Stands k worker → IsSoundIfAsked k (router_asked k name worker options)
  router-sound name worker options stands =
      onward k (of_options (router_options options)) _ (λ given _. onward k (of_mapping (with_codecs [] given)) _ (λ codecs _.
      made k _ _ None worker _ (keep.Router (kept_of_router codecs)) 0 tt (λ h. omega arith) (λ h. tt) stands (next-object k kind.Router name (own_id k) worker refl) (record { kind = record { router = refl; producer = refl; consumer = refl; pipe = refl }; row = refl; mapped = tt })))

  plain-sound : (name : List ℕ) (router : Object) (options : List ℕ) → Stands k router → IsSoundIfAsked k (plain_asked k name router options)
  plain-sound name router options stands =
      onward k (of_options (plain_options options)) _ (λ given _.
      made k _ _ (Some (plain_value (record { comedia = given.comedia; ip = given.listen_ip }))) router _ keep.Nothing 0 (lower.plain (record { comedia = given.comedia; ip = given.listen_ip })) (λ h. omega arith) (λ h. tt) stands (next-object k kind.Plain name (own_id k) router refl)
      (record { kind = record { router = refl; producer = refl; consumer = refl; pipe = refl }; row = refl; mapped = tt }))

  pipe-of-sound : (name : List ℕ) (router : Object) (given : PipeOptions) → Stands k router → IsSoundIfAsked k (Ok (pipe_of k name router given))
  pipe-of-sound name router given stands =
      made k _ _ (Some (pipe_value (record { enable_rtx = given.enable_rtx; ip = given.listen_ip }))) router _ (keep.Pipe given.enable_rtx) 0 (lower.pipe (record { enable_rtx = given.enable_rtx; ip = given.listen_ip })) (λ h. omega arith) (λ h. tt) stands (next-object k kind.Pipe name (own_id k) router refl)
      (record { kind = record { router = refl; producer = refl; consumer = refl; pipe = refl }; row = refl; mapped = tt })

  pipe-sound : (name : List ℕ) (router : Object) (options : List ℕ) → Stands k router → IsSoundIfAsked k (pipe_asked k name router options)
  pipe-sound name router options stands = onward k (of_options (pipe_options options)) _ (λ given _. pipe-of-sound name router given stands)

  direct-sound : (name : List ℕ) (router : Object) → Stands k router → IsSoundIfAsked k (Ok (direct_asked k name router))
  direct-sound name router stands =
      made k _ _ (Some direct_value) router _ keep.Nothing 0 lower.direct (λ h. omega arith) (λ h. tt) stands (next-object k kind.Direct name (own_id k) router refl)
      (record { kind = record { router = refl; producer = refl; consumer = refl; pipe = refl }; row = refl; mapped = tt })

  connect-to-sound : (transport : Object) (to : Tuple) → IsSoundIfAsked k (connect_to k transport to)
  connect-to-sound transport to = onward k (or_astray (above k.objects transport)) _ (λ router _. changed k _ _ (Some (connect_value to)) transport (lower.connect to))

  connect-sound : (transport : Object) (options : List ℕ) → IsSoundIfAsked k (connect_asked k transport options)
  connect-sound transport options = onward k (of_options (connect_options options)) _ (λ to _. connect-to-sound transport to)

  -- ---- Producers

  offered-few : (router : Serial) (id : Id) (given : ProduceOptions) (caps : Caps) (mapping : Mapping) → producer_mapping given.params caps k.next.ssrc ≡ Ok mapping → length given.params.encodings ≤ 8
      → length (offer_of router id given caps mapping).params.encodings ≤ 8
  unfolding consumable
  offered-few router id given caps mapping e few =
      let same = ap length (lower.ssrcs given.params caps k.next.ssrc mapping e) in
      omega (arith, few, same, length-map mapping.encodings offered_encoding, length-map mapping.encodings (λ (pair : ℕ × ℕ). pair.0), length-map given.params.encodings (λ (encoding : Encoding). encoding.ssrc))

  offered-own : (router : Serial) (id : Id) (given : ProduceOptions) (caps : Caps) (mapping : Mapping) → producer_mapping given.params caps k.next.ssrc ≡ Ok mapping
      → HasOwn k kind.Producer (keep.Producer (offer_of router id given caps mapping)) (length given.params.encodings)
  unfolding consumable
  offered-own router id given caps mapping e =
      record {
        kind = record { router = refl; producer = refl; consumer = refl; pipe = refl };
        row = ap (λ (pairs : List (ℕ × ℕ)). ssrcs_of (map offered_encoding pairs)) (mapped-encodings given.params caps k.next.ssrc mapping e)
            ∙ row-offered k.next.ssrc given.params.encodings;
        mapped = mapped-offered mapping.encodings;
      }

  small : (n : ℕ) → n ≤ 8 → n ≤ 16
  small n h = omega arith

  produce-as-sound : (name : List ℕ) (transport : Object) (given : ProduceOptions) → Stands k transport → (Few k → length given.params.encodings ≤ 8)
      → IsSoundIfAsked k (produce_as k name transport given)
  produce-as-sound name transport given stands few =
      onward k (or_astray (above k.objects transport)) _ (λ router _.
      onward k (refused_where (outcome.TypeError code.DuplicateId) (has_id_in k router.serial (unwrap_or given.id (own_id k)))) _ (λ _ _.
      onward k (or_astray (kept_at k.routers router.serial)) _ (λ caps _.
      onward k (of_mapping (producer_mapping given.params caps k.next.ssrc)) _ (λ mapping e.
      made k _ _ (Some (produce_value given.media given.paused mapping given.params)) transport _ (keep.Producer (offer_of router.serial (unwrap_or given.id (own_id k)) given caps mapping))
      (length given.params.encodings) (lower.produce given.media given.paused mapping given.params) (λ h. small _ (few h))
      (λ h. offered-few router.serial (unwrap_or given.id (own_id k)) given caps mapping (mapping_gave (producer_mapping given.params caps k.next.ssrc) mapping e) (few h)) stands
      (next-producer k name transport (unwrap_or given.id (own_id k)) given.paused)
      (offered-own router.serial (unwrap_or given.id (own_id k)) given caps mapping (mapping_gave (producer_mapping given.params caps k.next.ssrc) mapping e))))))

  produce-sound : (name : List ℕ) (transport : Object) (options : List ℕ) → Stands k transport → IsSoundIfAsked k (produce_asked k name transport options)
  produce-sound name transport options stands =
      onward k (of_options (produce_options options)) _ (λ given e. produce-as-sound name transport given stands (λ h. (lower.produced options given (options_gave (produce_options options) given e)).encodings.1))

  -- ---- Consumers

  one-or-two : (encoding : Encoding) → ssrcs_for encoding ≤ 2
  one-or-two encoding = at (is_some encoding.rtx)
    where
      at : (b : Bool) → (if b then 2 else 1) ≤ 2
      at true = omega arith
      at false = omega arith

  drawn-few : (encodings : List Encoding) → ssrcs_drawn encodings ≤ 2 * length encodings
  drawn-few [] = omega arith
  drawn-few (encoding ∷ encodings) = omega (arith, sum_by-cons ssrcs_for encoding encodings, one-or-two encoding, drawn-few encodings)

  drawn-small : (encodings : List Encoding) → length encodings ≤ 8 → ssrcs_drawn encodings ≤ 16
  drawn-small encodings h = omega (arith, h, drawn-few encodings)

  consumer-sound : (name : List ℕ) (router transport producer : Object) (offer : Offer) (params : Params) (paused simple : Bool) → Stands k transport
      → (Few k → length params.encodings ≤ 8) → ssrcs_of params.encodings ≡ range_with_len k.next.ssrc (ssrcs_drawn params.encodings)
      → IsSoundIfAsked k (Ok (consumer_of k name router transport producer offer params paused simple))
  consumer-sound name router transport producer offer params paused simple stands few row =
      made k _ _ (Some (consume_value offer.media paused offer.params.encodings params simple)) transport _ (keep.Consumer params) (ssrcs_drawn params.encodings) (lower.consume offer.media paused simple offer.params.encodings params)
      (λ h. drawn-small params.encodings (few h)) few stands (next-consumer k name transport producer paused)
      (record { kind = record { router = refl; producer = refl; consumer = refl; pipe = refl }; row = row; mapped = tt })

  piped-few : (serial : Serial) (offer : Offer) (enable_rtx : Bool) → kept_at k.producers serial ≡ Some offer → Few k → length (pipe_params offer.params enable_rtx k.next.ssrc).encodings ≤ 8
  piped-few serial offer enable_rtx e h =
      let few : length offer.params.encodings ≤ 8 = looked_up (λ (o : Offer). length o.params.encodings ≤ 8) k.producers _ offer h.producers e in
      omega (arith, few, length-piped offer.params enable_rtx k.next.ssrc)

  piped-sound : (name : List ℕ) (transport producer : Object) (paused : Bool) → Stands k transport → IsSoundIfAsked k (piped_consume k name transport producer paused)
  piped-sound name transport producer paused stands =
      onward k (or_astray (above k.objects transport)) _ (λ router _.
      onward k (or_astray (kept_at k.producers producer.serial)) _ (λ offer e.
      onward k (or_astray (kept_at k.pipes transport.serial)) _ (λ enable_rtx _.
      consumer-sound name router transport producer offer (pipe_params offer.params enable_rtx k.next.ssrc) paused false stands
      (piped-few producer.serial offer enable_rtx (was_found outcome.InvalidState (kept_at k.producers producer.serial) offer e))
      (row-drawn k.next.ssrc (pipes.ssrcs_drawn enable_rtx (length offer.params.encodings)) (pipe_params offer.params enable_rtx k.next.ssrc).encodings
      (lower.piped offer.params enable_rtx k.next.ssrc)))))

  simple-sound : (name : List ℕ) (transport producer : Object) (given : ConsumeOptions) → Stands k transport → IsSoundIfAsked k (simple_consume k name transport producer given)
  simple-sound name transport producer given stands =
      onward k (or_astray (above k.objects transport)) _ (λ router _.
      onward k (or_astray (kept_at k.producers producer.serial)) _ (λ offer _.
      onward k (refused_where (outcome.Unsupported code.Simulcast) (nat_lt 1 (length offer.params.encodings))) _ (λ _ _.
      onward k (of_mapping (consumer_params offer.params given.caps k.next.ssrc)) _ (λ params e.
      consumer-sound name router transport producer offer params given.paused true stands
      (λ h. few_received k.next.ssrc params.encodings (lower.received offer.params given.caps k.next.ssrc params (mapping_gave (consumer_params offer.params given.caps k.next.ssrc) params e)))
      (row-received k.next.ssrc params.encodings (lower.received offer.params given.caps k.next.ssrc params (mapping_gave (consumer_params offer.params given.caps k.next.ssrc) params e)))))))

  consume-sound : (name : List ℕ) (transport producer : Object) (options : List ℕ) → Stands k transport → IsSoundIfAsked k (consume_asked k name transport producer options)
  consume-sound name transport producer options stands =
      either_way k (same_kind transport.kind kind.Pipe) _ _ (onward k (of_options (piped_consume_options options)) _ (λ paused _. piped-sound name transport producer paused stands))
      (onward k (of_options (consume_options options)) _ (λ given _. simple-sound name transport producer given stands))

  -- ---- pauses

  flag-sound : (stream : Object) (paused : Bool) → IsSoundIfAsked k (flag_asked k stream paused)
  flag-sound stream paused =
      onward k (or_astray (above k.objects stream)) _ (λ transport _.
      onward k (or_astray (above k.objects transport)) _ (λ router _.
      either_way k (is_producer stream.kind) _ _ (changed k _ _ None stream tt)
      (onward k (or_astray (option_and_then (numbered k.objects) stream.producer)) _ (λ producer _. changed k _ _ None stream tt))))

  -- ---- calls

  -- the object that a new one is to stand on
  abbrev AreFound : Call → Type 0
  AreFound (Router name worker options) = Stands k worker
  AreFound (Plain name router options) = Stands k router
  AreFound (Pipe name router options) = Stands k router
  AreFound (Direct name router) = Stands k router
  AreFound (Produce name transport options) = Stands k transport
  AreFound (Consume name transport producer options) = Stands k transport
  AreFound other = ⊤

  mapped : (call : Object → Call) (x : Option Object) → ((o : Object) → x ≡ Some o → AreFound (call o)) → IfSome (option_map call x) AreFound
  mapped call None h = tt
  mapped call (Some o) h = h o refl

  mapped-both : (call : Object → Object → Call) (x y : Option Object) → ((a b : Object) → x ≡ Some a → AreFound (call a b)) → IfSome (of_both call x y) AreFound
  mapped-both call None y h = tt
  mapped-both call (Some a) None h = tt
  mapped-both call (Some a) (Some b) h = h a b refl

  are-found : (call : Op) → IfSome (found k call) AreFound
  are-found (op.Worker name budget) = tt
  are-found (op.Router name worker options) = mapped _ (named k.objects worker) (named-stands k worker)
  are-found (op.Plain name router options) = mapped _ (named k.objects router) (named-stands k router)
  are-found (op.Pipe name router options) = mapped _ (named k.objects router) (named-stands k router)
  are-found (op.Direct name router) = mapped _ (named k.objects router) (named-stands k router)
  are-found (op.Connect transport options) = mapped _ (named k.objects transport) (λ o e. tt)
  are-found (op.Produce name transport options) = mapped _ (named k.objects transport) (named-stands k transport)
  are-found (op.Consume name transport producer options) = mapped-both _ (named k.objects transport) (named k.objects producer) (λ a b e. named-stands k transport a e)
  are-found (op.Pause name) = mapped _ (named k.objects name) (λ o e. tt)
  are-found (op.Resume name) = mapped _ (named k.objects name) (λ o e. tt)
  are-found (op.Close name) = mapped _ (named k.objects name) (λ o e. tt)
  are-found (op.CanConsume producer caps) = mapped _ (named k.objects producer) (λ o e. tt)
  are-found (op.Send producer packet) = mapped _ (named k.objects producer) (λ o e. tt)
  are-found (op.PipeRouter name producer router) = mapped-both _ (named k.objects producer) (named k.objects router) (λ a b e. tt)

  call-sound : (call : Call) → AreFound call → IsSoundIfAsked k (built_of k call)
  call-sound Worker h = onward k (refused_where (outcome.TypeError code.Slots) (nat_le max_slots k.slots)) _ (λ _ _. own_sound k None)
  call-sound (Router name worker options) h = router-sound name worker options h
  call-sound (Plain name router options) h = plain-sound name router options h
  call-sound (Pipe name router options) h = pipe-sound name router options h
  call-sound (Direct name router) h = direct-sound name router h
  call-sound (Connect transport options) h = connect-sound transport options
  call-sound (Produce name transport options) h = produce-sound name transport options h
  call-sound (Consume name transport producer options) h = consume-sound name transport producer options h
  call-sound (Pause stream) h = flag-sound stream true
  call-sound (Resume stream) h = flag-sound stream false
  call-sound (Close object) h = own_sound k None
  call-sound (CanConsume producer caps) h =
      onward k (of_options (caps_options caps)) _ (λ given _. onward k (or_astray (kept_at k.producers producer.serial)) _ (λ offer _. own_sound k _))
  call-sound (Send producer packet) h = onward k (refused_where (outcome.TypeError code.Packet) (nat_lt max_packet (length packet))) _ (λ _ _. own_sound k None)
  call-sound (PipeRouter producer router) h =
      onward k (refused_where (outcome.TypeError code.SameRouter) (are_same (Some router.serial) (router_of k.objects producer))) _ (λ _ _. own_sound k None)

  pub calls-sound : (call : Op) → IsSoundIfAsked k (built k call)
  calls-sound call =
      onward k (refused_where outcome.NameTaken (list_any (is_taken k) (makes call))) _ (λ _ _.
      with_found k outcome.NoName (found k call) AreFound _ (are-found call) (λ c h.
      onward k (refused_where outcome.WrongKind (is_of_wrong_kind k c)) _ (λ _ _.
      onward k (refused_where outcome.InvalidState (is_barred k c)) _ (λ _ _. call-sound c h))))

  -- ---- parts

  received-few : (serial : Serial) (params : Params) → kept_at k.consumers serial ≡ Some params → Few k → length params.encodings ≤ 8
  received-few serial params e h = looked_up (λ (p : Params). length p.encodings ≤ 8) k.consumers _ params h.consumers e

  pub parts-sound : (one : Part) → IsSoundIfAsked k (built_part k one)
  parts-sound (part.Pipe name router) = onward k (object_named k router) _ (λ on e. pipe-of-sound name on (record { listen_ip = 127 ∷ 0 ∷ 0 ∷ 1 ∷ []; enable_rtx = false }) (named-stands k router on (was_found outcome.InvalidState (named k.objects router) on e)))
  parts-sound (part.Connect transport to) = onward k (object_named k transport) _ (λ on _. connect-to-sound on to)
  parts-sound (part.Consume name transport producer) =
      onward k (object_named k transport) _ (λ on e. onward k (object_named k producer) _ (λ source _. piped-sound name on source false (named-stands k transport on (was_found outcome.InvalidState (named k.objects transport) on e))))
  parts-sound (part.Produce name transport producer consumer paused) =
      onward k (object_named k transport) _ (λ on e.
      onward k (or_astray (numbered k.objects producer)) _ (λ source _.
      onward k (or_astray (kept_at k.producers producer)) _ (λ offer _.
      onward k (or_astray (kept_at k.consumers consumer)) _ (λ params f.
      produce-as-sound name on (record { media = offer.media; params = params; paused = paused; id = Some source.id }) (named-stands k transport on (was_found outcome.InvalidState (named k.objects transport) on e)) (received-few consumer params (was_found outcome.InvalidState (kept_at k.consumers consumer) params f))))))
  parts-sound (part.Pause name) = onward k (object_named k name) _ (λ stream _. flag-sound stream true)
  parts-sound (part.Resume name) = onward k (object_named k name) _ (λ stream _. flag-sound stream false)
