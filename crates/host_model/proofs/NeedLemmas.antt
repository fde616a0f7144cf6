-- What a call reads besides the objects that it names is there: so what refuses it as invalid state is the state of these.
use Rattle.std.proofs.Common.{◌≡◌, ◌≤◌, ℕ, List, [], ◌∷◌, length, nat_le, nat_lt, Bool, true, false, not, ◌&&◌, ◌||◌, cond, Option, Some, None, Result, Ok, Err, refl, sym, ap, ◌∙◌, subst, arith, count_by}
use Rattle.std.specs.List.{AllByRecursion, find, list_all, list_any}
use Rattle.std.specs.Option.{is_some, option_and_then, unwrap_or}
use Rattle.std.specs.Prelude.{IfSome}
use Rattle.std.proofs.lemmas.Bool.{and_parts, true≢false}
use Rattle.ms_base.specs.Kinds.{same_kind}
use Rattle.ms_base.specs.declared.code.Code.TheVariants as code
use Rattle.ms_base.specs.declared.keys.Kind.{Kind}
use Rattle.ms_base.specs.declared.keys.Kind.TheVariants as kind
use Rattle.ms_base.specs.declared.keys.Serial.{Serial}
use Rattle.ms_base.specs.declared.op.Op.{Op}
use Rattle.ms_base.specs.declared.outcome.Outcome.{Outcome}
use Rattle.ms_base.specs.declared.outcome.Outcome.TheVariants as outcome
use Rattle.object_tree.specs.declared.object.Object.{Object}
use Rattle.object_tree.specs.Falls.{is_consumer}
use Rattle.object_tree.specs.Objects.{has_serial, is_open, is_producer, numbered}
use Rattle.call_options.specs.Options.{caps_options, connect_options, consume_options, pipe_options, piped_consume_options, plain_options, produce_options, router_options}
use Rattle.call_options.specs.declared.fault.OptionFault.{OptionFault}
use Rattle.call_options.specs.declared.fault.OptionFault.TheVariants as option
use Rattle.call_options.specs.declared.options.ConsumeOptions.{ConsumeOptions}
use Rattle.ortc_map.specs.declared.fault.MapFault.{MapFault}
use Rattle.ortc_map.specs.declared.fault.MapFault.TheVariants as map_fault
use Rattle.ortc_map.specs.ConsumerParams.{consumer_params}
use Rattle.ortc_map.specs.ProducerMapping.{producer_mapping}
use Rattle.ortc_map.specs.RouterCaps.{with_codecs}
use Rattle.request_build.specs.declared.built.BuildFault.{BuildFault}
use Rattle.request_build.specs.declared.built.BuildFault.TheVariants as fault
use Rattle.request_build.specs.Asks.{connect_asked, consume_asked, consumer_flagged, flag_asked, has_id_in, own_id, pipe_asked, piped_consume, plain_asked, produce_asked, producer_flagged, router_asked, simple_consume}
use Rattle.request_build.specs.Built.{built, built_of, max_packet, max_slots}
use Rattle.request_build.specs.Columns.{Call, CanConsume, Close, Connect, Consume, Direct, Need, Pause, Pipe, PipeRouter, Plain, Produce, Resume, Router, Send, Worker, are_same, found, is_barred, is_of_kind, is_of_wrong_kind, is_taken, makes, need, needs, streams, transports}
use Rattle.request_build.specs.Known.{Known, above, kept_at, router_of}
use Rattle.request_build.specs.Rules.{◌>>=◌, of_mapping, of_options, or_astray, or_refused, refused_where}
use Rattle.host_model.specs.State.{State, start}
use Rattle.host_model.specs.Answer.{known}
use Rattle.host_model.specs.Fit.{BuildsFit}
use Rattle.host_model.specs.Held.{IsKeptOf, KeptOfOpen}
use Rattle.host_model.specs.Laws.{AreOnOpen, IsOnOpen}
use Rattle.host_model.specs.Run.{Journal, state_of}
use Rattle.host_model.specs.Standing.{IsOfProducer, IsOnKind, StandByKind, StandsByKind, is_on_kind, is_transport}
use Rattle.host_model.proofs.Along.{along}
use Rattle.host_model.proofs.Changes.{at_rest}
use Rattle.host_model.proofs.Counts.{same-itself}
use Rattle.host_model.proofs.EndLemmas.{only-one}
use Rattle.host_model.proofs.FallLemmas.{all-both, all-numbered, serial-from}
use Rattle.host_model.proofs.FitLemmas.{FitsOn, fits-start, fits-step, most-one}
use Rattle.host_model.proofs.KindLemmas.{IsIn, all-in, all-right, first-of, found-have, is-kind, is-transport, others-of}
use Rattle.host_model.proofs.RootLemmas.{witness}

-- ---- what is known of a host

-- of an object of the tree
record IsWell (k : Known) (o : Object) : Type 0 where
  on_open : IsOnOpen k.objects o
  kinds : StandsByKind k.objects o
  found : numbered k.objects o.serial ≡ Some o
  there : IsIn k.objects o

-- of all
pub record AreWell (k : Known) : Type 0 where
  few : (serial : Serial) → count_by (has_serial serial) k.objects ≤ 1
  objects : AllByRecursion (IsWell k) k.objects
  routers : IsKeptOf kind.Router k.objects k.routers
  producers : IsKeptOf kind.Producer k.objects k.producers
  pipes : IsKeptOf kind.Pipe k.objects k.pipes

-- ---- which rules refuse as invalid state

abbrev is_invalid_fault : BuildFault → Bool
is_invalid_fault (fault.Refused outcome.InvalidState) = true
is_invalid_fault other = false

abbrev is_invalid : {A : Type 0} → Result A BuildFault → Bool
is_invalid (Ok x) = false
is_invalid (Err wrong) = is_invalid_fault wrong

behind : {A B : Type 0} (m : Result A BuildFault) (f : A → Result B BuildFault) → is_invalid m ≡ false → ((x : A) → m ≡ Ok x → is_invalid (f x) ≡ false) → is_invalid (m >>= f) ≡ false
behind (Ok x) f h rest = rest x refl
behind (Err wrong) f h rest = h

options-clean : {A : Type 0} (x : Result A OptionFault) → is_invalid (of_options x) ≡ false
options-clean (Ok x) = refl
options-clean (Err (option.TypeError why)) = refl
options-clean (Err (option.Unsupported why)) = refl
options-clean (Err option.NoMemory) = refl

mapping-clean : {A : Type 0} (x : Result A MapFault) → is_invalid (of_mapping x) ≡ false
mapping-clean (Ok x) = refl
mapping-clean (Err (map_fault.TypeError why)) = refl
mapping-clean (Err (map_fault.Unsupported why)) = refl
mapping-clean (Err map_fault.NoMemory) = refl

refused-clean : (o : Outcome) (b : Bool) → is_invalid_fault (fault.Refused o) ≡ false → is_invalid (refused_where o b) ≡ false
refused-clean o true h = h
refused-clean o false h = refl

astray-clean : {A : Type 0} (m : Option A) → is_some m ≡ true → is_invalid (or_astray m) ≡ false
astray-clean (Some x) h = refl
astray-clean None h = absurd (true≢false (sym h))

was : {A : Type 0} (m : Option A) (x y : A) → m ≡ Some x → or_astray m ≡ Ok y → y ≡ x
was m x y e f = at m e f
  where
    at : (n : Option _) → n ≡ Some x → or_astray n ≡ Ok y → y ≡ x
    at (Some z) g h = let one : z ≡ x = cc in let two : z ≡ y = cc in sym two ∙ one
    at None g h = absurd cc

-- ---- kinds

on-router : (a b : Kind) → is_transport a ≡ true → is_on_kind a b ≡ true → same_kind b kind.Router ≡ true
on-router kind.Worker b t h = absurd (true≢false (sym t))
on-router kind.Router b t h = absurd (true≢false (sym t))
on-router kind.Plain b t h = h
on-router kind.Pipe b t h = h
on-router kind.Direct b t h = h
on-router kind.Producer b t h = absurd (true≢false (sym t))
on-router kind.Consumer b t h = absurd (true≢false (sym t))

transport-no_worker : (a : Kind) → is_transport a ≡ true → same_kind a kind.Worker ≡ false
transport-no_worker kind.Worker t = absurd (true≢false (sym t))
transport-no_worker kind.Router t = refl
transport-no_worker kind.Plain t = refl
transport-no_worker kind.Pipe t = refl
transport-no_worker kind.Direct t = refl
transport-no_worker kind.Producer t = refl
transport-no_worker kind.Consumer t = refl

-- a Producer or a Consumer
abbrev is_stream : Kind → Bool
is_stream k = same_kind k kind.Producer || (same_kind k kind.Consumer || false)

stream-no_worker : (a : Kind) → is_stream a ≡ true → same_kind a kind.Worker ≡ false
stream-no_worker kind.Worker t = absurd (true≢false (sym t))
stream-no_worker kind.Router t = refl
stream-no_worker kind.Plain t = refl
stream-no_worker kind.Pipe t = refl
stream-no_worker kind.Direct t = refl
stream-no_worker kind.Producer t = refl
stream-no_worker kind.Consumer t = refl

on-transport : (a b : Kind) → is_stream a ≡ true → is_on_kind a b ≡ true → is_transport b ≡ true
on-transport kind.Worker b t h = absurd (true≢false (sym t))
on-transport kind.Router b t h = absurd (true≢false (sym t))
on-transport kind.Plain b t h = absurd (true≢false (sym t))
on-transport kind.Pipe b t h = absurd (true≢false (sym t))
on-transport kind.Direct b t h = absurd (true≢false (sym t))
on-transport kind.Producer b t h = h
on-transport kind.Consumer b t h = h

-- of these two the one that is no Producer is a Consumer
other-stream : (a : Kind) → is_stream a ≡ true → is_producer a ≡ false → is_consumer a ≡ true
other-stream kind.Worker t h = absurd (true≢false (sym t))
other-stream kind.Router t h = absurd (true≢false (sym t))
other-stream kind.Plain t h = absurd (true≢false (sym t))
other-stream kind.Pipe t h = absurd (true≢false (sym t))
other-stream kind.Direct t h = absurd (true≢false (sym t))
other-stream kind.Producer t h = absurd (true≢false h)
other-stream kind.Consumer t h = refl

plain-or_pipe : (a : Kind) → (same_kind a kind.Plain || (same_kind a kind.Pipe || false)) ≡ true → is_transport a ≡ true
plain-or_pipe kind.Worker t = absurd (true≢false (sym t))
plain-or_pipe kind.Router t = absurd (true≢false (sym t))
plain-or_pipe kind.Plain t = refl
plain-or_pipe kind.Pipe t = refl
plain-or_pipe kind.Direct t = absurd (true≢false (sym t))
plain-or_pipe kind.Producer t = absurd (true≢false (sym t))
plain-or_pipe kind.Consumer t = absurd (true≢false (sym t))

-- ---- what stands above an open object, and what is kept of it

module _ (k : Known) (well : AreWell k) where
  -- an open object of the tree
  record IsOpen (o : Object) : Type 0 where
    well_known : IsWell k o
    opened : is_open o ≡ true

  -- what it stands on
  record Above (o : Object) : Type 0 where
    one : Object
    is : above k.objects o ≡ Some one
    stands : IsOpen one
    on : is_on_kind o.kind one.kind ≡ true

  record IsOpenAt (p : Serial) (x : Object) : Type 0 where
    its : IsWell k x
    opened : has_serial p x ≡ true → is_open x ≡ true

  above-of : (o : Object) → IsOpen o → same_kind o.kind kind.Worker ≡ false → Above o
  above-of o h no_worker = at o.parent refl h.well_known.kinds.on
    where
      at : (p : Option Serial) → o.parent ≡ p → IsOnKind k.objects o.kind p → Above o
      at None e on = absurd (true≢false (sym on ∙ no_worker))
      at (Some p) e on =
          let opened_there = only-one (has_serial p) is_open k.objects (well.few p) (h.well_known.on_open h.opened p e) in
          let both_of = all-both (IsWell k) (λ (x : Object). has_serial p x ≡ true → is_open x ≡ true) (IsOpenAt p) k.objects (λ x a b. record { its = a; opened = b }) well.objects opened_there in
          let found = witness (IsOpenAt p) (λ x. has_serial p x && is_on_kind o.kind x.kind) k.objects both_of on in
          let parts = and_parts (has_serial p found.one) (is_on_kind o.kind found.one.kind) found.passes in
          let own : found.one.serial ≡ p = serial-from found.one.serial p parts.0 in
          record {
            one = found.one;
            is = ap (option_and_then (numbered k.objects)) e ∙ subst (λ (s : Serial). numbered k.objects s ≡ Some found.one) own found.known.its.found;
            stands = record { well_known = found.known.its; opened = found.known.opened parts.0 };
            on = parts.1;
          }

  above-there : (o : Object) → Above o → is_some (above k.objects o) ≡ true
  above-there o a = ap is_some a.is

  kept-there : {A : Type 0} (of_kind : Kind) (table : List (ℕ × A)) → IsKeptOf of_kind k.objects table → (o : Object) → IsOpen o → same_kind o.kind of_kind ≡ true → is_some (kept_at table o.serial) ≡ true
  kept-there of_kind table kept o h is =
      kept o.serial
      ∙ h.well_known.there (λ x. has_serial o.serial x && (is_open x && same_kind x.kind of_kind))
      (ap (λ b. b && (is_open o && same_kind o.kind of_kind)) (same-itself o.serial.0) ∙ ap (λ b. b && same_kind o.kind of_kind) h.opened ∙ is)

  -- ---- the calls

  router-clean : (name options : List ℕ) (on : Object) → is_invalid (router_asked k name on options) ≡ false
  router-clean name options on =
      behind (of_options (router_options options)) _ (options-clean (router_options options))
      (λ given e. behind (of_mapping (with_codecs [] given)) _ (mapping-clean (with_codecs [] given)) (λ codecs f. refl))

  plain-clean : (name options : List ℕ) (on : Object) → is_invalid (plain_asked k name on options) ≡ false
  plain-clean name options on = behind (of_options (plain_options options)) _ (options-clean (plain_options options)) (λ given e. refl)

  pipe-clean : (name options : List ℕ) (on : Object) → is_invalid (pipe_asked k name on options) ≡ false
  pipe-clean name options on = behind (of_options (pipe_options options)) _ (options-clean (pipe_options options)) (λ given e. refl)

  module _ (on : Object) (h : IsOpen on) (t : is_transport on.kind ≡ true) where
    on_router : Above on
    on_router = above-of on h (transport-no_worker on.kind t)

    connect-clean : (options : List ℕ) → is_invalid (connect_asked k on options) ≡ false
    connect-clean options =
        behind (of_options (connect_options options)) _ (options-clean (connect_options options))
        (λ to e. behind (or_astray (above k.objects on)) _ (astray-clean (above k.objects on) (above-there on on_router)) (λ router f. refl))

    caps-there : (router : Object) → or_astray (above k.objects on) ≡ Ok router → is_some (kept_at k.routers router.serial) ≡ true
    caps-there router e =
        let a = on_router in
        let same : router ≡ a.one = was (above k.objects on) a.one router a.is e in
        ap (λ (r : Object). is_some (kept_at k.routers r.serial)) same ∙ kept-there kind.Router k.routers well.routers a.one a.stands (on-router on.kind a.one.kind t a.on)

    produce-clean : (name options : List ℕ) → is_invalid (produce_asked k name on options) ≡ false
    produce-clean name options =
        behind (of_options (produce_options options)) _ (options-clean (produce_options options))
        (λ given e.
        behind (or_astray (above k.objects on)) _ (astray-clean (above k.objects on) (above-there on on_router))
        (λ router f.
        behind (refused_where (outcome.TypeError code.DuplicateId) (has_id_in k router.serial (unwrap_or given.id (own_id k)))) _
        (refused-clean (outcome.TypeError code.DuplicateId) (has_id_in k router.serial (unwrap_or given.id (own_id k))) refl)
        (λ free g.
        behind (or_astray (kept_at k.routers router.serial)) _ (astray-clean (kept_at k.routers router.serial) (caps-there router f))
        (λ caps i. behind (of_mapping (producer_mapping given.params caps k.next.ssrc)) _ (mapping-clean (producer_mapping given.params caps k.next.ssrc)) (λ mapping l. refl)))))

    module _ (producer : Object) (its : IsOpen producer) (is : same_kind producer.kind kind.Producer ≡ true) where
      offer-there : is_some (kept_at k.producers producer.serial) ≡ true
      offer-there = kept-there kind.Producer k.producers well.producers producer its is

      piped-clean : (name : List ℕ) (paused : Bool) → same_kind on.kind kind.Pipe ≡ true → is_invalid (piped_consume k name on producer paused) ≡ false
      piped-clean name paused pipe =
          behind (or_astray (above k.objects on)) _ (astray-clean (above k.objects on) (above-there on on_router))
          (λ router e.
          behind (or_astray (kept_at k.producers producer.serial)) _ (astray-clean (kept_at k.producers producer.serial) offer-there)
          (λ offer f.
          behind (or_astray (kept_at k.pipes on.serial)) _ (astray-clean (kept_at k.pipes on.serial) (kept-there kind.Pipe k.pipes well.pipes on h pipe)) (λ enable_rtx g. refl)))

      simple-clean : (name : List ℕ) (given : ConsumeOptions) → is_invalid (simple_consume k name on producer given) ≡ false
      simple-clean name given =
          behind (or_astray (above k.objects on)) _ (astray-clean (above k.objects on) (above-there on on_router))
          (λ router e.
          behind (or_astray (kept_at k.producers producer.serial)) _ (astray-clean (kept_at k.producers producer.serial) offer-there)
          (λ offer f.
          behind (refused_where (outcome.Unsupported code.Simulcast) (nat_lt 1 (length offer.params.encodings))) _
          (refused-clean (outcome.Unsupported code.Simulcast) (nat_lt 1 (length offer.params.encodings)) refl)
          (λ single g.
          behind (of_mapping (consumer_params offer.params given.caps k.next.ssrc)) _ (mapping-clean (consumer_params offer.params given.caps k.next.ssrc)) (λ params i. refl))))

      consume-clean : (name options : List ℕ) → is_invalid (consume_asked k name on producer options) ≡ false
      consume-clean name options = at (same_kind on.kind kind.Pipe) refl
        where
          at : (b : Bool) → same_kind on.kind kind.Pipe ≡ b
              → is_invalid
              (cond b (of_options (piped_consume_options options) >>= (λ paused. piped_consume k name on producer paused))
              (of_options (consume_options options) >>= (λ given. simple_consume k name on producer given)))
              ≡ false
          at true e =
              behind (of_options (piped_consume_options options)) (λ paused. piped_consume k name on producer paused) (options-clean (piped_consume_options options))
              (λ paused f. piped-clean name paused e)
          at false e =
              behind (of_options (consume_options options)) (λ given. simple_consume k name on producer given) (options-clean (consume_options options))
              (λ given f. simple-clean name given)

  -- the Producer of a Consumer is found
  producer-there : (on : Object) → IsOpen on → is_consumer on.kind ≡ true → is_some (option_and_then (numbered k.objects) on.producer) ≡ true
  producer-there on h is = at on.producer h.well_known.kinds.producer
    where
      some : (p : Serial) (w : Object → Bool) (xs : List Object) → list_any (λ x. has_serial p x && w x) xs ≡ true → is_some (find (has_serial p) xs) ≡ true
      some p w [] e = absurd (true≢false (sym e))
      some p w (x ∷ xs) e = each (has_serial p x) e (some p w xs)
        where
          each : (b : Bool) → ((b && w x) || list_any (λ y. has_serial p y && w y) xs) ≡ true
              → (list_any (λ y. has_serial p y && w y) xs ≡ true → is_some (find (has_serial p) xs) ≡ true) → is_some (cond b (Some x) (find (has_serial p) xs)) ≡ true
          each true any later = refl
          each false any later = later any

      at : (p : Option Serial) → IsOfProducer k.objects on.kind p → is_some (option_and_then (numbered k.objects) p) ≡ true
      at None none = absurd (true≢false (sym is ∙ none))
      at (Some p) there = some p (λ x. is_producer x.kind) k.objects there

  flag-clean : (on : Object) → IsOpen on → is_stream on.kind ≡ true → (paused : Bool) → is_invalid (flag_asked k on paused) ≡ false
  flag-clean on h is paused =
      behind (or_astray (above k.objects on)) _ (astray-clean (above k.objects on) (above-there on a))
      (λ transport e.
      behind (or_astray (above k.objects transport)) _ (astray-clean (above k.objects transport) (router-there transport e))
      (λ router f. at transport router (is_producer on.kind) refl))
    where
      a : Above on
      a = above-of on h (stream-no_worker on.kind is)

      router-there : (transport : Object) → or_astray (above k.objects on) ≡ Ok transport → is_some (above k.objects transport) ≡ true
      router-there transport e =
          let same : transport ≡ a.one = was (above k.objects on) a.one transport a.is e in
          ap (λ (x : Object). is_some (above k.objects x)) same
          ∙ above-there a.one (above-of a.one a.stands (transport-no_worker a.one.kind (on-transport on.kind a.one.kind is a.on)))

      at : (transport router : Object) (b : Bool) → is_producer on.kind ≡ b
          → is_invalid (cond b (producer_flagged k router transport on paused) (consumer_flagged k router transport on paused)) ≡ false
      at transport router true e = refl
      at transport router false e =
          behind (or_astray (option_and_then (numbered k.objects) on.producer)) _
          (astray-clean (option_and_then (numbered k.objects) on.producer) (producer-there on h (other-stream on.kind is e))) (λ producer f. refl)

  or-parts : (a b : Bool) → (a || b) ≡ false → (a ≡ false) × (b ≡ false)
  or-parts true b e = absurd (true≢false e)
  or-parts false b e = (refl, e)

  -- the objects that are needed are open
  first-open : (o : Object) (rest unready : Bool) → IsWell k o → (k.stopped || ((is_some o.closed || rest) || unready)) ≡ false → IsOpen o
  first-open o rest unready h e =
      let closed = or-parts (is_some o.closed || rest) unready (or-parts k.stopped ((is_some o.closed || rest) || unready) e).1 in
      record { well_known = h; opened = ap not (or-parts (is_some o.closed) rest closed.0).0 }

  second-open : (a : Bool) (o : Object) (rest unready : Bool) → IsWell k o → (k.stopped || ((a || (is_some o.closed || rest)) || unready)) ≡ false → IsOpen o
  second-open a o rest unready h e =
      let closed = or-parts (a || (is_some o.closed || rest)) unready (or-parts k.stopped ((a || (is_some o.closed || rest)) || unready) e).1 in
      let later = or-parts a (is_some o.closed || rest) closed.0 in
      record { well_known = h; opened = ap not (or-parts (is_some o.closed) rest later.1).0 }

  call-clean : (call : Call) → AllByRecursion (λ (n : Need). IsWell k n.object) (needs call) → list_all is_of_kind (needs call) ≡ true → is_barred k call ≡ false
      → is_invalid (built_of k call) ≡ false
  call-clean Worker h r e =
      behind (refused_where (outcome.TypeError code.Slots) (nat_le max_slots k.slots)) _ (refused-clean (outcome.TypeError code.Slots) (nat_le max_slots k.slots) refl) (λ x f. refl)
  call-clean (Router name worker options) h r e = router-clean name options worker
  call-clean (Plain name router options) h r e = plain-clean name options router
  call-clean (Pipe name router options) h r e = pipe-clean name options router
  call-clean (Direct name router) h r e = refl
  call-clean (Connect transport options) h r e =
      connect-clean transport (first-open transport false false h.0 e) (plain-or_pipe transport.kind (first-of transport (kind.Plain ∷ kind.Pipe ∷ []) [] r)) options
  call-clean (Produce name transport options) h r e =
      produce-clean transport (first-open transport false false h.0 e) (is-transport transport (first-of transport transports [] r)) name options
  call-clean (Consume name transport producer options) h r e =
      let second : List Need = need producer (kind.Producer ∷ []) ∷ [] in
      let unready : Bool = not (are_same transport.parent (router_of k.objects producer)) in
      consume-clean transport (first-open transport (is_some producer.closed || false) unready h.0 e) (is-transport transport (first-of transport transports second r)) producer
      (second-open (is_some transport.closed) producer false unready h.1.0 e) (is-kind producer kind.Producer (first-of producer (kind.Producer ∷ []) [] (others-of transport transports second r))) name options
  call-clean (Pause stream) h r e = flag-clean stream (first-open stream false false h.0 e) (first-of stream streams [] r) true
  call-clean (Resume stream) h r e = flag-clean stream (first-open stream false false h.0 e) (first-of stream streams [] r) false
  call-clean (Close object) h r e = refl
  call-clean (CanConsume producer caps) h r e =
      behind (of_options (caps_options caps)) _ (options-clean (caps_options caps))
      (λ given f.
      behind (or_astray (kept_at k.producers producer.serial)) _
      (astray-clean (kept_at k.producers producer.serial)
      (kept-there kind.Producer k.producers well.producers producer (first-open producer false false h.0 e) (is-kind producer kind.Producer (first-of producer (kind.Producer ∷ []) [] r)))) (λ offer g. refl))
  call-clean (Send producer packet) h r e =
      behind (refused_where (outcome.TypeError code.Packet) (nat_lt max_packet (length packet))) _
      (refused-clean (outcome.TypeError code.Packet) (nat_lt max_packet (length packet)) refl) (λ x f. refl)
  call-clean (PipeRouter producer router) h r e =
      behind (refused_where (outcome.TypeError code.SameRouter) (are_same (Some router.serial) (router_of k.objects producer))) _
      (refused-clean (outcome.TypeError code.SameRouter) (are_same (Some router.serial) (router_of k.objects producer)) refl) (λ x f. refl)

  -- ---- so an invalid state is that of the objects that a call names

  by-call : (o : Op) (call : Call) → found k o ≡ Some call → (w b : Bool) → is_of_wrong_kind k call ≡ w → is_barred k call ≡ b
      → is_invalid (refused_where outcome.WrongKind w >>= (λ x. refused_where outcome.InvalidState b >>= (λ y. built_of k call))) ≡ true → b ≡ true
  by-call o call is true b e f h = absurd (true≢false (sym h))
  by-call o call is false true e f h = refl
  by-call o call is false false e f h =
      absurd (true≢false (sym h ∙ call-clean call (found-have k (IsWell k) well.objects o call is) (all-right k call e) f))

  by-found : (o : Op) (m : Option Call) → found k o ≡ m
      → is_invalid
      (or_refused outcome.NoName m
      >>= (λ call. refused_where outcome.WrongKind (is_of_wrong_kind k call) >>= (λ x. refused_where outcome.InvalidState (is_barred k call) >>= (λ y. built_of k call))))
      ≡ true
      → IfSome m (λ call. is_barred k call ≡ true)
  by-found o None is h = tt
  by-found o (Some call) is h = by-call o call is (is_of_wrong_kind k call) (is_barred k call) refl refl h

  by-name : (o : Op) (b : Bool)
      → is_invalid
      (refused_where outcome.NameTaken b
      >>= (λ z.
      or_refused outcome.NoName (found k o)
      >>= (λ call. refused_where outcome.WrongKind (is_of_wrong_kind k call) >>= (λ x. refused_where outcome.InvalidState (is_barred k call) >>= (λ y. built_of k call)))))
      ≡ true
      → IfSome (found k o) (λ call. is_barred k call ≡ true)
  by-name o true h = absurd (true≢false (sym h))
  by-name o false h = by-found o (found k o) refl h

  pub barred-if_invalid : (o : Op) → built k o ≡ Err (fault.Refused outcome.InvalidState) → IfSome (found k o) (λ call. is_barred k call ≡ true)
  barred-if_invalid o e = by-name o (list_any (is_taken k) (makes o)) (ap is_invalid e)

-- ---- what holds of each journal

are-well : BuildsFit → (j : Journal) → AreOnOpen (state_of j).objects → StandByKind (state_of j).objects → KeptOfOpen (state_of j) → AreWell (known (state_of j))
are-well b j on_open kinds kept =
    let os = (state_of j).objects in
    let k = known (state_of j) in
    let fits = along (λ (s : State). FitsOn (at_rest s)) (fits-step b) (start j.seed) j.entries (fits-start j.seed) in
    let one = all-both (IsOnOpen os) (StandsByKind os) (λ (o : Object). IsOnOpen os o × StandsByKind os o) os (λ o x y. (x, y)) on_open kinds in
    let two =
    all-both (λ (o : Object). numbered os o.serial ≡ Some o) (IsIn os) (λ (o : Object). (numbered os o.serial ≡ Some o) × IsIn os o) os (λ o x y. (x, y))
    (all-numbered os fits.ascending) (all-in os) in
    record {
      few = λ serial. omega (arith, fits.drawn_once serial.0, most-one serial.0 (state_of j).next.serial);
      objects = all-both (λ (o : Object). IsOnOpen os o × StandsByKind os o) (λ (o : Object). (numbered os o.serial ≡ Some o) × IsIn os o) (IsWell k) os
          (λ o x y. record { on_open = x.0; kinds = x.1; found = y.0; there = y.1 }) one two;
      routers = kept.routers;
      producers = kept.producers;
      pipes = kept.pipes;
    }

pub calls-find : BuildsFit → ((j : Journal) → AreOnOpen (state_of j).objects) → ((j : Journal) → StandByKind (state_of j).objects) → ((j : Journal) → KeptOfOpen (state_of j)) → (j : Journal) (o : Op)
    → built (known (state_of j)) o ≡ Err (fault.Refused outcome.InvalidState) → IfSome (found (known (state_of j)) o) (λ call. is_barred (known (state_of j)) call ≡ true)
calls-find b on_open kinds kept j = barred-if_invalid (known (state_of j)) (are-well b j (on_open j) (kinds j) (kept j))
