-- What a request that was built makes is new and has the id of its serial, and it is issued under an open object.
use Rattle.std.proofs.Common.{◌≡◌, ℕ, List, [], ◌∷◌, length, nat_le, nat_lt, reverse, Bool, true, false, not, ◌&&◌, ◌||◌, cond, Option, Some, None, Result, Ok, Err, refl, sym, ap, ◌∙◌, subst}
use Rattle.std.specs.Bool.{⊤}
use Rattle.std.specs.List.{find, list_any}
use Rattle.std.specs.Option.{is_some, option_and_then, option_map, unwrap_or}
use Rattle.std.specs.Prelude.{IfSome}
use Rattle.std.proofs.lemmas.Bool.{true≢false}
use Rattle.std.proofs.lemmas.List.Folds.{list_any-append}
use mathlib.Core.List.{reverse-cons}
use Rattle.ms_base.specs.Kinds.{same_kind}
use Rattle.ms_base.specs.declared.code.Code.TheVariants as code
use Rattle.ms_base.specs.declared.keys.Kind.TheVariants as kind
use Rattle.ms_base.specs.declared.op.Op.{Op}
use Rattle.ms_base.specs.declared.op.Op.TheVariants as op
use Rattle.ms_base.specs.declared.outcome.Outcome.{Outcome}
use Rattle.ms_base.specs.declared.outcome.Outcome.TheVariants as outcome
use Rattle.object_tree.specs.declared.object.Object.{Object}
use Rattle.object_tree.specs.Objects.{has_name, has_serial, is_open, is_producer, named, numbered}
use Rattle.call_options.specs.Options.{caps_options, connect_options, consume_options, pipe_options, piped_consume_options, plain_options, produce_options, router_options}
use Rattle.call_options.specs.declared.options.ConsumeOptions.{ConsumeOptions}
use Rattle.ortc_map.specs.ConsumerParams.{consumer_params}
use Rattle.ortc_map.specs.ProducerMapping.{producer_mapping}
use Rattle.ortc_map.specs.RouterCaps.{with_codecs}
use Rattle.request_build.specs.declared.built.BuildFault.{BuildFault}
use Rattle.request_build.specs.Asks as asks
use Rattle.request_build.specs.Asks.{Ask, Built, Own, connect_asked, consume_asked, consumer_flagged, direct_asked, flag_asked, has_id_in, own_id, pipe_asked, piped_consume, plain_asked, produce_asked, producer_flagged, router_asked, simple_consume}
use Rattle.request_build.specs.Built.{built, built_of, max_packet, max_slots}
use Rattle.request_build.specs.Columns.{Call, CanConsume, Close, Connect, Consume, Direct, Pause, Pipe, PipeRouter, Plain, Produce, Resume, Router, Send, Worker, are_same, found, is_barred, is_of_wrong_kind, is_taken, makes, of_both}
use Rattle.request_build.specs.Known.{Known, above, kept_at, router_of}
use Rattle.request_build.specs.Rules.{◌>>=◌, of_mapping, of_options, or_astray, or_refused, refused_where}
use Rattle.host_model.specs.Fit.{HasOwnId}
use Rattle.host_model.specs.Laws.{is_open_at}
use Rattle.host_model.proofs.Counts.{same-itself}

-- a new object stands on the one that its request is issued under
pub record IsNew (k : Known) (r : asks.Request) (o : Object) : Type 0 where
  pub parent : o.parent ≡ Some r.under
  pub opens : o.closed ≡ None
  pub own_id : HasOwnId k.next.seed o

pub record Stands (k : Known) (r : asks.Request) : Type 0 where
  pub on_open : is_open_at k.objects r.under ≡ true
  pub new : IfSome r.makes (IsNew k r)

abbrev StandsIfAsked : Known → Result Built BuildFault → Type 0
StandsIfAsked k (Ok (Ask r)) = Stands k r
StandsIfAsked k (Ok (Own told)) = ⊤
StandsIfAsked k (Err wrong) = ⊤

-- ---- rules one after another

behind : {A : Type 0} (k : Known) (m : Result A BuildFault) (f : A → Result Built BuildFault) → ((x : A) → StandsIfAsked k (f x)) → StandsIfAsked k (m >>= f)
behind k (Ok x) f h = h x
behind k (Err wrong) f h = tt

unless-wrong : (k : Known) (o : Outcome) (b : Bool) (f : Bool → Result Built BuildFault) → (b ≡ false → StandsIfAsked k (f b)) → StandsIfAsked k (refused_where o b >>= f)
unless-wrong k o true f h = tt
unless-wrong k o false f h = h refl

where-found : {A : Type 0} (k : Known) (o : Outcome) (m : Option A) (f : A → Result Built BuildFault) → ((x : A) → m ≡ Some x → StandsIfAsked k (f x)) → StandsIfAsked k (or_refused o m >>= f)
where-found k o None f h = tt
where-found k o (Some x) f h = h x refl

-- ---- the objects that a call needs are in the tree

-- what passes a test that it passes is there
abbrev IsIn : Known → Object → Type 0
IsIn k o = (q : Object → Bool) → q o ≡ true → list_any q k.objects ≡ true

find-there : (p q : Object → Bool) (xs : List Object) (o : Object) → find p xs ≡ Some o → q o ≡ true → list_any q xs ≡ true
find-there p q [] o e t = absurd cc
find-there p q (x ∷ xs) o e t = at (p x) e (find-there p q xs o)
  where
    or-later : (a b : Bool) → b ≡ true → (a || b) ≡ true
    or-later true b h = refl
    or-later false b h = h

    at : (b : Bool) → cond b (Some x) (find p xs) ≡ Some o → (find p xs ≡ Some o → q o ≡ true → list_any q xs ≡ true) → (q x || list_any q xs) ≡ true
    at true here later = let same : x ≡ o = cc in ap (λ b. b || list_any q xs) (ap q same ∙ t)
    at false there later = or-later (q x) (list_any q xs) (later there t)

swapped : (a b : Bool) → (a || (b || false)) ≡ (b || a)
swapped true true = refl
swapped true false = refl
swapped false true = refl
swapped false false = refl

any-reverse : (q : Object → Bool) (xs : List Object) → list_any q (reverse xs) ≡ list_any q xs
any-reverse q [] = refl
any-reverse q (x ∷ xs) =
    ap (list_any q) (reverse-cons x xs) ∙ list_any-append q (reverse xs) (x ∷ []) ∙ ap (λ b. b || (q x || false)) (any-reverse q xs)
    ∙ swapped (list_any q xs) (q x)

is-named : (k : Known) (name : List ℕ) (o : Object) → named k.objects name ≡ Some o → IsIn k o
is-named k name o e = λ q t. sym (any-reverse q k.objects) ∙ find-there (has_name name) q (reverse k.objects) o e t

-- the object that a request of this call is issued under
abbrev HasPlace : Known → Call → Type 0
HasPlace k (Router name worker options) = IsIn k worker
HasPlace k (Plain name router options) = IsIn k router
HasPlace k (Pipe name router options) = IsIn k router
HasPlace k (Direct name router) = IsIn k router
HasPlace k (Connect transport options) = IsIn k transport
HasPlace k (Produce name transport options) = IsIn k transport
HasPlace k (Consume name transport producer options) = IsIn k transport
HasPlace k (Pause stream) = IsIn k stream
HasPlace k (Resume stream) = IsIn k stream
HasPlace k other = ⊤

one-placed : (k : Known) (name : List ℕ) (call_of : Object → Call) → ((o : Object) → IsIn k o → HasPlace k (call_of o)) → (m : Option Object) → named k.objects name ≡ m → (call : Call)
    → option_map call_of m ≡ Some call → HasPlace k call
one-placed k name call_of h None e call is = absurd cc
one-placed k name call_of h (Some o) e call is = let same : call_of o ≡ call = cc in subst (HasPlace k) same (h o (is-named k name o e))

two-placed : (k : Known) (name : List ℕ) (call_of : Object → Object → Call) → ((o p : Object) → IsIn k o → HasPlace k (call_of o p)) → (m n : Option Object) → named k.objects name ≡ m → (call : Call)
    → of_both call_of m n ≡ Some call → HasPlace k call
two-placed k name call_of h None n e call is = absurd cc
two-placed k name call_of h (Some o) None e call is = absurd cc
two-placed k name call_of h (Some o) (Some p) e call is = let same : call_of o p ≡ call = cc in subst (HasPlace k) same (h o p (is-named k name o e))

found-placed : (k : Known) (o : Op) (call : Call) → found k o ≡ Some call → HasPlace k call
found-placed k (op.Worker name budget) call is = let same : Worker ≡ call = cc in subst (HasPlace k) same tt
found-placed k (op.Router name worker options) call is = one-placed k worker (λ o. Router name o options) (λ o h. h) (named k.objects worker) refl call is
found-placed k (op.Plain name router options) call is = one-placed k router (λ o. Plain name o options) (λ o h. h) (named k.objects router) refl call is
found-placed k (op.Pipe name router options) call is = one-placed k router (λ o. Pipe name o options) (λ o h. h) (named k.objects router) refl call is
found-placed k (op.Direct name router) call is = one-placed k router (λ o. Direct name o) (λ o h. h) (named k.objects router) refl call is
found-placed k (op.Connect transport options) call is = one-placed k transport (λ o. Connect o options) (λ o h. h) (named k.objects transport) refl call is
found-placed k (op.Produce name transport options) call is = one-placed k transport (λ o. Produce name o options) (λ o h. h) (named k.objects transport) refl call is
found-placed k (op.Consume name transport producer options) call is =
    two-placed k transport (λ t p. Consume name t p options) (λ o p h. h) (named k.objects transport) (named k.objects producer) refl call is
found-placed k (op.Pause name) call is = one-placed k name Pause (λ o h. h) (named k.objects name) refl call is
found-placed k (op.Resume name) call is = one-placed k name Resume (λ o h. h) (named k.objects name) refl call is
found-placed k (op.Close name) call is = one-placed k name Close (λ o h. tt) (named k.objects name) refl call is
found-placed k (op.CanConsume producer caps) call is = one-placed k producer (λ o. CanConsume o caps) (λ o h. tt) (named k.objects producer) refl call is
found-placed k (op.Send producer packet) call is = one-placed k producer (λ o. Send o packet) (λ o h. tt) (named k.objects producer) refl call is
found-placed k (op.PipeRouter name producer router) call is = two-placed k producer PipeRouter (λ o p h. tt) (named k.objects producer) (named k.objects router) refl call is

-- ---- the one request of each call

or-parts : (a b : Bool) → (a || b) ≡ false → (a ≡ false) × (b ≡ false)
or-parts true b h = absurd (true≢false h)
or-parts false b h = (refl, h)

-- the first object that is needed is open
open-there : (k : Known) (o : Object) (rest unready : Bool) → IsIn k o → (k.stopped || ((is_some o.closed || rest) || unready)) ≡ false → is_open_at k.objects o.serial ≡ true
open-there k o rest unready there h =
    let shut : is_some o.closed ≡ false = (or-parts (is_some o.closed) rest (or-parts (is_some o.closed || rest) unready (or-parts k.stopped ((is_some o.closed || rest) || unready) h).1).0).0 in
    there (λ x. has_serial o.serial x && is_open x) (ap (λ b. b && is_open o) (same-itself o.serial.0) ∙ ap not shut)

module _ (k : Known) (on : Object) (there : is_open_at k.objects on.serial ≡ true) where
  router-stands : (name options : List ℕ) → StandsIfAsked k (router_asked k name on options)
  router-stands name options =
      behind k (of_options (router_options options)) _
      (λ given. behind k (of_mapping (with_codecs [] given)) _ (λ codecs. record { on_open = there; new = record { parent = refl; opens = refl; own_id = λ e. refl } }))

  plain-stands : (name options : List ℕ) → StandsIfAsked k (plain_asked k name on options)
  plain-stands name options =
      behind k (of_options (plain_options options)) _ (λ given. record { on_open = there; new = record { parent = refl; opens = refl; own_id = λ e. refl } })

  pipe-stands : (name options : List ℕ) → StandsIfAsked k (pipe_asked k name on options)
  pipe-stands name options =
      behind k (of_options (pipe_options options)) _ (λ given. record { on_open = there; new = record { parent = refl; opens = refl; own_id = λ e. refl } })

  direct-stands : (name : List ℕ) → StandsIfAsked k (Ok (direct_asked k name on))
  direct-stands name = record { on_open = there; new = record { parent = refl; opens = refl; own_id = λ e. refl } }

  connect-stands : (options : List ℕ) → StandsIfAsked k (connect_asked k on options)
  connect-stands options =
      behind k (of_options (connect_options options)) _ (λ to. behind k (or_astray (above k.objects on)) _ (λ router. record { on_open = there; new = tt }))

  -- a Producer may have another id
  produce-stands : (name options : List ℕ) → StandsIfAsked k (produce_asked k name on options)
  produce-stands name options =
      behind k (of_options (produce_options options)) _
      (λ given.
      behind k (or_astray (above k.objects on)) _
      (λ router.
      behind k (refused_where (outcome.TypeError code.DuplicateId) (has_id_in k router.serial (unwrap_or given.id (own_id k)))) _
      (λ free.
      behind k (or_astray (kept_at k.routers router.serial)) _
      (λ caps.
      behind k (of_mapping (producer_mapping given.params caps k.next.ssrc)) _
      (λ mapping. record { on_open = there; new = record { parent = refl; opens = refl; own_id = λ e. absurd (true≢false e) } })))))

  piped-stands : (name : List ℕ) (producer : Object) (paused : Bool) → StandsIfAsked k (piped_consume k name on producer paused)
  piped-stands name producer paused =
      behind k (or_astray (above k.objects on)) _
      (λ router.
      behind k (or_astray (kept_at k.producers producer.serial)) _
      (λ offer.
      behind k (or_astray (kept_at k.pipes on.serial)) _
      (λ enable_rtx. record { on_open = there; new = record { parent = refl; opens = refl; own_id = λ e. refl } })))

  simple-stands : (name : List ℕ) (producer : Object) (given : ConsumeOptions) → StandsIfAsked k (simple_consume k name on producer given)
  simple-stands name producer given =
      behind k (or_astray (above k.objects on)) _
      (λ router.
      behind k (or_astray (kept_at k.producers producer.serial)) _
      (λ offer.
      behind k (refused_where (outcome.Unsupported code.Simulcast) (nat_lt 1 (length offer.params.encodings))) _
      (λ single.
      behind k (of_mapping (consumer_params offer.params given.caps k.next.ssrc)) _
      (λ params. record { on_open = there; new = record { parent = refl; opens = refl; own_id = λ e. refl } }))))

  consume-stands : (name : List ℕ) (producer : Object) (options : List ℕ) → StandsIfAsked k (consume_asked k name on producer options)
  consume-stands name producer options = at (same_kind on.kind kind.Pipe)
    where
      at : (b : Bool)
          → StandsIfAsked k
          (cond b (of_options (piped_consume_options options) >>= (λ paused. piped_consume k name on producer paused))
          (of_options (consume_options options) >>= (λ given. simple_consume k name on producer given)))
      at true = behind k (of_options (piped_consume_options options)) (λ paused. piped_consume k name on producer paused) (λ paused. piped-stands name producer paused)
      at false = behind k (of_options (consume_options options)) (λ given. simple_consume k name on producer given) (λ given. simple-stands name producer given)

  consumer-stands : (transport router : Object) (paused : Bool) → StandsIfAsked k (consumer_flagged k router transport on paused)
  consumer-stands transport router paused = behind k (or_astray (option_and_then (numbered k.objects) on.producer)) _ (λ producer. record { on_open = there; new = tt })

  flag-stands : (paused : Bool) → StandsIfAsked k (flag_asked k on paused)
  flag-stands paused =
      behind k (or_astray (above k.objects on)) _ (λ transport. behind k (or_astray (above k.objects transport)) _ (λ router. at transport router (is_producer on.kind)))
    where
      at : (transport router : Object) (b : Bool) → StandsIfAsked k (cond b (producer_flagged k router transport on paused) (consumer_flagged k router transport on paused))
      at transport router true = record { on_open = there; new = tt }
      at transport router false = consumer-stands transport router paused

call-stands : (k : Known) (call : Call) → HasPlace k call → is_barred k call ≡ false → StandsIfAsked k (built_of k call)
call-stands k Worker h e = unless-wrong k (outcome.TypeError code.Slots) (nat_le max_slots k.slots) _ (λ f. tt)
call-stands k (Router name worker options) h e = router-stands k worker (open-there k worker false (not worker.running) h e) name options
call-stands k (Plain name router options) h e = plain-stands k router (open-there k router false false h e) name options
call-stands k (Pipe name router options) h e = pipe-stands k router (open-there k router false false h e) name options
call-stands k (Direct name router) h e = direct-stands k router (open-there k router false false h e) name
call-stands k (Connect transport options) h e = connect-stands k transport (open-there k transport false false h e) options
call-stands k (Produce name transport options) h e = produce-stands k transport (open-there k transport false false h e) name options
call-stands k (Consume name transport producer options) h e =
    consume-stands k transport
    (open-there k transport (is_some producer.closed || false) (not (are_same transport.parent (router_of k.objects producer))) h e) name producer options
call-stands k (Pause stream) h e = flag-stands k stream (open-there k stream false false h e) true
call-stands k (Resume stream) h e = flag-stands k stream (open-there k stream false false h e) false
call-stands k (Close object) h e = tt
call-stands k (CanConsume producer caps) h e =
    behind k (of_options (caps_options caps)) _ (λ given. behind k (or_astray (kept_at k.producers producer.serial)) _ (λ offer. tt))
call-stands k (Send producer packet) h e = unless-wrong k (outcome.TypeError code.Packet) (nat_lt max_packet (length packet)) _ (λ f. tt)
call-stands k (PipeRouter producer router) h e =
    unless-wrong k (outcome.TypeError code.SameRouter) (are_same (Some router.serial) (router_of k.objects producer)) _ (λ f. tt)

built-stands : (k : Known) (o : Op) → StandsIfAsked k (built k o)
built-stands k o =
    unless-wrong k outcome.NameTaken (list_any (is_taken k) (makes o)) _
    (λ free.
    where-found k outcome.NoName (found k o) _
    (λ call is.
    unless-wrong k outcome.WrongKind (is_of_wrong_kind k call) _
    (λ right. unless-wrong k outcome.InvalidState (is_barred k call) _ (λ ready. call-stands k call (found-placed k o call is) ready))))

pub request-stands : (k : Known) (o : Op) (r : asks.Request) → built k o ≡ Ok (Ask r) → Stands k r
request-stands k o r e = subst (StandsIfAsked k) e (built-stands k o)
