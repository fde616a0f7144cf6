-- Objects stand on objects of the kinds for it, and the Producer of a Consumer is in the tree: through each small change.
use Rattle.std.proofs.Common.{◌≡◌, ℕ, ◌+◌, List, [], ◌∷◌, length, map, nat_le, nat_lt, reverse, Bool, true, false, not, ◌&&◌, ◌||◌, cond, Option, Some, None, Result, Ok, Err, refl, sym, ap, ◌∙◌, subst}
use Rattle.std.specs.Bool.{⊤}
use Rattle.std.specs.List.{AllByRecursion, list_all, list_any}
use Rattle.std.specs.Option.{option_and_then, option_map, unwrap_or}
use Rattle.std.specs.Prelude.{IfSome}
use Rattle.std.proofs.lemmas.Bool.{and_parts, true≢false}
use mathlib.Core.List.{reverse-cons}
use Rattle.ms_base.specs.Kinds.{same_kind}
use Rattle.ms_base.specs.declared.code.Code.TheVariants as code
use Rattle.ms_base.specs.declared.keys.CallKey.{CallKey}
use Rattle.ms_base.specs.declared.keys.Kind.{Kind}
use Rattle.ms_base.specs.declared.keys.Kind.TheVariants as kind
use Rattle.ms_base.specs.declared.keys.Serial.{Serial}
use Rattle.ms_base.specs.declared.op.Op.{Op}
use Rattle.ms_base.specs.declared.op.Op.TheVariants as op
use Rattle.ms_base.specs.declared.outcome.Outcome.{Outcome}
use Rattle.ms_base.specs.declared.outcome.Outcome.TheVariants as outcome
use Rattle.object_tree.specs.declared.object.Object.{Object}
use Rattle.object_tree.specs.Falls.{closed_if, falls}
use Rattle.object_tree.specs.Objects.{has_name, has_serial, is_producer, marked, named, numbered, same_serial, with_object}
use Rattle.pending_calls.specs.declared.waiting.Owner.{Owner}
use Rattle.pending_calls.specs.declared.waiting.Owner.TheVariants as owner
use Rattle.call_options.specs.Options.{caps_options, connect_options, consume_options, pipe_options, piped_consume_options, plain_options, produce_options, router_options}
use Rattle.call_options.specs.declared.options.ConsumeOptions.{ConsumeOptions}
use Rattle.ortc_map.specs.ConsumerParams.{consumer_params}
use Rattle.ortc_map.specs.ProducerMapping.{producer_mapping}
use Rattle.ortc_map.specs.RouterCaps.{with_codecs}
use Rattle.request_build.specs.declared.built.BuildFault.{BuildFault}
use Rattle.request_build.specs.declared.built.Keep.{Keep}
use Rattle.request_build.specs.Asks as asks
use Rattle.request_build.specs.Asks.{Ask, Built, Own, connect_asked, consume_asked, consumer_flagged, direct_asked, flag_asked, has_id_in, own_id, pipe_asked, piped_consume, plain_asked, produce_asked, producer_flagged, router_asked, simple_consume}
use Rattle.request_build.specs.Built.{built, built_of, max_packet, max_slots}
use Rattle.request_build.specs.Columns.{Call, CanConsume, Close, Connect, Consume, Direct, Need, Pause, Pipe, PipeRouter, Plain, Produce, Resume, Router, Send, Worker, are_same, found, is_barred, is_elsewhere, is_of_kind, is_of_wrong_kind, is_one_of, is_taken, makes, need, needs, of_both, transports}
use Rattle.request_build.specs.Known.{Known, above, kept_at, router_of}
use Rattle.request_build.specs.Rules.{◌>>=◌, of_mapping, of_options, or_astray, or_refused, refused_where}
use Rattle.host_requests.specs.declared.request.Request.{Request}
use Rattle.host_requests.specs.Requests.{is_under}
use Rattle.host_model.specs.declared.due.Due.{Due}
use Rattle.host_model.specs.declared.due.Due.TheVariants as due
use Rattle.host_model.specs.State.{State, Issued, as_serial, issued, start, with_request}
use Rattle.host_model.specs.Answer.{known}
use Rattle.host_model.specs.Changes.{new_request, owner_settled}
use Rattle.host_model.specs.Run.{Journal, state_of}
use Rattle.host_model.specs.Standing.{IsOfProducer, IsOnKind, StandByKind, StandsByKind, is_on_kind, is_transport}
use Rattle.host_model.specs.Step.{Micro, due_by, due_of, new_worker, start_request, step, turn_of}
use Rattle.host_model.proofs.Along.{along}
use Rattle.host_model.proofs.BuiltLemmas.{IsNew, request-stands}
use Rattle.host_model.proofs.Changes.{Change, Going, at_rest, going, has_key, once-entered, step-is, still, both, notes, slots, streams, settles_call, awaits, asks_by, wants, asks_to_close, takes, takes_none, opens, settles_taken, marks, falls_with, settles_awaits}
use Rattle.host_model.proofs.Counts.{all-append, all-each, all-found, all-mapped, same-itself}
use Rattle.host_model.proofs.FallLemmas.{any-mapped, any-with_object, or-later}
use Rattle.host_model.proofs.FitLemmas.{open-more, open_of}
use Rattle.host_model.proofs.Objects.{IsAlike, all-with_object, chosen-alike, closed-alike, marked-alike}
use Rattle.host_model.proofs.Waiting.{all-fallen, all-settled, all-taken}

-- ---- what holds of each object holds of those that a call needs

module _ (k : Known) (P : Object → Type 0) (all : AllByRecursion P k.objects) where
  all-reverse : (xs : List Object) → AllByRecursion P xs → AllByRecursion P (reverse xs)
  all-reverse [] h = tt
  all-reverse (x ∷ xs) h =
      subst (AllByRecursion P) (sym (reverse-cons x xs)) (all-append P (reverse xs) (x ∷ []) (all-reverse xs h.1) (h.0, tt))

  named-all : (name : List ℕ) (o : Object) → named k.objects name ≡ Some o → P o
  named-all name o e = all-found P (has_name name) (reverse k.objects) o (all-reverse k.objects all) e

  abbrev Have : Call → Type 0
  Have call = AllByRecursion (λ (n : Need). P n.object) (needs call)

  one-had : (call_of : Object → Call) → ((o : Object) → P o → Have (call_of o)) → (name : List ℕ) (m : Option Object) → named k.objects name ≡ m → (call : Call)
      → option_map call_of m ≡ Some call → Have call
  one-had call_of h name None e call is = absurd cc
  one-had call_of h name (Some o) e call is = let same : call_of o ≡ call = cc in subst Have same (h o (named-all name o e))

  two-had : (call_of : Object → Object → Call) → ((o p : Object) → P o → P p → Have (call_of o p)) → (one other : List ℕ) (m n : Option Object)
      → named k.objects one ≡ m → named k.objects other ≡ n → (call : Call) → of_both call_of m n ≡ Some call → Have call
  two-had call_of h one other None n e f call is = absurd cc
  two-had call_of h one other (Some o) None e f call is = absurd cc
  two-had call_of h one other (Some o) (Some p) e f call is =
      let same : call_of o p ≡ call = cc in subst Have same (h o p (named-all one o e) (named-all other p f))

  pub found-have : (o : Op) (call : Call) → found k o ≡ Some call → AllByRecursion (λ (n : Need). P n.object) (needs call)
  found-have (op.Worker name budget) call is = let same : Worker ≡ call = cc in subst Have same tt
  found-have (op.Router name worker options) call is = one-had (λ o. Router name o options) (λ o h. (h, tt)) worker (named k.objects worker) refl call is
  found-have (op.Plain name router options) call is = one-had (λ o. Plain name o options) (λ o h. (h, tt)) router (named k.objects router) refl call is
  found-have (op.Pipe name router options) call is = one-had (λ o. Pipe name o options) (λ o h. (h, tt)) router (named k.objects router) refl call is
  found-have (op.Direct name router) call is = one-had (λ o. Direct name o) (λ o h. (h, tt)) router (named k.objects router) refl call is
  found-have (op.Connect transport options) call is = one-had (λ o. Connect o options) (λ o h. (h, tt)) transport (named k.objects transport) refl call is
  found-have (op.Produce name transport options) call is = one-had (λ o. Produce name o options) (λ o h. (h, tt)) transport (named k.objects transport) refl call is
  found-have (op.Consume name transport producer options) call is =
      two-had (λ t p. Consume name t p options) (λ o p h g. (h, (g, tt))) transport producer (named k.objects transport) (named k.objects producer) refl refl call is
  found-have (op.Pause name) call is = one-had Pause (λ o h. (h, tt)) name (named k.objects name) refl call is
  found-have (op.Resume name) call is = one-had Resume (λ o h. (h, tt)) name (named k.objects name) refl call is
  found-have (op.Close name) call is = one-had Close (λ o h. tt) name (named k.objects name) refl call is
  found-have (op.CanConsume producer caps) call is = one-had (λ o. CanConsume o caps) (λ o h. (h, tt)) producer (named k.objects producer) refl call is
  found-have (op.Send producer packet) call is = one-had (λ o. Send o packet) (λ o h. (h, tt)) producer (named k.objects producer) refl call is
  found-have (op.PipeRouter name producer router) call is =
      two-had PipeRouter (λ o p h g. (h, (g, tt))) producer router (named k.objects producer) (named k.objects router) refl refl call is

-- it is in the tree
abbrev pub IsIn : List Object → Object → Type 0
IsIn os o = (t : Object → Bool) → t o ≡ true → list_any t os ≡ true

pub all-in : (xs : List Object) → AllByRecursion (IsIn xs) xs
all-in [] = tt
all-in (x ∷ xs) = (
  λ t e. ap (λ b. b || list_any t xs) e,
  all-each (IsIn xs) (IsIn (x ∷ xs)) (λ o h t e. or-later (t x) (list_any t xs) (h t e)) xs (all-in xs),
)

-- ---- the kinds of what a call needs

or-parts : (a b : Bool) → (a || b) ≡ false → (a ≡ false) × (b ≡ false)
or-parts true b h = absurd (true≢false h)
or-parts false b h = (refl, h)

not-false : (b : Bool) → not b ≡ false → b ≡ true
not-false true e = refl
not-false false e = absurd (true≢false e)

-- the kinds are right of all
pub all-right : (k : Known) (call : Call) → is_of_wrong_kind k call ≡ false → list_all is_of_kind (needs call) ≡ true
all-right k call e = not-false (list_all is_of_kind (needs call)) (or-parts (not (list_all is_of_kind (needs call))) (is_elsewhere k call) e).0

one-of : (a : Bool) → (a || false) ≡ true → a ≡ true
one-of true e = refl
one-of false e = absurd (true≢false (sym e))

-- of the first, and of the others
pub first-of : (o : Object) (kinds : List Kind) (others : List Need) → list_all is_of_kind (need o kinds ∷ others) ≡ true → is_one_of kinds o ≡ true
first-of o kinds others e = (and_parts (is_one_of kinds o) (list_all is_of_kind others) e).0

pub others-of : (o : Object) (kinds : List Kind) (others : List Need) → list_all is_of_kind (need o kinds ∷ others) ≡ true → list_all is_of_kind others ≡ true
others-of o kinds others e = (and_parts (is_one_of kinds o) (list_all is_of_kind others) e).1

pub is-kind : (o : Object) (of_kind : Kind) → is_one_of (of_kind ∷ []) o ≡ true → same_kind o.kind of_kind ≡ true
is-kind o of_kind e = one-of (same_kind o.kind of_kind) e

three-of : (a b c : Bool) → (a || (b || (c || false))) ≡ true → (a || b || c) ≡ true
three-of true b c e = refl
three-of false true c e = refl
three-of false false true e = refl
three-of false false false e = absurd (true≢false (sym e))

pub is-transport : (o : Object) → is_one_of (kind.Plain ∷ kind.Pipe ∷ kind.Direct ∷ []) o ≡ true → is_transport o.kind ≡ true
is-transport o e = three-of (same_kind o.kind kind.Plain) (same_kind o.kind kind.Pipe) (same_kind o.kind kind.Direct) e

-- ---- what a request makes stands by its kind

-- what is made stands on the object that its request is issued under
record MadeByKind (k : Known) (under : Serial) (o : Object) : Type 0 where
  on : list_any (λ x. has_serial under x && is_on_kind o.kind x.kind) k.objects ≡ true
  producer : IsOfProducer k.objects o.kind o.producer

abbrev ByKind : Known → Result Built BuildFault → Type 0
ByKind k (Ok (Ask r)) = IfSome r.makes (MadeByKind k r.under)
ByKind k (Ok (Own told)) = ⊤
ByKind k (Err wrong) = ⊤

behind : {A : Type 0} (k : Known) (m : Result A BuildFault) (f : A → Result Built BuildFault) → ((x : A) → ByKind k (f x)) → ByKind k (m >>= f)
behind k (Ok x) f h = h x
behind k (Err wrong) f h = tt

unless-wrong : (k : Known) (o : Outcome) (b : Bool) (f : Bool → Result Built BuildFault) → (b ≡ false → ByKind k (f b)) → ByKind k (refused_where o b >>= f)
unless-wrong k o true f h = tt
unless-wrong k o false f h = h refl

where-found : {A : Type 0} (k : Known) (o : Outcome) (m : Option A) (f : A → Result Built BuildFault) → ((x : A) → m ≡ Some x → ByKind k (f x)) → ByKind k (or_refused o m >>= f)
where-found k o None f h = tt
where-found k o (Some x) f h = h x refl

-- an object of the tree that passes a test of its kind is found by its serial
there-with : (k : Known) (o : Object) (test : Kind → Bool) → IsIn k.objects o → test o.kind ≡ true → list_any (λ x. has_serial o.serial x && test x.kind) k.objects ≡ true
there-with k o test there e = there (λ x. has_serial o.serial x && test x.kind) (ap (λ b. b && test o.kind) (same-itself o.serial.0) ∙ e)

module _ (k : Known) (on : Object) (there : IsIn k.objects on) where
  router-by : (name options : List ℕ) → same_kind on.kind kind.Worker ≡ true → ByKind k (router_asked k name on options)
  router-by name options e =
      behind k (of_options (router_options options)) _
      (λ given. behind k (of_mapping (with_codecs [] given)) _ (λ codecs. record { on = there-with k on (is_on_kind kind.Router) there e; producer = refl }))

  plain-by : (name options : List ℕ) → same_kind on.kind kind.Router ≡ true → ByKind k (plain_asked k name on options)
  plain-by name options e = behind k (of_options (plain_options options)) _ (λ given. record { on = there-with k on (is_on_kind kind.Plain) there e; producer = refl })

  pipe-by : (name options : List ℕ) → same_kind on.kind kind.Router ≡ true → ByKind k (pipe_asked k name on options)
  pipe-by name options e = behind k (of_options (pipe_options options)) _ (λ given. record { on = there-with k on (is_on_kind kind.Pipe) there e; producer = refl })

  direct-by : (name : List ℕ) → same_kind on.kind kind.Router ≡ true → ByKind k (Ok (direct_asked k name on))
  direct-by name e = record { on = there-with k on (is_on_kind kind.Direct) there e; producer = refl }

  connect-by : (options : List ℕ) → ByKind k (connect_asked k on options)
  connect-by options = behind k (of_options (connect_options options)) _ (λ to. behind k (or_astray (above k.objects on)) _ (λ router. tt))

  produce-by : (name options : List ℕ) → is_transport on.kind ≡ true → ByKind k (produce_asked k name on options)
  produce-by name options e =
      behind k (of_options (produce_options options)) _
      (λ given.
      behind k (or_astray (above k.objects on)) _
      (λ router.
      behind k (refused_where (outcome.TypeError code.DuplicateId) (has_id_in k router.serial (unwrap_or given.id (own_id k)))) _
      (λ free.
      behind k (or_astray (kept_at k.routers router.serial)) _
      (λ caps.
      behind k (of_mapping (producer_mapping given.params caps k.next.ssrc)) _
      (λ mapping. record { on = there-with k on (is_on_kind kind.Producer) there e; producer = refl })))))

  module _ (producer : Object) (its : IsIn k.objects producer) (is : is_producer producer.kind ≡ true) (e : is_transport on.kind ≡ true) where
    piped-by : (name : List ℕ) (paused : Bool) → ByKind k (piped_consume k name on producer paused)
    piped-by name paused =
        behind k (or_astray (above k.objects on)) _
        (λ router.
        behind k (or_astray (kept_at k.producers producer.serial)) _
        (λ offer.
        behind k (or_astray (kept_at k.pipes on.serial)) _
        (λ enable_rtx. record { on = there-with k on (is_on_kind kind.Consumer) there e; producer = there-with k producer is_producer its is })))

    simple-by : (name : List ℕ) (given : ConsumeOptions) → ByKind k (simple_consume k name on producer given)
    simple-by name given =
        behind k (or_astray (above k.objects on)) _
        (λ router.
        behind k (or_astray (kept_at k.producers producer.serial)) _
        (λ offer.
        behind k (refused_where (outcome.Unsupported code.Simulcast) (nat_lt 1 (length offer.params.encodings))) _
        (λ single.
        behind k (of_mapping (consumer_params offer.params given.caps k.next.ssrc)) _
        (λ params. record { on = there-with k on (is_on_kind kind.Consumer) there e; producer = there-with k producer is_producer its is }))))

    consume-by : (name options : List ℕ) → ByKind k (consume_asked k name on producer options)
    consume-by name options = at (same_kind on.kind kind.Pipe)
      where
        at : (b : Bool)
            → ByKind k
            (cond b (of_options (piped_consume_options options) >>= (λ paused. piped_consume k name on producer paused))
            (of_options (consume_options options) >>= (λ given. simple_consume k name on producer given)))
        at true = behind k (of_options (piped_consume_options options)) (λ paused. piped_consume k name on producer paused) (λ paused. piped-by name paused)
        at false = behind k (of_options (consume_options options)) (λ given. simple_consume k name on producer given) (λ given. simple-by name given)

  flag-by : (paused : Bool) → ByKind k (flag_asked k on paused)
  flag-by paused =
      behind k (or_astray (above k.objects on)) _ (λ transport. behind k (or_astray (above k.objects transport)) _ (λ router. at transport router (is_producer on.kind)))
    where
      at : (transport router : Object) (b : Bool) → ByKind k (cond b (producer_flagged k router transport on paused) (consumer_flagged k router transport on paused))
      at transport router true = tt
      at transport router false = behind k (or_astray (option_and_then (numbered k.objects) on.producer)) _ (λ producer. tt)

abbrev AreIn : Known → Call → Type 0
AreIn k call = AllByRecursion (λ (n : Need). IsIn k.objects n.object) (needs call)

call-by : (k : Known) (call : Call) → AreIn k call → list_all is_of_kind (needs call) ≡ true → ByKind k (built_of k call)
call-by k Worker h e = unless-wrong k (outcome.TypeError code.Slots) (nat_le max_slots k.slots) _ (λ f. tt)
call-by k (Router name worker options) h e = router-by k worker h.0 name options (is-kind worker kind.Worker (first-of worker (kind.Worker ∷ []) [] e))
call-by k (Plain name router options) h e = plain-by k router h.0 name options (is-kind router kind.Router (first-of router (kind.Router ∷ []) [] e))
call-by k (Pipe name router options) h e = pipe-by k router h.0 name options (is-kind router kind.Router (first-of router (kind.Router ∷ []) [] e))
call-by k (Direct name router) h e = direct-by k router h.0 name (is-kind router kind.Router (first-of router (kind.Router ∷ []) [] e))
call-by k (Connect transport options) h e = connect-by k transport h.0 options
call-by k (Produce name transport options) h e = produce-by k transport h.0 name options (is-transport transport (first-of transport transports [] e))
call-by k (Consume name transport producer options) h e =
    let second : List Need = need producer (kind.Producer ∷ []) ∷ [] in
    consume-by k transport h.0 producer h.1.0 (is-kind producer kind.Producer (first-of producer (kind.Producer ∷ []) [] (others-of transport transports second e)))
    (is-transport transport (first-of transport transports second e)) name options
call-by k (Pause stream) h e = flag-by k stream h.0 true
call-by k (Resume stream) h e = flag-by k stream h.0 false
call-by k (Close object) h e = tt
call-by k (CanConsume producer caps) h e =
    behind k (of_options (caps_options caps)) _ (λ given. behind k (or_astray (kept_at k.producers producer.serial)) _ (λ offer. tt))
call-by k (Send producer packet) h e = unless-wrong k (outcome.TypeError code.Packet) (nat_lt max_packet (length packet)) _ (λ f. tt)
call-by k (PipeRouter producer router) h e =
    unless-wrong k (outcome.TypeError code.SameRouter) (are_same (Some router.serial) (router_of k.objects producer)) _ (λ f. tt)

built-by : (k : Known) (o : Op) → ByKind k (built k o)
built-by k o =
    unless-wrong k outcome.NameTaken (list_any (is_taken k) (makes o)) _
    (λ free.
    where-found k outcome.NoName (found k o) _
    (λ call is.
    unless-wrong k outcome.WrongKind (is_of_wrong_kind k call) _
    (λ right.
    unless-wrong k outcome.InvalidState (is_barred k call) _
    (λ ready. call-by k call (found-have k (IsIn k.objects) (all-in k.objects) o call is) (all-right k call right)))))

request-by : (k : Known) (o : Op) (r : asks.Request) → built k o ≡ Ok (Ask r) → IfSome r.makes (MadeByKind k r.under)
request-by k o r e = subst (ByKind k) e (built-by k o)

-- ---- through each small change

abbrev IsByKindDue : List Object → Due → Type 0
IsByKindDue os (due.Opens object keeps) = StandsByKind os object
IsByKindDue os (due.Turns paused) = ⊤
IsByKindDue os due.Nothing = ⊤

abbrev AreByKindDue : List Object → List (Request Due) → Type 0
AreByKindDue os rs = AllByRecursion (λ (r : Request Due). IsByKindDue os r.due) rs

-- where all that is found by serials and kinds is found still
module _ (os ps : List Object) (more : (serial : Serial) (test : Kind → Bool) → list_any (λ x. has_serial serial x && test x.kind) os ≡ true → list_any (λ x. has_serial serial x && test x.kind) ps ≡ true) where
  on-more : (of_kind : Kind) (parent : Option Serial) → IsOnKind os of_kind parent → IsOnKind ps of_kind parent
  on-more of_kind None h = h
  on-more of_kind (Some parent) h = more parent (is_on_kind of_kind) h

  of-more : (of_kind : Kind) (producer : Option Serial) → IsOfProducer os of_kind producer → IsOfProducer ps of_kind producer
  of-more of_kind None h = h
  of-more of_kind (Some producer) h = more producer is_producer h

  stands-more : (o : Object) → StandsByKind os o → StandsByKind ps o
  stands-more o h = record { on = on-more o.kind o.parent h.on; producer = of-more o.kind o.producer h.producer }

  due-more : (d : Due) → IsByKindDue os d → IsByKindDue ps d
  due-more (due.Opens object keeps) h = stands-more object h
  due-more (due.Turns paused) h = tt
  due-more due.Nothing h = tt

  dues-more : (rs : List (Request Due)) → AreByKindDue os rs → AreByKindDue ps rs
  dues-more rs h = all-each (λ (r : Request Due). IsByKindDue os r.due) (λ (r : Request Due). IsByKindDue ps r.due) (λ r k. due-more r.due k) rs h

stands-alike : (os : List Object) (a b : Object) → IsAlike a b → StandsByKind os a → StandsByKind os b
stands-alike os a b same h =
    record {
      on = subst (λ (k : Kind). IsOnKind os k b.parent) (sym same.kind) (subst (λ (p : Option Serial). IsOnKind os a.kind p) (sym same.parent) h.on);
      producer = subst (λ (k : Kind). IsOfProducer os k b.producer) (sym same.kind) (subst (λ (p : Option Serial). IsOfProducer os a.kind p) (sym same.producer) h.producer);
    }

with-more : (o : Object) (os : List Object) (serial : Serial) (test : Kind → Bool) → list_any (λ x. has_serial serial x && test x.kind) os ≡ true
    → list_any (λ x. has_serial serial x && test x.kind) (with_object o os) ≡ true
with-more o os serial test h = any-with_object (λ x. has_serial serial x && test x.kind) o os h

mapped-more : (f : Object → Object) → ((o : Object) → IsAlike o (f o)) → (os : List Object) (serial : Serial) (test : Kind → Bool) → list_any (λ x. has_serial serial x && test x.kind) os ≡ true
    → list_any (λ x. has_serial serial x && test x.kind) (map f os) ≡ true
mapped-more f same os serial test h =
    any-mapped (λ x. has_serial serial x && test x.kind) f
    (λ x.
    ap (λ (n : Serial). same_serial n serial && test (f x).kind) (same x).serial
    ∙ ap (λ (k : Kind). has_serial serial x && test k) (same x).kind) os
    ∙ h

record ByKindOn (g : Going) : Type 0 where
  objects : StandByKind g.state.objects
  due : AreByKindDue g.state.objects (open_of g.taken g.state.requests)

kinds-opened : (o : Object) (os : List Object) → StandsByKind os o → StandByKind os → StandByKind (with_object o os)
kinds-opened o os one h =
    all-with_object (StandsByKind (with_object o os)) o os (stands-more os (with_object o os) (with-more o os) o one)
    (all-each (StandsByKind os) (StandsByKind (with_object o os)) (λ x k. stands-more os (with_object o os) (with-more o os) x k) os h)

kinds-mapped : (f : Object → Object) → ((o : Object) → IsAlike o (f o)) → (os : List Object) → StandByKind os → StandByKind (map f os)
kinds-mapped f same os h =
    all-mapped (StandsByKind os) (StandsByKind (map f os)) f
    (λ o k. stands-alike (map f os) o (f o) (same o) (stands-more os (map f os) (mapped-more f same os) o k)) os h

kinds-asked : (os : List Object) (taken : List (Request Due)) (rs : List Issued) (r : Request Due) → IsByKindDue os r.due → AreByKindDue os (open_of taken rs)
    → AreByKindDue os (open_of taken (with_request r rs))
kinds-asked os taken rs r one h =
    subst (AreByKindDue os) (sym (open-more taken rs r)) (all-append (λ (q : Request Due). IsByKindDue os q.due) (open_of taken rs) (r ∷ []) h (one, tt))

made-due : (k : Known) (r : asks.Request) (turn : Option Bool) (makes : Option Object) (keeps : Keep) → IfSome makes (IsNew k r) → IfSome makes (MadeByKind k r.under)
    → IsByKindDue k.objects (due_of turn makes keeps)
made-due k r turn (Some o) keeps new h =
    record { on = subst (λ (p : Option Serial). IsOnKind k.objects o.kind p) (sym new.parent) h.on; producer = h.producer }
made-due k r (Some paused) None keeps new h = tt
made-due k r None None keeps new h = tt

kinds-owner : (calls : List CallKey) (taken : List (Request Due)) (s : State) (o : Owner) (outcome : Outcome) (names : List (List ℕ)) → ByKindOn (going calls taken s)
    → ByKindOn (going calls taken (owner_settled o outcome names s))
kinds-owner calls taken s (owner.Call call) outcome names h = record { objects = h.objects; due = h.due }
kinds-owner calls taken s (owner.Job call part) outcome names h = h
kinds-owner calls taken s owner.Close outcome names h = h
kinds-owner calls taken s owner.Follow outcome names h = h

kinds-change : {g h : Going} → Change g h → ByKindOn g → ByKindOn h
kinds-change still w = w
kinds-change (both x y) w = kinds-change y (kinds-change x w)
kinds-change (notes ns plain) w = record { objects = w.objects; due = w.due }
kinds-change (slots worker) w = record { objects = w.objects; due = w.due }
kinds-change (streams xs) w = record { objects = w.objects; due = w.due }
kinds-change (settles_call call outcome names) w = record { objects = w.objects; due = w.due }
kinds-change (awaits a) w = record { objects = w.objects; due = w.due }
kinds-change (asks_by {calls} {taken} {s} call op r channel payload is) w =
    record {
      objects = w.objects;
      due = kinds-asked s.objects taken s.requests (new_request channel (issued s.requests channel + 1) (owner.Call call) r.under (due_by op r))
          (made-due (known s) r (turn_of op) r.makes r.keeps (request-stands (known s) op r is.built_is).new (request-by (known s) op r is.built_is)) w.due;
    }
kinds-change (wants {calls} {taken} {s} call name budget) w =
    let q : Request Due = start_request call (as_serial s.next.serial) in
    let o : Object = new_worker s name in
    record {
      objects = kinds-opened o s.objects (record { on = refl; producer = refl }) w.objects;
      due = dues-more s.objects (with_object o s.objects) (with-more o s.objects) (open_of taken (with_request q s.requests)) (kinds-asked s.objects taken s.requests q tt w.due);
    }
kinds-change (asks_to_close {calls} {taken} {s} channel parent asked left) w =
    record {
      objects = w.objects;
      due = kinds-asked s.objects taken s.requests (new_request channel (issued s.requests channel + 1) owner.Close parent due.Nothing) tt w.due;
    }
kinds-change (takes {calls} {taken} {s} key r e) w =
    record { objects = w.objects; due = all-taken (λ (q : Request Due). IsByKindDue s.objects q.due) s.requests (has_key key) taken r e w.due }
kinds-change (takes_none {calls} {taken} {s} key e) w =
    record { objects = w.objects; due = all-settled (λ (q : Request Due). IsByKindDue s.objects q.due) s.requests (has_key key) taken w.due }
kinds-change (opens {calls} {taken} {s} r object keeps o is same closed) w =
    let own : IsByKindDue s.objects (due.Opens object keeps) = subst (IsByKindDue s.objects) is w.due.0 in
    record {
      objects = kinds-opened o s.objects (stands-alike s.objects object o same own) w.objects;
      due = (tt, dues-more s.objects (with_object o s.objects) (with-more o s.objects) (open_of taken s.requests) w.due.1);
    }
kinds-change (settles_taken {calls} {taken} {s} r outcome names) w = kinds-owner calls taken s r.owner outcome names (record { objects = w.objects; due = w.due.1 })
kinds-change (marks {calls} {taken} {s} serial m keeps) w =
    let change : Object → Object = λ o. cond (has_serial serial o) (marked m o) o in
    let alike : (o : Object) → IsAlike o (change o) = λ o. chosen-alike (has_serial serial o) o (marked m o) (marked-alike m keeps o) in
    record {
      objects = kinds-mapped change alike s.objects w.objects;
      due = dues-more s.objects (map change s.objects) (mapped-more change alike s.objects) (open_of taken s.requests) w.due;
    }
kinds-change (falls_with {calls} {s} roots why) w =
    let down : List Serial = falls s.objects roots in
    let change : Object → Object = closed_if s.objects down roots why in
    let alike : (o : Object) → IsAlike o (change o) = closed-alike s.objects down roots why in
    record {
      objects = kinds-mapped change alike s.objects w.objects;
      due = all-fallen (λ (r : Request Due). IsByKindDue s.objects r.due) (λ (r : Request Due). IsByKindDue (map change s.objects) r.due) s.requests (is_under down)
          (λ r k e. due-more s.objects (map change s.objects) (mapped-more change alike s.objects) r.due k) (λ r. tt) w.due;
    }
kinds-change settles_awaits w = record { objects = w.objects; due = w.due }

kinds-step : (s : State) (m : Micro) → ByKindOn (at_rest s) → ByKindOn (at_rest (step s m))
kinds-step s m h =
    let st = step-is s m in
    kinds-change st.change
    (once-entered ByKindOn s (λ lane. record { objects = h.objects; due = h.due }) (λ worker. record { objects = h.objects; due = h.due }) h m st.start st.entered)

pub by-kind : (j : Journal) → StandByKind (state_of j).objects
by-kind j = (along (λ (s : State). ByKindOn (at_rest s)) kinds-step (start j.seed) j.entries (record { objects = tt; due = tt })).objects
