-- What a call comes to: its first refusal, its one request, or its own answer. This project's own.
use Rattle.std.specs.Prelude.{ℕ, List, [], ◌∷◌, length, true, false, nat_le, nat_lt, Some, None, option_map, Result, Ok}
use Rattle.std.specs.List.{list_any}
use Rattle.serde_json.specs.View.{view}
use Rattle.ms_base.specs.declared.code.Code.TheVariants as code
use Rattle.ms_base.specs.declared.op.Op.{Op}
use Rattle.ms_base.specs.declared.outcome.Outcome.TheVariants as outcome
use Rattle.ms_base.specs.declared.part.Part.{Part}
use Rattle.ms_base.specs.declared.part.Part.TheVariants as part
use Rattle.object_tree.specs.declared.object.Object.{Object}
use Rattle.object_tree.specs.Objects.{named, numbered}
use Rattle.ortc_map.specs.ConsumerParams.{can_consume}
use Rattle.call_options.specs.Options.{caps_options}
use Rattle.request_build.specs.declared.built.BuildFault.{BuildFault}
use Rattle.request_build.specs.declared.built.Built as code_built
use Rattle.request_build.specs.declared.built.Built.TheVariants as variant
use Rattle.request_build.specs.Asks.{Built, Ask, Own, connect_asked, connect_to, consume_asked, direct_asked, flag_asked, pipe_asked, pipe_of, piped_consume, plain_asked, produce_as, produce_asked, router_asked}
use Rattle.request_build.specs.Columns.{Call, CanConsume, Close, Connect, Consume, Direct, Pause, Pipe, PipeRouter, Plain, Produce, Resume, Router, Send, Worker, are_same, found, is_barred, is_of_wrong_kind, is_taken, makes}
use Rattle.request_build.specs.Known.{Known, kept_at, router_of}
use Rattle.request_build.specs.Rules.{◌>>=◌, of_options, or_astray, or_refused, refused_where}

-- how many slots there may be
abbrev pub max_slots : ℕ
max_slots = 64

-- how long a packet may be (RFC 768: the length of a datagram has 16 bits)
abbrev pub max_packet : ℕ
max_packet = 65535

-- one without a request and without an answer
abbrev pub is_own : Result Built BuildFault
is_own = Ok (Own None)

-- the answer of whether capabilities can consume a Producer
abbrev pub can_consume_asked : Known → Object → List ℕ → Result Built BuildFault
can_consume_asked k producer caps = do
  given ← of_options (caps_options caps)
  offer ← or_astray (kept_at k.producers producer.serial)
  Ok (Own (Some (can_consume offer.params given)))

-- what is wrong with what a call was given, or what it comes to
abbrev pub built_of : Known → Call → Result Built BuildFault
built_of k Worker = refused_where (outcome.TypeError code.Slots) (nat_le max_slots k.slots) >>= (λ _. is_own)
built_of k (Router name worker options) = router_asked k name worker options
built_of k (Plain name router options) = plain_asked k name router options
built_of k (Pipe name router options) = pipe_asked k name router options
built_of k (Direct name router) = Ok (direct_asked k name router)
built_of k (Connect transport options) = connect_asked k transport options
built_of k (Produce name transport options) = produce_asked k name transport options
built_of k (Consume name transport producer options) = consume_asked k name transport producer options
built_of k (Pause stream) = flag_asked k stream true
built_of k (Resume stream) = flag_asked k stream false
built_of k (Close object) = is_own
built_of k (CanConsume producer caps) = can_consume_asked k producer caps
built_of k (Send producer packet) = refused_where (outcome.TypeError code.Packet) (nat_lt max_packet (length packet)) >>= (λ _. is_own)
built_of k (PipeRouter producer router) = refused_where (outcome.TypeError code.SameRouter) (are_same (Some router.serial) (router_of k.objects producer)) >>= (λ _. is_own)

-- the refusals in their order, each over all names or objects of the call
abbrev pub built : Known → Op → Result Built BuildFault
built k op = do
  _ ← refused_where outcome.NameTaken (list_any (is_taken k) (makes op))
  call ← or_refused outcome.NoName (found k op)
  _ ← refused_where outcome.WrongKind (is_of_wrong_kind k call)
  _ ← refused_where outcome.InvalidState (is_barred k call)
  built_of k call

-- ---- parts of a call that pipes a Producer to another Router: their names are free and their objects open

abbrev pub object_named : Known → List ℕ → Result Object BuildFault
object_named k name = or_astray (named k.objects name)

abbrev pub built_part : Known → Part → Result Built BuildFault
built_part k (part.Pipe name router) = do
  on ← object_named k router
  Ok (pipe_of k name on (record { listen_ip = 127 ∷ 0 ∷ 0 ∷ 1 ∷ []; enable_rtx = false }))
built_part k (part.Connect transport to) = object_named k transport >>= (λ on. connect_to k on to)
built_part k (part.Consume name transport producer) = do
  on ← object_named k transport
  source ← object_named k producer
  piped_consume k name on source false
built_part k (part.Produce name transport producer consumer paused) = do
  on ← object_named k transport
  source ← or_astray (numbered k.objects producer)
  offer ← or_astray (kept_at k.producers producer)
  params ← or_astray (kept_at k.consumers consumer)
  produce_as k name on (record { media = offer.media; params = params; paused = paused; id = Some source.id })
built_part k (part.Pause name) = object_named k name >>= (λ stream. flag_asked k stream true)
built_part k (part.Resume name) = object_named k name >>= (λ stream. flag_asked k stream false)

-- what contracts see of what was built: the value of a content in place of the content
abbrev pub built_view : code_built.Built → Built
built_view (variant.Ask method ids content under makes keeps next) =
    Ask (record { method = method; ids = ids; content = option_map view content; under = under; makes = makes; keeps = keeps; next = next })
built_view (variant.Own answer) = Own answer
