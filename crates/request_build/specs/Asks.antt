-- The one request of each call, with what it draws: the object that it is to make and what is kept of that once it is open.
-- This project's own.
use Rattle.std.specs.Prelude.{ℕ, ◌+◌, List, [], length, Bool, true, false, ◌||◌, nat_lt, if◌then◌else◌, Option, Some, None, option_and_then, unwrap_or, is_some, Result, Ok}
use Rattle.std.specs.List.{list_any, sum_by}
use Rattle.serde_json.specs.Data.{Data}
use Rattle.ms_base.specs.Id.{id_bytes}
use Rattle.ms_base.specs.Kinds.{same_kind}
use Rattle.ms_base.specs.declared.code.Code.TheVariants as code
use Rattle.ms_base.specs.declared.id.Id.{Id}
use Rattle.ms_base.specs.declared.keys.Kind.{Kind}
use Rattle.ms_base.specs.declared.keys.Kind.TheVariants as kind
use Rattle.ms_base.specs.declared.keys.Serial.{Serial}
use Rattle.ms_base.specs.declared.outcome.Outcome.TheVariants as outcome
use Rattle.ms_base.specs.declared.tuple.Tuple.{Tuple}
use Rattle.rtp_params.specs.declared.mapping.Mapping.{Mapping}
use Rattle.rtp_params.specs.declared.encoding.Encoding.{Encoding}
use Rattle.rtp_params.specs.declared.codec.Codec.{Codec}
use Rattle.rtp_params.specs.declared.params.Caps.{Caps}
use Rattle.rtp_params.specs.declared.params.Params.{Params}
use Rattle.channel_msgs.specs.declared.message.Ids.{Ids}
use Rattle.worker_requests.specs.declared.asked.Asked.{Asked}
use Rattle.worker_requests.specs.declared.asked.Asked.TheVariants as asked
use Rattle.worker_requests.specs.declared.asked.TransportIds.{TransportIds}
use Rattle.worker_requests.specs.declared.asked.ProducerIds.{ProducerIds}
use Rattle.worker_requests.specs.declared.asked.ConsumerIds.{ConsumerIds}
use Rattle.request_contents.specs.Methods.{ids_of, method_of}
use Rattle.request_contents.specs.Values.{connect_value, consume_value, direct_value, pipe_value, plain_value, produce_value}
use Rattle.object_tree.specs.declared.object.Object.{Object}
use Rattle.object_tree.specs.Objects.{is_producer, numbered}
use Rattle.ortc_map.specs.Consumable.{consumable}
use Rattle.ortc_map.specs.ConsumerParams.{consumer_params}
use Rattle.ortc_map.specs.ProducerMapping.{producer_mapping}
use Rattle.ortc_map.specs.RouterCaps.{with_codecs}
use Rattle.pipe_params.specs.Pipe.{pipe_params}
use Rattle.call_options.specs.Options.{connect_options, consume_options, pipe_options, piped_consume_options, plain_options, produce_options, router_options}
use Rattle.call_options.specs.declared.options.ConsumeOptions.{ConsumeOptions}
use Rattle.call_options.specs.declared.options.PipeOptions.{PipeOptions}
use Rattle.call_options.specs.declared.options.ProduceOptions.{ProduceOptions}
use Rattle.request_build.specs.declared.built.BuildFault.{BuildFault}
use Rattle.request_build.specs.declared.built.Draws.{Draws}
use Rattle.request_build.specs.declared.built.Keep.{Keep}
use Rattle.request_build.specs.declared.built.Keep.TheVariants as keep
use Rattle.request_build.specs.declared.built.Offer.{Offer}
use Rattle.request_build.specs.Known.{Known, above, kept_at}
use Rattle.request_build.specs.Offers.{offers}
use Rattle.request_build.specs.Rules.{◌>>=◌, of_mapping, of_options, or_astray, refused_where}

-- A request without its id, the object that it is issued under, the object that it is to make, what is kept of that object
-- once it is open, and what is drawn behind it.
pub record Request : Type 0 where
  pub method : List ℕ
  pub ids : Ids
  pub content : Option Data
  pub under : Serial
  pub makes : Option Object
  pub keeps : Keep
  pub next : Draws

-- What a call comes to: a request, or an answer without one.
pub data Built : Type 0 where
  Ask : (request : Request) → Built
  Own : (answer : Option Bool) → Built

-- ---- what is drawn

-- the id of the next serial
abbrev pub own_id : Known → Id
own_id k = record { 0 = id_bytes k.next.seed k.next.serial }

-- behind a serial and so many SSRCs
abbrev pub drawn : Known → ℕ → Draws
drawn k ssrcs = record { seed = k.next.seed; serial = k.next.serial + 1; ssrc = k.next.ssrc + ssrcs }

-- an object with the next serial, on another
abbrev pub new_object : Known → Kind → List ℕ → Id → Object → Object
new_object k of_kind name id parent =
    record {
      serial = record { 0 = k.next.serial };
      name = name;
      id = id;
      kind = of_kind;
      parent = Some parent.serial;
      worker = parent.worker;
      producer = None;
      closed = None;
      paused = false;
      producer_paused = false;
      running = false;
      far = None;
    }

-- ---- requests

-- one that makes an object, which draws so many SSRCs
abbrev pub makes_new : Known → Asked → Option Data → Object → Object → Keep → ℕ → Built
makes_new k asked content parent object keeps ssrcs =
    Ask (record { method = method_of asked; ids = ids_of asked; content = content; under = parent.serial; makes = Some object; keeps = keeps; next = drawn k ssrcs })

-- one that makes nothing and draws nothing
abbrev pub changes : Known → Asked → Option Data → Object → Built
changes k asked content object =
    Ask (record { method = method_of asked; ids = ids_of asked; content = content; under = object.serial; makes = None; keeps = keep.Nothing; next = k.next })

-- ---- Routers

-- what is kept of a Router of these codecs: no rule asks for its header extensions, which are the whole table in every Router
abbrev pub kept_of_router : List Codec → Caps
kept_of_router codecs = record { codecs = codecs; exts = [] }

abbrev pub router_of_codecs : Known → List ℕ → Object → List Codec → Built
router_of_codecs k name worker codecs =
    let router : Object = new_object k kind.Router name (own_id k) worker in
    makes_new k (asked.CreateRouter router.id) None worker router (keep.Router (kept_of_router codecs)) 0

abbrev pub router_asked : Known → List ℕ → Object → List ℕ → Result Built BuildFault
router_asked k name worker options = do
  given ← of_options (router_options options)
  codecs ← of_mapping (with_codecs [] given)
  Ok (router_of_codecs k name worker codecs)

-- ---- transports

abbrev pub transport_ids : Object → Object → TransportIds
transport_ids router transport = record { router = router.id; transport = transport.id }

abbrev pub new_transport : Known → Kind → List ℕ → Object → (TransportIds → Asked) → Data → Keep → Built
new_transport k of_kind name router asks content keeps =
    let transport : Object = new_object k of_kind name (own_id k) router in
    makes_new k (asks (transport_ids router transport)) (Some content) router transport keeps 0

abbrev pub plain_asked : Known → List ℕ → Object → List ℕ → Result Built BuildFault
plain_asked k name router options = do
  given ← of_options (plain_options options)
  Ok (new_transport k kind.Plain name router asked.CreatePlainTransport (plain_value (record { comedia = given.comedia; ip = given.listen_ip })) keep.Nothing)

abbrev pub pipe_of : Known → List ℕ → Object → PipeOptions → Built
pipe_of k name router given =
    new_transport k kind.Pipe name router asked.CreatePipeTransport (pipe_value (record { enable_rtx = given.enable_rtx; ip = given.listen_ip })) (keep.Pipe given.enable_rtx)

abbrev pub pipe_asked : Known → List ℕ → Object → List ℕ → Result Built BuildFault
pipe_asked k name router options = do
  given ← of_options (pipe_options options)
  Ok (pipe_of k name router given)

abbrev pub direct_asked : Known → List ℕ → Object → Built
direct_asked k name router = new_transport k kind.Direct name router asked.CreateDirectTransport direct_value keep.Nothing

abbrev pub connect_to : Known → Object → Tuple → Result Built BuildFault
connect_to k transport to = do
  router ← or_astray (above k.objects transport)
  Ok (changes k (asked.Connect (transport_ids router transport)) (Some (connect_value to)) transport)

abbrev pub connect_asked : Known → Object → List ℕ → Result Built BuildFault
connect_asked k transport options = do
  to ← of_options (connect_options options)
  connect_to k transport to

-- ---- Producers

-- an open Producer of the Router has the id, or one that is asked for
abbrev pub has_id_in : Known → Serial → Id → Bool
has_id_in k router id = list_any (offers router id) k.producers || k.is_asked router id

abbrev pub new_producer : Known → List ℕ → Object → Id → Bool → Object
new_producer k name transport id paused = record (new_object k kind.Producer name id transport) { paused = paused }

abbrev pub producer_ids : Object → Object → Object → ProducerIds
producer_ids router transport producer = record { router = router.id; transport = transport.id; producer = producer.id }

-- what is kept of a Producer: its Router and its id, its media, its mapping, and what its Router offers of it
abbrev pub offer_of : Serial → Id → ProduceOptions → Caps → Mapping → Offer
offer_of router id given caps mapping =
    record { router = router; id = id; media = given.media; mapping = mapping; params = consumable given.media given.params caps mapping }

abbrev pub producer_of : Known → List ℕ → Object → Object → Id → ProduceOptions → Offer → Built
producer_of k name router transport id given offer =
    let producer : Object = new_producer k name transport id given.paused in
    makes_new k (asked.Produce (producer_ids router transport producer)) (Some (produce_value given.media given.paused offer.mapping given.params)) transport producer (keep.Producer offer) (length given.params.encodings)

-- without an id of its own it has that of its serial; it draws an SSRC for each encoding
abbrev pub produce_as : Known → List ℕ → Object → ProduceOptions → Result Built BuildFault
produce_as k name transport given = do
  router ← or_astray (above k.objects transport)
  _ ← refused_where (outcome.TypeError code.DuplicateId) (has_id_in k router.serial (unwrap_or given.id (own_id k)))
  caps ← or_astray (kept_at k.routers router.serial)
  mapping ← of_mapping (producer_mapping given.params caps k.next.ssrc)
  Ok (producer_of k name router transport (unwrap_or given.id (own_id k)) given (offer_of router.serial (unwrap_or given.id (own_id k)) given caps mapping))

abbrev pub produce_asked : Known → List ℕ → Object → List ℕ → Result Built BuildFault
produce_asked k name transport options = do
  given ← of_options (produce_options options)
  produce_as k name transport given

-- ---- Consumers

abbrev pub new_consumer : Known → List ℕ → Object → Object → Bool → Object
new_consumer k name transport producer paused = record (new_object k kind.Consumer name (own_id k) transport) { producer = Some producer.serial; paused = paused }

abbrev pub consumer_ids : Object → Object → Object → Object → ConsumerIds
consumer_ids router transport producer consumer = record { router = router.id; transport = transport.id; producer = producer.id; consumer = consumer.id }

-- an SSRC for an encoding, and one for its retransmissions where it has them
abbrev pub ssrcs_for : Encoding → ℕ
ssrcs_for encoding = if is_some encoding.rtx then 2 else 1

abbrev pub ssrcs_drawn : List Encoding → ℕ
ssrcs_drawn encodings = sum_by ssrcs_for encodings

-- it draws the SSRCs of its parameters
abbrev pub consumer_of : Known → List ℕ → Object → Object → Object → Offer → Params → Bool → Bool → Built
consumer_of k name router transport producer offer params paused simple =
    let consumer : Object = new_consumer k name transport producer paused in
    makes_new k (asked.Consume (consumer_ids router transport producer consumer)) (Some (consume_value offer.media paused offer.params.encodings params simple)) transport consumer (keep.Consumer params) (ssrcs_drawn params.encodings)

-- over a pipe: a stream for each of the Producer's
abbrev pub piped_consume : Known → List ℕ → Object → Object → Bool → Result Built BuildFault
piped_consume k name transport producer paused = do
  router ← or_astray (above k.objects transport)
  offer ← or_astray (kept_at k.producers producer.serial)
  enable_rtx ← or_astray (kept_at k.pipes transport.serial)
  Ok (consumer_of k name router transport producer offer (pipe_params offer.params enable_rtx k.next.ssrc) paused false)

-- over another transport: the one stream of a Producer that has no other
abbrev pub simple_consume : Known → List ℕ → Object → Object → ConsumeOptions → Result Built BuildFault
simple_consume k name transport producer given = do
  router ← or_astray (above k.objects transport)
  offer ← or_astray (kept_at k.producers producer.serial)
  _ ← refused_where (outcome.Unsupported code.Simulcast) (nat_lt 1 (length offer.params.encodings))
  params ← of_mapping (consumer_params offer.params given.caps k.next.ssrc)
  Ok (consumer_of k name router transport producer offer params given.paused true)

abbrev pub consume_asked : Known → List ℕ → Object → Object → List ℕ → Result Built BuildFault
consume_asked k name transport producer options =
    if same_kind transport.kind kind.Pipe
    then (of_options (piped_consume_options options) >>= (λ paused. piped_consume k name transport producer paused))
    else (of_options (consume_options options) >>= (λ given. simple_consume k name transport producer given))

-- ---- pauses

abbrev pub producer_flag : Bool → ProducerIds → Asked
producer_flag true ids = asked.PauseProducer ids
producer_flag false ids = asked.ResumeProducer ids

abbrev pub consumer_flag : Bool → ConsumerIds → Asked
consumer_flag true ids = asked.PauseConsumer ids
consumer_flag false ids = asked.ResumeConsumer ids

abbrev pub producer_flagged : Known → Object → Object → Object → Bool → Result Built BuildFault
producer_flagged k router transport producer paused = Ok (changes k (producer_flag paused (producer_ids router transport producer)) None producer)

abbrev pub consumer_flagged : Known → Object → Object → Object → Bool → Result Built BuildFault
consumer_flagged k router transport consumer paused = do
  producer ← or_astray (option_and_then (numbered k.objects) consumer.producer)
  Ok (changes k (consumer_flag paused (consumer_ids router transport producer consumer)) None consumer)

-- a Producer or a Consumer is to be paused, or resumed
abbrev pub flag_asked : Known → Object → Bool → Result Built BuildFault
flag_asked k stream paused = do
  transport ← or_astray (above k.objects stream)
  router ← or_astray (above k.objects transport)
  if is_producer stream.kind then producer_flagged k router transport stream paused else consumer_flagged k router transport stream paused
