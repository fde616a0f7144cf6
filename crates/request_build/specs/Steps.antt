-- How the code goes over the columns of a call: each test in its turn, by the objects that the call needs. This project's own.
use Rattle.std.specs.Prelude.{ℕ, ◌==◌, ◌&&◌, List, [], ◌∷◌, length, Bool, not, ◌||◌, nat_le, nat_lt, is_some, Some, Result, Ok}
use Rattle.std.specs.List.{list_all, list_any}
use Rattle.ms_base.specs.Name.{is_name_byte}
use Rattle.ms_base.specs.declared.keys.Kind.{Kind}
use Rattle.ms_base.specs.declared.keys.Kind.TheVariants as kind
use Rattle.ms_base.specs.declared.code.Code.TheVariants as code
use Rattle.ms_base.specs.declared.outcome.Outcome.TheVariants as outcome
use Rattle.object_tree.specs.declared.object.Object.{Object}
use Rattle.object_tree.specs.Objects.{named}
use Rattle.request_build.specs.declared.built.BuildFault.{BuildFault}
use Rattle.request_build.specs.Asks.{Built, connect_asked, consume_asked, direct_asked, flag_asked, pipe_asked, plain_asked, produce_asked, router_asked}
use Rattle.request_build.specs.Built.{can_consume_asked, is_own, max_packet, max_slots}
use Rattle.request_build.specs.Columns.{are_same, four_names, is_one_of, is_taken, is_there, streams, transports}
use Rattle.request_build.specs.Known.{Known, above, router_of}
use Rattle.request_build.specs.Rules.{◌>>=◌, or_refused, refused_where}

-- it is closed, or the host was stopped
abbrev pub is_shut : Known → Object → Bool
is_shut k o = k.stopped || is_some o.closed

-- the object of a name, of one of these kinds and open
abbrev pub needed : Known → List Kind → List ℕ → Result Object BuildFault
needed k kinds name = do
  object ← or_refused outcome.NoName (named k.objects name)
  _ ← refused_where outcome.WrongKind (not (is_one_of kinds object))
  _ ← refused_where outcome.InvalidState (is_shut k object)
  Ok object

-- two characters of a name
abbrev pub is_ending : List ℕ → Bool
is_ending ending = (length ending == 2) && list_all is_name_byte ending

-- a name that isn't taken
abbrev pub free : Known → List ℕ → Result Bool BuildFault
free k name = refused_where outcome.NameTaken (is_taken k name)

abbrev pub row_worker : Known → List ℕ → Result Built BuildFault
row_worker k name = do
  _ ← free k name
  _ ← refused_where outcome.InvalidState k.stopped
  _ ← refused_where (outcome.TypeError code.Slots) (nat_le max_slots k.slots)
  is_own

abbrev pub row_router : Known → List ℕ → List ℕ → List ℕ → Result Built BuildFault
row_router k name worker options = do
  _ ← free k name
  o ← needed k (kind.Worker ∷ []) worker
  _ ← refused_where outcome.InvalidState (not o.running)
  router_asked k name o options

abbrev pub row_plain : Known → List ℕ → List ℕ → List ℕ → Result Built BuildFault
row_plain k name router options = do
  _ ← free k name
  o ← needed k (kind.Router ∷ []) router
  plain_asked k name o options

abbrev pub row_pipe : Known → List ℕ → List ℕ → List ℕ → Result Built BuildFault
row_pipe k name router options = do
  _ ← free k name
  o ← needed k (kind.Router ∷ []) router
  pipe_asked k name o options

abbrev pub row_direct : Known → List ℕ → List ℕ → Result Built BuildFault
row_direct k name router = do
  _ ← free k name
  o ← needed k (kind.Router ∷ []) router
  Ok (direct_asked k name o)

abbrev pub row_connect : Known → List ℕ → List ℕ → Result Built BuildFault
row_connect k transport options = do
  o ← needed k (kind.Plain ∷ kind.Pipe ∷ []) transport
  connect_asked k o options

abbrev pub row_produce : Known → List ℕ → List ℕ → List ℕ → Result Built BuildFault
row_produce k name transport options = do
  _ ← free k name
  o ← needed k transports transport
  produce_asked k name o options

abbrev pub row_flag : Known → List ℕ → Bool → Result Built BuildFault
row_flag k name paused = do
  o ← needed k streams name
  flag_asked k o paused

abbrev pub row_can_consume : Known → List ℕ → List ℕ → Result Built BuildFault
row_can_consume k producer caps = do
  o ← needed k (kind.Producer ∷ []) producer
  can_consume_asked k o caps

abbrev pub row_consume : Known → List ℕ → List ℕ → List ℕ → List ℕ → Result Built BuildFault
row_consume k name transport producer options = do
  _ ← free k name
  t ← or_refused outcome.NoName (named k.objects transport)
  p ← or_refused outcome.NoName (named k.objects producer)
  _ ← refused_where outcome.WrongKind (not (is_one_of transports t) || not (is_one_of (kind.Producer ∷ []) p))
  _ ← refused_where outcome.InvalidState ((is_shut k t || is_shut k p) || not (are_same t.parent (router_of k.objects p)))
  consume_asked k name t p options

abbrev pub row_close : Known → List ℕ → Result Built BuildFault
row_close k name = or_refused outcome.NoName (named k.objects name) >>= (λ _. is_own)

abbrev pub row_send : Known → List ℕ → List ℕ → Result Built BuildFault
row_send k producer packet = do
  p ← or_refused outcome.NoName (named k.objects producer)
  _ ← refused_where outcome.WrongKind (not (is_one_of (kind.Producer ∷ []) p) || not (is_there kind.Direct (above k.objects p)))
  _ ← refused_where outcome.InvalidState (is_shut k p)
  _ ← refused_where (outcome.TypeError code.Packet) (nat_lt max_packet (length packet))
  is_own

abbrev pub row_pipe_router : Known → List ℕ → List ℕ → List ℕ → Result Built BuildFault
row_pipe_router k name producer router = do
  _ ← refused_where outcome.NameTaken (list_any (is_taken k) (four_names name))
  p ← or_refused outcome.NoName (named k.objects producer)
  r ← or_refused outcome.NoName (named k.objects router)
  _ ← refused_where outcome.WrongKind (not (is_one_of (kind.Producer ∷ []) p) || not (is_one_of (kind.Router ∷ []) r))
  _ ← refused_where outcome.InvalidState (is_shut k p || is_shut k r)
  _ ← refused_where (outcome.TypeError code.SameRouter) (are_same (Some r.serial) (router_of k.objects p))
  is_own
