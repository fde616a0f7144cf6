-- The table of calls, column by column: the names that a call makes, those that it needs and of which kinds, and when an
-- object is not in a state for it. This project's own.
use Rattle.std.specs.Prelude.{ℕ, ◌≤◌, ⊤, List, [], ◌∷◌, ◌++◌, length, Bool, false, not, ◌||◌, codes, Option, Some, None, option_map, is_some}
use Rattle.std.specs.List.{list_any, list_all}
use Rattle.ms_base.specs.Kinds.{same_kind}
use Rattle.ms_base.specs.declared.keys.Kind.{Kind}
use Rattle.ms_base.specs.declared.keys.Kind.TheVariants as kind
use Rattle.ms_base.specs.declared.keys.Serial.{Serial}
use Rattle.ms_base.specs.declared.op.Op.{Op}
use Rattle.ms_base.specs.declared.op.Op.TheVariants as op
use Rattle.object_tree.specs.declared.object.Object.{Object}
use Rattle.object_tree.specs.Objects.{named, same_serial}
use Rattle.request_build.specs.Known.{Known, above, router_of}

-- ---- names

-- those of the objects that pipe a Producer to another Router
abbrev pub four_names : List ℕ → List (List ℕ)
four_names name = (name ++ codes "_a") ∷ (name ++ codes "_b") ∷ (name ++ codes "_c") ∷ (name ++ codes "_p") ∷ []

-- those that a call is to make
abbrev pub makes : Op → List (List ℕ)
makes (op.Worker name budget) = name ∷ []
makes (op.Router name worker options) = name ∷ []
makes (op.Plain name router options) = name ∷ []
makes (op.Pipe name router options) = name ∷ []
makes (op.Direct name router) = name ∷ []
makes (op.Connect transport options) = []
makes (op.Produce name transport options) = name ∷ []
makes (op.Consume name transport producer options) = name ∷ []
makes (op.Pause name) = []
makes (op.Resume name) = []
makes (op.Close name) = []
makes (op.CanConsume producer caps) = []
makes (op.Send producer packet) = []
makes (op.PipeRouter name producer router) = four_names name

-- a name with two characters behind it is one still
abbrev pub HasShortName : Op → Type 0
HasShortName (op.PipeRouter name producer router) = length name ≤ 62
HasShortName other = ⊤

-- a name is taken where an object has it, open or closed, or a pending call is to make one of it
abbrev pub is_taken : Known → List ℕ → Bool
is_taken k name = is_some (named k.objects name) || k.is_named name

-- ---- the objects that are needed

-- A call with the objects that it needs in place of their names.
pub data Call : Type 0 where
  Worker : Call
  Router : (name : List ℕ) → (worker : Object) → (options : List ℕ) → Call
  Plain : (name : List ℕ) → (router : Object) → (options : List ℕ) → Call
  Pipe : (name : List ℕ) → (router : Object) → (options : List ℕ) → Call
  Direct : (name : List ℕ) → (router : Object) → Call
  Connect : (transport : Object) → (options : List ℕ) → Call
  Produce : (name : List ℕ) → (transport : Object) → (options : List ℕ) → Call
  Consume : (name : List ℕ) → (transport producer : Object) → (options : List ℕ) → Call
  Pause : (stream : Object) → Call
  Resume : (stream : Object) → Call
  Close : (object : Object) → Call
  CanConsume : (producer : Object) → (caps : List ℕ) → Call
  Send : (producer : Object) → (packet : List ℕ) → Call
  PipeRouter : (producer router : Object) → Call

-- the call of two objects, where both are there
abbrev pub of_both : (Object → Object → Call) → Option Object → Option Object → Option Call
of_both call (Some one) (Some other) = Some (call one other)
of_both call (Some one) None = None
of_both call None other = None

-- none where a name that it needs has no object
abbrev pub found : Known → Op → Option Call
found k (op.Worker name budget) = Some Worker
found k (op.Router name worker options) = option_map (λ o. Router name o options) (named k.objects worker)
found k (op.Plain name router options) = option_map (λ o. Plain name o options) (named k.objects router)
found k (op.Pipe name router options) = option_map (λ o. Pipe name o options) (named k.objects router)
found k (op.Direct name router) = option_map (λ o. Direct name o) (named k.objects router)
found k (op.Connect transport options) = option_map (λ o. Connect o options) (named k.objects transport)
found k (op.Produce name transport options) = option_map (λ o. Produce name o options) (named k.objects transport)
found k (op.Consume name transport producer options) = of_both (λ t p. Consume name t p options) (named k.objects transport) (named k.objects producer)
found k (op.Pause name) = option_map Pause (named k.objects name)
found k (op.Resume name) = option_map Resume (named k.objects name)
found k (op.Close name) = option_map Close (named k.objects name)
found k (op.CanConsume producer caps) = option_map (λ o. CanConsume o caps) (named k.objects producer)
found k (op.Send producer packet) = option_map (λ o. Send o packet) (named k.objects producer)
found k (op.PipeRouter name producer router) = of_both PipeRouter (named k.objects producer) (named k.objects router)

-- ---- their kinds

-- An object that a call needs, and the kinds that it may be of.
pub record Need : Type 0 where
  pub object : Object
  pub kinds : List Kind

abbrev pub need : Object → List Kind → Need
need object kinds = record { object = object; kinds = kinds }

abbrev pub transports : List Kind
transports = kind.Plain ∷ kind.Pipe ∷ kind.Direct ∷ []

abbrev pub streams : List Kind
streams = kind.Producer ∷ kind.Consumer ∷ []

-- any object can be closed
abbrev pub needs : Call → List Need
needs Worker = []
needs (Router name worker options) = need worker (kind.Worker ∷ []) ∷ []
needs (Plain name router options) = need router (kind.Router ∷ []) ∷ []
needs (Pipe name router options) = need router (kind.Router ∷ []) ∷ []
needs (Direct name router) = need router (kind.Router ∷ []) ∷ []
needs (Connect transport options) = need transport (kind.Plain ∷ kind.Pipe ∷ []) ∷ []
needs (Produce name transport options) = need transport transports ∷ []
needs (Consume name transport producer options) = need transport transports ∷ need producer (kind.Producer ∷ []) ∷ []
needs (Pause stream) = need stream streams ∷ []
needs (Resume stream) = need stream streams ∷ []
needs (Close object) = []
needs (CanConsume producer caps) = need producer (kind.Producer ∷ []) ∷ []
needs (Send producer packet) = need producer (kind.Producer ∷ []) ∷ []
needs (PipeRouter producer router) = need producer (kind.Producer ∷ []) ∷ need router (kind.Router ∷ []) ∷ []

abbrev pub is_one_of : List Kind → Object → Bool
is_one_of kinds o = list_any (same_kind o.kind) kinds

abbrev pub is_of_kind : Need → Bool
is_of_kind n = is_one_of n.kinds n.object

-- there is one, and it is of this kind
abbrev pub is_there : Kind → Option Object → Bool
is_there of_kind None = false
is_there of_kind (Some o) = same_kind o.kind of_kind

-- packets are given to a Producer on a direct transport alone
abbrev pub is_elsewhere : Known → Call → Bool
is_elsewhere k (Send producer packet) = not (is_there kind.Direct (above k.objects producer))
is_elsewhere k other = false

abbrev pub is_of_wrong_kind : Known → Call → Bool
is_of_wrong_kind k call = not (list_all is_of_kind (needs call)) || is_elsewhere k call

-- ---- their states

abbrev pub is_closed : Need → Bool
is_closed n = is_some n.object.closed

-- both are there and are one
abbrev pub are_same : Option Serial → Option Serial → Bool
are_same (Some a) (Some b) = same_serial a b
are_same (Some a) None = false
are_same None other = false

-- besides a closed one: a Worker that is asked for a Router isn't running; what is to be consumed is of another Router
abbrev pub is_unready : Known → Call → Bool
is_unready k (Router name worker options) = not worker.running
is_unready k (Consume name transport producer options) = not (are_same transport.parent (router_of k.objects producer))
is_unready k other = false

-- an object can be closed in any state, also behind the stop
abbrev pub is_barred : Known → Call → Bool
is_barred k (Close object) = false
is_barred k call = k.stopped || (list_any is_closed (needs call) || is_unready k call)
