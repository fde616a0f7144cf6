-- Worked rows of the definitions, which compute.
use Rattle.std.specs.Prelude.{ℕ, ◌≡◌, List, [], ◌∷◌, false, Option, Some, None, map, option_map, refl}
use Rattle.ms_base.specs.declared.id.Id.{Id}
use Rattle.ms_base.specs.declared.keys.Kind.{Kind}
use Rattle.ms_base.specs.declared.keys.Kind.TheVariants as kind
use Rattle.ms_base.specs.declared.keys.Reason.TheVariants as reason
use Rattle.ms_base.specs.declared.keys.Serial.{Serial}
use Rattle.object_tree.specs.declared.object.Mark.TheVariants.{Far}
use Rattle.object_tree.specs.declared.object.Object.{Object}
use Rattle.object_tree.specs.Falls.{falls, with_closed}
use Rattle.object_tree.specs.Objects.{named, numbered, open_with_id, with_mark, with_object}

abbrev at : ℕ → Serial
at n = record { 0 = n }

abbrev id : ℕ → Id
id n = record { 0 = n ∷ [] }

-- an open object whose name and id are a number's
abbrev object : ℕ → ℕ → Kind → Option Serial → Option Serial → Object
object serial name kind parent far = record {
  serial = at serial;
  name = name ∷ [];
  id = id name;
  kind = kind;
  parent = parent;
  worker = at 1;
  producer = None;
  closed = None;
  paused = false;
  producer_paused = false;
  running = false;
  far = far;
}

abbrev closed : Object → Object
closed o = record o { closed = Some reason.Close }

-- ---- one more object

abbrev worker : Object
worker = object 1 97 kind.Worker None None

abbrev router : Object
router = object 4 98 kind.Router (Some (at 1)) None

abbrev late : Object
late = object 3 98 kind.Router (Some (at 1)) None

-- an object that comes late stands at its place
pub placed-row : with_object late (worker ∷ router ∷ []) ≡ worker ∷ late ∷ router ∷ []
placed-row = refl

-- its name belongs to the greater serial all the same
pub named-row : named (worker ∷ late ∷ router ∷ []) (98 ∷ []) ≡ Some router
named-row = refl

-- a closed object keeps its name, and its id is free
pub closed-name-row : named (worker ∷ late ∷ closed router ∷ []) (98 ∷ []) ≡ Some (closed router)
closed-name-row = refl

pub open-id-row : open_with_id (worker ∷ late ∷ closed router ∷ []) (at 1) kind.Router (id 98) ≡ Some late
open-id-row = refl

pub other-kind-row : open_with_id (worker ∷ late ∷ []) (at 1) kind.Plain (id 98) ≡ None
other-kind-row = refl

-- ---- falls

-- a Router (1) with a transport (2), a Producer (3) on that, and a Consumer (4) of it on another transport (5)
abbrev media : List Object
media = object 1 97 kind.Router None None ∷ object 2 98 kind.Plain (Some (at 1)) None ∷ object 3 99 kind.Producer (Some (at 2)) None
    ∷ object 4 100 kind.Consumer (Some (at 5)) None ∷ []

pub child-row : falls media (at 2 ∷ []) ≡ at 2 ∷ at 3 ∷ []
child-row = refl

-- a Consumer doesn't fall with its Producer
pub producer-row : falls media (at 3 ∷ []) ≡ at 3 ∷ []
producer-row = refl

pub closed-root-row : falls (map closed media) (at 2 ∷ []) ≡ []
closed-root-row = refl

-- two ends of a pipe between transports, each with the end of a stream on it; the later names the earlier, and the
-- Consumer's field isn't set
abbrev pipe : List Object
pipe = object 1 97 kind.Pipe None (Some (at 2)) ∷ object 2 98 kind.Pipe None (Some (at 1)) ∷ object 3 99 kind.Consumer (Some (at 1)) None
    ∷ object 4 100 kind.Producer (Some (at 2)) (Some (at 3)) ∷ []

pub pipe-row : falls pipe (at 1 ∷ []) ≡ at 1 ∷ at 2 ∷ at 3 ∷ at 4 ∷ []
pipe-row = refl

-- a link is one in either direction, whichever of the two names the other
pub consumer-row : falls pipe (at 3 ∷ []) ≡ at 3 ∷ at 4 ∷ []
consumer-row = refl

pub linked-producer-row : falls pipe (at 4 ∷ []) ≡ at 3 ∷ at 4 ∷ []
linked-producer-row = refl

pub far-row : option_map (λ o. o.far) (numbered (with_mark (at 3) (Far (at 4)) pipe) (at 3)) ≡ Some (Some (at 4))
far-row = refl

-- the reasons of a fall: the root's own, that of the far end, and those by the parents' kinds
pub reason-row : map (λ (o : Object). o.closed) (with_closed (falls pipe (at 1 ∷ [])) (at 1 ∷ []) reason.Died pipe)
    ≡ Some reason.Died ∷ Some reason.PipeClose ∷ Some reason.TransportClose ∷ Some reason.TransportClose ∷ []
reason-row = refl
