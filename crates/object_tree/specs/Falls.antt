-- Which objects fall with others, and for which reasons they close. This project's own.
use Rattle.std.specs.Prelude.{ℕ, zero, suc, List, [], ◌∷◌, map, filter, length, Bool, false, ◌&&◌, ◌||◌, if◌then◌else◌, Option, Some, None, option_map, IsTrue, Contains}
use Rattle.std.specs.List.{list_any}
use Rattle.ms_base.specs.Kinds.{same_kind}
use Rattle.ms_base.specs.declared.keys.Kind.{Kind}
use Rattle.ms_base.specs.declared.keys.Kind.TheVariants as kind
use Rattle.ms_base.specs.declared.keys.Reason.{Reason}
use Rattle.ms_base.specs.declared.keys.Reason.TheVariants as reason
use Rattle.ms_base.specs.declared.keys.Serial.{Serial}
use Rattle.object_tree.specs.declared.object.Object.{Object}
use Rattle.object_tree.specs.Objects.{same_serial, numbered, is_open, is_producer}

abbrev pub is_pipe : Kind → Bool
is_pipe k = same_kind k kind.Pipe

abbrev pub is_consumer : Kind → Bool
is_consumer k = same_kind k kind.Consumer

-- ---- links

-- a field names the object of this serial
abbrev pub is_at : Option Serial → Serial → Bool
is_at None serial = false
is_at (Some s) serial = same_serial s serial

-- x is the parent of y
abbrev pub is_child : Object → Object → Bool
is_child x y = is_at y.parent x.serial

-- x is a transport whose far end is y
abbrev pub has_far_end : Object → Object → Bool
has_far_end x y = is_pipe x.kind && is_at x.far y.serial

-- one is a Consumer, the other a Producer
abbrev pub are_in_and_out : Kind → Kind → Bool
are_in_and_out a b = is_consumer a && is_producer b || is_producer a && is_consumer b

-- they are the Consumer and the Producer of a pipe: one of them, or both, names the other
abbrev pub are_linked : Object → Object → Bool
are_linked x y = are_in_and_out x.kind y.kind && (is_at x.far y.serial || is_at y.far x.serial)

-- where x falls, y falls with it, if it is open
abbrev pub leads : Object → Object → Bool
leads x y = is_child x y || has_far_end x y || are_linked x y

-- ---- falls

abbrev pub is_among : List Serial → Serial → Bool
is_among serials serial = list_any (λ s. same_serial s serial) serials

abbrev pub is_open_root : List Serial → Object → Bool
is_open_root roots o = is_open o && is_among roots o.serial

-- it is an open root, or is open and is reached from one by at most n links of open objects
abbrev pub reached : ℕ → List Object → List Serial → Object → Bool
reached zero objects roots x = is_open_root roots x
reached (suc n) objects roots x = reached n objects roots x || is_open x && list_any (λ y. reached n objects roots y && leads y x) objects

-- no chain without a repetition has more links than there are objects
abbrev pub falls_with : List Object → List Serial → Object → Bool
falls_with objects roots x = reached (length objects) objects roots x

-- the serials of the objects that fall with the roots, in ascending order
abbrev pub falls : List Object → List Serial → List Serial
falls objects roots = map (λ o. o.serial) (filter (falls_with objects roots) objects)

-- A chain of open objects leads to x: those before it, the latest first, down to an open root.
abbrev pub IsChain : List Object → List Serial → Object → List Object → Type 0
IsChain objects roots x [] = IsTrue (is_open_root roots x)
IsChain objects roots x (y ∷ ys) = IsTrue (is_open x) × Contains objects y × IsTrue (leads y x) × IsChain objects roots y ys

-- ---- reasons

-- why an object closes that falls with its parent, by the kind of that
abbrev pub reason_under : Kind → Reason
reason_under kind.Worker = reason.WorkerClose
reason_under kind.Router = reason.RouterClose
reason_under kind.Plain = reason.TransportClose
reason_under kind.Pipe = reason.TransportClose
reason_under kind.Direct = reason.TransportClose
reason_under kind.Producer = reason.TransportClose
reason_under kind.Consumer = reason.TransportClose

-- the kind of an object's parent, where that is one of the fallen
abbrev pub fallen_parent : List Object → List Serial → Option Serial → Option Kind
fallen_parent objects fallen None = None
fallen_parent objects fallen (Some parent) = if is_among fallen parent then option_map (λ p. p.kind) (numbered objects parent) else None

-- why an object closes: its parent falls as well, or it is a root, or the other end of its pipe falls
abbrev pub reason_by : Option Kind → Bool → Reason → Reason
reason_by (Some parent) is_root reason = reason_under parent
reason_by None is_root own = if is_root then own else reason.PipeClose

abbrev pub reason_of : List Object → List Serial → List Serial → Reason → Object → Reason
reason_of objects fallen roots reason o = reason_by (fallen_parent objects fallen o.parent) (is_among roots o.serial) reason

abbrev pub closed_by : Reason → Object → Object
closed_by reason o = record o { closed = Some reason }

-- an open object, closed where it is one of the fallen
abbrev pub closed_if : List Object → List Serial → List Serial → Reason → Object → Object
closed_if objects fallen roots reason o = if is_open o && is_among fallen o.serial then closed_by (reason_of objects fallen roots reason o) o else o

-- the objects, with the fallen closed
abbrev pub with_closed : List Serial → List Serial → Reason → List Object → List Object
with_closed fallen roots reason objects = map (closed_if objects fallen roots reason) objects
