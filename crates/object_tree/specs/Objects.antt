-- The objects of the tree, open and closed, as a plain list in ascending order of their serials. This project's own.
use Rattle.std.specs.Prelude.{ℕ, ◌<◌, ⊤, List, [], ◌∷◌, map, reverse, find, Bool, true, not, ◌&&◌, ◌==◌, nat_lt, is_some, if◌then◌else◌, Option, Some, bytes_eq}
use Rattle.std.specs.List.{AllByRecursion}
use Rattle.ms_base.specs.Kinds.{same_kind}
use Rattle.ms_base.specs.declared.id.Id.{Id}
use Rattle.ms_base.specs.declared.keys.Kind.{Kind}
use Rattle.ms_base.specs.declared.keys.Kind.TheVariants as kind
use Rattle.ms_base.specs.declared.keys.Serial.{Serial}
use Rattle.object_tree.specs.declared.object.Mark.{Mark}
use Rattle.object_tree.specs.declared.object.Mark.TheVariants.{Running, Paused, ProducerPaused, Far}
use Rattle.object_tree.specs.declared.object.Object.{Object}

abbrev pub same_serial : Serial → Serial → Bool
same_serial a b = a.0 == b.0

abbrev pub has_serial : Serial → Object → Bool
has_serial serial o = same_serial o.serial serial

-- Each object has a serial of its own, and they stand in order of these: that of each is below those of all behind it.
abbrev pub AreInOrder : List Object → Type 0
AreInOrder [] = ⊤
AreInOrder (x ∷ xs) = AllByRecursion (λ y. x.serial.0 < y.serial.0) xs × AreInOrder xs

-- the object of a serial
abbrev pub numbered : List Object → Serial → Option Object
numbered objects serial = find (has_serial serial) objects

abbrev pub has_name : List ℕ → Object → Bool
has_name name o = bytes_eq o.name name

-- a name belongs to the object of the greatest serial that has it
abbrev pub named : List Object → List ℕ → Option Object
named objects name = find (has_name name) (reverse objects)

abbrev pub is_open : Object → Bool
is_open o = not (is_some o.closed)

abbrev pub same_id : Id → Id → Bool
same_id a b = bytes_eq a.0 b.0

-- it is of this kind, in this worker, and has this id there
abbrev pub has_id : Serial → Kind → Id → Object → Bool
has_id worker kind id o = same_serial worker o.worker && same_kind kind o.kind && same_id id o.id

-- the open object of an id, among those of one worker and one kind
abbrev pub open_with_id : List Object → Serial → Kind → Id → Option Object
open_with_id objects worker kind id = find (λ o. is_open o && has_id worker kind id o) objects

-- A Producer at the end of a pipe has the id of the Producer at its source, so Producers aren't told apart by their ids.
abbrev pub is_producer : Kind → Bool
is_producer k = same_kind k kind.Producer

-- ---- changes

-- one more object, at its place by its serial
abbrev pub with_object : Object → List Object → List Object
with_object o [] = o ∷ []
with_object o (x ∷ xs) = if nat_lt o.serial.0 x.serial.0 then o ∷ x ∷ xs else x ∷ with_object o xs

-- the object with the one field that a mark names changed
abbrev pub marked : Mark → Object → Object
marked Running o = record o { running = true }
marked (Paused paused) o = record o { paused = paused }
marked (ProducerPaused paused) o = record o { producer_paused = paused }
marked (Far far) o = record o { far = Some far }

abbrev pub with_mark : Serial → Mark → List Object → List Object
with_mark serial mark objects = map (λ o. if has_serial serial o then marked mark o else o) objects
