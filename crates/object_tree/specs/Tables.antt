-- How the code finds objects: by name, by id, by parent and by the far ends of pipes. This project's own.
use Rattle.std.specs.Prelude.{◌≡◌, ℕ, List, [], Bool, true, false, not, ◌==◌, ◌&&◌, ◌||◌, Option, Some, None, option_map, Vec, if◌then◌else◌, nat_lt, nat_le, bytes_eq}
use Rattle.std.specs.BTreeMap.{get_by}
use Rattle.std.specs.Cmp.Lexicographic.{slice_cmp}
use Rattle.std.specs.HashMap as hash
use Rattle.std.specs.List.{AllByRecursion, list_any}
use Rattle.std.specs.List.Sorted.{IsNonDecreasingBy, IsPartitionPoint}
use Rattle.std.specs.Map.{values_of}
use Rattle.std.specs.Ordering.{nat_cmp}
use Rattle.ms_base.specs.Kinds.{kind_number}
use Rattle.ms_base.specs.declared.keys.Kind.{Kind}
use Rattle.ms_base.specs.declared.keys.Reason.{Reason}
use Rattle.ms_base.specs.declared.keys.Serial.{Serial}
use Rattle.object_tree.specs.declared.children.Children.{Children}
use Rattle.object_tree.specs.declared.ids.Ids.{Ids}
use Rattle.object_tree.specs.declared.names.Names.{Names}
use Rattle.object_tree.specs.declared.object.Object.{Object}
use Rattle.object_tree.specs.Falls.{closed_by, is_consumer}
use Rattle.object_tree.specs.Objects.{AreInOrder, has_serial, is_open, is_producer, has_id, named}

-- ---- names

-- the serial of a name
abbrev pub serial_of : Names → List ℕ → Option ℕ
serial_of names name = get_by (λ key. slice_cmp nat_cmp name key.items) names.serials

-- the greater of a serial and another, if there is one
abbrev pub greatest : ℕ → Option ℕ → Option ℕ
greatest serial None = Some serial
greatest serial (Some other) = if nat_lt other serial then Some serial else Some other

-- the serial of a name after an object of this name and serial came, which was another before
abbrev pub raised : List ℕ → ℕ → List ℕ → Option ℕ → Option ℕ
raised own serial name before = if bytes_eq own name then greatest serial before else before

-- ---- ids

abbrev pub same_key : ℕ × ℕ × List ℕ → ℕ × ℕ × List ℕ → Bool
same_key a b = (a.0 == b.0) && (a.1 == b.1) && bytes_eq a.2 b.2

abbrev pub id_key : Object → ℕ × ℕ × List ℕ
id_key o = (o.worker.0, kind_number o.kind, o.id.0)

-- the serial of the latest object of a worker, a kind and an id
abbrev pub serial_at : Ids → ℕ × ℕ × List ℕ → Option ℕ
serial_at ids key = hash.get same_key ids.serials key

-- ---- children

abbrev pub items_of : {Y : Type 0} → Option (Vec ℕ Y) → List ℕ
items_of None = []
items_of (Some items) = items.items

-- the serials under a parent's
abbrev pub children_of : Children → ℕ → List ℕ
children_of children parent = items_of (hash.get (λ a b. a == b) children.serials parent)

abbrev pub is_listed : List ℕ → ℕ → Bool
is_listed serials serial = list_any (λ s. s == serial) serials

-- ---- far ends

-- a Consumer or a Producer
abbrev pub may_be_linked : Kind → Bool
may_be_linked k = is_consumer k || is_producer k

abbrev pub far_or : Serial → Option Serial → ℕ
far_or own None = own.0
far_or own (Some far) = far.0

-- where an object stands among the far ends: at the serial that it names, and at its own where it names none
abbrev pub end_at : Object → ℕ
end_at o = far_or o.serial o.far

abbrev pub is_end : ℕ → ℕ → ℕ × ℕ → Bool
is_end at serial e = e.0 == at && (e.1 == serial)

-- an object of this serial stands there
abbrev pub has_end : List (ℕ × ℕ) → ℕ → ℕ → Bool
has_end ends at serial = list_any (is_end at serial) ends

-- a list of pairs has this serial
abbrev pub is_listed_end : List (ℕ × ℕ) → ℕ → Bool
is_listed_end ends serial = list_any (λ e. e.1 == serial) ends

-- they stand in order of where they stand
abbrev pub AreOrdered : List (ℕ × ℕ) → Type 0
AreOrdered ends = IsNonDecreasingBy (λ (e : ℕ × ℕ). e.0) ends

-- all before the place stand at this serial or a smaller one, all from it on at a greater
abbrev pub IsEndPlace : ℕ → List (ℕ × ℕ) → ℕ → Type 0
IsEndPlace at ends place = IsPartitionPoint (λ (e : ℕ × ℕ). nat_le e.0 at ≡ true) (λ (e : ℕ × ℕ). nat_le e.0 at ≡ false) ends place

-- all before the place stand at a smaller serial, all from it on at this or a greater one
abbrev pub IsStartPlace : ℕ → List (ℕ × ℕ) → ℕ → Type 0
IsStartPlace at ends place = IsPartitionPoint (λ (e : ℕ × ℕ). nat_lt e.0 at ≡ true) (λ (e : ℕ × ℕ). nat_lt e.0 at ≡ false) ends place

-- ---- the three for one object

-- An object is found by its id, while it is open; by its parent; and by what it names. More may be found than there is:
-- whoever looks up looks at the object as well.
pub record IsFiled (ids : Ids) (children : Children) (ends : List (ℕ × ℕ)) (o : Object) : Type 0 where
  pub id : is_open o ≡ true → is_producer o.kind ≡ false → serial_at ids (id_key o) ≡ Some o.serial.0
  pub parent : (parent : Serial) → o.parent ≡ Some parent → is_listed (children_of children parent.0) o.serial.0 ≡ true
  pub end : may_be_linked o.kind ≡ true → has_end ends (end_at o) o.serial.0 ≡ true

-- it is open, and has the id that another is to be found by
abbrev pub is_in_way : Object → Object → Bool
is_in_way object o = is_open o && (not (is_producer object.kind) && has_id object.worker object.kind object.id o)

-- ---- all of them

-- each object stands under its serial
abbrev pub AreKeyed : List (ℕ × Object) → Type 0
AreKeyed entries = AllByRecursion (λ e. e.0 ≡ e.1.serial.0) entries

-- the object of this serial is changed
abbrev pub change_at : (Object → Object) → Serial → Object → Object
change_at g serial o = if has_serial serial o then g o else o

-- an open object is closed, for a reason of its own
abbrev pub close_open : (Object → Reason) → Object → Object
close_open reason o = if is_open o then closed_by (reason o) o else o

-- Objects stand under their serials, which rise; a name has the greatest serial of an object of this name; and each object
-- is found.
pub record AreIndexed (entries : List (ℕ × Object)) (names : Names) (ids : Ids) (children : Children) (ends : List (ℕ × ℕ)) : Type 0 where
  pub keyed : AreKeyed entries
  pub rising : AreInOrder (values_of entries)
  pub serials : (name : List ℕ) → serial_of names name ≡ option_map (λ o. o.serial.0) (named (values_of entries) name)
  pub filed : AllByRecursion (IsFiled ids children ends) (values_of entries)

-- ---- serials

abbrev pub AreAscending : List Serial → Type 0
AreAscending serials = IsNonDecreasingBy (λ (s : Serial). s.0) serials
