-- How the code lets a fall spread: a set of serials grows, round by round. This project's own.
use Rattle.std.specs.Prelude.{◌≡◌, ◌⊎◌, ℕ, List, Bool, true, false, ◌&&◌, Option, Some, None}
use Rattle.std.specs.BTreeMap.{BTreeMap}
use Rattle.std.specs.BTreeSet.{BTreeSet, contains}
use Rattle.std.specs.List.{list_any}
use Rattle.std.specs.Map.{values_of}
use Rattle.std.specs.Ordering.{nat_cmp}
use Rattle.ms_base.specs.declared.keys.Serial.{Serial}
use Rattle.object_tree.specs.declared.children.Children.{Children}
use Rattle.object_tree.specs.declared.fall.Fall.{Fall}
use Rattle.object_tree.specs.declared.object.Object.{Object}
use Rattle.object_tree.specs.Falls.{leads}
use Rattle.object_tree.specs.Objects.{is_open, numbered}
use Rattle.object_tree.specs.Tables.{children_of, end_at, has_end, is_listed, may_be_linked}

-- the object of a serial
abbrev pub at : BTreeMap ℕ Object → ℕ → Option Object
at objects n = numbered (values_of objects.entries) (record { 0 = n })

-- whether a set of serials has this one
abbrev pub is_in : BTreeSet ℕ → ℕ → Bool
is_in serials n = contains nat_cmp serials n

-- A fall has grown by the wanted objects, and those that are new in it are listed as well.
pub record Grows (find : ℕ → Option Object) (want : Object → Bool) (old new : Fall) : Type 0 where
  pub kept : (n : ℕ) → is_in old.serials n ≡ true → is_in new.serials n ≡ true
  pub sound : (n : ℕ) → is_in new.serials n ≡ true → (is_in old.serials n ≡ true) ⊎ ((y : Object) × (find n ≡ Some y) × (want y ≡ true))
  pub complete : (n : ℕ) (y : Object) → find n ≡ Some y → want y ≡ true → is_in new.serials n ≡ true
  pub listed : (n : ℕ) → is_in new.serials n ≡ true → (is_in old.serials n ≡ true) ⊎ (is_listed new.latest.items n ≡ true)
  pub stays : (n : ℕ) → is_listed old.latest.items n ≡ true → is_listed new.latest.items n ≡ true
  pub among : (n : ℕ) → is_listed new.latest.items n ≡ true → (is_listed old.latest.items n ≡ true) ⊎ (is_in new.serials n ≡ true)

-- A serial is in a fall now, and is listed there where it is new.
pub record Inserts (serial : ℕ) (old new : Fall) : Type 0 where
  pub has : is_in new.serials serial ≡ true
  pub kept : (n : ℕ) → is_in old.serials n ≡ true → is_in new.serials n ≡ true
  pub sound : (n : ℕ) → is_in new.serials n ≡ true → (is_in old.serials n ≡ true) ⊎ (serial ≡ n)
  pub listed : (n : ℕ) → is_in new.serials n ≡ true → (is_in old.serials n ≡ true) ⊎ (is_listed new.latest.items n ≡ true)
  pub stays : (n : ℕ) → is_listed old.latest.items n ≡ true → is_listed new.latest.items n ≡ true
  pub among : (n : ℕ) → is_listed new.latest.items n ≡ true → (is_listed old.latest.items n ≡ true) ⊎ (is_in new.serials n ≡ true)

-- A fall has the objects that pass a test, and lists each from which a link leads out of it.
pub record Reaches (find : ℕ → Option Object) (test : Object → Bool) (fall : Fall) : Type 0 where
  pub all : (n : ℕ) → is_in fall.serials n ≡ true → (y : Object) × (find n ≡ Some y) × (test y ≡ true)
  pub each : (n : ℕ) (y : Object) → find n ≡ Some y → test y ≡ true → is_in fall.serials n ≡ true
  pub leading : (m n : ℕ) (x y : Object) → find m ≡ Some x → test x ≡ true → find n ≡ Some y → is_open y ≡ true → leads x y ≡ true
      → (is_in fall.serials n ≡ true) ⊎ (is_listed fall.latest.items m ≡ true)
  pub latest : (n : ℕ) → is_listed fall.latest.items n ≡ true → is_in fall.serials n ≡ true

-- Each object is listed under its parent, and under what it names as the other of its pipe.
pub record AreFound (find : ℕ → Option Object) (children : Children) (ends : List (ℕ × ℕ)) : Type 0 where
  pub parent : (n : ℕ) (y : Object) (parent : Serial) → find n ≡ Some y → y.parent ≡ Some parent → is_listed (children_of children parent.0) n ≡ true
  pub end : (n : ℕ) (y : Object) → find n ≡ Some y → may_be_linked y.kind ≡ true → has_end ends (end_at y) n ≡ true

-- a link leads from an object, if there is one, to another
abbrev pub leads_from : Option Object → Object → Bool
leads_from None y = false
leads_from (Some x) y = leads x y

-- an open object to which a link leads from one of these
abbrev pub is_led : (ℕ → Option Object) → List ℕ → Object → Bool
is_led find serials y = is_open y && list_any (λ n. leads_from (find n) y) serials

-- A fall has spread from those that were new in it, and has the new ones listed in their place.
pub record Spreads (find : ℕ → Option Object) (old new : Fall) : Type 0 where
  pub kept : (n : ℕ) → is_in old.serials n ≡ true → is_in new.serials n ≡ true
  pub sound : (n : ℕ) → is_in new.serials n ≡ true → (is_in old.serials n ≡ true) ⊎ ((y : Object) × (find n ≡ Some y) × (is_led find old.latest.items y ≡ true))
  pub complete : (n : ℕ) (y : Object) → find n ≡ Some y → is_led find old.latest.items y ≡ true → is_in new.serials n ≡ true
  pub listed : (n : ℕ) → is_in new.serials n ≡ true → (is_in old.serials n ≡ true) ⊎ (is_listed new.latest.items n ≡ true)
  pub among : (n : ℕ) → is_listed new.latest.items n ≡ true → is_in new.serials n ≡ true
