-- What changes leave of the tables by which objects are found.
use Rattle.std.proofs.Common.{◌≡◌, ℕ, List, [], ◌∷◌, Bool, true, false, cond, ◌&&◌, nat_eq, Option, Some, None, bytes_eq, refl, sym, ap, ◌∙◌, inl, inr, subst}
use Rattle.std.proofs.lemmas.Bool.{cases_Bool, and_parts, and_right, eqb-true}
use Rattle.std.specs.BTreeMap.{is_at, insert_entry}
use Rattle.std.specs.List.{AllByRecursion, find}
use Rattle.std.specs.Map.{values_of, remove_entry}
use Rattle.std.specs.Ordering.{nat_cmp}
use Rattle.ms_base.specs.Kinds.{kind_number}
use Rattle.ms_base.specs.declared.id.Id.{Id}
use Rattle.ms_base.specs.declared.keys.Kind.{Kind}
use Rattle.ms_base.specs.declared.keys.Serial.{Serial}
use Rattle.object_tree.specs.declared.children.Children.{Children}
use Rattle.object_tree.specs.declared.ids.Ids.{Ids}
use Rattle.object_tree.specs.declared.names.Names.{Names}
use Rattle.object_tree.specs.declared.object.Object.{Object}
use Rattle.object_tree.specs.Objects.{AreInOrder, has_id, has_serial, is_open, is_producer, named, numbered, open_with_id, with_object}
use Rattle.object_tree.specs.Tables.{AreIndexed, IsFiled, children_of, end_at, has_end, id_key, is_in_way, is_listed, may_be_linked, raised, same_key, serial_at, serial_of}
use Rattle.object_tree.proofs.EntryLemmas.{Entries, all-added, all-found, as_serial, found-numbered, found-too, in-order-added, keyed-inserted, passes-found, removed-inserted, values-inserted}
use Rattle.object_tree.proofs.NameLemmas.{serial_in, serials-added}
use Rattle.object_tree.proofs.TableLemmas.{bytes-same}

-- ---- none is in the way of a new id

in-way-by : (object o : Object) (b : Bool) → is_producer object.kind ≡ b → (b ≡ false → (is_open o && has_id object.worker object.kind object.id o) ≡ false) → is_in_way object o ≡ false
in-way-by object o true e h = rw e (and_right (is_open o) false refl)
in-way-by object o false e h = rw e (h refl)

none-in-way : (object : Object) (xs : List Object) → (is_producer object.kind ≡ false → open_with_id xs object.worker object.kind object.id ≡ None)
    → AllByRecursion (λ (o : Object). is_in_way object o ≡ false) xs
none-in-way object [] none = tt
none-in-way object (x ∷ xs) none =
    let test : Bool = is_open x && has_id object.worker object.kind object.id x in
    let other : is_producer object.kind ≡ false → test ≡ false =
    (λ p. elim (cases_Bool test) [
      | inl t ↦ absurd (let clash : Some x ≡ None = rw t at (none p) in cc)
      | inr f ↦ f
    ])
    in
    (in-way-by object x (is_producer object.kind) refl other, none-in-way object xs (λ p. rw (other p) at (none p)))

all-both : {X : Type 0} (P Q R : X → Type 0) (xs : List X) → ((x : X) → P x → Q x → R x) → AllByRecursion P xs → AllByRecursion Q xs → AllByRecursion R xs
all-both P Q R [] both p q = tt
all-both P Q R (x ∷ xs) both p q = (both x p.0 q.0, all-both P Q R xs both p.1 q.1)

-- ---- tables that tell more

module _ (object : Object) (ids ids' : Ids) (children children' : Children) (ends ends' : List (ℕ × ℕ))
    (id-stays : (o : Object) → is_in_way object o ≡ false → is_open o ≡ true → serial_at ids' (id_key o) ≡ serial_at ids (id_key o))
    (parent-stays : (p s : ℕ) → is_listed (children_of children p) s ≡ true → is_listed (children_of children' p) s ≡ true)
    (end-stays : (a s : ℕ) → has_end ends a s ≡ true → has_end ends' a s ≡ true) where
  filed-kept : (o : Object) → is_in_way object o ≡ false → IsFiled ids children ends o → IsFiled ids' children' ends' o
  filed-kept o apart h = record {
    id = λ opened other. id-stays o apart opened ∙ h.id opened other;
    parent = λ parent e. parent-stays parent.0 o.serial.0 (h.parent parent e);
    end = λ linked. end-stays (end_at o) o.serial.0 (h.end linked);
  }

  module _ (es : Entries) (names : Names) (seen : List Object) (is : values_of es ≡ seen)
      (none : is_producer object.kind ≡ false → open_with_id seen object.worker object.kind object.id ≡ None) where
    not-in-way : AllByRecursion (λ (o : Object). is_in_way object o ≡ false) (values_of es)
    not-in-way = none-in-way object (values_of es) (λ p. ap (λ xs. open_with_id xs object.worker object.kind object.id) is ∙ none p)

    pub indexed-kept : AreIndexed es names ids children ends → AreIndexed es names ids' children' ends'
    indexed-kept h = record {
      keyed = h.keyed;
      rising = h.rising;
      serials = h.serials;
      filed = all-both _ _ (IsFiled ids' children' ends') (values_of es) filed-kept not-in-way h.filed;
    }

-- the tables tell what they told
pub names-kept : (es : Entries) (names names' : Names) (ids : Ids) (children : Children) (ends : List (ℕ × ℕ)) → ((name : List ℕ) → serial_of names' name ≡ serial_of names name)
    → AreIndexed es names ids children ends → AreIndexed es names' ids children ends
names-kept es names names' ids children ends same h = record {
  keyed = h.keyed;
  rising = h.rising;
  serials = λ name. same name ∙ h.serials name;
  filed = h.filed;
}

-- ---- one more object

module _ (o : Object) (n : ℕ) (own : n ≡ o.serial.0) (es fs : Entries) (names : Names) (ids : Ids) (children : Children) (ends : List (ℕ × ℕ))
    (h : AreIndexed es names ids children ends) (seen : List Object) (is : values_of es ≡ seen) (fresh : numbered seen o.serial ≡ None) (after : fs ≡ insert_entry nat_cmp es n o) where
  none : numbered (values_of es) o.serial ≡ None
  none = ap (λ xs. numbered xs o.serial) is ∙ fresh

  values-added : values_of fs ≡ with_object o (values_of es)
  values-added = ap values_of after ∙ values-inserted o n own es h.keyed none

  pub seen-added : values_of fs ≡ with_object o seen
  seen-added = values-added ∙ ap (with_object o) is

  pub indexed-added : (names' : Names) (name : List ℕ) → name ≡ o.name → ((other : List ℕ) → serial_of names' other ≡ raised name n other (serial_of names other))
      → (is_producer o.kind ≡ false → serial_at ids (id_key o) ≡ Some o.serial.0)
      → ((parent : Serial) → o.parent ≡ Some parent → is_listed (children_of children parent.0) o.serial.0 ≡ true)
      → (may_be_linked o.kind ≡ true → has_end ends (end_at o) o.serial.0 ≡ true) → AreIndexed fs names' ids children ends
  indexed-added names' name called raise id parent end = record {
    keyed = subst (AllByRecursion (λ (e : ℕ × Object). e.0 ≡ e.1.serial.0)) (sym after) (keyed-inserted o n own es h.keyed none);
    rising = subst AreInOrder (sym values-added) (in-order-added o (values_of es) none h.rising);
    serials = λ other.
        raise other
        ∙ (ap (λ (m : List ℕ). raised m n other (serial_of names other)) called
        ∙ (ap (λ (k : ℕ). raised o.name k other (serial_of names other)) own
        ∙ (ap (raised o.name o.serial.0 other) (h.serials other)
        ∙ (sym (serials-added o (values_of es) other h.rising none)
        ∙ sym (ap (λ xs. serial_in (named xs other)) values-added)))));
    filed = subst (AllByRecursion (IsFiled ids children ends)) (sym values-added)
        (all-added (IsFiled ids children ends) o (values_of es) (record { id = λ opened other. id other; parent = parent; end = end }) h.filed);
  }

  pub entries-removed : (gs : Entries) → gs ≡ remove_entry (is_at (nat_cmp n)) fs → gs ≡ es
  entries-removed gs e = e ∙ (ap (remove_entry (is_at (nat_cmp n))) after ∙ removed-inserted o n own es h.keyed none)

-- the same objects under other tables
pub entries-kept : (es fs : Entries) (names : Names) (ids : Ids) (children : Children) (ends : List (ℕ × ℕ)) → fs ≡ es → AreIndexed es names ids children ends → AreIndexed fs names ids children ends
entries-kept es fs names ids children ends e h = subst (λ gs. AreIndexed gs names ids children ends) (sym e) h

-- ---- by id

key-same : (a b : ℕ × ℕ × List ℕ) → same_key a b ≡ true → a ≡ b
key-same a b h =
    let parts = and_parts (nat_eq a.0 b.0 && nat_eq a.1 b.1) (bytes_eq a.2 b.2) h in
    let more = and_parts (nat_eq a.0 b.0) (nat_eq a.1 b.1) parts.0 in
    let first = eqb-true a.0 b.0 more.0 in
    let second = eqb-true a.1 b.1 more.1 in
    let third = bytes-same a.2 b.2 parts.1 in
    λ i. (first i, second i, third i)

abbrev pub key_of : Serial → Kind → Id → ℕ × ℕ × List ℕ
key_of worker kind id = (worker.0, kind_number kind, id.0)

abbrev pub is_open_with : Serial → Kind → Id → Object → Bool
is_open_with worker kind id o = is_open o && has_id worker kind id o

abbrev pub checked : (Object → Bool) → Option Object → Option Object
checked test None = None
checked test (Some o) = cond (test o) (Some o) None

abbrev pub looked_up : (Object → Bool) → List Object → Option ℕ → Option Object
looked_up test xs None = None
looked_up test xs (Some s) = checked test (numbered xs (as_serial s))

module _ (es : Entries) (names : Names) (ids : Ids) (children : Children) (ends : List (ℕ × ℕ)) (h : AreIndexed es names ids children ends)
    (worker : Serial) (kind : Kind) (id : Id) (other : is_producer kind ≡ false) where
  abbrev test : Object → Bool
  test = is_open_with worker kind id

  -- an open object of this id is the one that is found by it
  at-key : (o : Object) → find test (values_of es) ≡ Some o → serial_at ids (key_of worker kind id) ≡ Some o.serial.0
  at-key o e =
      let filed = all-found (IsFiled ids children ends) test (values_of es) o h.filed e in
      let parts = and_parts (is_open o) (has_id worker kind id o) (passes-found test (values_of es) o e) in
      let key : key_of worker kind id ≡ id_key o = key-same (key_of worker kind id) (id_key o) parts.1 in
      let producer : is_producer o.kind ≡ false = ap (λ (k : ℕ × ℕ × List ℕ). nat_eq k.1 5) (sym key) ∙ other in
      ap (serial_at ids) key ∙ filed.id parts.0 producer

  checked-found : (o : Object) → find test (values_of es) ≡ Some o → checked test (numbered (values_of es) o.serial) ≡ Some o
  checked-found o e = ap (checked test) (found-numbered test (values_of es) o h.rising e) ∙ (let t = passes-found test (values_of es) o e in rw t refl)

  none-checked : (x : Option Object) (s : Serial) → find test (values_of es) ≡ None → numbered (values_of es) s ≡ x → None ≡ checked test x
  none-checked None s none e = refl
  none-checked (Some x) s none e = elim (cases_Bool (test x)) [
    | inl t ↦ (let (y, there) = found-too (has_serial s) test (values_of es) x e t in absurd (let clash : Some y ≡ None = sym there ∙ none in cc))
    | inr f ↦ rw f refl
  ]

  by-id-of : (f : Option Object) (s : Option ℕ) → find test (values_of es) ≡ f → serial_at ids (key_of worker kind id) ≡ s → f ≡ looked_up test (values_of es) s
  by-id-of None None e k = refl
  by-id-of None (Some s) e k = none-checked (numbered (values_of es) (as_serial s)) (as_serial s) e refl
  by-id-of (Some o) s e k =
      let at : s ≡ Some o.serial.0 = sym k ∙ at-key o e in
      sym (ap (looked_up test (values_of es)) at ∙ checked-found o e)

  pub by-id : (seen : List Object) → values_of es ≡ seen → open_with_id seen worker kind id ≡ looked_up test (values_of es) (serial_at ids (key_of worker kind id))
  by-id seen is = ap (λ xs. open_with_id xs worker kind id) (sym is) ∙ by-id-of (open_with_id (values_of es) worker kind id) (serial_at ids (key_of worker kind id)) refl refl
