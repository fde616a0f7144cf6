-- Objects that are marked or closed: what is seen of them, and what the tables tell of them.
use Rattle.std.proofs.Common.{◌≡◌, ◌<◌, ℕ, ◌+◌, List, [], ◌∷◌, Bool, true, false, cond, ◌&&◌, ◌||◌, nat_eq, Option, Some, None, option_map, refl, sym, ap, ◌∙◌, arith, inl, inr, map, subst, length, get_or, take}
use Rattle.std.proofs.lemmas.Bool.{cases_Bool, eqb-true, eq-eqb, ne_eqb, false_from_ne_true}
use Rattle.std.proofs.lemmas.List.Folds.{list_any_more}
use Rattle.std.specs.BTreeMap.{is_at}
use Rattle.std.specs.List.{AllByRecursion}
use Rattle.std.specs.Map.{values_of, set_value, lookup}
use Rattle.std.specs.Option.{is_some}
use Rattle.std.specs.Ordering.{nat_cmp}
use Rattle.ms_base.specs.declared.keys.Kind.{Kind}
use Rattle.ms_base.specs.declared.keys.Reason.{Reason}
use Rattle.ms_base.specs.declared.keys.Serial.{Serial}
use Rattle.object_tree.specs.declared.children.Children.{Children}
use Rattle.object_tree.specs.declared.ids.Ids.{Ids}
use Rattle.object_tree.specs.declared.names.Names.{Names}
use Rattle.object_tree.specs.declared.object.Mark.{Mark}
use Rattle.object_tree.specs.declared.object.Mark.TheVariants.{Running, Paused, ProducerPaused, Far}
use Rattle.object_tree.specs.declared.object.Object.{Object}
use Rattle.object_tree.specs.Falls.{closed_by, fallen_parent, is_among, reason_by, reason_of}
use Rattle.object_tree.specs.Objects.{AreInOrder, has_serial, is_open, marked, named, numbered, same_serial, with_mark}
use Rattle.object_tree.specs.Tables.{AreIndexed, AreKeyed, IsFiled, change_at, close_open, end_at, has_end, may_be_linked}
use Rattle.object_tree.proofs.EntryLemmas.{Entries, all-found, all-mapped, in-order-mapped, keyed-set, lookup-numbered, passes-found, unchanged-none, unchanged-one, values-set}
use Rattle.object_tree.proofs.NameLemmas.{serial_in, serials-mapped}

pub flipped : (a b : ℕ) → nat_eq a b ≡ nat_eq b a
flipped a b = elim (cases_Bool (nat_eq b a)) [
  | inl t ↦ eq-eqb a b (sym (eqb-true b a t)) ∙ sym t
  | inr f ↦ false_from_ne_true (nat_eq a b) (λ u. absurd (let clash : true ≡ false = sym (eq-eqb b a (sym (eqb-true a b u))) ∙ f in cc)) ∙ sym f
]

-- ---- one object of a map is changed

module _ (g : Object → Object) (same : (x : Object) → (g x).serial ≡ x.serial) (serial : Serial) (es fs : Entries) (o w : Object) (keyed : AreKeyed es) (rising : AreInOrder (values_of es))
    (there : Some o ≡ lookup (is_at (nat_cmp serial.0)) es) (is : w ≡ g o) (after : fs ≡ set_value (is_at (nat_cmp serial.0)) es w) where
  found : numbered (values_of es) serial ≡ Some o
  found = sym (lookup-numbered serial.0 es keyed) ∙ sym there

  pub keyed-changed : AreKeyed fs
  keyed-changed =
      let own : o.serial.0 ≡ serial.0 = eqb-true o.serial.0 serial.0 (passes-found (has_serial serial) (values_of es) o found) in
      subst AreKeyed (sym after) (keyed-set serial.0 es w keyed (ap (λ (x : Object). x.serial.0) is ∙ (ap (λ (s : Serial). s.0) (same o) ∙ own)))

  pub values-changed : values_of fs ≡ map (change_at g serial) (values_of es)
  values-changed = ap values_of after ∙ (ap (λ (x : Object). values_of (set_value (is_at (nat_cmp serial.0)) es x)) is ∙ values-set g serial.0 es o keyed rising found)

pub values-none : (g : Object → Object) (serial : Serial) (es : Entries) → AreKeyed es → None ≡ lookup (is_at (nat_cmp serial.0)) es → values_of es ≡ map (change_at g serial) (values_of es)
values-none g serial es keyed none = unchanged-none g (values_of es) serial (sym (lookup-numbered serial.0 es keyed) ∙ sym none)

-- the object that a map has under a serial
pub numbered-at : (serial : Serial) (es : Entries) (o : Object) → AreKeyed es → Some o ≡ lookup (is_at (nat_cmp serial.0)) es → numbered (values_of es) serial ≡ Some o
numbered-at serial es o keyed there = sym (lookup-numbered serial.0 es keyed) ∙ sym there

pub values-one : (g : Object → Object) (serial : Serial) (es : Entries) (o : Object) → AreKeyed es → AreInOrder (values_of es) → Some o ≡ lookup (is_at (nat_cmp serial.0)) es → o ≡ g o
    → values_of es ≡ map (change_at g serial) (values_of es)
values-one g serial es o keyed rising there same = unchanged-one g (values_of es) serial o rising (numbered-at serial es o keyed there) same

pub marked-serial : (mark : Mark) (o : Object) → (marked mark o).serial ≡ o.serial
marked-serial Running o = refl
marked-serial (Paused b) o = refl
marked-serial (ProducerPaused b) o = refl
marked-serial (Far s) o = refl

marked-name : (mark : Mark) (o : Object) → (marked mark o).name ≡ o.name
marked-name Running o = refl
marked-name (Paused b) o = refl
marked-name (ProducerPaused b) o = refl
marked-name (Far s) o = refl

pub close-serial : (r : Object → Reason) (o : Object) → (close_open r o).serial ≡ o.serial
close-serial r o = elim (cases_Bool (is_open o)) [
  | inl t ↦ rw t refl
  | inr f ↦ rw f refl
]

change-serial : (g : Object → Object) → ((x : Object) → (g x).serial ≡ x.serial) → (serial : Serial) (o : Object) → (change_at g serial o).serial ≡ o.serial
change-serial g same serial o = elim (cases_Bool (has_serial serial o)) [
  | inl t ↦ rw t (same o)
  | inr f ↦ rw f refl
]

change-name : (g : Object → Object) → ((x : Object) → (g x).name ≡ x.name) → (serial : Serial) (o : Object) → (change_at g serial o).name ≡ o.name
change-name g same serial o = elim (cases_Bool (has_serial serial o)) [
  | inl t ↦ rw t (same o)
  | inr f ↦ rw f refl
]

-- ---- each of a list in order is the one of its serial

all-both : {X : Type 0} (P Q R : X → Type 0) (xs : List X) → ((x : X) → P x → Q x → R x) → AllByRecursion P xs → AllByRecursion Q xs → AllByRecursion R xs
all-both P Q R [] both p q = tt
all-both P Q R (x ∷ xs) both p q = (both x p.0 q.0, all-both P Q R xs both p.1 q.1)

one-behind : (x : Object) (xs : List Object) (y : Object) → x.serial.0 < y.serial.0 → numbered xs y.serial ≡ Some y → numbered (x ∷ xs) y.serial ≡ Some y
one-behind x xs y low h =
    let apart : has_serial y.serial x ≡ false = ne_eqb x.serial.0 y.serial.0 (λ e. omega (arith, e, low)) in
    rw apart h

pub all-numbered : (xs : List Object) → AreInOrder xs → AllByRecursion (λ (y : Object). numbered xs y.serial ≡ Some y) xs
all-numbered [] h = tt
all-numbered (x ∷ xs) h =
    let here : has_serial x.serial x ≡ true = eq-eqb x.serial.0 x.serial.0 refl in (
      rw here refl,
      all-both (λ (y : Object). x.serial.0 < y.serial.0) (λ (y : Object). numbered xs y.serial ≡ Some y) (λ (y : Object). numbered (x ∷ xs) y.serial ≡ Some y) xs
          (one-behind x xs) h.0 (all-numbered xs h.1),
    )

-- ---- marks

module _ (mark : Mark) (serial : Serial) (ids : Ids) (children : Children) (ends ends' : List (ℕ × ℕ)) (xs : List Object)
    (here : (o : Object) → numbered xs serial ≡ Some o → may_be_linked o.kind ≡ true → has_end ends' (end_at (marked mark o)) serial.0 ≡ true)
    (stay : (a s : ℕ) → nat_eq serial.0 s ≡ false → has_end ends a s ≡ true → has_end ends' a s ≡ true) where
  filed-by : (m : Mark) (o : Object) → (may_be_linked o.kind ≡ true → has_end ends' (end_at (marked m o)) o.serial.0 ≡ true) → IsFiled ids children ends o → IsFiled ids children ends' (marked m o)
  filed-by Running o end h = record { id = h.id; parent = h.parent; end = end }
  filed-by (Paused b) o end h = record { id = h.id; parent = h.parent; end = end }
  filed-by (ProducerPaused b) o end h = record { id = h.id; parent = h.parent; end = end }
  filed-by (Far s) o end h = record { id = h.id; parent = h.parent; end = end }

  filed-marked : (o : Object) → numbered xs o.serial ≡ Some o → IsFiled ids children ends o → IsFiled ids children ends' (change_at (marked mark) serial o)
  filed-marked o there h = elim (cases_Bool (has_serial serial o)) [
    | inl t ↦
        (let own : o.serial.0 ≡ serial.0 = eqb-true o.serial.0 serial.0 t in
        let number : o.serial ≡ serial = (λ i. record { 0 = own i }) in
        let found : numbered xs serial ≡ Some o = ap (numbered xs) (sym number) ∙ there in
        rw t (filed-by mark o (λ linked. ap (has_end ends' (end_at (marked mark o))) own ∙ here o found linked) h))
    | inr f ↦
        (let apart : nat_eq serial.0 o.serial.0 ≡ false = flipped serial.0 o.serial.0 ∙ f in
        rw f (record { id = h.id; parent = h.parent; end = λ linked. stay (end_at o) o.serial.0 apart (h.end linked) }))
  ]

  all-filed : (ys : List Object) → AllByRecursion (λ (o : Object). numbered xs o.serial ≡ Some o) ys → AllByRecursion (IsFiled ids children ends) ys
      → AllByRecursion (IsFiled ids children ends') (map (change_at (marked mark) serial) ys)
  all-filed [] n h = tt
  all-filed (y ∷ ys) n h = (filed-marked y n.0 h.0, all-filed ys n.1 h.1)

  pub indexed-marked : (es fs : Entries) (names : Names) → values_of es ≡ xs → AreKeyed fs → values_of fs ≡ with_mark serial mark (values_of es)
      → AreIndexed es names ids children ends → AreIndexed fs names ids children ends'
  indexed-marked es fs names is keyed values h =
      let same = change-serial (marked mark) (marked-serial mark) serial in
      record {
        keyed = keyed;
        rising = subst AreInOrder (sym values) (in-order-mapped (change_at (marked mark) serial) same (values_of es) h.rising);
        serials = λ name.
            h.serials name
            ∙ (sym (serials-mapped (change_at (marked mark) serial) same (change-name (marked mark) (marked-name mark) serial) (values_of es) name)
            ∙ sym (ap (λ ys. serial_in (named ys name)) values));
        filed = subst (AllByRecursion (IsFiled ids children ends')) (sym values)
            (all-filed (values_of es) (subst (λ ys. AllByRecursion (λ (o : Object). numbered ys o.serial ≡ Some o) (values_of es)) is (all-numbered (values_of es) h.rising)) h.filed);
      }

-- ---- falls: the kinds of parents stay

module _ (f : Object → Object) (same : (x : Object) → (f x).serial ≡ x.serial) (kind : (x : Object) → (f x).kind ≡ x.kind) where
  kind-by : (x : Object) (b : Bool) (r s : Option Object) → option_map (λ (o : Object). o.kind) r ≡ option_map (λ (o : Object). o.kind) s
      → option_map (λ (o : Object). o.kind) (cond b (Some (f x)) r) ≡ option_map (λ (o : Object). o.kind) (cond b (Some x) s)
  kind-by x true r s e = ap (λ (k : Kind). Some k) (kind x)
  kind-by x false r s e = e

  kind-mapped : (xs : List Object) (serial : Serial) → option_map (λ (o : Object). o.kind) (numbered (map f xs) serial) ≡ option_map (λ (o : Object). o.kind) (numbered xs serial)
  kind-mapped [] serial = refl
  kind-mapped (x ∷ xs) serial =
      ap (λ (s : Serial). option_map (λ (o : Object). o.kind) (cond (same_serial s serial) (Some (f x)) (numbered (map f xs) serial))) (same x)
      ∙ kind-by x (has_serial serial x) (numbered (map f xs) serial) (numbered xs serial) (kind-mapped xs serial)

  parent-mapped : (xs : List Object) (fallen : List Serial) (parent : Option Serial) → fallen_parent (map f xs) fallen parent ≡ fallen_parent xs fallen parent
  parent-mapped xs fallen None = refl
  parent-mapped xs fallen (Some parent) = ap (λ (k : Option Kind). cond (is_among fallen parent) k None) (kind-mapped xs parent)

  reason-mapped : (xs : List Object) (fallen roots : List Serial) (reason : Reason) (o : Object) → reason_of (map f xs) fallen roots reason o ≡ reason_of xs fallen roots reason o
  reason-mapped xs fallen roots reason o = ap (λ (k : Option Kind). reason_by k (is_among roots o.serial) reason) (parent-mapped xs fallen o.parent)

-- ---- closed one after another

-- an object, closed where it is one of these
abbrev pub closed_among : (Object → Reason) → List Serial → Object → Object
closed_among r done o = cond (is_open o && is_among done o.serial) (closed_by (r o) o) o

closed-by-test : (b : Bool) (r : Reason) (o : Object) → (cond b (closed_by r o) o).serial ≡ o.serial
closed-by-test true r o = refl
closed-by-test false r o = refl

kind-by-test : (b : Bool) (r : Reason) (o : Object) → (cond b (closed_by r o) o).kind ≡ o.kind
kind-by-test true r o = refl
kind-by-test false r o = refl

name-by-test : (b : Bool) (r : Reason) (o : Object) → (cond b (closed_by r o) o).name ≡ o.name
name-by-test true r o = refl
name-by-test false r o = refl

map-none : (f : Object → Object) → ((x : Object) → x ≡ f x) → (xs : List Object) → xs ≡ map f xs
map-none f same [] = refl
map-none f same (x ∷ xs) = ap (λ (y : Object). y ∷ xs) (same x) ∙ ap (λ ys. f x ∷ ys) (map-none f same xs)

map-twice : (f g h : Object → Object) → ((x : Object) → g (f x) ≡ h x) → (xs : List Object) → map g (map f xs) ≡ map h xs
map-twice f g h same [] = refl
map-twice f g h same (x ∷ xs) = ap (λ (y : Object). y ∷ map g (map f xs)) (same x) ∙ ap (λ ys. h x ∷ ys) (map-twice f g h same xs)

none-closed : (r : Object → Reason) (o : Object) → o ≡ closed_among r [] o
none-closed r o = elim (cases_Bool (is_open o)) [
  | inl t ↦ rw t refl
  | inr f ↦ rw f refl
]

pub close-none : (r : Object → Reason) (xs : List Object) → xs ≡ map (closed_among r []) xs
close-none r xs = map-none (closed_among r []) (none-closed r) xs

module _ (r q : Object → Reason) (same : (o : Object) → q o ≡ r o) (done more : List Serial) (serial : Serial)
    (after : (s : Serial) → is_among more s ≡ (is_among done s || same_serial serial s)) where
  more-is : (o : Object) → is_among more o.serial ≡ (is_among done o.serial || has_serial serial o)
  more-is o = after o.serial ∙ ap (λ b. is_among done o.serial || b) (flipped serial.0 o.serial.0)

  one-more : (o : Object) → change_at (close_open q) serial (closed_among r done o) ≡ closed_among r more o
  one-more o = elim (cases_Bool (is_open o)) [
    | inl t ↦ elim (cases_Bool (is_among done o.serial)) [
      | inl a ↦ elim (cases_Bool (has_serial serial o)) [
        | inl u ↦ rw (more-is o) (rw (t, a, u) refl)
        | inr v ↦ rw (more-is o) (rw (t, a, v) refl)
      ]
      | inr b ↦ elim (cases_Bool (has_serial serial o)) [
        | inl u ↦ rw (more-is o) (rw (t, b, u) (rw t (ap (λ (z : Reason). closed_by z o) (same o))))
        | inr v ↦ rw (more-is o) (rw (t, b, v) refl)
      ]
    ]
    | inr f ↦ elim (cases_Bool (has_serial serial o)) [
      | inl u ↦ rw (f, u) (rw f refl)
      | inr v ↦ rw (f, v) refl
    ]
  ]

  pub close-more : (xs : List Object) → map (change_at (close_open q) serial) (map (closed_among r done) xs) ≡ map (closed_among r more) xs
  close-more xs = map-twice (closed_among r done) (change_at (close_open q) serial) (closed_among r more) one-more xs

-- one more is closed
module _ (serials roots : List Serial) (reason : Reason) (xs ys : List Object) (i : ℕ) (within : i < length serials) (serial : Serial) (is : serial ≡ get_or serials i serial) where
  abbrev own : Object → Reason
  own = reason_of xs serials roots reason

  among-more : (s : Serial) → is_among (take (i + 1) serials) s ≡ (is_among (take i serials) s || same_serial serial s)
  among-more s =
      list_any_more (λ (t : Serial). same_serial t s) serials i serial within
      ∙ ap (λ (t : Serial). is_among (take i serials) s || same_serial t s) (sym is)

  pub closed-more : ys ≡ map (closed_among own (take i serials)) xs → map (change_at (close_open (reason_of ys serials roots reason)) serial) ys ≡ map (closed_among own (take (i + 1) serials)) xs
  closed-more e =
      let f : Object → Object = closed_among own (take i serials) in
      let g : List Object → Object → Object = λ zs. change_at (close_open (reason_of zs serials roots reason)) serial in
      ap (λ zs. map (g zs) zs) e
      ∙ close-more own (reason_of (map f xs) serials roots reason)
      (reason-mapped f (λ x. closed-by-test (is_open x && is_among (take i serials) x.serial) (own x) x) (λ x. kind-by-test (is_open x && is_among (take i serials) x.serial) (own x) x) xs serials roots reason)
      (take i serials) (take (i + 1) serials) serial among-more xs

  pub in-order-closed : ys ≡ map (closed_among own (take i serials)) xs → AreInOrder xs → AreInOrder ys
  in-order-closed e h =
      subst AreInOrder (sym e)
      (in-order-mapped (closed_among own (take i serials)) (λ x. closed-by-test (is_open x && is_among (take i serials) x.serial) (own x) x) xs h)

-- ---- the tables once some have closed

module _ (ids : Ids) (children : Children) (ends : List (ℕ × ℕ)) (r : Object → Reason) (done : List Serial) where
  filed-closed : (o : Object) → IsFiled ids children ends o → IsFiled ids children ends (closed_among r done o)
  filed-closed o h = elim (cases_Bool (is_open o && is_among done o.serial)) [
    | inl t ↦ rw t (record { id = λ opened. absurd (let clash : false ≡ true = opened in cc); parent = h.parent; end = h.end })
    | inr f ↦ rw f h
  ]

  pub indexed-closed : (es fs : Entries) (names : Names) → AreKeyed fs → values_of fs ≡ map (closed_among r done) (values_of es) → AreIndexed es names ids children ends
      → AreIndexed fs names ids children ends
  indexed-closed es fs names keyed values h =
      let f : Object → Object = closed_among r done in
      let same : (x : Object) → (f x).serial ≡ x.serial = (λ x. closed-by-test (is_open x && is_among done x.serial) (r x) x) in
      let called : (x : Object) → (f x).name ≡ x.name = (λ x. name-by-test (is_open x && is_among done x.serial) (r x) x) in
      record {
        keyed = keyed;
        rising = subst AreInOrder (sym values) (in-order-mapped f same (values_of es) h.rising);
        serials = λ name. h.serials name ∙ (sym (serials-mapped f same called (values_of es) name) ∙ sym (ap (λ ys. serial_in (named ys name)) values));
        filed = subst (AllByRecursion (IsFiled ids children ends)) (sym values) (all-mapped (IsFiled ids children ends) f filed-closed (values_of es) h.filed);
      }

-- ---- one is closed

pub same-found : (o p : Object) (x : Option Object) → Some o ≡ x → Some p ≡ x → o ≡ p
same-found o p x a b = let e = a ∙ sym b in cc

pub stays-closed : (r : Object → Reason) (o : Object) → is_some o.closed ≡ true → o ≡ close_open r o
stays-closed r o h = rw h refl

-- it is closed, for the reason that it has
pub closes : (r : Object → Reason) (why : Reason) (o p : Object) → o ≡ p → is_some p.closed ≡ false → why ≡ r p → closed_by why o ≡ close_open r o
closes r why o p same opened is =
    let own : why ≡ r o = is ∙ ap r (sym same) in
    let here : is_some o.closed ≡ false = ap (λ (x : Object). is_some x.closed) same ∙ opened in
    rw here (ap (λ (z : Reason). closed_by z o) own)

-- ---- far ends

-- an object that may be linked stands where it should
pub end-there : (serial : Serial) (ids : Ids) (children : Children) (ends : List (ℕ × ℕ)) (xs : List Object) → AllByRecursion (IsFiled ids children ends) xs
    → (o : Object) → numbered xs serial ≡ Some o → may_be_linked o.kind ≡ true → has_end ends (end_at o) serial.0 ≡ true
end-there serial ids children ends xs h o e linked =
    let filed = all-found (IsFiled ids children ends) (has_serial serial) xs o h e in
    let own : o.serial.0 ≡ serial.0 = eqb-true o.serial.0 serial.0 (passes-found (has_serial serial) xs o e) in
    ap (has_end ends (end_at o)) (sym own) ∙ filed.end linked

pub none-there : (serial : Serial) (es : Entries) (o : Object) → AreKeyed es → None ≡ lookup (is_at (nat_cmp serial.0)) es → numbered (values_of es) serial ≡ Some o → ⊥
none-there serial es o keyed none e = let clash : None ≡ Some o = none ∙ (lookup-numbered serial.0 es keyed ∙ e) in cc

pub other-there : (serial : Serial) (es : Entries) (o p : Object) → AreKeyed es → Some p ≡ lookup (is_at (nat_cmp serial.0)) es → numbered (values_of es) serial ≡ Some o → o ≡ p
other-there serial es o p keyed there e = let same = sym e ∙ (sym (lookup-numbered serial.0 es keyed) ∙ sym there) in cc
