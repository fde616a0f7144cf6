-- How a fall grows: object by object, list by list, link by link.
use Rattle.std.proofs.Common.{◌≡◌, ◌<◌, ◌⊎◌, ℕ, ◌+◌, List, Bool, true, false, ◌&&◌, ◌||◌, nat_eq, Option, Some, None, refl, sym, ap, ◌∙◌, inl, inr, length, get_or, take}
use Rattle.std.proofs.lemmas.Bool.{and_parts, and_from, or_cases, or_left, or_right, eqb-true}
use Rattle.std.proofs.lemmas.List.Folds.{list_any_more}
use Rattle.std.specs.List.{AllByRecursion, list_any}
use Rattle.ms_base.specs.declared.keys.Serial.{Serial}
use Rattle.object_tree.specs.declared.children.Children.{Children}
use Rattle.object_tree.specs.declared.fall.Fall.{Fall}
use Rattle.object_tree.specs.declared.ids.Ids.{Ids}
use Rattle.object_tree.specs.declared.object.Object.{Object}
use Rattle.object_tree.specs.Falls.{are_in_and_out, are_linked, has_far_end, is_among, is_at, is_child, is_consumer, is_pipe, leads}
use Rattle.object_tree.specs.Objects.{has_serial, is_open, is_producer, numbered, same_serial}
use Rattle.object_tree.specs.Spread.{AreFound, Grows, Inserts, is_in, leads_from}
use Rattle.object_tree.specs.Tables.{IsFiled, children_of, end_at, far_or, has_end, is_listed, is_listed_end, may_be_linked}
use Rattle.object_tree.proofs.ChangeLemmas.{flipped}
use Rattle.object_tree.proofs.EntryLemmas.{all-found, as_serial, passes-found}

pub of-serial : (xs : List Object) (n : ℕ) (y : Object) → numbered xs (as_serial n) ≡ Some y → y.serial.0 ≡ n
of-serial xs n y e = eqb-true y.serial.0 n (passes-found (has_serial (as_serial n)) xs y e)

-- ---- falls that grow one after another

module _ (find : ℕ → Option Object) where
  pub stays-so : (want : Object → Bool) (f : Fall) → ((n : ℕ) (y : Object) → find n ≡ Some y → want y ≡ true → ⊥) → Grows find want f f
  stays-so want f none = record {
    kept = λ n h. h;
    sound = λ n h. inl h;
    complete = λ n y e w. absurd (none n y e w);
    listed = λ n h. inl h;
    stays = λ n h. h;
    among = λ n h. inl h;
  }

  module _ (one two both : Object → Bool) (f g h : Fall) (a : Grows find one f g) (b : Grows find two g h)
      (split : (n : ℕ) (y : Object) → find n ≡ Some y → both y ≡ true → (one y ≡ true) ⊎ (two y ≡ true))
      (left : (y : Object) → one y ≡ true → both y ≡ true) (right : (y : Object) → two y ≡ true → both y ≡ true) where
    sound-then : (n : ℕ) → is_in h.serials n ≡ true → (is_in f.serials n ≡ true) ⊎ ((y : Object) × (find n ≡ Some y) × (both y ≡ true))
    sound-then n t = elim (b.sound n t) [
      | inl s ↦ elim (a.sound n s) [
        | inl r ↦ inl r
        | inr w ↦ inr (w.0, w.1, left w.0 w.2)
      ]
      | inr w ↦ inr (w.0, w.1, right w.0 w.2)
    ]

    complete-then : (n : ℕ) (y : Object) → find n ≡ Some y → both y ≡ true → is_in h.serials n ≡ true
    complete-then n y e w = elim (split n y e w) [
      | inl u ↦ b.kept n (a.complete n y e u)
      | inr v ↦ b.complete n y e v
    ]

    listed-then : (n : ℕ) → is_in h.serials n ≡ true → (is_in f.serials n ≡ true) ⊎ (is_listed h.latest.items n ≡ true)
    listed-then n t = elim (b.listed n t) [
      | inl s ↦ elim (a.listed n s) [
        | inl r ↦ inl r
        | inr l ↦ inr (b.stays n l)
      ]
      | inr l ↦ inr l
    ]

    among-then : (n : ℕ) → is_listed h.latest.items n ≡ true → (is_listed f.latest.items n ≡ true) ⊎ (is_in h.serials n ≡ true)
    among-then n t = elim (b.among n t) [
      | inl s ↦ elim (a.among n s) [
        | inl r ↦ inl r
        | inr l ↦ inr (b.kept n l)
      ]
      | inr l ↦ inr l
    ]

    pub grows-then : Grows find both f h
    grows-then = record {
      kept = λ n t. b.kept n (a.kept n t);
      sound = sound-then;
      complete = complete-then;
      listed = listed-then;
      stays = λ n t. b.stays n (a.stays n t);
      among = among-then;
    }

  -- the same objects, told by another test
  pub grows-as : (one two : Object → Bool) (f g : Fall) → Grows find one f g → ((n : ℕ) (y : Object) → find n ≡ Some y → two y ≡ true → one y ≡ true)
      → ((y : Object) → one y ≡ true → two y ≡ true) → Grows find two f g
  grows-as one two f g a to from = record {
    kept = a.kept;
    sound = λ n t. elim (a.sound n t) [
      | inl s ↦ inl s
      | inr w ↦ inr (w.0, w.1, from w.0 w.2)
    ];
    complete = λ n y e w. a.complete n y e (to n y e w);
    listed = a.listed;
    stays = a.stays;
    among = a.among;
  }

-- ---- one object

module _ (xs : List Object) (serial : Serial) (test : Object → Bool) where
  abbrev find : ℕ → Option Object
  find n = numbered xs (as_serial n)

  abbrev want : Object → Bool
  want y = test y && has_serial serial y

  here : (n : ℕ) (y : Object) → find n ≡ Some y → want y ≡ true → numbered xs serial ≡ Some y
  here n y e w =
      let own : y.serial.0 ≡ serial.0 = eqb-true y.serial.0 serial.0 (and_parts (test y) (has_serial serial y) w).1 in
      let number : n ≡ serial.0 = sym (of-serial xs n y e) ∙ own in
      ap find (sym number) ∙ e

  pub none-grows : (f : Fall) → numbered xs serial ≡ None → Grows find want f f
  none-grows f none = stays-so find want f (λ n y e w. let clash : None ≡ Some y = sym none ∙ here n y e w in cc)

  pub fails-grows : (f : Fall) (o : Object) → numbered xs serial ≡ Some o → test o ≡ false → Grows find want f f
  fails-grows f o there fails =
      stays-so find want f
      (λ n y e w.
      let same : Some o ≡ Some y = sym there ∙ here n y e w in
      let own : o ≡ y = cc in
      let clash : true ≡ false = sym (and_parts (test y) (has_serial serial y) w).0 ∙ (ap test (sym own) ∙ fails) in
      cc)

  pub one-grows : (f g : Fall) (o : Object) → numbered xs serial ≡ Some o → test o ≡ true → Inserts serial.0 f g → Grows find want f g
  one-grows f g o there passes h = record {
    kept = h.kept;
    sound = λ n t. elim (h.sound n t) [
      | inl s ↦ inl s
      | inr own ↦ inr (o, ap find (sym own) ∙ there, and_from (test o) (has_serial serial o) passes (passes-found (has_serial serial) xs o there))
    ];
    complete = λ n y e w.
        (let number : serial.0 ≡ n = sym (eqb-true y.serial.0 serial.0 (and_parts (test y) (has_serial serial y) w).1) ∙ of-serial xs n y e in
        ap (is_in g.serials) (sym number) ∙ h.has);
    listed = h.listed;
    stays = h.stays;
    among = h.among;
  }

-- ---- a list of objects, one after another

-- A test that asks for one of a list: it grows with the list.
module _ (find : ℕ → Option Object) (test : Object → Bool) (asked : ℕ → Object → Bool) (one : Object → Bool) (i : ℕ)
    (more : (y : Object) → asked (i + 1) y ≡ (asked i y || one y)) (f g h : Fall) where
  abbrev among : ℕ → Object → Bool
  among k y = test y && asked k y

  to-both : (y : Object) → among (i + 1) y ≡ true → (among i y ≡ true) ⊎ ((test y && one y) ≡ true)
  to-both y w =
      let parts = and_parts (test y) (asked (i + 1) y) w in
      elim (or_cases (asked i y) (one y) (sym (more y) ∙ parts.1)) [
        | inl a ↦ inl (and_from (test y) (asked i y) parts.0 a)
        | inr b ↦ inr (and_from (test y) (one y) parts.0 b)
      ]

  from-old : (y : Object) → among i y ≡ true → among (i + 1) y ≡ true
  from-old y w =
      let parts = and_parts (test y) (asked i y) w in
      and_from (test y) (asked (i + 1) y) parts.0 (more y ∙ or_left (asked i y) (one y) parts.1)

  from-one : (y : Object) → (test y && one y) ≡ true → among (i + 1) y ≡ true
  from-one y w =
      let parts = and_parts (test y) (one y) w in
      and_from (test y) (asked (i + 1) y) parts.0 (more y ∙ or_right (asked i y) (one y) parts.1)

  pub grows-more : Grows find (among i) f g → Grows find (λ y. test y && one y) g h → Grows find (among (i + 1)) f h
  grows-more a b = grows-then find (among i) (λ y. test y && one y) (among (i + 1)) f g h a b (λ n y e. to-both y) from-old from-one

pub grows-none : (find : ℕ → Option Object) (test : Object → Bool) (f : Fall) → Grows find (λ y. test y && false) f f
grows-none find test f = stays-so find (λ y. test y && false) f (λ n y e w. let clash : false ≡ true = (and_parts (test y) false w).1 in cc)

-- what the next of a list asks for

pub among-next : (roots : List Serial) (i : ℕ) (d : Serial) → i < length roots → (y : Object)
    → is_among (take (i + 1) roots) y.serial ≡ (is_among (take i roots) y.serial || has_serial (get_or roots i d) y)
among-next roots i d within y =
    list_any_more (λ (s : Serial). same_serial s y.serial) roots i d within
    ∙ ap (λ b. is_among (take i roots) y.serial || b) (flipped (get_or roots i d).0 y.serial.0)

pub listed-next : (serials : List ℕ) (i d : ℕ) → i < length serials → (y : Object)
    → is_listed (take (i + 1) serials) y.serial.0 ≡ (is_listed (take i serials) y.serial.0 || nat_eq y.serial.0 (get_or serials i d))
listed-next serials i d within y =
    list_any_more (λ (s : ℕ). nat_eq s y.serial.0) serials i d within
    ∙ ap (λ b. is_listed (take i serials) y.serial.0 || b) (flipped (get_or serials i d) y.serial.0)

pub end-next : (pairs : List (ℕ × ℕ)) (i : ℕ) (d : ℕ × ℕ) → i < length pairs → (y : Object)
    → is_listed_end (take (i + 1) pairs) y.serial.0 ≡ (is_listed_end (take i pairs) y.serial.0 || nat_eq y.serial.0 (get_or pairs i d).1)
end-next pairs i d within y =
    list_any_more (λ (e : ℕ × ℕ). nat_eq e.1 y.serial.0) pairs i d within
    ∙ ap (λ b. is_listed_end (take i pairs) y.serial.0 || b) (flipped (get_or pairs i d).1 y.serial.0)

pub led-next : (find : ℕ → Option Object) (serials : List ℕ) (i d : ℕ) → i < length serials → (y : Object)
    → list_any (λ n. leads_from (find n) y) (take (i + 1) serials) ≡ (list_any (λ n. leads_from (find n) y) (take i serials) || leads_from (find (get_or serials i d)) y)
led-next find serials i d within y = list_any_more (λ n. leads_from (find n) y) serials i d within

-- ---- where links lead to

at-some : (field : Option Serial) (serial : Serial) → is_at field serial ≡ true → (s : Serial) × (field ≡ Some s) × (s.0 ≡ serial.0)
at-some None serial h = absurd (let clash : false ≡ true = h in cc)
at-some (Some s) serial h = (s, refl, eqb-true s.0 serial.0 h)

linkable : (x y : Object) → are_in_and_out x.kind y.kind ≡ true → may_be_linked y.kind ≡ true
linkable x y h = elim (or_cases (is_consumer x.kind && is_producer y.kind) (is_producer x.kind && is_consumer y.kind) h) [
  | inl a ↦ or_right (is_consumer y.kind) (is_producer y.kind) (and_parts (is_consumer x.kind) (is_producer y.kind) a).1
  | inr b ↦ or_left (is_consumer y.kind) (is_producer y.kind) (and_parts (is_producer x.kind) (is_consumer y.kind) b).1
]

module _ (find : ℕ → Option Object) (children : Children) (ends : List (ℕ × ℕ)) (h : AreFound find children ends) (x : Object)
    (pairs : List (ℕ × ℕ)) (all : (s : ℕ) → has_end ends x.serial.0 s ≡ true → is_listed_end pairs s ≡ true)
    (numbers : (n : ℕ) (y : Object) → find n ≡ Some y → y.serial.0 ≡ n) where
  child-listed : (n : ℕ) (y : Object) → find n ≡ Some y → is_child x y ≡ true → is_listed (children_of children x.serial.0) y.serial.0 ≡ true
  child-listed n y e t =
      let (s, named, same) = at-some y.parent x.serial t in
      ap (is_listed (children_of children x.serial.0)) (numbers n y e) ∙ (ap (λ p. is_listed (children_of children p) n) (sym same) ∙ h.parent n y s e named)

  end-listed : (n : ℕ) (y : Object) → find n ≡ Some y → may_be_linked y.kind ≡ true → is_at y.far x.serial ≡ true → is_listed_end pairs y.serial.0 ≡ true
  end-listed n y e linked t =
      let (s, named, same) = at-some y.far x.serial t in
      let at : end_at y ≡ x.serial.0 = ap (λ (f : Option Serial). far_or y.serial f) named ∙ same in
      all y.serial.0 (ap (has_end ends x.serial.0) (numbers n y e) ∙ (ap (λ p. has_end ends p n) (sym at) ∙ h.end n y e linked))

  -- an object to which a link leads is a child, or is named as the far end, or names x as that
  pub led-to : (n : ℕ) (y : Object) → find n ≡ Some y → leads x y ≡ true
      → (is_listed (children_of children x.serial.0) y.serial.0 ≡ true) ⊎ ((is_at x.far y.serial ≡ true) ⊎ (is_listed_end pairs y.serial.0 ≡ true))
  led-to n y e t = elim (or_cases (is_child x y || has_far_end x y) (are_linked x y) t) [
    | inl u ↦ elim (or_cases (is_child x y) (has_far_end x y) u) [
      | inl child ↦ inl (child-listed n y e child)
      | inr far ↦ inr (inl (and_parts (is_pipe x.kind) (is_at x.far y.serial) far).1)
    ]
    | inr v ↦
        (let parts = and_parts (are_in_and_out x.kind y.kind) (is_at x.far y.serial || is_at y.far x.serial) v in
        elim (or_cases (is_at x.far y.serial) (is_at y.far x.serial) parts.1) [
          | inl far ↦ inr (inl far)
          | inr back ↦ inr (inr (end-listed n y e (linkable x y parts.0) back))
        ])
  ]

  module _ (a b c d : Fall) where
    abbrev led : Object → Bool
    led y = is_open y && leads x y

    abbrev child : Object → Bool
    child y = is_listed (children_of children x.serial.0) y.serial.0

    abbrev far : Object → Bool
    far y = is_at x.far y.serial

    abbrev back : Object → Bool
    back y = is_listed_end pairs y.serial.0

    abbrev two : Object → Bool
    two y = led y && (child y || far y)

    both : (p q : Object → Bool) (y : Object) → (led y && (p y || q y)) ≡ true → ((led y && p y) ≡ true) ⊎ ((led y && q y) ≡ true)
    both p q y w =
        let parts = and_parts (led y) (p y || q y) w in
        elim (or_cases (p y) (q y) parts.1) [
          | inl t ↦ inl (and_from (led y) (p y) parts.0 t)
          | inr t ↦ inr (and_from (led y) (q y) parts.0 t)
        ]

    first : (p q : Object → Bool) (y : Object) → (led y && p y) ≡ true → (led y && (p y || q y)) ≡ true
    first p q y w = let parts = and_parts (led y) (p y) w in and_from (led y) (p y || q y) parts.0 (or_left (p y) (q y) parts.1)

    second : (p q : Object → Bool) (y : Object) → (led y && q y) ≡ true → (led y && (p y || q y)) ≡ true
    second p q y w = let parts = and_parts (led y) (q y) w in and_from (led y) (p y || q y) parts.0 (or_right (p y) (q y) parts.1)

    any-of : (n : ℕ) (y : Object) → find n ≡ Some y → led y ≡ true → (two y ≡ true) ⊎ ((led y && back y) ≡ true)
    any-of n y e w = elim (led-to n y e (and_parts (is_open y) (leads x y) w).1) [
      | inl t ↦ inl (and_from (led y) (child y || far y) w (or_left (child y) (far y) t))
      | inr u ↦ elim u [
        | inl t ↦ inl (and_from (led y) (child y || far y) w (or_right (child y) (far y) t))
        | inr t ↦ inr (and_from (led y) (back y) w t)
      ]
    ]

    pub grows-three : Grows find (λ y. led y && child y) a b → Grows find (λ y. led y && far y) b c → Grows find (λ y. led y && back y) c d → Grows find led a d
    grows-three one then last =
        grows-then find two (λ y. led y && back y) led a c d
        (grows-then find (λ y. led y && child y) (λ y. led y && far y) two a b c one then (λ n y e. both child far y) (first child far) (second child far))
        last any-of (λ y w. (and_parts (led y) (child y || far y) w).0) (λ y w. (and_parts (led y) (back y) w).0)

-- what the tables of a tree tell
pub are-found : (xs : List Object) (ids : Ids) (children : Children) (ends : List (ℕ × ℕ)) → AllByRecursion (IsFiled ids children ends) xs
    → AreFound (λ n. numbered xs (as_serial n)) children ends
are-found xs ids children ends h = record {
  parent = λ n y parent e named.
      (let filed = all-found (IsFiled ids children ends) (has_serial (as_serial n)) xs y h e in
      ap (is_listed (children_of children parent.0)) (sym (of-serial xs n y e)) ∙ filed.parent parent named);
  end = λ n y e linked.
      (let filed = all-found (IsFiled ids children ends) (has_serial (as_serial n)) xs y h e in
      ap (has_end ends (end_at y)) (sym (of-serial xs n y e)) ∙ filed.end linked);
}

pub grows-same : (find : ℕ → Option Object) (test one two : Object → Bool) (f g : Fall) → ((y : Object) → one y ≡ two y) → Grows find (λ y. test y && one y) f g → Grows find (λ y. test y && two y) f g
grows-same find test one two f g same h =
    grows-as find (λ y. test y && one y) (λ y. test y && two y) f g h (λ n y e w. ap (λ b. test y && b) (same y) ∙ w) (λ y w. ap (λ b. test y && b) (sym (same y)) ∙ w)

pub far-same : (far : Serial) (field : Option Serial) → field ≡ Some far → (y : Object) → nat_eq y.serial.0 far.0 ≡ is_at field y.serial
far-same far field e y = flipped y.serial.0 far.0 ∙ sym (ap (λ f. is_at f y.serial) e)

pub led-same : (found : Option Object) (x : Object) → found ≡ Some x → (y : Object) → leads x y ≡ leads_from found y
led-same found x e y = sym (ap (λ o. leads_from o y) e)

pub led-none : (find : ℕ → Option Object) (found : Option Object) (f : Fall) → found ≡ None → Grows find (λ y. is_open y && leads_from found y) f f
led-none find found f e =
    stays-so find (λ y. is_open y && leads_from found y) f
    (λ n y there w. let clash : false ≡ true = sym (ap (λ o. leads_from o y) e) ∙ (and_parts (is_open y) (leads_from found y) w).1 in cc)
