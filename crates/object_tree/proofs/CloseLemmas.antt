-- What falls and is closed: exactly that, and once.
use Rattle.std.proofs.Common.{◌≡◌, ℕ, zero, suc, List, [], ◌∷◌, Bool, true, false, cond, ◌&&◌, ◌||◌, Some, refl, sym, ap, ◌∙◌, inl, inr, length, map}
use Rattle.std.proofs.lemmas.Bool.{cases_Bool, and_from, and_left, and_right, eq-eqb, eqb-true, false_from_ne_true, or_from}
use Rattle.std.specs.List.{AllByRecursion, filter, list_any}
use Rattle.ms_base.specs.declared.keys.Reason.{Reason}
use Rattle.ms_base.specs.declared.keys.Serial.{Serial}
use Rattle.object_tree.specs.declared.object.Object.{Object}
use Rattle.object_tree.specs.Falls.{closed_by, closed_if, falls, falls_with, is_among, is_open_root, leads, reached, reason_of, with_closed}
use Rattle.object_tree.specs.Objects.{AreInOrder, has_serial, is_open, numbered}
use Rattle.object_tree.proofs.ChainLemmas.{falls-root, reached-open}
use Rattle.object_tree.proofs.ChangeLemmas.{all-numbered}
use Rattle.object_tree.proofs.EntryLemmas.{all-weaker}
use Rattle.object_tree.proofs.ReachLemmas.{all-filtered, all-passing, all-two, any-kept, any-one}

among-serials : (serial : Serial) (ys : List Object) → is_among (map (λ (o : Object). o.serial) ys) serial ≡ list_any (has_serial serial) ys
among-serials serial [] = refl
among-serials serial (y ∷ ys) = ap (λ b. has_serial serial y || b) (among-serials serial ys)

map-alike : {X : Type 0} (f g : X → X) (xs : List X) → AllByRecursion (λ x. f x ≡ g x) xs → map f xs ≡ map g xs
map-alike f g [] h = refl
map-alike f g (x ∷ xs) h = ap (λ y. y ∷ map f xs) h.0 ∙ ap (λ ys. g x ∷ ys) (map-alike f g xs h.1)

module _ (xs : List Object) (roots : List Serial) (rising : AreInOrder xs) where
  abbrev falling : Object → Bool
  falling = falls_with xs roots

  -- the serial of an object is among those that fall exactly where it falls
  among-falls : (x : Object) → numbered xs x.serial ≡ Some x → is_among (falls xs roots) x.serial ≡ falling x
  among-falls x here = elim (cases_Bool (falling x)) [
    | inl t ↦ among-serials x.serial (filter falling xs) ∙ (any-kept falling (has_serial x.serial) (has_serial x.serial) xs x here t (eq-eqb x.serial.0 x.serial.0 refl) ∙ sym t)
    | inr f ↦
        false_from_ne_true (is_among (falls xs roots) x.serial)
        (λ t.
        let both =
        all-two (λ (y : Object). numbered xs y.serial ≡ Some y) (λ (y : Object). falling y ≡ true) (filter falling xs)
        (all-filtered (λ (y : Object). numbered xs y.serial ≡ Some y) falling xs (all-numbered xs rising)) (all-passing falling xs)
        in
        let (y, w, same) =
        any-one (λ (y : Object). (numbered xs y.serial ≡ Some y) × (falling y ≡ true)) (has_serial x.serial) (filter falling xs) both
        (sym (among-serials x.serial (filter falling xs)) ∙ t)
        in
        let own : y.serial.0 ≡ x.serial.0 = eqb-true y.serial.0 x.serial.0 same in
        let number : y.serial ≡ x.serial = (λ i. record { 0 = own i }) in
        let found : Some y ≡ Some x = sym w.0 ∙ (ap (numbered xs) number ∙ here) in
        let is : y ≡ x = cc in
        let clash : true ≡ false = sym w.1 ∙ (ap falling is ∙ f) in
        absurd cc)
        ∙ sym f
  ]

  open-falls : (x : Object) → (is_open x && falling x) ≡ falling x
  open-falls x = elim (cases_Bool (falling x)) [
    | inl t ↦ and_from (is_open x) (falling x) (reached-open xs roots (length xs) x t) t ∙ sym t
    | inr f ↦ and_right (is_open x) (falling x) f ∙ sym f
  ]

  module _ (reason : Reason) where
    abbrev own : Object → Reason
    own = reason_of xs (falls xs roots) roots reason

    closed-exactly : (x : Object) → numbered xs x.serial ≡ Some x → closed_if xs (falls xs roots) roots reason x ≡ cond (falling x) (closed_by (own x) x) x
    closed-exactly x here = ap (λ b. cond b (closed_by (own x) x) x) (ap (λ b. is_open x && b) (among-falls x here) ∙ open-falls x)

    pub closes-exactly : with_closed (falls xs roots) roots reason xs ≡ map (λ (x : Object). cond (falling x) (closed_by (own x) x) x) xs
    closes-exactly =
        map-alike (closed_if xs (falls xs roots) roots reason) (λ (x : Object). cond (falling x) (closed_by (own x) x) x) xs
        (all-weaker (λ (x : Object). numbered xs x.serial ≡ Some x) (λ (x : Object). closed_if xs (falls xs roots) roots reason x ≡ cond (falling x) (closed_by (own x) x) x) xs
        closed-exactly (all-numbered xs rising))

    -- no root is open any more
    no-root : (x : Object) → is_open_root roots (cond (falling x) (closed_by (own x) x) x) ≡ false
    no-root x = elim (cases_Bool (falling x)) [
      | inl t ↦ rw t refl
      | inr f ↦ rw f (false_from_ne_true (is_open_root roots x) (λ t. let clash : true ≡ false = sym (falls-root xs roots x t) ∙ f in absurd cc))
    ]

    no-roots : (ys : List Object) → AllByRecursion (λ (y : Object). is_open_root roots y ≡ false) (map (λ (x : Object). cond (falling x) (closed_by (own x) x) x) ys)
    no-roots [] = tt
    no-roots (y ∷ ys) = (no-root y, no-roots ys)

none-leads : (p r : Object → Bool) (ys : List Object) → AllByRecursion (λ (y : Object). p y ≡ false) ys → list_any (λ y. p y && r y) ys ≡ false
none-leads p r [] h = refl
none-leads p r (y ∷ ys) h = or_from (p y && r y) (list_any (λ z. p z && r z) ys) (and_left (p y) (r y) h.0) (none-leads p r ys h.1)

none-reached : (ys : List Object) (roots : List Serial) (n : ℕ) → AllByRecursion (λ (y : Object). is_open_root roots y ≡ false) ys
    → AllByRecursion (λ (y : Object). reached n ys roots y ≡ false) ys
none-reached ys roots zero h = h
none-reached ys roots (suc n) h =
    let before = none-reached ys roots n h in
    all-weaker (λ (y : Object). reached n ys roots y ≡ false) (λ (y : Object). reached (suc n) ys roots y ≡ false) ys
    (λ y f.
    or_from (reached n ys roots y) (is_open y && list_any (λ z. reached n ys roots z && leads z y) ys) f
    (and_right (is_open y) (list_any (λ z. reached n ys roots z && leads z y) ys) (none-leads (reached n ys roots) (λ z. leads z y) ys before)))
    before

none-kept : {X : Type 0} (p : X → Bool) (xs : List X) → AllByRecursion (λ x. p x ≡ false) xs → filter p xs ≡ []
none-kept p [] h = refl
none-kept p (x ∷ xs) h = let f = h.0 in rw f (none-kept p xs h.1)

none-falls : (ys : List Object) (roots : List Serial) → AllByRecursion (λ (y : Object). is_open_root roots y ≡ false) ys → falls ys roots ≡ []
none-falls ys roots h = ap (λ zs. map (λ (o : Object). o.serial) zs) (none-kept (falls_with ys roots) ys (none-reached ys roots (length ys) h))

pub closes-once : (xs : List Object) (roots : List Serial) (reason : Reason) → AreInOrder xs → falls (with_closed (falls xs roots) roots reason xs) roots ≡ []
closes-once xs roots reason rising =
    ap (λ ys. falls ys roots) (closes-exactly xs roots rising reason) ∙ none-falls _ roots (no-roots xs roots rising reason xs)
