-- What a table tells after a change at one key.
use Rattle.std.proofs.Common.{◌≡◌, ℕ, List, ◌++◌, Bool, true, false, cond, nat_eq, Option, Some, bytes_eq, refl, sym, ap, subst, ◌∙◌}
use Rattle.std.proofs.lemmas.Bool.{eqb-true, or_left}
use Rattle.std.proofs.lemmas.List.Folds.{list_any-append}
use Rattle.std.proofs.lemmas.Map.Text.{is_eq-slice_cmp}
use Rattle.std.specs.BTreeMap as tree
use Rattle.std.specs.BTreeMap.{BTreeMap}
use Rattle.std.specs.Prelude.{Vec}
use Rattle.std.specs.Cmp.{eq_by_cmp_equiv}
use Rattle.std.specs.Cmp.Lexicographic.{slice_cmp, bytes_decides, nat_list_cmp_total, nat_list_eq_equiv}
use Rattle.std.specs.Map.{KeepsOthers, IsKeyTest, AreApart, lookup}
use Rattle.std.specs.Ordering.{is_eq, nat_cmp}
use Rattle.object_tree.specs.Tables.{greatest, is_listed, items_of, raised}

-- ---- names

pub bytes-same : (a b : List ℕ) → bytes_eq a b ≡ true → a ≡ b
bytes-same a b = (bytes_decides a b).0

apart : (bs cs ks : List ℕ) → bytes_eq bs cs ≡ false → is_eq (slice_cmp nat_cmp bs ks) ≡ true → is_eq (slice_cmp nat_cmp cs ks) ≡ false
apart bs cs ks f t =
    let found : bytes_eq bs ks ≡ true = sym (is_eq-slice_cmp bs ks) ∙ t in
    is_eq-slice_cmp cs ks ∙ (nat_list_eq_equiv.symm cs ks ∙ (sym (nat_list_eq_equiv.congr bs ks cs found) ∙ f))

others : {K X : Type 0} (eq : K → K → Bool) (test other : K → Bool) (old new : List (K × X)) → KeepsOthers eq test old new → IsKeyTest eq other → AreApart test other
    → lookup other new ≡ lookup other old
unfolding KeepsOthers
others eq test other old new h = h other

module _ {K X : Type 0} (bytes : K → List ℕ) where
  abbrev at_text : BTreeMap K X → List ℕ → Option X
  at_text m name = tree.get_by (λ k. slice_cmp nat_cmp name (bytes k)) m

  module _ (name : List ℕ) (m n : BTreeMap K X) (v : Option X)
      (updates : tree.UpdatesBy (λ x y. slice_cmp nat_cmp (bytes x) (bytes y)) (λ k. slice_cmp nat_cmp name (bytes k)) m n v) where
    text-at : (other : List ℕ) (b : Bool) → bytes_eq name other ≡ b → at_text n other ≡ cond b v (at_text m other)
    text-at other true t = subst (λ l. at_text n l ≡ v) (bytes-same name other t) updates.1
    text-at other false f =
        others _ _ _ m.entries n.entries updates.3 (λ x y. (eq_by_cmp_equiv nat_list_cmp_total).congr other (bytes x) (bytes y)) (λ k. apart name other (bytes k) f)

    pub text-after : (other : List ℕ) → at_text n other ≡ cond (bytes_eq name other) v (at_text m other)
    text-after other = text-at other (bytes_eq name other) refl

abbrev pub outcome : Bool → ℕ → Option ℕ → Option ℕ
outcome b serial other = cond b (Some serial) other

raised-at : (own name : List ℕ) (serial : ℕ) (before : List ℕ → Option ℕ) (t : Bool) → bytes_eq own name ≡ t → greatest serial (before own) ≡ Some serial
    → cond t (Some serial) (before name) ≡ cond t (greatest serial (before name)) (before name)
raised-at own name serial before true t g = sym (ap (λ (n : List ℕ). greatest serial (before n)) (sym (bytes-same own name t)) ∙ g)
raised-at own name serial before false t g = refl

-- a name has the serial that was put under it, where this is the greatest
pub raised-new : {Y : Type 0} (key : Vec ℕ Y) (serial : ℕ) (old new : BTreeMap (Vec ℕ Y) ℕ) (b : Bool) → tree.Updates (λ x y. slice_cmp nat_cmp x.items y.items) old new key (Some serial)
    → greatest serial (at_text (λ k. k.items) old key.items) ≡ outcome b serial (at_text (λ k. k.items) old key.items) → b ≡ true → (name : List ℕ)
    → at_text (λ k. k.items) new name ≡ raised key.items serial name (at_text (λ k. k.items) old name)
raised-new {Y} key serial old new b updates g t name =
    text-after (λ (k : Vec ℕ Y). k.items) key.items old new (Some serial) updates name
    ∙ raised-at key.items name serial (at_text (λ k. k.items) old) (bytes_eq key.items name) refl (g ∙ ap (λ (c : Bool). outcome c serial (at_text (λ k. k.items) old key.items)) t)

-- ---- children

items-cond : {Y : Type 0} (b : Bool) (now : Vec ℕ Y) (was : Option (Vec ℕ Y)) → items_of (cond b (Some now) was) ≡ cond b now.items (items_of was)
items-cond true now was = refl
items-cond false now was = refl

grown-at : (f g : ℕ → List ℕ) (k : ℕ) (v : List ℕ) → ((s : ℕ) → is_listed (f k) s ≡ true → is_listed v s ≡ true) → (p s : ℕ) (b : Bool) → nat_eq k p ≡ b → g p ≡ cond b v (f p)
    → is_listed (f p) s ≡ true → is_listed (g p) s ≡ true
grown-at f g k v more p s true t e h =
    ap (λ l. is_listed l s) e ∙ more s (ap (λ q. is_listed (f q) s) (eqb-true k p t) ∙ h)
grown-at f g k v more p s false t e h = ap (λ l. is_listed l s) e ∙ h

-- what is listed stays so, where one list has grown
pub grown : {Y : Type 0} (f g : ℕ → Option (Vec ℕ Y)) (k : ℕ) (v : Vec ℕ Y) → ((q : ℕ) → g q ≡ cond (nat_eq k q) (Some v) (f q))
    → ((s : ℕ) → is_listed (items_of (f k)) s ≡ true → is_listed v.items s ≡ true) → (p s : ℕ) → is_listed (items_of (f p)) s ≡ true → is_listed (items_of (g p)) s ≡ true
grown {Y} f g k v after more p s =
    grown-at (λ q. items_of (f q)) (λ q. items_of (g q)) k v.items more p s (nat_eq k p) refl (ap items_of (after p) ∙ items-cond (nat_eq k p) v (f p))

pub listed-longer : (serials more : List ℕ) (s : ℕ) → is_listed serials s ≡ true → is_listed (serials ++ more) s ≡ true
listed-longer serials more s h = list_any-append (λ t. nat_eq t s) serials more ∙ or_left _ _ h
