-- What is written piece by piece.
use Rattle.std.proofs.Common.{◌≡◌, ℕ, zero, suc, ◌+◌, ◌-◌, ◌≤◌, List, [], ◌∷◌, ◌++◌, length, take, drop, replicate, Option, Some, None, refl, sym, ap, subst, ◌∙◌, arith, length-append, append_assoc}
use Rattle.std.specs.Prelude.{nat_le}
use Rattle.std.proofs.lemmas.Bool.{leb-true}
use Rattle.std.specs.Option.{option_map, option_and_then}
use Rattle.std.specs.List.{AllByRecursion, cons_option}
use Rattle.std.proofs.lemmas.List.{length-take, take_at, drop_at, drop-drop, append-nil, take-append-drop, take-append-le, take-take}
use Rattle.rtp_packet.specs.Packet.{AreBytes}
use Rattle.rtp_extension.specs.declared.form.Form.{Form}
use Rattle.rtp_extension.specs.declared.form.Form.TheVariants.{OneByte, TwoByte}
use Rattle.rtp_extension.specs.Elements.{Element, IsElement, spelled, spelling}
use Rattle.rtp_extension.specs.Reading.{elements_in}
use Rattle.rtp_extension.specs.Rewriting.{usable, kept, missing, in_words}
use Rattle.rtp_extension.specs.Viewing.{Wrote}
use Rattle.rtp_extension.proofs.Front.{if_some}
use Rattle.rtp_extension.proofs.Grammar.{are_elements, spelling_len}
use Rattle.rtp_extension.proofs.Kept.{same_len}

pub wrote_none : (old : List ℕ) (at : ℕ) → Wrote [] old old at at
wrote_none old at = record { end_is = omega arith; new_is = sym (take-append-drop at old) }

drop_behind : (xs ys : List ℕ) (n k : ℕ) → length xs ≡ n → drop (n + k) (xs ++ ys) ≡ drop k ys
drop_behind xs ys n k e = sym (drop-drop k n (xs ++ ys)) ∙ ap (drop k) (drop_at xs ys n e)

pub wrote_then : (a b old mid new : List ℕ) (at m end : ℕ) → at + length a ≤ length old → Wrote a old mid at m → Wrote b mid new m end → Wrote (a ++ b) old new at end
wrote_then a b old mid new at m end room v w =
    let front : List ℕ = take at old ++ a in
    let front_len : length front ≡ m = omega (arith, length-append (take at old) a, length-take at old, v.end_is) in
    let mid_is : mid ≡ front ++ drop m old = v.new_is ∙ sym (append_assoc (take at old) a (drop m old)) in
    let kept_front : take m mid ≡ front = ap (take m) mid_is ∙ take_at front (drop m old) m front_len in
    let kept_rest : drop end mid ≡ drop end old =
    ap (λ (n : ℕ). drop n mid) w.end_is ∙ ap (drop (m + length b)) mid_is ∙ drop_behind front (drop m old) m (length b) front_len
    ∙ drop-drop (length b) m old ∙ ap (λ (n : ℕ). drop n old) (sym w.end_is) in
    record {
      end_is = omega (arith, v.end_is, w.end_is, length-append a b);
      new_is =
          w.new_is
          ∙ ap (λ (xs : List ℕ). xs ++ (b ++ drop end mid)) kept_front
          ∙ ap (λ (xs : List ℕ). front ++ (b ++ xs)) kept_rest
          ∙ append_assoc (take at old) a (b ++ drop end old)
          ∙ ap (λ (xs : List ℕ). take at old ++ xs) (sym (append_assoc a b (drop end old)));
    }

-- a front that is written behind what follows it
pub wrote_before : (a b old mid new : List ℕ) (at m other end : ℕ) → m ≤ length old → other ≡ m → at + length a ≡ m → Wrote b old mid m end → Wrote a mid new at other
    → Wrote (a ++ b) old new at end
wrote_before a b old mid new at m other end room same len v w =
    let front : List ℕ = take m old in
    let front_len : length front ≡ m = omega (arith, length-take m old) in
    let within : at ≤ length front = omega arith in
    let kept_front : take at mid ≡ take at old =
    ap (take at) v.new_is ∙ take-append-le at front (b ++ drop end old) within ∙ take-take at m old (omega arith) in
    let kept_rest : drop other mid ≡ b ++ drop end old =
    ap (λ (n : ℕ). drop n mid) same ∙ ap (drop m) v.new_is ∙ drop_at front (b ++ drop end old) m front_len in
    record {
      end_is = omega (arith, v.end_is, length-append a b);
      new_is =
          w.new_is
          ∙ ap (λ (xs : List ℕ). xs ++ (a ++ drop other mid)) kept_front
          ∙ ap (λ (xs : List ℕ). take at old ++ (a ++ xs)) kept_rest
          ∙ ap (λ (xs : List ℕ). take at old ++ xs) (sym (append_assoc a b (drop end old)));
    }

-- all of the buffer behind what was written stays
pub rest_stays : (a old new : List ℕ) (at end : ℕ) → at + length a ≤ length old → Wrote a old new at end → drop end new ≡ drop end old
rest_stays a old new at end room w =
    let front : List ℕ = take at old ++ a in
    let front_len : length front ≡ end = omega (arith, length-append (take at old) a, length-take at old, w.end_is) in
    ap (drop end) (w.new_is ∙ sym (append_assoc (take at old) a (drop end old))) ∙ drop_at front (drop end old) end front_len

-- what was written at the front of it
pub front_is : (a old new : List ℕ) (end : ℕ) → Wrote a old new 0 end → take end new ≡ a
front_is a old new end w = ap (take end) w.new_is ∙ take_at a (drop end old) end (omega (arith, w.end_is))

-- ---- elements

-- an element: what stands in front of its data, and its data
pub element_written : (form : Form) (e : Element) (head old mid into new : List ℕ) (at m from end : ℕ) → spelled form e ≡ head ++ e.1
    → at + length (spelled form e) ≤ length old → into ≡ mid → from ≡ m → Wrote head old mid at m → Wrote e.1 into new from end
    → Wrote (spelled form e) old new at end
element_written form e head old mid into new at m from end is room same there v w =
    let same_w : Wrote e.1 mid new m end =
    subst (λ (xs : List ℕ). Wrote e.1 xs new m end) same (subst (λ (n : ℕ). Wrote e.1 into new n end) there w) in
    subst (λ (xs : List ℕ). Wrote xs old new at end) (sym is)
    (wrote_then head e.1 old mid new at m end (omega (arith, ap length is, length-append head e.1)) v same_w)

-- under a new id an element can be spelled too
pub renamed_is : (form : Form) (e : Element) (o : Option ℕ) (id : ℕ) → option_and_then (usable form) o ≡ Some id → 1 ≤ id → id ≤ 255 → IsElement form e → IsElement form (id, e.1)
renamed_is form e None id some low high is = absurd cc
renamed_is OneByte e (Some old) id some low high is =
    let top = if_some (nat_le old 14) (Some old) id some in
    let same : old ≡ id = cc top.1 in
    (low, omega (arith, leb-true old 14 top.0, same), is.2, is.3)
renamed_is TwoByte e (Some old) id some low high is = (low, high, is.2)

-- what the loop over the elements has written, and what it has left
pub record Puts (ids : ℕ → Option ℕ) (form : Form) (words old now : List ℕ) (left : List Element) (at end : ℕ) : Type 0 where
  pub written : List ℕ
  pub wrote : Wrote written old now at end
  pub goes_on : spelling form (kept ids form (elements_in form words)) ≡ written ++ spelling form (kept ids form left)
  pub elements : AllByRecursion (IsElement form) left
  pub room : end + length (spelling form left) ≤ at + length words

pub puts_none : (ids : ℕ → Option ℕ) (form : Form) (words old : List ℕ) (at : ℕ) → AreBytes words → Puts ids form words old old (elements_in form words) at at
puts_none ids form words old at fits = record {
  written = [];
  wrote = wrote_none old at;
  goes_on = refl;
  elements = are_elements form words fits;
  room = omega (arith, spelling_len form words fits);
}

pub puts_all : (ids : ℕ → Option ℕ) (form : Form) (words old now : List ℕ) (left : List Element) (at end : ℕ) → left ≡ [] → Puts ids form words old now left at end
    → Wrote (spelling form (kept ids form (elements_in form words))) old now at end
puts_all ids form words old now left at end none p =
    let all : spelling form (kept ids form (elements_in form words)) ≡ p.written =
    p.goes_on ∙ ap (λ (es : List Element). p.written ++ spelling form (kept ids form es)) none ∙ append-nil p.written in
    subst (λ (xs : List ℕ). Wrote xs old now at end) (sym all) p.wrote

-- an element that isn't kept
pub puts_skipped : (ids : ℕ → Option ℕ) (form : Form) (words old now : List ℕ) (e : Element) (left : List Element) (at end : ℕ)
    → option_and_then (usable form) (ids e.0) ≡ None → Puts ids form words old now (e ∷ left) at end → Puts ids form words old now left at end
puts_skipped ids form words old now e left at end none p = record {
  written = p.written;
  wrote = p.wrote;
  goes_on = p.goes_on ∙ ap (λ (o : Option ℕ). p.written ++ spelling form (cons_option (option_map (λ (id : ℕ). (id, e.1)) o) (kept ids form left))) none;
  elements = p.elements.1;
  room = omega (arith, p.room, length-append (spelled form e) (spelling form left));
}

-- and one that is
pub puts_kept : (ids : ℕ → Option ℕ) (form : Form) (words old now new : List ℕ) (e : Element) (left : List Element) (at end next : ℕ) (id : ℕ)
    → option_and_then (usable form) (ids e.0) ≡ Some id → at + length words ≤ length old → Wrote (spelled form (id, e.1)) now new end next
    → Puts ids form words old now (e ∷ left) at end → Puts ids form words old new left at next
puts_kept ids form words old now new e left at end next id some fits w p =
    let spelled_e : List ℕ = spelled form (id, e.1) in
    let room : end + length (spelled form e ++ spelling form left) ≤ at + length words = p.room in
    let len : length spelled_e ≡ length (spelled form e) = same_len form id e.0 e.1 in
    let split : length (spelled form e ++ spelling form left) ≡ length (spelled form e) + length (spelling form left) = length-append (spelled form e) (spelling form left) in
    record {
      written = p.written ++ spelled_e;
      wrote = wrote_then p.written spelled_e old now new at end next (omega (arith, room, fits, p.wrote.end_is)) p.wrote w;
      goes_on =
          p.goes_on
          ∙ ap (λ (o : Option ℕ). p.written ++ spelling form (cons_option (option_map (λ (id : ℕ). (id, e.1)) o) (kept ids form left))) some
          ∙ sym (append_assoc p.written spelled_e (spelling form (kept ids form left)));
      elements = p.elements.1;
      room = omega (arith, room, len, split, w.end_is);
    }

-- ---- whole words

zeros_are : (n : ℕ) → n ≤ 3 → take {A = ℕ} n (0 ∷ 0 ∷ 0 ∷ []) ≡ replicate n 0
zeros_are zero h = refl
zeros_are (suc zero) h = refl
zeros_are (suc (suc zero)) h = refl
zeros_are (suc (suc (suc zero))) h = refl
zeros_are (suc (suc (suc (suc n)))) h = absurd (omega arith)

abbrev zeros : ℕ → List ℕ
zeros n = take {A = ℕ} n (0 ∷ 0 ∷ 0 ∷ [])

zeros-is : (bytes : List ℕ) (at end n : ℕ) → end ≡ at + length bytes → n ≡ missing (end - at) → zeros n ≡ replicate (missing (length bytes)) 0
zeros-is bytes at end n e is =
    let same : n ≡ missing (length bytes) = omega (arith, is, e) in zeros_are n (omega (arith, is)) ∙ ap (λ (n : ℕ). replicate {A = ℕ} n 0) same

pub zeros_fit : (bytes old : List ℕ) (at end n room : ℕ) → end ≡ at + length bytes → n ≡ missing (end - at) → length (in_words bytes) ≤ room → at + room ≤ length old
    → end + length (zeros n) ≤ length old
zeros_fit bytes old at end n room e is fits within =
    omega (arith, e, fits, within, ap length (zeros-is bytes at end n e is), length-append bytes (replicate {A = ℕ} (missing (length bytes)) 0))

pub words_written : (bytes old mid new : List ℕ) (at end n next room : ℕ) → n ≡ missing (end - at) → length (in_words bytes) ≤ room → at + room ≤ length old
    → Wrote bytes old mid at end → Wrote (zeros n) mid new end next → Wrote (in_words bytes) old new at next
words_written bytes old mid new at end n next room is fits within v w =
    let fewer : length bytes ≤ length (in_words bytes) = omega (arith, length-append bytes (replicate {A = ℕ} (missing (length bytes)) 0)) in
    wrote_then bytes (replicate (missing (length bytes)) 0) old mid new at end next (omega arith) v
    (subst (λ (xs : List ℕ). Wrote xs mid new end next) (zeros-is bytes at end n v.end_is is) w)
