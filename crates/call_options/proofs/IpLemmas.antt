-- The address that a text is by the grammar of addresses is the one that std's reader gives.
use Rattle.std.proofs.Common.{◌≡◌, ℕ, List, [], ◌∷◌, length, Option, Some, None, MatchOption, refl, sym, ap, subst, ◌∙◌, append-nil, arith, lit≤, ne_eqb, cond}
use Rattle.std.specs.Net.Grammar.{IsDotted}
use Rattle.std.specs.Net.Reader.{read_ipv4, whole_value}
use Rattle.std.proofs.NetLemmas.Ipv4.{read_ipv4_complete, read_ipv4_sound}
use Rattle.call_options.specs.Values.{ip_named}

-- what is read with nothing behind it is an address
dotted : (text octets : List ℕ) → read_ipv4 text ≡ Some (octets, []) → IsDotted text octets
dotted text octets is =
    let read = read_ipv4_sound text octets [] is in
    subst (λ (front : List ℕ). IsDotted front octets) (sym (read.1 ∙ append-nil read.0)) read.2

none_read : (text : List ℕ) → ((octets : List ℕ) → IsDotted text octets → ⊥) → (found : Option (List ℕ × List ℕ)) → read_ipv4 text ≡ found → whole_value found ≡ None
none_read text never None is = refl
none_read text never (Some (octets, [])) is = absurd (never octets (dotted text octets is))
none_read text never (Some (octets, c ∷ rest)) is = ap (λ b. cond b (Some octets) None) (ne_eqb (length (c ∷ rest)) 0 (omega arith))

pub ip_named_is : (text bytes : List ℕ) (found : Option (List ℕ)) → bytes ≡ text → MatchOption found ((octets : List ℕ) → IsDotted bytes octets → ⊥) (λ octets. IsDotted bytes octets)
    → found ≡ ip_named text
ip_named_is text bytes None same never = sym (ap ip_named (sym same) ∙ none_read bytes never (read_ipv4 bytes) refl)
ip_named_is text bytes (Some octets) same h =
    sym (ap ip_named (sym same ∙ sym (append-nil bytes)) ∙ ap whole_value (read_ipv4_complete bytes octets [] h (lit≤ tt)))
