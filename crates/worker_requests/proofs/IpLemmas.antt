-- An IPv4 address is read as std reads it.
use Rattle.std.proofs.Common.{◌≡◌, ℕ, suc, ◌==◌, List, [], ◌∷◌, length, Bool, false, cond, Option, Some, None, MatchOption, refl, sym, ap, subst, ◌∙◌, append-nil, arith, lit≤}
use Rattle.std.proofs.lemmas.Bool.Decides.{nat_tests}
use Rattle.std.specs.Net.Grammar.{IsDotted}
use Rattle.std.specs.Net.Reader.{read_ipv4, whole_value}
use Rattle.std.proofs.NetLemmas.Ipv4.{read_ipv4_complete, read_ipv4_sound}
use Rattle.worker_requests.specs.Contents.{ip_named}

named_dotted : (text octets : List ℕ) → IsDotted text octets → ip_named text ≡ Some octets
named_dotted text octets h = ap whole_value (ap read_ipv4 (sym (append-nil text)) ∙ read_ipv4_complete text octets [] h (lit≤ tt))

more_than_none : (n : ℕ) → (suc n == 0) ≡ false
more_than_none n = grind (arith, nat_tests)

module _ (text : List ℕ) (no : (octets : List ℕ) → IsDotted text octets → ⊥) where
  whole_none : (octets rest : List ℕ) → read_ipv4 text ≡ Some (octets, rest) → whole_value (Some (octets, rest)) ≡ None
  whole_none octets [] is =
      let read = read_ipv4_sound text octets [] is in
      absurd (no octets (subst (λ (front : List ℕ). IsDotted front octets) (sym (read.1 ∙ append-nil read.0)) read.2))
  whole_none octets (c ∷ rest) is = ap (λ (b : Bool). cond b (Some octets) None) (more_than_none (length rest))

  named_none : (found : Option (List ℕ × List ℕ)) → read_ipv4 text ≡ found → whole_value found ≡ None
  named_none None is = refl
  named_none (Some p) is = whole_none p.0 p.1 is

pub ip_named_is : (text bytes : List ℕ) (found : Option (List ℕ)) → bytes ≡ text → MatchOption found ((octets : List ℕ) → IsDotted bytes octets → ⊥) (λ octets. IsDotted bytes octets)
    → found ≡ ip_named text
ip_named_is text bytes None same h = sym (ap ip_named (sym same) ∙ named_none bytes h (read_ipv4 bytes) refl)
ip_named_is text bytes (Some octets) same h = sym (ap ip_named (sym same) ∙ named_dotted bytes octets h)
