-- What a list of calls makes of a transport.
use Rattle.std.proofs.Common.{◌≡◌, ℕ, Bool, true, false, List, [], ◌∷◌, ◌++◌, Some, refl, sym, ap, ◌∙◌}
use Rattle.std.specs.Bool.{Decides}
use Rattle.std.proofs.lemmas.Bool.Decides.{Decides-eqb, Decides-and, Decides-like}
use Rattle.std.proofs.lemmas.Slice.Eq.{bytes_eq-Decides}
use Rattle.std.specs.Prelude.{◌↔◌}
use Rattle.ms_base.specs.declared.tuple.Tuple.{Tuple}
use Rattle.plain_transport.specs.declared.accept.Accept.TheVariants.{Yes, No}
use Rattle.plain_transport.specs.Connection.{Connection, unconnected, same_tuple, accept_by, accept_of}
use Rattle.plain_transport.specs.Calls.{Call, connect, accepts, after, connection_after, tuple_of}

-- a tuple that is set stays
pub set-stays : (comedia : Bool) (tuple : Tuple) (calls : List Call)
    → connection_after (record { comedia = comedia; remote = Some tuple }) calls ≡ record { comedia = comedia; remote = Some tuple }
set-stays comedia tuple [] = refl
set-stays false tuple (connect to ∷ calls) = set-stays false tuple calls
set-stays true tuple (connect to ∷ calls) = set-stays true tuple calls
set-stays false tuple (accepts from ∷ calls) = set-stays false tuple calls
set-stays true tuple (accepts from ∷ calls) = set-stays true tuple calls

-- before that it is the first of those that calls set
pub first-is : (comedia : Bool) (calls : List Call) → connection_after (unconnected comedia) calls ≡ record { comedia = comedia; remote = tuple_of comedia calls }
first-is comedia [] = refl
first-is false (connect to ∷ calls) = set-stays false to calls
first-is true (connect to ∷ calls) = first-is true calls
first-is false (accepts from ∷ calls) = first-is false calls
first-is true (accepts from ∷ calls) = set-stays true from calls

connection_after-append : (c : Connection) (calls later : List Call) → connection_after c (calls ++ later) ≡ connection_after (connection_after c calls) later
connection_after-append c [] later = refl
connection_after-append c (call ∷ calls) later = connection_after-append (after c call) calls later

pub set-behind : (comedia : Bool) (calls later : List Call) (tuple : Tuple) → tuple_of comedia calls ≡ Some tuple
    → connection_after (unconnected comedia) (calls ++ later) ≡ record { comedia = comedia; remote = Some tuple }
set-behind comedia calls later tuple is =
    connection_after-append (unconnected comedia) calls later
    ∙ ap (λ (c : Connection). connection_after c later) (first-is comedia calls ∙ ap (λ r. record { comedia = comedia; remote = r }) is)
    ∙ set-stays comedia tuple later

-- the test of two tuples decides whether they are one
same-decides : (a b : Tuple) → Decides (same_tuple a b) (a ≡ b)
same-decides a b =
    Decides-like (same_tuple a b) (λ parts. whole parts.0 parts.1) (λ same. (ap (λ (t : Tuple). t.ip) same, ap (λ (t : Tuple). t.port) same))
    (Decides-and _ _ (bytes_eq-Decides a.ip b.ip) (Decides-eqb a.port b.port))
  where
    with_parts : List ℕ → ℕ → Tuple
    with_parts ip port = record { ip = ip; port = port }

    whole : a.ip ≡ b.ip → a.port ≡ b.port → a ≡ b
    whole ip port = ap (λ (i : List ℕ). with_parts i a.port) ip ∙ ap (λ (p : ℕ). with_parts b.ip p) port

accept_by-set : (comedia : Bool) (tuple from : Tuple) (same : Bool) → same_tuple tuple from ≡ same → Decides same (tuple ≡ from)
    → ((accept_by comedia (Some tuple) from ≡ Yes) ↔ (from ≡ tuple)) × ((accept_by comedia (Some tuple) from ≡ No) ↔ (from ≡ tuple → ⊥))
accept_by-set comedia tuple from true is decides =
    rw is ((λ _. sym (decides.0 refl), λ _. refl), (λ no. absurd cc, λ apart. absurd (apart (sym (decides.0 refl)))))
accept_by-set comedia tuple from false is decides =
    rw is ((λ no. absurd cc, λ same. absurd (let t = decides.1 (sym same) in cc)), (λ _ same. (let t = decides.1 (sym same) in cc), λ _. refl))

-- packets of the tuple are taken, and no others
pub takes-alone : (comedia : Bool) (c : Connection) (tuple from : Tuple) → c ≡ record { comedia = comedia; remote = Some tuple }
    → ((accept_of c from ≡ Yes) ↔ (from ≡ tuple)) × ((accept_of c from ≡ No) ↔ (from ≡ tuple → ⊥))
takes-alone comedia c tuple from is = rw is (accept_by-set comedia tuple from (same_tuple tuple from) refl (same-decides tuple from))
