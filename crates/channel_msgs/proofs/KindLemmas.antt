-- A letter begins no JSON text but those of `true`, `false` and `null`.
use Rattle.std.proofs.Common.{◌≡◌, ℕ, List, ◌∷◌, true, None, refl, arith}
use Rattle.std.proofs.lemmas.Bool.Decides.{nat_tests}
use Rattle.serde_json.proofs.OnLiterals.{serde_json_on_literals}
use Rattle.serde_json.specs.Read.{read}
use Rattle.channel_msgs.proofs.ReadLemmas.{refused_is_no_object}
use Rattle.channel_msgs.specs.Packet.{packet_letter}
use Rattle.channel_msgs.specs.Read.{object_of, is_log_letter}

read_R : (rest : List ℕ) → read (packet_letter ∷ rest) ≡ None
unfolding serde_json_on_literals
read_R rest = refl

read_D : (rest : List ℕ) → read (68 ∷ rest) ≡ None
unfolding serde_json_on_literals
read_D rest = refl

read_W : (rest : List ℕ) → read (87 ∷ rest) ≡ None
unfolding serde_json_on_literals
read_W rest = refl

read_E : (rest : List ℕ) → read (69 ∷ rest) ≡ None
unfolding serde_json_on_literals
read_E rest = refl

read_X : (rest : List ℕ) → read (88 ∷ rest) ≡ None
unfolding serde_json_on_literals
read_X rest = refl

pub no_object_of_packet : (rest : List ℕ) → object_of (packet_letter ∷ rest) ≡ None
no_object_of_packet rest = refused_is_no_object (packet_letter ∷ rest) (λ utf8. read_R rest)

log_unread : (c : ℕ) → is_log_letter c ≡ true → (rest : List ℕ) → read (c ∷ rest) ≡ None
log_unread c letter rest = grind (arith, nat_tests, read_D rest, read_W rest, read_E rest, read_X rest)

pub no_object_of_log : (c : ℕ) (rest : List ℕ) → is_log_letter c ≡ true → object_of (c ∷ rest) ≡ None
no_object_of_log c rest letter = refused_is_no_object (c ∷ rest) (λ utf8. log_unread c letter rest)
