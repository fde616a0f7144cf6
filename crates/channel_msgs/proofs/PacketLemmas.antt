-- A packet behind its letter and its id.
use Rattle.std.proofs.Common.{◌≡◌, ◌≢◌, ℕ, ◌-◌, ◌<◌, List, [], ◌∷◌, ◌++◌, length, get_or, take, drop, Option, Some, None, option_map, refl, arith, true, false, Bool, if◌then◌else◌}
use Rattle.std.proofs.lemmas.Bool.Decides.{nat_tests}
use Rattle.std.proofs.Math.Seq.{take-append_seam, drop-append_seam}
use Rattle.std.proofs.lemmas.List.{length-take, take_all}
use Rattle.ms_base.specs.Id.{id_text, id_of_text, is_id_text}
use Rattle.ms_base.specs.declared.id.Id.{Id}
use Rattle.channel_msgs.specs.Packet.{packet_behind, packet_in, packet_payload}

-- what stands behind the first byte
pub rest_of : (c : ℕ) (rest : List ℕ) → take (length (c ∷ rest) - 1) (drop 1 (c ∷ rest)) ≡ rest
rest_of c rest = let e : length (c ∷ rest) - 1 ≡ length rest = omega arith in rw e (take_all (length rest) rest (omega arith))

behind_letter : (c : ℕ) (rest : List ℕ) → c ≡ 82 → packet_in (c ∷ rest) ≡ packet_behind rest
unfolding packet_in
behind_letter c rest e = rw e

pub packet_in_rest : (payload rest : List ℕ) → 0 < length payload → get_or payload 0 0 ≡ 82 → rest ≡ take (length payload - 1) (drop 1 payload)
    → packet_in payload ≡ packet_behind rest
packet_in_rest [] rest h e is = absurd (omega arith)
packet_in_rest (c ∷ bytes) rest h e is = rw (is, rest_of c bytes) (behind_letter c bytes e)

-- a payload with another letter, or with none
pub packet_in_other : (payload : List ℕ) → get_or payload 0 0 ≢ 82 → packet_in payload ≡ None
unfolding packet_in
packet_in_other [] other = refl
packet_in_other (c ∷ rest) other = grind (arith, nat_tests)

-- fewer than 36 characters are no id
pub short_is_no_id : (rest : List ℕ) → length rest < 36 → id_of_text (take 36 rest) ≡ None
unfolding id_of_text is_id_text
short_is_no_id rest h =
    let short : length (take 36 rest) ≢ 36 = rw (length-take 36 rest) (λ e. omega arith) in
    grind (arith, nat_tests)

pub short_behind : (rest : List ℕ) → length rest < 36 → packet_behind rest ≡ None
short_behind rest h = rw (short_is_no_id rest h)

-- other text is no id, and a text that is one is the id of its bytes
pub behind_none : (rest : List ℕ) (id : Option Id) → id ≡ None → option_map (λ i. i.0) id ≡ id_of_text (take 36 rest) → packet_behind rest ≡ None
behind_none rest id is e = rw (← e, is)

pub behind_some : (rest : List ℕ) (id : Id) → Some id.0 ≡ id_of_text (take 36 rest) → packet_behind rest ≡ Some (id, drop 36 rest)
behind_some rest id e = rw (← e)

-- an id's text has 36 characters
is_of_form : (b : Bool) (id bytes : List ℕ) → (if b then Some id else None) ≡ Some bytes → b ≡ true
is_of_form true id bytes e = refl
is_of_form false id bytes e = cc

length-id_text : (text bytes : List ℕ) → id_of_text text ≡ Some bytes → length text ≡ 36
unfolding id_of_text is_id_text
length-id_text text bytes e =
    let form : is_id_text text ≡ true = is_of_form (is_id_text text) _ bytes e in
    grind (arith, nat_tests)

behind_text : (text packet : List ℕ) (id : Id) → length text ≡ 36 → id_of_text text ≡ Some id.0 → packet_behind (text ++ packet) ≡ Some (id, packet)
behind_text text packet id len back =
    let front : take 36 (text ++ packet) ≡ text = rw (← len) (take-append_seam text packet) in
    let rest : drop 36 (text ++ packet) ≡ packet = rw (← len) (drop-append_seam text packet) in
    rw (front, rest, back)

pub packet_reads_back : (id : Id) (packet text : List ℕ) → text ≡ id_text id.0 → id_of_text text ≡ Some id.0 → packet_in (packet_payload id packet) ≡ Some (id, packet)
unfolding packet_in
packet_reads_back id packet text is back = rw (← is) (behind_text text packet id (length-id_text text id.0 back) back)
