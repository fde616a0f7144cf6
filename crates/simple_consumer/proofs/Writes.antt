-- What stands in a place once a packet was written over its front.
use Rattle.std.proofs.Common.{◌≡◌, ℕ, zero, suc, ◌<◌, List, [], ◌∷◌, ◌++◌, length, take, sym, ap, ◌∙◌, arith}
use Rattle.std.proofs.Math.Seq.{take-append_seam}
use Rattle.rtp_packet.specs.Packet.{AreBytes}

pub take-front : (n : ℕ) (xs ys : List ℕ) → length xs ≡ n → take n (xs ++ ys) ≡ xs
take-front n xs ys is = ap (λ (m : ℕ). take m (xs ++ ys)) (sym is) ∙ take-append_seam xs ys

pub are-front : (n : ℕ) (bytes : List ℕ) → AreBytes bytes → AreBytes (take n bytes)
are-front zero bytes are i = lit
  where
    lit : 0 < 256
    lit = omega arith
are-front (suc n) [] are i = are i
are-front (suc n) (b ∷ bytes) are zero = are zero
are-front (suc n) (b ∷ bytes) are (suc i) = are-front n bytes (λ k. are (suc k)) i
