-- The octets of a list of 16-bit words: the even place is the low half of its word, the odd one the high half. Assumes nothing.
use Rattle.std.specs.Prelude.{◌≡◌, ℕ, ◌+◌, ◌*◌, ◌/◌, ◌%◌, ◌≤◌, cond, List, [], ◌∷◌, length, ◌==◌, refl}
use Rattle.std.proofs.Common.{arith}
use Rattle.memory.specs.Cuts.{counted, counted-bounded}

abbrev pub halves : List ℕ → List ℕ
halves [] = []
halves (w ∷ ws) = w % 256 ∷ (w / 256 ∷ halves ws)

-- the half of a word that stands at a place, and the word with that half replaced
abbrev pub half_at : (word place : ℕ) → ℕ
half_at w i = cond (i % 2 == 0) (w % 256) (w / 256)

abbrev pub with_half : (word place octet : ℕ) → ℕ
with_half w i v = cond (i % 2 == 0) (w / 256 * 256 + v) (v * 256 + w % 256)

pub length-halves : (ws : List ℕ) → length (halves ws) ≡ 2 * length ws
length-halves [] = refl
length-halves (w ∷ ws) = omega (arith, length-halves ws)

pub halves-bounded : (ws : List ℕ) → length (halves (counted 30720 ws)) ≤ 61440
halves-bounded ws = omega (arith, length-halves (counted 30720 ws), counted-bounded 30720 ws)
