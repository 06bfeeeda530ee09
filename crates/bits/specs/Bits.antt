-- Bits of a number, and a number from its bits; bit 0 is the lowest. Assumes nothing.
use Rattle.std.specs.Prelude.{ℕ, zero, suc, ◌+◌, ◌*◌, ◌/◌, ◌%◌, ◌^◌, Bool, cond, ◌==◌}

unfoldable pub bit_at : ℕ → ℕ → Bool
bit_at n i = n / 2 ^ i % 2 == 1

unfoldable pub bits_of : ℕ → (ℕ → Bool) → ℕ
bits_of zero p = 0
bits_of (suc n) p = bits_of n (λ i. p (suc i)) * 2 + cond (p 0) 1 0

-- the octet whose bit i is p i
abbrev pub octet_of : (ℕ → Bool) → ℕ
octet_of p = bits_of 8 p
