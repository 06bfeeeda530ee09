-- The part that an access has in an octet, and what it moves. Assumes nothing.
use Rattle.std.specs.Prelude.{◌≡◌, ℕ, ◌+◌, ◌-◌, ◌%◌, ◌<◌, Bool, true, false, cond, ◌==◌}
use Rattle.bits.specs.declared.share.Share.{Share}
use Rattle.bits.specs.declared.share.Share.TheVariants.{Whole, Part}
use Rattle.bits.specs.Bits.{bit_at, octet_of}

-- all eight logical bits are the whole octet
abbrev pub share_of : (bits turn : ℕ) → Share
share_of bits turn = cond (bits == 255) Whole (Part bits turn)

-- physical bit j is logical bit logical_bit_of turn j
abbrev pub physical_bit_of : (turn i : ℕ) → ℕ
physical_bit_of turn i = (i + turn) % 8

abbrev pub logical_bit_of : (turn j : ℕ) → ℕ
logical_bit_of turn j = (j + 8 - turn % 8) % 8

-- what a fetched physical octet v gives to the logical octet o: the access's bits; the other bits of o stay
abbrev pub laid : Share → (o v : ℕ) → ℕ
laid Whole o v = v
laid (Part bits turn) o v = octet_of (λ i. cond (bit_at bits i) (bit_at v (physical_bit_of turn i)) (bit_at o i))

-- the physical octet, once the access's bits of the logical octet o are stored into it; its other bits stay
abbrev pub stored : Share → (old o : ℕ) → ℕ
stored Whole old o = o
stored (Part bits turn) old o = octet_of (λ j. cond (bit_at bits (logical_bit_of turn j)) (bit_at o (logical_bit_of turn j)) (bit_at old j))

-- the access has a part of its octet and not the whole
abbrev pub splits : Share → Bool
splits Whole = false
splits (Part bits turn) = true

-- logical bit i is among the access's bits
abbrev pub has : Share → ℕ → Bool
has Whole i = true
has (Part bits turn) i = bit_at bits i

abbrev pub turn_in : Share → ℕ
turn_in Whole = 0
turn_in (Part bits turn) = turn

-- THE LAW of a share. Bits that are stored and then fetched again come back, where they were sent, and no other bit of either octet moves.
pub record BitsComeBack (s : Share) : Type 0 where
  -- logical bit i, once stored, stands at its physical bit
  pub sent : (old o i : ℕ) → i < 8 → has s i ≡ true → bit_at (stored s old o) (physical_bit_of (turn_in s) i) ≡ bit_at o i
  -- a physical bit that stands for none of the logical bits is as it was
  pub kept : (old o j : ℕ) → j < 8 → has s (logical_bit_of (turn_in s) j) ≡ false → bit_at (stored s old o) j ≡ bit_at old j
  -- fetched again, the bits are what was stored
  pub back : (old o new i : ℕ) → i < 8 → has s i ≡ true → bit_at (laid s new (stored s old o)) i ≡ bit_at o i
  -- and beside them the logical octet is as it was
  pub beside : (v new i : ℕ) → i < 8 → has s i ≡ false → bit_at (laid s new v) i ≡ bit_at new i

abbrev pub AllBitsComeBack : Type 0
AllBitsComeBack = (s : Share) → BitsComeBack s
