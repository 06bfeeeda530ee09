-- The accesses of a logical octet on a memory, and what comes back. Assumes nothing.
use Rattle.std.specs.Prelude.{◌≡◌, ℕ, ◌+◌, ◌*◌, ◌/◌, ◌%◌, ◌<◌, true, false, cond, List, [], ◌∷◌, ◌==◌, ◌≢◌}
use Rattle.access.specs.declared.Direction.{Direction}
use Rattle.bits.specs.Bits.{bit_at}
use Rattle.bits.specs.Shares.{laid, stored}
use Rattle.mapping.specs.declared.entity.Entity.{Entity}
use Rattle.mapping.specs.declared.mapped.Access.{Access}
use Rattle.mapping.specs.Mapping.{lands, landed_from}
use Rattle.mapping_laws.specs.Serves.{CoversBit}

-- a memory tells the octet at each physical address; gathering lays what is fetched into the logical octet o, access after access
abbrev pub gathered : (ℕ → ℕ) → List Access → (o : ℕ) → ℕ
gathered m [] o = o
gathered m (x ∷ xs) o = gathered m xs (laid x.share o (m x.address))

-- the memory with one octet set
abbrev pub put : (ℕ → ℕ) → (p v : ℕ) → ℕ → ℕ
put m p v q = cond (q == p) v (m q)

-- scattering stores the logical octet o, access after access
abbrev pub scattered : (o : ℕ) → List Access → (ℕ → ℕ) → ℕ → ℕ
scattered o [] m = m
scattered o (x ∷ xs) m = scattered o xs (put m x.address (stored x.share (m x.address) o))

-- the accesses of the bits of mask b of logical octet a, through entity e: the octet o is scattered into memory m, and gathered again into another
pub record ComesBack (e : Entity) (a b o : ℕ) (m : ℕ → ℕ) : Type 0 where
  -- each bit of the mask stands where it lands
  pub sent : (i : ℕ) → i < 8 → bit_at b i ≡ true → bit_at (scattered o (landed_from e a b) m (lands e (8 * a + i) / 8)) (lands e (8 * a + i) % 8) ≡ bit_at o i
  -- every other bit of every physical octet is as it was
  pub kept : (q j : ℕ) → j < 8 → ((i : ℕ) → i < 8 → bit_at b i ≡ true → lands e (8 * a + i) ≢ 8 * q + j) → bit_at (scattered o (landed_from e a b) m q) j ≡ bit_at (m q) j
  -- gathered again, the bits of the mask are what was scattered
  pub back : (i new : ℕ) → i < 8 → bit_at b i ≡ true → bit_at (gathered (scattered o (landed_from e a b) m) (landed_from e a b) new) i ≡ bit_at o i
  -- and the others stay as they came
  pub beside : (i new : ℕ) → i < 8 → bit_at b i ≡ false → bit_at (gathered m (landed_from e a b) new) i ≡ bit_at new i

-- THE LAW: of bits that the entity covers
abbrev pub WrittenBitsComeBack : Type 0
WrittenBitsComeBack = (e : Entity) (d : Direction) (a b o : ℕ) (m : ℕ → ℕ) → ((i : ℕ) → i < 8 → bit_at b i ≡ true → CoversBit d (8 * a + i) e) → ComesBack e a b o m
