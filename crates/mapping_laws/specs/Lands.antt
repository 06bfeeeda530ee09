-- Where the accesses of a logical octet take its bits. Assumes nothing.
use Rattle.std.specs.Prelude.{◌≡◌, ℕ, ◌+◌, ◌*◌, ◌<◌, cond, List, [], ◌∷◌, Some, None, Option, slice_index_or}
use Rattle.access.specs.declared.Direction.{Direction}
use Rattle.bits.specs.Shares.{has, turn_in, physical_bit_of}
use Rattle.mapping.specs.declared.entity.Entity.{Entity}
use Rattle.mapping.specs.declared.mapped.Access.{Access}
use Rattle.mapping.specs.Registers.{no_entity}
use Rattle.mapping.specs.Mapping.{server, lands, mapped_accesses}

-- the physical bits to which the accesses take logical bit i
abbrev pub landings : ℕ → List Access → List ℕ
landings i [] = []
landings i (x ∷ xs) = cond (has x.share i) ((8 * x.address + physical_bit_of (turn_in x.share) i) ∷ landings i xs) (landings i xs)

-- the physical bit where the entity that serves a bit lands it
abbrev pub landed_by : List Entity → (b : ℕ) → Option ℕ → List ℕ
landed_by es b None = []
landed_by es b (Some n) = lands (slice_index_or es n no_entity) b ∷ []

-- THE LAW: the accesses take each served bit of the logical octet to one physical bit, where its entity lands it, and an unserved one nowhere
abbrev pub EachBitLandsOnce : Type 0
EachBitLandsOnce = (es : List Entity) (d : Direction) (a i : ℕ) → i < 8 → landings i (mapped_accesses es d a) ≡ landed_by es (8 * a + i) (server es d (8 * a + i))
