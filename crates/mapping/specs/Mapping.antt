-- Which accesses one logical octet makes. Logical bit b is bit b % 8 of the logical octet b / 8, and physical bits count likewise. Assumes nothing.
use Rattle.std.specs.Prelude.{ℕ, ◌+◌, ◌-◌, ◌*◌, ◌/◌, ◌%◌, ◌^◌, Bool, false, cond, ◌&&◌, List, [], ◌∷◌, ◌++◌, map, Some, None, Option, ◌==◌, nat_lt}
use Rattle.access.specs.declared.Direction.{Direction}
use Rattle.access.specs.declared.Direction.TheVariants.{Read, Write}
use Rattle.std.specs.List.{position_from}
use Rattle.cover.specs.Lowest.{covers}
use Rattle.bits.specs.Bits.{bit_at, octet_of}
use Rattle.bits.specs.Shares.{share_of}
use Rattle.mapping.specs.declared.entity.Entity.{Entity}
use Rattle.mapping.specs.declared.serving.BitRange.{BitRange}
use Rattle.mapping.specs.declared.mapped.Access.{Access}

-- an entity covers from its start bit to the stop bit of its last octet, and nothing from 2^32 octets on
abbrev pub first_bit : Entity → ℕ
first_bit e = 8 * e.logical + e.start_bit % 8

abbrev pub stop_bit_of : Entity → ℕ
stop_bit_of e = 8 * (e.logical + e.length - 1) + e.stop_bit % 8

abbrev pub last_bit : Entity → ℕ
last_bit e = cond (nat_lt (stop_bit_of e) (2 ^ 35)) (stop_bit_of e) (2 ^ 35 - 1)

abbrev pub allows : Entity → Direction → Bool
allows e Read = e.reads
allows e Write = e.writes

abbrev pub works : Direction → Entity → Bool
works d e = e.active && (allows e d && nat_lt 0 e.length)

-- the logical bits of an active entity of the direction; none of any other, or if it ends before it begins
abbrev pub bits_covered : Direction → Entity → BitRange
bits_covered d e = cond (works d e) (record { first = first_bit e; last = last_bit e }) (record { first = 1; last = 0 })

-- the entity that serves a logical bit: the lowest active one of the direction that covers it
abbrev pub server : List Entity → Direction → ℕ → Option ℕ
server es d b = position_from (covers (λ r. r.first) (λ r. r.last) b) 0 (map (bits_covered d) es)

-- covered bit k lands k bits after the physical bit
abbrev pub lands : Entity → ℕ → ℕ
lands e b = 8 * e.physical + e.physical_bit % 8 + b - first_bit e

-- how far a logical bit's place in its octet is turned where it lands
abbrev pub turn_of : Entity → ℕ
turn_of e = (8 + e.physical_bit % 8 - e.start_bit % 8) % 8

abbrev pub is : ℕ → Option ℕ → Bool
is n None = false
is n (Some m) = n == m

-- of the bits of a mask, those that land in physical octet p
abbrev pub landing_in : Entity → (a bits p : ℕ) → ℕ
landing_in e a bits p = octet_of (λ i. bit_at bits i && lands e (8 * a + i) / 8 == p)

-- one access, if there are bits for it
abbrev pub access_for : (p bits turn : ℕ) → List Access
access_for p bits turn = cond (bits == 0) [] (record { address = p; share = share_of bits turn } ∷ [])

-- the accesses of the bits of a mask through an entity: they land in two neighbouring octets at most
abbrev pub landed_from : Entity → (a bits : ℕ) → List Access
landed_from e a bits =
    access_for (lands e (8 * a) / 8) (landing_in e a bits (lands e (8 * a) / 8)) (turn_of e)
    ++ access_for (lands e (8 * a) / 8 + 1) (landing_in e a bits (lands e (8 * a) / 8 + 1)) (turn_of e)

-- the bits of logical octet a that entity n serves
abbrev pub served_bits : List Entity → Direction → (a n : ℕ) → ℕ
served_bits es d a n = octet_of (λ i. is n (server es d (8 * a + i)))

-- the accesses of logical octet a, by entity, then by address
abbrev pub mapped_from : List Entity → Direction → (a n : ℕ) → List Entity → List Access
mapped_from es d a n [] = []
mapped_from es d a n (e ∷ rest) = landed_from e a (served_bits es d a n) ++ mapped_from es d a (n + 1) rest

abbrev pub mapped_accesses : List Entity → Direction → ℕ → List Access
mapped_accesses es d a = mapped_from es d a 0 es

-- the logical octets that an entity lies in
abbrev pub first_octet : Entity → ℕ
first_octet e = cond (e.length == 0) 1 e.logical

abbrev pub last_octet : Entity → ℕ
last_octet e = cond (e.length == 0) 0 (e.logical + e.length - 1)
