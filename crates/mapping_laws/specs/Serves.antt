-- Which entity serves a logical bit, in the words of the rule. Assumes nothing.
use Rattle.std.specs.Prelude.{◌≡◌, ℕ, ◌^◌, ◌<◌, ◌≤◌, true, List, length, MatchOption}
use Rattle.std.specs.List.{HoldsAt, AllWithin}
use Rattle.access.specs.declared.Direction.{Direction}
use Rattle.mapping.specs.declared.entity.Entity.{Entity}
use Rattle.mapping.specs.Mapping.{first_bit, stop_bit_of, allows, server, lands}

-- an active entity of the direction covers the bit: it lies from the start bit to the stop bit of the last octet, below 2^32 octets
pub record CoversBit (d : Direction) (b : ℕ) (e : Entity) : Type 0 where
  pub active : e.active ≡ true
  pub allowed : allows e d ≡ true
  pub long : 0 < e.length
  pub begun : first_bit e ≤ b
  pub ended : b ≤ stop_bit_of e
  pub below : b < 2 ^ 35

-- entity n serves the bit: it covers it, and no lower one does
abbrev pub Serves : List Entity → Direction → ℕ → ℕ → Type 0
Serves es d b n = (n < length es) × HoldsAt (CoversBit d b) es n × AllWithin (λ e. CoversBit d b e → ⊥) es 0 n

-- THE LAW: `server` tells who serves the bit, none if none covers it; at most one serves it; and different bits of an entity land on different bits
pub record ServedByOne (es : List Entity) (d : Direction) : Type 0 where
  pub told : (b : ℕ) → MatchOption (server es d b) (AllWithin (λ e. CoversBit d b e → ⊥) es 0 (length es)) (λ n. Serves es d b n)
  pub one : (b n m : ℕ) → Serves es d b n → Serves es d b m → n ≡ m
  pub apart : (e : Entity) (b c : ℕ) → CoversBit d b e → CoversBit d c e → lands e b ≡ lands e c → b ≡ c

abbrev pub EveryBitServedByOne : Type 0
EveryBitServedByOne = (es : List Entity) (d : Direction) → ServedByOne es d
