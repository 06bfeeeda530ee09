-- An entity worked by hand. Assumes nothing.
use Rattle.std.specs.Prelude.{◌≡◌, ℕ, true, List, ◌∷◌, replicate}
use Rattle.access.specs.declared.Direction.TheVariants.{Read, Write}
use Rattle.mapping.specs.declared.entity.Entity.{Entity}
use Rattle.mapping.specs.Registers.{no_entity}
use Rattle.mapping.specs.Mapping.{mapped_accesses}
use Rattle.mapping_laws.specs.Moves.{gathered, scattered, put}

-- logical 0x2000, length 2, bits 6 to 1, physical 0x1100 bit 2, of both directions, beside entities that are not used
abbrev pub worked_entities : List Entity
worked_entities =
    record { logical = 0x2000; length = 2; start_bit = 6; stop_bit = 1; physical = 0x1100; physical_bit = 2; reads = true; writes = true; active = true }
    ∷ replicate 7 no_entity

abbrev pub worked_read : (ℕ → ℕ) → (a o : ℕ) → ℕ
worked_read m a o = gathered m (mapped_accesses worked_entities Read a) o

abbrev pub worked_write : (a o : ℕ) → (ℕ → ℕ) → ℕ → ℕ
worked_write a o m = scattered o (mapped_accesses worked_entities Write a) m

-- whatever memory has 0x2C at 0x1100
pub record WorkedCases (m : ℕ → ℕ) : Type 0 where
  pub zeros-first : worked_read (put m 0x1100 0x2C) 0x2000 0x00 ≡ 0xC0
  pub zeros-second : worked_read (put m 0x1100 0x2C) 0x2001 0x00 ≡ 0x02
  pub ones-first : worked_read (put m 0x1100 0x2C) 0x2000 0xFF ≡ 0xFF
  pub ones-second : worked_read (put m 0x1100 0x2C) 0x2001 0xFF ≡ 0xFE
  pub written : worked_write 0x2001 0x01 (worked_write 0x2000 0x40 (put m 0x1100 0x2C)) 0x1100 ≡ 0x14

abbrev pub AllWorkedCases : Type 0
AllWorkedCases = (m : ℕ → ℕ) → WorkedCases m
