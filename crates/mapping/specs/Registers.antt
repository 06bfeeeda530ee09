-- The sixteen register octets of an entity. Assumes nothing.
use Rattle.std.specs.Prelude.{◌≡◌, ℕ, ◌+◌, ◌-◌, ◌*◌, ◌/◌, ◌%◌, ◌<◌, false, cond, ◌&&◌, ◌≢◌, ◌==◌, nat_le, nat_lt}
use Rattle.access.specs.Fields.{bit, octet_at, with_octet}
use Rattle.mapping.specs.declared.entity.Entity.{Entity}

abbrev pub no_entity : Entity
no_entity = record { logical = 0; length = 0; start_bit = 0; stop_bit = 0; physical = 0; physical_bit = 0; reads = false; writes = false; active = false }

-- the part that octet i belongs to: 0–3 logical start, 4–5 length, 6 start bit, 7 stop bit, 8–9 physical start, 10 physical bit, 11 type,
-- 12 active, and nothing
abbrev pub part_of : (i : ℕ) → (logical length start stop physical bit type active : ℕ) → ℕ
part_of i l n s t p b y a =
    cond (nat_lt i 4) l (cond (nat_lt i 6) n (cond (i == 6) s (cond (i == 7) t (cond (nat_lt i 10) p (cond (i == 10) b (cond (i == 11) y (cond (i == 12) a 0)))))))

abbrev pub entity_octet : Entity → ℕ → ℕ
entity_octet e i =
    part_of i (octet_at 4 e.logical i) (octet_at 2 e.length (i - 4)) (e.start_bit % 8) (e.stop_bit % 8) (octet_at 2 e.physical (i - 8)) (e.physical_bit % 8)
    (bit e.reads + 2 * bit e.writes) (bit e.active)

abbrev pub with_entity_octet : Entity → ℕ → ℕ → Entity
with_entity_octet e i v =
    record {
      logical = cond (nat_lt i 4) (with_octet 4 e.logical i v) e.logical;
      length = cond (nat_le 4 i && nat_lt i 6) (with_octet 2 e.length (i - 4) v) e.length;
      start_bit = cond (i == 6) (v % 8) e.start_bit;
      stop_bit = cond (i == 7) (v % 8) e.stop_bit;
      physical = cond (nat_le 8 i && nat_lt i 10) (with_octet 2 e.physical (i - 8) v) e.physical;
      physical_bit = cond (i == 10) (v % 8) e.physical_bit;
      reads = cond (i == 11) (v % 2 == 1) e.reads;
      writes = cond (i == 11) (v / 2 % 2 == 1) e.writes;
      active = cond (i == 12) (v % 2 == 1) e.active;
    }

-- what of an octet written is kept: three bits of a bit number, two of the type, one of active, nothing past them
abbrev pub kept : (i v : ℕ) → ℕ
kept i v = part_of i v v (v % 8) (v % 8) v (v % 8) (v % 4) (v % 2)

-- THE LAW of the registers
pub record ReadsBack (e : Entity) (i v : ℕ) : Type 0 where
  pub same : entity_octet (with_entity_octet e i v) i ≡ kept i v
  pub other : (j : ℕ) → j ≢ i → entity_octet (with_entity_octet e i v) j ≡ entity_octet e j

abbrev pub EntitiesReadBack : Type 0
EntitiesReadBack = (e : Entity) (i v : ℕ) → v < 256 → ReadsBack e i v
