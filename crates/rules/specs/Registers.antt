-- The register map: what stands at each address below 0x1000, read and written octet by octet. Assumes nothing.
use Rattle.std.specs.Prelude.{ℕ, ◌-◌, ◌/◌, ◌%◌, Bool, true, false, cond, ◌&&◌, ◌||◌, List, replicate, ◌==◌, nat_le, nat_lt, slice_index_or, slice_set}
use Rattle.access.specs.Fields.{octet_at, with_octet}
use Rattle.mapping.specs.Registers.{no_entity, entity_octet, with_entity_octet}
use Rattle.channel.specs.Facts.{is_master}
use Rattle.channel.specs.Settings as setting
use Rattle.rules.specs.Data.{Setting, Registers, Register, Unlisted, Fixed, Address, Alias, OfEntity, OfChannel, Side, Master, Local}

-- what stands at an address
abbrev pub register_of : ℕ → Register
register_of a =
    cond (nat_lt a 0x000A) (Fixed a)
    (cond (nat_le 0x0010 a && nat_lt a 0x0012) (Address (a - 0x0010))
    (cond (nat_le 0x0012 a && nat_lt a 0x0014) (Alias (a - 0x0012))
    (cond (nat_le 0x0600 a && nat_lt a 0x0680) (OfEntity ((a - 0x0600) / 16) ((a - 0x0600) % 16))
    (cond (nat_le 0x0800 a && nat_lt a 0x0840) (OfChannel ((a - 0x0800) / 8) ((a - 0x0800) % 8)) Unlisted))))

abbrev pub listed : Register → Bool
listed Unlisted = false
listed (Fixed i) = true
listed (Address i) = true
listed (Alias i) = true
listed (OfEntity n i) = true
listed (OfChannel n i) = true

-- who writes it: the fixed octets nobody, the alias the local side, the rest the master
abbrev pub may_write : Side → Register → Bool
may_write s Unlisted = false
may_write s (Fixed i) = false
may_write s (Address i) = is_master s
may_write Master (Alias i) = false
may_write Local (Alias i) = true
may_write s (OfEntity n i) = is_master s
may_write s (OfChannel n i) = is_master s

abbrev pub no_setting : Setting
no_setting = record { start = 0; length = 0; control = 0; enable = false }

abbrev pub new_registers : Registers
new_registers = record { address = 0; entities = replicate 8 no_entity; settings = replicate 8 no_setting }

-- the fixed octets tell eight entities, eight channels and the memory's size in units of 1,024 octets
abbrev pub fixed_octet : (units i : ℕ) → ℕ
fixed_octet u i = cond (i == 4 || i == 5) 8 (cond (i == 6) u 0)

-- the octet at a place, of a memory of so many units; `status` is that of each channel
abbrev pub octet_of_register : (units : ℕ) → Registers → (alias : ℕ) → (status : ℕ → ℕ) → Register → ℕ
octet_of_register u r alias status Unlisted = 0
octet_of_register u r alias status (Fixed i) = fixed_octet u i
octet_of_register u r alias status (Address i) = octet_at 2 r.address i
octet_of_register u r alias status (Alias i) = octet_at 2 alias i
octet_of_register u r alias status (OfEntity n i) = entity_octet (slice_index_or r.entities n no_entity) i
octet_of_register u r alias status (OfChannel n i) = setting.octet_of (slice_index_or r.settings n no_setting) (status n) i

abbrev pub with_settings : Registers → List Setting → Registers
with_settings r ss = record { address = r.address; entities = r.entities; settings = ss }

-- the master's registers after a write
abbrev pub with_register : Registers → Register → ℕ → Registers
with_register r Unlisted v = r
with_register r (Fixed i) v = r
with_register r (Address i) v = record { address = with_octet 2 r.address i v; entities = r.entities; settings = r.settings }
with_register r (Alias i) v = r
with_register r (OfEntity n i) v =
    record { address = r.address; entities = slice_set r.entities n (with_entity_octet (slice_index_or r.entities n no_entity) i v); settings = r.settings }
with_register r (OfChannel n i) v = with_settings r (slice_set r.settings n (setting.with_octet_at (slice_index_or r.settings n no_setting) i v))

-- the alias after a write of the local side
abbrev pub with_alias : ℕ → Register → ℕ → ℕ
with_alias alias Unlisted v = alias
with_alias alias (Fixed i) v = alias
with_alias alias (Address i) v = alias
with_alias alias (Alias i) v = with_octet 2 alias i v
with_alias alias (OfEntity n i) v = alias
with_alias alias (OfChannel n i) v = alias
