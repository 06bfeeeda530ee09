-- The octet of a register, told from the memory's size; today it is told from the size divided by 1,024. Assumes nothing.
use Rattle.std.specs.Prelude.{◌≡◌, ℕ, ◌/◌, cond, ◌||◌, ◌==◌, slice_index_or}
use Rattle.access.specs.Fields.{octet_at}
use Rattle.mapping.specs.Registers.{no_entity, entity_octet}
use Rattle.channel.specs.Settings as setting
use Rattle.rules.specs.declared.data.Registers.{Registers}
use Rattle.rules.specs.declared.data.Register.{Register}
use Rattle.rules.specs.declared.data.Register.TheVariants.{Unlisted, Fixed, Address, Alias, OfEntity, OfChannel}
use Rattle.rules.specs.Registers.{no_setting}
use Rattle.rules.specs.Registers as today

-- the fixed octets tell eight entities, eight channels and the memory's size in units of 1,024 octets
abbrev pub fixed_octet : (size i : ℕ) → ℕ
fixed_octet N i = cond (i == 4 || i == 5) 8 (cond (i == 6) (N / 1024) 0)

abbrev pub octet_of_register : (size : ℕ) → Registers → (alias : ℕ) → (status : ℕ → ℕ) → Register → ℕ
octet_of_register N r alias status Unlisted = 0
octet_of_register N r alias status (Fixed i) = fixed_octet N i
octet_of_register N r alias status (Address i) = octet_at 2 r.address i
octet_of_register N r alias status (Alias i) = octet_at 2 alias i
octet_of_register N r alias status (OfEntity n i) = entity_octet (slice_index_or r.entities n no_entity) i
octet_of_register N r alias status (OfChannel n i) = setting.octet_of (slice_index_or r.settings n no_setting) (status n) i

abbrev pub OctetsAgree : Type 0
OctetsAgree =
    (N : ℕ) (r : Registers) (alias : ℕ) (status : ℕ → ℕ) (p : Register) → today.octet_of_register (N / 1024) r alias status p ≡ octet_of_register N r alias status p
