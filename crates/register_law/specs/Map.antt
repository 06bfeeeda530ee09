-- The register map as a whole: what a write at an address makes of the octets at all addresses. Assumes nothing.
use Rattle.std.specs.Prelude.{◌≡◌, ℕ, ◌<◌, Bool, true, false, length, ◌≢◌, ◌==◌}
use Rattle.mapping.specs.Registers as entity
use Rattle.channel.specs.Settings as setting
use Rattle.access.specs.declared.Side.TheVariants.{Master, Local}
use Rattle.rules.specs.declared.data.Registers.{Registers}
use Rattle.rules.specs.declared.data.Register.{Register}
use Rattle.rules.specs.declared.data.Register.TheVariants.{Unlisted, Fixed, Address, Alias, OfEntity, OfChannel}
use Rattle.rules.specs.Registers.{register_of, may_write, octet_of_register, with_register, with_alias}

-- what of an octet that the master writes is kept
abbrev pub kept_of : Register → (octet : ℕ) → ℕ
kept_of Unlisted v = 0
kept_of (Fixed i) v = 0
kept_of (Address i) v = v
kept_of (Alias i) v = 0
kept_of (OfEntity n i) v = entity.kept i v
kept_of (OfChannel n i) v = setting.kept_bits i v

-- a channel's status is the service's to show
abbrev pub is_status : Register → Bool
is_status Unlisted = false
is_status (Fixed i) = false
is_status (Address i) = false
is_status (Alias i) = false
is_status (OfEntity n i) = false
is_status (OfChannel n i) = i == 5

pub record Eight (r : Registers) : Type 0 where
  pub entities : length r.entities ≡ 8
  pub settings : length r.settings ≡ 8

-- of a memory of so many units of 1,024 octets, and of these statuses of the channels
module _ (units : ℕ) (status : ℕ → ℕ) where
  -- the octet at an address
  abbrev pub octet_at_address : Registers → (alias address : ℕ) → ℕ
  octet_at_address r l a = octet_of_register units r l status (register_of a)

  -- the master writes: one octet, as far as its bits are kept, and no other
  pub record MasterWrites (r : Registers) (alias a v : ℕ) : Type 0 where
    pub same : may_write Master (register_of a) ≡ true → is_status (register_of a) ≡ false → octet_at_address (with_register r (register_of a) v) alias a ≡ kept_of (register_of a) v
    pub other : (b : ℕ) → b ≢ a → octet_at_address (with_register r (register_of a) v) alias b ≡ octet_at_address r alias b

  -- the local side writes the alias, and nothing else
  pub record LocalWrites (r : Registers) (alias a v : ℕ) : Type 0 where
    pub same : may_write Local (register_of a) ≡ true → octet_at_address r (with_alias alias (register_of a) v) a ≡ v
    pub other : (b : ℕ) → b ≢ a → octet_at_address r (with_alias alias (register_of a) v) b ≡ octet_at_address r alias b

-- THE LAW
abbrev pub RegistersReadBack : Type 0
RegistersReadBack =
    (units : ℕ) (status : ℕ → ℕ) (r : Registers) (alias a v : ℕ) → Eight r → v < 256 → MasterWrites units status r alias a v × LocalWrites units status r alias a v
