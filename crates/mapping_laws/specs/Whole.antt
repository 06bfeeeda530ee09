-- A whole-octet access stands alone. Assumes nothing.
use Rattle.std.specs.Prelude.{◌≡◌, ℕ, true, ◌⊎◌, List, [], ◌∷◌}
use Rattle.access.specs.declared.Direction.{Direction}
use Rattle.bits.specs.declared.share.Share.TheVariants.{Whole}
use Rattle.bits.specs.Shares.{splits}
use Rattle.mapping.specs.declared.entity.Entity.{Entity}
use Rattle.mapping.specs.declared.mapped.Access.{Access}
use Rattle.mapping.specs.Mapping.{mapped_accesses}

abbrev pub AllParts : List Access → Type 0
AllParts [] = Unit {0}
AllParts (x ∷ xs) = (splits x.share ≡ true) × AllParts xs

-- one access, of a whole octet
abbrev pub Sole : List Access → Type 0
Sole xs = (x : Access) × (xs ≡ x ∷ []) × (x.share ≡ Whole)

-- THE LAW: the accesses of a logical octet in a direction are one of a whole octet, or all are of parts
abbrev pub SoleWhole : Type 0
SoleWhole = (es : List Entity) (d : Direction) (a : ℕ) → Sole (mapped_accesses es d a) ⊎ AllParts (mapped_accesses es d a)
