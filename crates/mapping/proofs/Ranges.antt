-- The ranges of eight entities, and the search among them.
use Rattle.std.proofs.Common.{◌≡◌, ℕ, ◌+◌, cond, List, [], ◌∷◌, map, Some, refl, ap}
use Rattle.access.specs.declared.Direction.{Direction}
use Rattle.std.specs.List.{position_from}
use Rattle.cover.specs.Lowest.{covers}
use Rattle.mapping.specs.declared.entity.Entity.{Entity}
use Rattle.mapping.specs.declared.serving.BitRange.{BitRange}
use Rattle.mapping.specs.Mapping.{bits_covered, server}

-- the logical bits that an entity covers in a direction
abbrev pub first_covered : Direction → Entity → ℕ
first_covered d e = (bits_covered d e).first

abbrev pub last_covered : Direction → Entity → ℕ
last_covered d e = (bits_covered d e).last

-- a search among the ranges is one among the entities
through : (d : Direction) (b n : ℕ) (es : List Entity) → position_from (covers {E = BitRange} (λ r. r.first) (λ r. r.last) b) n (map (bits_covered d) es) ≡ position_from (covers (first_covered d) (last_covered d) b) n es
through d b n [] = refl
through d b n (e ∷ es) = ap (λ z. cond (covers (first_covered d) (last_covered d) b e) (Some n) z) (through d b (n + 1) es)

pub server-is : (d : Direction) (b : ℕ) (es : List Entity) → server es d b ≡ position_from (covers (first_covered d) (last_covered d) b) 0 es
server-is d b es = through d b 0 es
