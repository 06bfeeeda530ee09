-- Register fields of several octets, the low octet first; w is how many octets a field has. Assumes nothing.
use Rattle.std.specs.Prelude.{◌≡◌, ℕ, zero, suc, Bool, true, false, ◌+◌, ◌*◌, ◌/◌, ◌%◌, ◌^◌, ◌<◌, ◌≢◌, List, [], ◌∷◌, slice_index, slice_set}

-- the octets of a field, and the field of some octets
abbrev pub octets_of : (w n : ℕ) → List ℕ
octets_of zero n = []
octets_of (suc w) n = n % 256 ∷ octets_of w (n / 256)

abbrev pub field_of : List ℕ → ℕ
field_of [] = 0
field_of (x ∷ xs) = x + 256 * field_of xs

-- a flag as a bit of its octet
abbrev pub bit : Bool → ℕ
bit true = 1
bit false = 0

-- octet i of a field, 0 past its last octet
abbrev pub octet_at : (w n i : ℕ) → ℕ
octet_at w n i = slice_index (octets_of w n) i

-- the field with octet i replaced, itself past its last octet
abbrev pub with_octet : (w n i v : ℕ) → ℕ
with_octet w n i v = field_of (slice_set (octets_of w n) i v)

-- THE LAW of a field, over any number of octets: what is written to an octet is read back from it, every other octet stays, and the field fits.
pub record ReadsBack (w n i v : ℕ) : Type 0 where
  pub same : i < w → octet_at w (with_octet w n i v) i ≡ v
  pub other : (j : ℕ) → j ≢ i → octet_at w (with_octet w n i v) j ≡ octet_at w n j
  pub fits : with_octet w n i v < 256 ^ w

abbrev pub FieldsReadBack : Type 0
FieldsReadBack = (w n i v : ℕ) → v < 256 → ReadsBack w n i v
