-- The worked cases, by computation.
use Rattle.std.proofs.Common.{refl}
use Rattle.bits.specs.Bits.{bit_at, bits_of}
use Rattle.mapping_laws.specs.Worked.{AllWorkedCases}

pub all-worked-cases : AllWorkedCases
unfolding bit_at bits_of
all-worked-cases m = record { zeros-first = refl; zeros-second = refl; ones-first = refl; ones-second = refl; written = refl }
