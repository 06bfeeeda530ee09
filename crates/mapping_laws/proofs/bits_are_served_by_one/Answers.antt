use Rattle.mapping_laws.proofs.Lowest.{every-bit-served-by-one}
use Rattle.mapping_laws.proofs.bits_are_served_by_one.Goals as goal

pub returns : goal.returns
returns c = every-bit-served-by-one
