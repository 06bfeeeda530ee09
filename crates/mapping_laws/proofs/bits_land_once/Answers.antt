use Rattle.mapping_laws.proofs.Landings.{each-bit-lands-once}
use Rattle.mapping_laws.proofs.bits_land_once.Goals as goal

pub returns : goal.returns
returns c = each-bit-lands-once
