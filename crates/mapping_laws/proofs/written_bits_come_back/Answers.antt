use Rattle.mapping_laws.proofs.Through.{written-bits-come-back}
use Rattle.mapping_laws.proofs.written_bits_come_back.Goals as goal

pub returns : goal.returns
returns c = written-bits-come-back
