use Rattle.register_law.proofs.Places.{registers-read-back}
use Rattle.register_law.proofs.registers_read_back.Goals as goal

pub returns : goal.returns
returns c = registers-read-back
