use Rattle.mapping.proofs.Registers.{entities-read-back}
use Rattle.mapping.proofs.entity.entities_read_back.Goals as goal

pub returns : goal.returns
returns c = entities-read-back
