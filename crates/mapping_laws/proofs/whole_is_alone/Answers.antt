use Rattle.mapping_laws.proofs.Alone.{sole-whole}
use Rattle.mapping_laws.proofs.whole_is_alone.Goals as goal

pub returns : goal.returns
returns c = sole-whole
