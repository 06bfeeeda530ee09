use Rattle.channel_law.proofs.Others.{enablings-fit}
use Rattle.channel_law.proofs.enablings_fit.Goals as goal

pub returns : goal.returns
returns c = enablings-fit
