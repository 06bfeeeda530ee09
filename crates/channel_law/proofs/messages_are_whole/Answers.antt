use Rattle.channel_law.proofs.Whole.{law}
use Rattle.channel_law.proofs.messages_are_whole.Goals as goal

pub returns : goal.returns
returns c = law
