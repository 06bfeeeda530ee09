use Rattle.rules.proofs.Law.{messages-are-whole}
use Rattle.rules.proofs.promise.messages_are_whole.Goals as goal

pub returns : goal.returns
returns c = messages-are-whole
