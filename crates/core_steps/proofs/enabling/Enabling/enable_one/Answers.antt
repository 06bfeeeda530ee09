use Rattle.core_steps.proofs.Judging.{judged_same}
use Rattle.core_steps.proofs.enabling.Enabling.enable_one.Goals as goal

pub returns-then-asks : goal.returns-then-asks
returns-then-asks c = rw (judged_same, ← c.if-asks.ensures, ← c.judged-judged.ensures) c.decide.ensures
