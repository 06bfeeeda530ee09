use Rattle.rules.proofs.Law.{messages-are-whole}
use Rattle.station.proofs.script.replayed.Goals as goal

pub returns-clause-promise : goal.returns-clause-promise
returns-clause-promise g c = rw (c.run.ensures.answers, c.new-station.ensures) (messages-are-whole _ _ _ (g.M.Memory.bounded _))
