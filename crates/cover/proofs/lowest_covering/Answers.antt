use Rattle.std.proofs.Common.{Some, None, arith}
use Rattle.std.proofs.lemmas.Grind.{common_steps}
use Rattle.cover.proofs.Found.{law-at}
use Rattle.cover.proofs.lowest_covering.Goals as goal

pub returns-then-reaches-clause-lowest : goal.returns-then-reaches-clause-lowest
returns-then-reaches-clause-lowest g c = law-at g.E.Span.low g.E.Span.high c.args.place c.args.entries.now (Some c.loop-i.i) (grind (arith, common_steps))

pub returns-clause-lowest : goal.returns-clause-lowest
returns-clause-lowest g c = law-at g.E.Span.low g.E.Span.high c.args.place c.args.entries.now None (grind (arith, common_steps))
