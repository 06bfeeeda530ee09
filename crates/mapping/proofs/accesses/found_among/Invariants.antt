use Rattle.std.proofs.Common.{length}
use Rattle.mapping.proofs.Steps.{Reached}
use Rattle.mapping.proofs.accesses.found_among.Given as goal

abbrev pub invariant-loop-free : goal.invariant-loop-free
invariant-loop-free l = Reached l.entities l.direction l.address l.rest l.free l.found.items

abbrev pub decreases-loop-free : goal.decreases-loop-free
decreases-loop-free l = length l.rest
