use Rattle.std.proofs.Common.{◌≡◌, drop}
use Rattle.memory.specs.Operations.{performed_all}
use Rattle.memory.proofs.operation.read_after.Given as goal

-- what is left gives the list of the whole
abbrev pub invariant-loop-operation : goal.invariant-loop-operation
invariant-loop-operation g l =
    let octets = g.M.Memory.octets in
    performed_all (octets l.memory) (drop l.operation-index l.operations) ≡ performed_all (octets l.initial.memory) l.operations
