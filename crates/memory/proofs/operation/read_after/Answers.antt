use Rattle.std.proofs.Common.{sym, ap, ◌∙◌}
use Rattle.memory.specs.Octets.{read_of}
use Rattle.memory.proofs.Operations.{all_done, read-then}
use Rattle.memory.proofs.operation.read_after.Goals as goal

pub returns-clause-value : goal.returns-clause-value
returns-clause-value g c =
    let is = sym (all_done _ _ _ c.loop-operation-test.false) ∙ c.loop-operation.invariant in
    c.read.ensures.value ∙ ap (λ xs. read_of xs c.args.place) is ∙ read-then _ c.args.operations.now _
