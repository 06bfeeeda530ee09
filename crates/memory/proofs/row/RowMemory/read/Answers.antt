use Rattle.std.proofs.Common.{refl, arith}
use Rattle.memory.proofs.Answers.{read_refused}
use Rattle.memory.proofs.Cuts.{counted_read}
use Rattle.memory.proofs.row.RowMemory.read.Goals as goal

pub returns-in_err-within : goal.returns-in_err-within
returns-in_err-within c =
    record { value = read_refused _ c.args.place (omega (arith, c.in_err-within.ensures.1)) _ _ c.from_residual.ensures.1 c.in_err-within.ensures.0; same = refl }

pub returns : goal.returns
returns c = record { value = counted_read 61440 c.args.self.now.cells.now c.args.place (omega (arith, c.in_ok-within.ensures)); same = refl }
