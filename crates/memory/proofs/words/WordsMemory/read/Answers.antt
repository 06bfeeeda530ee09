use Rattle.std.proofs.Common.{refl, arith}
use Rattle.memory.proofs.Answers.{read_refused}
use Rattle.memory.proofs.Halves.{word_read}
use Rattle.memory.proofs.words.WordsMemory.read.Goals as goal

pub returns-in_err-within : goal.returns-in_err-within
returns-in_err-within c =
    record { value = read_refused _ c.args.place (omega (arith, c.in_err-within.ensures.1)) _ _ c.from_residual.ensures.1 c.in_err-within.ensures.0; same = refl }

pub returns : goal.returns
returns c = record { value = word_read 30720 c.args.self.now.cells.now c.args.place (omega (arith, c.in_ok-within.ensures)) _ c.half.ensures; same = refl }
