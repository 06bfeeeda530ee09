use Rattle.std.proofs.Common.{sym, arith}
use Rattle.memory.specs.Cuts.{counted}
use Rattle.memory.specs.Halves.{halves}
use Rattle.memory.proofs.Answers.{write-inside, write_refused, refused_set}
use Rattle.memory.proofs.Halves.{word_set}
use Rattle.memory.proofs.words.WordsMemory.write.Goals as goal

pub returns-in_err-within : goal.returns-in_err-within
returns-in_err-within c =
    record {
      value = write_refused _ c.args.place (omega (arith, c.in_err-within.ensures.1)) _ _ c.from_residual.ensures.1 c.in_err-within.ensures.0;
      after = refused_set (halves (counted 30720 c.args.self.now.cells.now)) c.args.place (omega (arith, c.in_err-within.ensures.1)) _;
    }

pub returns : goal.returns
returns c = record { value = sym (write-inside _ c.args.place (omega (arith, c.in_ok-within.ensures))); after = word_set 30720 c.args.self.now.cells.now c.args.place (omega (arith, c.in_ok-within.ensures)) _ _ c.ranges.octet.fits c.with_half.ensures }
