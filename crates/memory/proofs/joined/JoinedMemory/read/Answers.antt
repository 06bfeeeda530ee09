use Rattle.std.proofs.Common.{length, ◌≤◌, refl, ◌∙◌, arith}
use Rattle.memory.specs.Cuts.{joined}
use Rattle.memory.proofs.Answers.{read_refused}
use Rattle.memory.proofs.Joins.{length_joined, read_first, read_second}
use Rattle.memory.proofs.joined.JoinedMemory.read.Goals as goal

pub returns-in_err-at : goal.returns-in_err-at
returns-in_err-at g c =
    let octets = joined (g.F.Memory.octets c.args.self.now.first) (g.S.Memory.octets c.args.self.now.second) in
    let past : length octets ≤ c.args.place = omega (arith, length_joined, c.in_err-at.ensures.1) in
    record {
      value = read_refused octets c.args.place past _ _ c.from_residual.ensures.1 c.in_err-at.ensures.0;
      same = refl;
    }

pub returns-in-First : goal.returns-in-First
returns-in-First g c =
    let lies = rw c.in-First.is at c.in_ok-at.ensures in
    record {
      value = c.read.ensures.value ∙ read_first _ _ _ _ lies.0 lies.1 lies.2;
      same = simp c.read.ensures.same;
    }

pub returns-in-Second : goal.returns-in-Second
returns-in-Second g c =
    let lies = rw c.in-Second.is at c.in_ok-at.ensures in
    record {
      value = c.read-in-Second.ensures.value ∙ read_second _ _ _ _ lies.0 lies.1 lies.2 lies.3;
      same = simp c.read-in-Second.ensures.same;
    }
