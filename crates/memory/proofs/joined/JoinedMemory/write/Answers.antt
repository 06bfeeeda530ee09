use Rattle.std.proofs.Common.{length, ◌≤◌, ◌∙◌, arith}
use Rattle.memory.specs.Cuts.{joined}
use Rattle.memory.proofs.Answers.{write_refused, refused_set}
use Rattle.memory.proofs.Joins.{length_joined, write_first, write_second, set_first, set_second}
use Rattle.memory.proofs.joined.JoinedMemory.write.Goals as goal

pub returns-in_err-at : goal.returns-in_err-at
returns-in_err-at g c =
    let octets = joined (g.F.Memory.octets c.args.self.now.first) (g.S.Memory.octets c.args.self.now.second) in
    let past : length octets ≤ c.args.place = omega (arith, length_joined, c.in_err-at.ensures.1) in
    record {
      value = write_refused octets c.args.place past _ _ c.from_residual.ensures.1 c.in_err-at.ensures.0;
      after = refused_set octets c.args.place past _;
    }

pub returns-in-First : goal.returns-in-First
returns-in-First g c =
    let lies = rw c.in-First.is at c.in_ok-at.ensures in
    record {
      value = c.write.ensures.value ∙ write_first _ _ _ _ lies.0 lies.1 lies.2;
      after = simp c.write.ensures.after (set_first _ _ _ _ lies.0 lies.1 lies.2 _);
    }

pub returns-in-Second : goal.returns-in-Second
returns-in-Second g c =
    let lies = rw c.in-Second.is at c.in_ok-at.ensures in
    record {
      value = c.write-in-Second.ensures.value ∙ write_second _ _ _ _ lies.0 lies.1 lies.2 lies.3;
      after = simp c.write-in-Second.ensures.after (set_second _ _ _ _ lies.0 lies.1 lies.2 lies.3 _);
    }
