use Rattle.std.proofs.Common.{◌≡◌, drop}
use Rattle.std.specs.List.{position_from}
use Rattle.cover.specs.Lowest.{covers}
use Rattle.cover.proofs.lowest_covering.Given as goal

-- what is left gives the answer of the whole
abbrev pub invariant-loop-i : goal.invariant-loop-i
invariant-loop-i g l =
    let s = g.E.Span in
    position_from (covers s.low s.high l.place) l.i (drop l.i l.entries) ≡ position_from (covers s.low s.high l.place) 0 l.entries
