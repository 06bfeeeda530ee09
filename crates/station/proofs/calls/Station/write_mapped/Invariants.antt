use Rattle.std.proofs.Common.{◌≡◌, map, drop}
use Rattle.access.specs.declared.Direction.TheVariants.{Write}
use Rattle.rules.specs.Octets.{through_mapping}
use Rattle.rules.specs.Steps.{write_all}
use Rattle.station.specs.Replies.{writes_so}
use Rattle.station.proofs.calls.Station.write_mapped.Given as goal

-- what is left gives the answer of the whole
abbrev pub invariant-loop-access : goal.invariant-loop-access
invariant-loop-access g l =
    write_all (writes_so l.self.station l.so_far) l.octet (map (through_mapping Write) (drop l.access-index l.list))
    ≡ write_all (writes_so l.initial.self.station l.initial.so_far) l.octet (map (through_mapping Write) l.list)
