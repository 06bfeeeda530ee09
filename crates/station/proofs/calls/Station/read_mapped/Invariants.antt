use Rattle.std.proofs.Common.{◌≡◌, map, drop}
use Rattle.access.specs.declared.Direction.TheVariants.{Read}
use Rattle.rules.specs.Octets.{through_mapping}
use Rattle.rules.specs.Steps.{read_all}
use Rattle.station.specs.Replies.{reads_so}
use Rattle.station.proofs.calls.Station.read_mapped.Given as goal

-- what is left gives the answer of the whole
abbrev pub invariant-loop-access : goal.invariant-loop-access
invariant-loop-access g l =
    read_all (reads_so l.self.station l.so_far) (map (through_mapping Read) (drop l.access-index l.list))
    ≡ read_all (reads_so l.initial.self.station l.initial.so_far) (map (through_mapping Read) l.list)
