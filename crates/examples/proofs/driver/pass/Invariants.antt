use Rattle.station.specs.Replies.{SameFrame}
use Rattle.examples.specs.Driving.{given, out}
use Rattle.frame.proofs.InPlace.{Halfway}
use Rattle.examples.proofs.driver.pass.Given as given-here

abbrev pub invariant-loop-octet : given-here.invariant-loop-octet
invariant-loop-octet g l =
    Halfway (given l.frame.number) (out l.frame.number) l.initial.station.station l.initial.octets l.station.station l.octets l.octet-index
    × SameFrame l.initial.station.station l.station.station
