use Rattle.frame.proofs.InPlace.{Halfway}
use Rattle.frame.specs.Feeding.{fed_next, fed_octet}
use Rattle.frame.proofs.feed.feed.Given as goal

abbrev pub invariant-loop-octet : goal.invariant-loop-octet
invariant-loop-octet l =
    Halfway (fed_next l.addresses l.holds) (fed_octet l.holds) l.initial.progress l.initial.octets l.progress l.octets l.octet-index
