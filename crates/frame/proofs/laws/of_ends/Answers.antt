use Rattle.frame.proofs.Whole.{first-octets-count, first-octets-leave, frame-is-kept, passing-is-kept, long-frame-is-dropped, cut-frame-is-dropped}
use Rattle.frame.proofs.laws.of_ends.Goals as goal

pub returns : goal.returns
returns g c = record { counted = first-octets-count; leaves = first-octets-leave; kept = frame-is-kept; passed = passing-is-kept; long = long-frame-is-dropped; cut = cut-frame-is-dropped }
