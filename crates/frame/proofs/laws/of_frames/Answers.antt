use Rattle.frame.proofs.Whole.{padding-leaves, passing-leaves, frame-leaves, frame-ends, cut-frame-does-not-end}
use Rattle.frame.proofs.laws.of_frames.Goals as goal

pub returns : goal.returns
returns g c = record { padding = padding-leaves; passing = passing-leaves; leaves = frame-leaves; ends = frame-ends; cut = cut-frame-does-not-end }
