use Rattle.std.proofs.Common.{◌≡◌, drop}
use Rattle.rules.specs.Enabling.{enabled_from}
use Rattle.rules.specs.Steps.{out_of_service, window_in, begun_channel}
use Rattle.core_steps.specs.Enablings.{enabled_as}
use Rattle.core_steps.proofs.enabling.enable_all.Given as goal

-- what is left gives the answer of the whole
abbrev pub invariant-loop-index : goal.invariant-loop-index
invariant-loop-index l =
    enabled_from window_in begun_channel out_of_service l.size l.index (drop l.index l.settings) (enabled_as l.so_far) ≡ enabled_from window_in begun_channel out_of_service l.size 0 l.settings (enabled_as l.initial.so_far)
