use Rattle.std.proofs.Common.{get_or, rules, arith, sym, ◌∙◌}
use Rattle.access.proofs.Arrays.{all_of}
use Rattle.rules.specs.Steps.{out_of_service, dropped_channel}
use Rattle.core_steps.proofs.Lasting.{made_at}
use Rattle.core_steps.proofs.enabling.dropped_channels.Goals as goal

pub returns : goal.returns
returns c =
    all_of dropped_channel out_of_service out_of_service c.args.channels.now c.from_fn.result (c.from_fn.ensures.items.long ∙ sym c.told-channels)
    (λ k h. made_at _ (λ i. dropped_channel (get_or c.args.channels.now i out_of_service)) _ (λ i y q e. search rules) out_of_service c.from_fn.result _ c.from_fn.ensures.items k (omega arith))
