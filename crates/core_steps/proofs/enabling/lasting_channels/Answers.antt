use Rattle.std.proofs.Common.{get_or, rules, arith, sym, ◌∙◌}
use Rattle.rules.specs.Registers.{no_setting}
use Rattle.rules.specs.Steps.{out_of_service}
use Rattle.core_steps.specs.Enablings.{lasting_kept}
use Rattle.core_steps.proofs.Lasting.{all-lasting, made_at}
use Rattle.core_steps.proofs.enabling.lasting_channels.Goals as goal

pub returns : goal.returns
returns c =
    all-lasting c.args.settings.now c.args.channels.now c.from_fn.result no_setting out_of_service (omega arith) (c.from_fn.ensures.items.long ∙ sym c.told-channels)
    (λ k h. made_at _ (λ i. lasting_kept (get_or c.args.settings.now i no_setting) (get_or c.args.channels.now i out_of_service)) _ (λ i y q e. search rules) out_of_service c.from_fn.result _ c.from_fn.ensures.items k (omega arith))
