use Rattle.std.proofs.Common.{IfOk, subst, ap, ◌∙◌}
use Rattle.memory.specs.Cuts.{counted}
use Rattle.scripts.specs.Played.{PerformedOn}
use Rattle.scripts.proofs.Zeros.{cells, octets_zeros}
use Rattle.scripts.proofs.played.on_octets.Goals as goal

pub returns : goal.returns
returns c =
    let row = c.new.ensures ∙ (c.as_mut_slice.ensures.value ∙ (c.in_ok-row.ensures.items_if_clones_equal (λ y h. h) ∙ ap cells c.few.ensures)) in
    subst (λ memory. IfOk c.perform_on.result (λ played. PerformedOn memory c.args.script played))
    (ap (counted 61440) row ∙ octets_zeros c.args.asked) c.perform_on.ensures
