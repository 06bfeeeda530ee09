use Rattle.std.proofs.Common.{IfOk, subst, ap, ◌∙◌}
use Rattle.memory.specs.Cuts.{counted, joined}
use Rattle.memory.specs.Halves.{halves}
use Rattle.memory.specs.declared.row.Row.{Row}
use Rattle.memory.specs.declared.words.Words.{Words}
use Rattle.scripts.specs.Played.{PerformedOn}
use Rattle.scripts.proofs.Zeros.{cells, both_zeros}
use Rattle.scripts.proofs.played.on_both.Goals as goal

pub returns : goal.returns
returns c =
    let row =
    ap (λ (r : Row). r.cells.now) c.new.ensures.first
    ∙ (c.new-row.ensures ∙ (c.as_mut_slice.ensures.value ∙ (c.in_ok-row.ensures.items_if_clones_equal (λ y h. h) ∙ ap cells c.few.ensures))) in
    let words =
    ap (λ (w : Words). w.cells.now) c.new.ensures.second
    ∙ (c.new-cells.ensures ∙ (c.as_mut_slice-2.ensures.value ∙ (c.in_ok-cells.ensures.items_if_clones_equal (λ y h. h) ∙ ap cells c.few-2.ensures))) in
    subst (λ memory. IfOk c.perform_on.result (λ played. PerformedOn memory c.args.script played))
    ((λ i. joined (counted 61440 (row i)) (halves (counted 30720 (words i)))) ∙ both_zeros c.args.octets c.args.words) c.perform_on.ensures
