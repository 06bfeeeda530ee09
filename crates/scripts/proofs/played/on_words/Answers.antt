use Rattle.std.proofs.Common.{IfOk, List, ℕ, subst, ap, ◌∙◌}
use Rattle.memory.specs.Cuts.{counted}
use Rattle.memory.specs.Halves.{halves}
use Rattle.scripts.specs.Played.{PerformedOn}
use Rattle.scripts.proofs.Zeros.{cells, words_zeros}
use Rattle.scripts.proofs.played.on_words.Goals as goal

pub returns : goal.returns
returns c =
    let words = c.new.ensures ∙ (c.as_mut_slice.ensures.value ∙ (c.in_ok-cells.ensures.items_if_clones_equal (λ y h. h) ∙ ap cells c.few.ensures)) in
    subst (λ memory. IfOk c.perform_on.result (λ played. PerformedOn memory c.args.script played))
    (ap (λ (ws : List ℕ). halves (counted 30720 ws)) words ∙ words_zeros c.args.asked) c.perform_on.ensures
