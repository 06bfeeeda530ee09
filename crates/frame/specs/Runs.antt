-- A machine over a list: `folded next s xs` is where it ends, and this what it gives out.
use Rattle.std.specs.Prelude.{List, [], ◌∷◌}

abbrev pub emitted : {S X Y : Type 0} → (S → X → S) → (S → X → Y) → S → List X → List Y
emitted next out s [] = []
emitted next out s (x ∷ xs) = out s x ∷ emitted next out (next s x) xs
