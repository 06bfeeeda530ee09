-- A list of which only the first elements count. Assumes nothing.
use Rattle.std.specs.Prelude.{ℕ, ◌≤◌, List, ◌++◌, length, take}
use Rattle.std.proofs.Common.{arith, length-take}

-- the first n elements, or all if there are fewer
abbrev pub counted : ℕ → List ℕ → List ℕ
counted n xs = take n xs

pub counted-bounded : (n : ℕ) (xs : List ℕ) → length (counted n xs) ≤ n
counted-bounded n xs = simp length-take (omega arith)

-- the second list following the first, no more than 61,440 octets of both
abbrev pub joined : List ℕ → List ℕ → List ℕ
joined xs ys = counted 61440 (xs ++ ys)

pub joined-bounded : (xs ys : List ℕ) → length (joined xs ys) ≤ 61440
joined-bounded xs ys = counted-bounded 61440 (xs ++ ys)
